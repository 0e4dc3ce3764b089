use Rattle.std.proofs.Common.{length, ap, arith}
use Rattle.mes_msg.specs.Texts.{canonical_of}
use Rattle.mes_frame.proofs.Framings.{written_is_record}
use Rattle.mes_stream.proofs.encode.put_message.Goals as goal

pub returns-clause-read : goal.returns-clause-read
returns-clause-read g c =
    let is = ap length c.in_ok-canonical_into.ensures.text in
    written_is_record (canonical_of g.M.Part.kind c.args.message.now) c.args.limit (omega arith) c.in_ok-canonical_into.ensures.fits.1
