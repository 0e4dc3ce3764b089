use Rattle.std.proofs.Common.{rules, arith, length-set}
use Rattle.std.proofs.lemmas.Fmt.{length-decimal-le}
use Rattle.mes_frame.proofs.SizeLines.{record_line_is}
use Rattle.mes_frame.proofs.size_line.record_line.Goals as goal

pub write_digits-start-requires : goal.write_digits-start-requires
write_digits-start-requires c = search (rules, length-decimal-le 20)

pub returns : goal.returns
returns c =
    let len = length-set c.args.buffer.now 20 10 in
    record_line_is _ _ c.args.buffer.now c.write_digits-start.new.buf c.told-buffer (omega arith) c.write_digits-start.ensures.written
