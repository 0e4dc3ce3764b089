use Rattle.std.proofs.Common.{Ok}
use Rattle.mesosev_c.proofs.exports.mes_c_decoder_new.Goals as goal

pub returns-in-Ok : goal.returns-in-Ok
returns-in-Ok c = (Ok c.in-Ok.asked, rw c.in-Ok.is at c.parse_options.ensures, (c.new-decoder.result, record { represents = c.new-decoder.ensures.represents; makes = c.new-decoder.ensures.texts }, c.place_in.ensures))
