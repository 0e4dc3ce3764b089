use Rattle.std.proofs.Common.{List, subst}
use Rattle.std.specs.Prelude.{Result}
use Rattle.mes_model_schema.specs.Parts.{Gives}
use Rattle.mes_model_schema.specs.Paths.{Place}
use Rattle.mes_msg.specs.Calls.{call}
use Rattle.mes_stream.proofs.message.CallStreamMessage.read_root.Goals as goal

pub returns : goal.returns
returns c = λ t begins. subst (λ (path : List Place). Gives (call.read path t) c.read_from.result) c.new.ensures (c.read_from.ensures t begins)
