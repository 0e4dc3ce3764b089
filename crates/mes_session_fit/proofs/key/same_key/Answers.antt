use Rattle.std.proofs.lemmas.Bool.Decides.{same_from_decides}
use Rattle.mes_session_fit.specs.Keys.{key_of}
use Rattle.mes_session_fit.proofs.KeyLemmas.{keys_agree-Decides}
use Rattle.mes_session_fit.proofs.key.same_key.Goals as goal

pub returns : goal.returns
returns c = same_from_decides _ _ c.is_same_key.ensures (keys_agree-Decides (key_of c.args.resource.now) (key_of c.args.other.now))
