use Rattle.std.proofs.lemmas.Bool.Decides.{same_from_decides}
use Rattle.std.proofs.lemmas.Slice.Eq.{bytes_eq-Decides}
use Rattle.mes_session_fit.proofs.key.same_text.Goals as goal

pub returns : goal.returns
returns c = same_from_decides _ _ c.is_same_text.ensures (bytes_eq-Decides c.args.text.now c.args.other.now)
