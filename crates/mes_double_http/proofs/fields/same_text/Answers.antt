use Rattle.std.proofs.lemmas.Slice.Eq.{bytes_eq-Decides}
use Rattle.uuid.proofs.TextLemmas.{same_test}
use Rattle.mes_double_http.proofs.fields.same_text.Goals as goal

pub returns : goal.returns
returns c = same_test _ _ _ c.eq_ignore_ascii_case.ensures.test (bytes_eq-Decides _ _)
