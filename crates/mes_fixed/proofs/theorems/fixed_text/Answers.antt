use Rattle.std.proofs.Common.{List, ℕ, sym, subst}
use Rattle.mes_fixed.specs.FixedText.{WritesUnits}
use Rattle.mes_fixed.proofs.FixedTexts.{text_writes, writes_only}
use Rattle.mes_fixed.proofs.theorems.fixed_text.Goals as goal

pub returns : goal.returns
returns c = λ places units low high le text. (
  (λ e. subst (λ (x : List ℕ). WritesUnits places units x) (sym e) (text_writes places units low high le)),
  writes_only places units text le,
)
