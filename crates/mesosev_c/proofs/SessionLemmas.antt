-- A text or a reason, as it is reported to C.
use Rattle.std.proofs.Common.{ℕ, List, Result, Ok, Err, inl, inr}
use Rattle.std.specs.Prelude.{IfOk, IfErr, OnErr}
use Rattle.std.specs.Global.{Vec}
use Rattle.mesosev_session.specs.declared.text_refusal.TextRefusal.{TextRefusal}
use Rattle.mesosev_c.specs.SessionExports.{AnswersText}
use Rattle.mesosev_c.specs.SessionResults.{PutsAnswer}

module _ (Is : List ℕ → Type 0) (Not : TextRefusal → Type 0) (entries used size : ℕ) (before room : List ℕ) (status : ℕ) where
  pub answers_text : (answer : Result (Vec ℕ) TextRefusal) → IfOk answer (λ text. Is text.items) → IfErr answer Not → PutsAnswer answer entries used size before room status → AnswersText Is Not entries used size before room status
  answers_text (Ok text) is not puts = inl (text.items, is, puts.0, puts.1)
  answers_text (Err why) is not puts = inr (why, not, puts)

  -- the same, if `Same` holds for each reason
  pub answers_same : {Same : Type 0} (answer : Result (Vec ℕ) TextRefusal) → IfOk answer (λ text. Is text.items) → IfErr answer Not → OnErr answer Same → PutsAnswer answer entries used size before room status
      → AnswersText Is (λ why. Not why × Same) entries used size before room status
  answers_same (Ok text) is not same puts = inl (text.items, is, puts.0, puts.1)
  answers_same (Err why) is not same puts = inr (why, (not, same), puts)
