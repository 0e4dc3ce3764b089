-- The records of a text, and the event that has no record.
use Rattle.std.proofs.Common.{◌≡◌, ℕ, List, [], ◌∷◌, ◌++◌, length, Result, Ok, Err, ap, arith, inr, subst, length-append}
use Rattle.std.specs.Prelude.{IfErr, IfOk}
use Rattle.std.specs.Global.{Vec}
use Rattle.mes_model_schema.specs.Kinds.{Kind}
use Rattle.mes_msg.specs.Texts.{IsTextOf}
use Rattle.mes_msg.specs.declared.entry.Entry.{Entry}
use Rattle.mes_msg.specs.declared.send_fault.EncodeFaultKind.{EncodeFaultKind}
use Rattle.mes_stream.specs.Sending.{IsBad, IsFirstBad}
use Rattle.mesosev_session.specs.Records.{HasNoRecord, HasNoRecordOfText, IsRecordOfEntry, IsRecordOfText}
use Rattle.mesosev_session.specs.declared.text_refusal.TextRefusal.{TextRefusal}

only_one : {M : Type 0} (e message : M) (front rest : List M) → e ∷ [] ≡ front ++ message ∷ rest → message ≡ e
only_one e message [] rest same = cc
only_one e message (x ∷ front) rest same = let size = ap length same in let sum = length-append front (message ∷ rest) in absurd (omega (arith, size, sum))

pub only_bad : {M : Type 0} (kind : Kind M) (limit : ℕ) (e : M) (index : ℕ) (why : EncodeFaultKind) → IsFirstBad kind limit (e ∷ []) index why → IsBad kind limit e why
only_bad {M = M} kind limit e index why h = subst (λ (m : M). IsBad kind limit m why) (only_one e h.message h.front h.rest h.is) h.bad

module _ {M : Type 0} (kind : Kind M) (entry : M → Entry) (w : List ℕ) (m : M) (most : ℕ) (is : IsTextOf kind w m) where
  pub record_ok : (result : Result (Vec ℕ) TextRefusal) → IfOk result (λ bytes. IsRecordOfEntry (entry m) most bytes.items) → IfOk result (λ bytes. IsRecordOfText kind entry w most bytes.items)
  record_ok (Ok bytes) h = (m, is, h)
  record_ok (Err why) h = tt

  pub record_err : (result : Result (Vec ℕ) TextRefusal) → IfErr result (HasNoRecord (entry m) most) → IfErr result (HasNoRecordOfText kind entry w most)
  record_err (Ok bytes) h = tt
  record_err (Err why) h = inr (m, is, h)
