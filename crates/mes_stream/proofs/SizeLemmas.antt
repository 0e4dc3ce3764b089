-- Lemmas about the bytes of a size line, consumed one by one.
use Rattle.std.proofs.Common.{◌≡◌, ℕ, ◌+◌, ◌<◌, ◌≤◌, List, [], ◌∷◌, ◌++◌, length, take, drop, get_or, zero, suc, sym, ◌∙◌, ap, subst, append-nil, append_assoc, arith, ◌⊎◌, inl, inr}
use Rattle.std.proofs.lemmas.Bool.Decides.{eqb_tells}
use Rattle.std.proofs.lemmas.List.{take_more}
use Rattle.mes_frame.proofs.Records.{begun_of}
use Rattle.mes_frame.specs.Record.{Begun}
use Rattle.mes_frame.specs.RecordState.{RecordStands, limit_of}
use Rattle.mes_frame.specs.declared.record.RecordState.{RecordState}

-- `count` bytes of `run` were consumed after x, and the record continues after each of these bytes
abbrev pub PassesSize : RecordState → List ℕ → List ℕ → List ℕ → ℕ → Type 0
PassesSize new x r run count = RecordStands new (x ++ take count run) r × ((n : ℕ) → n ≤ count → Begun (x ++ take n run) r (limit_of new))

cases_le : (m n : ℕ) → m ≤ n + 1 → (m ≤ n) ⊎ (n + 1 ≡ m)
cases_le m n h = elim (eqb_tells m (n + 1)) [ inl e ↦ inr (sym e.1) | inr e ↦ inl (omega (arith, e.1)) ]

pub size_first : (s : RecordState) (x r run : List ℕ) → RecordStands s x r → PassesSize s x r run 0
size_first s x r run represents = (
  rw (append-nil x) represents,
  λ n none.
      let zero : 0 ≡ n = omega (arith, none) in
      subst (λ (m : ℕ). Begun (x ++ take m run) r (limit_of s)) zero (rw (append-nil x) (begun_of s x r represents)),
)

pub size_next : (old new : RecordState) (x r run : List ℕ) (count : ℕ) → count < length run → limit_of new ≡ limit_of old
    → RecordStands new ((x ++ take count run) ++ get_or run count 0 ∷ []) r → PassesSize old x r run count → PassesSize new x r run (count + 1)
size_next old new x r run count inside limit represents (before, begun) =
    let on : RecordStands new (x ++ take (count + 1) run) r =
    subst (λ (y : List ℕ). RecordStands new y r) (append_assoc x (take count run) (get_or run count 0 ∷ [])
    ∙ ap (λ (y : List ℕ). x ++ y) (sym (take_more run count 0 inside))) represents in (
      on,
      λ n within.
          elim (cases_le n count within) [
            | inl le ↦ rw limit (begun n le)
            | inr e ↦ subst (λ (m : ℕ). Begun (x ++ take m run) r (limit_of new)) e (begun_of new (x ++ take (count + 1) run) r on)
          ],
    )

-- `PassesSize` for a run of bytes, from its first byte and `PassesSize` for the rest
pub size_line : (new : RecordState) (x r run : List ℕ) (count : ℕ) → 0 < length run → Begun x r (limit_of new)
    → PassesSize new (x ++ get_or run 0 0 ∷ []) r (drop 1 run) count
    → RecordStands new (x ++ take (1 + count) run) r × ((n : ℕ) → n < 1 + count → Begun (x ++ take n run) r (limit_of new))
size_line new x r [] count some first passes = absurd (omega (arith, some))
size_line new x r (b ∷ run) count some first (represents, begun) = (
  let next : suc count ≡ 1 + count = omega arith in
      subst (λ (n : ℕ). RecordStands new (x ++ take n (b ∷ run)) r) next (subst (λ (y : List ℕ). RecordStands new y r) (append_assoc x (b ∷ []) (take count run)) represents),
  λ n within. each n within,
) where
  each : (n : ℕ) → n < 1 + count → Begun (x ++ take n (b ∷ run)) r (limit_of new)
  each zero within = rw (append-nil x) first
  each (suc n) within = subst (λ (y : List ℕ). Begun y r (limit_of new)) (append_assoc x (b ∷ []) (take n run)) (begun n (omega (arith, within)))
