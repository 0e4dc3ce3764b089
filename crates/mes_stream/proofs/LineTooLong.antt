-- Where a part of a line passes the limit.
use Rattle.std.proofs.Common.{◌≡◌, ◌≢◌, ℕ, ◌+◌, ◌<◌, ◌≤◌, List, [], ◌∷◌, ◌++◌, length, take, drop, take_all, zero, suc, sym, ◌∙◌, ap, append_assoc, arith, subst, inl, inr, length-append, length-take-le, take-append-drop}
use Rattle.std.specs.Prelude.{slice_index}
use Rattle.std.proofs.lemmas.Bool.{cases_lt}
use Rattle.mes_stream.specs.LineRecord.{IsLine, IsRecordOf, LineBegun, LineTooLong}
use Rattle.mes_stream.proofs.BodyLemmas.{one_more}
use Rattle.mes_stream.proofs.LineRecords.{back_line, front_line}

not_lf : (line : List ℕ) (k : ℕ) → IsLine line → k < length line → slice_index line k ≢ 10
not_lf [] k is inside = absurd (omega arith)
not_lf (c ∷ line) zero is inside = is.0
not_lf (c ∷ line) (suc k) is inside = not_lf line k is.1 (omega arith)

module _ (x line : List ℕ) (room limit : ℕ) (full : length x + room ≡ limit) (is : IsLine (x ++ line)) (inside : room < length line) where
  front_is : (n : ℕ) → IsLine (x ++ take n line)
  front_is n =
      front_line (x ++ take n line) (drop n line) (subst (λ (y : List ℕ). IsLine y) (ap (λ (y : List ℕ). x ++ y) (sym (take-append-drop n line)) ∙ sym (append_assoc x (take n line) (drop n line))) is)

  at_room : length (x ++ take room line) ≡ limit
  at_room = let sum = length-append x (take room line) in let size = length-take-le room line (omega (arith, inside)) in omega (arith, full, sum, size)

  -- up to the limit
  pub begun_before : (n : ℕ) → n ≤ room → LineBegun (x ++ take n line) limit
  begun_before n le =
      let sum = length-append x (take n line) in let size = length-take-le n line (omega (arith, le, inside)) in
      record { is = front_is n; within = inl (omega (arith, le, full, sum, size)) }

  -- the byte after the limit is not CR
  pub passes_at : slice_index line room ≢ 13 → LineTooLong (x ++ take room line) (slice_index line room) limit
  passes_at not = record { is = front_is room; next = not_lf line room (back_line x line is) inside; passes = inl (at_room, not) }

  -- the byte after the limit is CR
  with_cr : slice_index line room ≡ 13 → x ++ take (room + 1) line ≡ (x ++ take room line) ++ 13 ∷ []
  with_cr cr = one_more x line room inside ∙ ap (λ (c : ℕ). (x ++ take room line) ++ c ∷ []) cr

  pub begun_cr : slice_index line room ≡ 13 → (n : ℕ) → n ≤ room + 1 → LineBegun (x ++ take n line) limit
  begun_cr cr n le = elim (cases_lt room n) [
    | inl more ↦
        let last : room + 1 ≡ n = omega (arith, more, le) in
        subst (λ (m : ℕ). LineBegun (x ++ take m line) limit) last (record { is = front_is (room + 1); within = inr (x ++ take room line, with_cr cr, let size = at_room in omega (arith, size)) })
    | inr within ↦ begun_before n within
  ]

  pub passes_after : slice_index line room ≡ 13 → room + 1 < length line → LineTooLong (x ++ take (room + 1) line) (slice_index line (room + 1)) limit
  passes_after cr next = record { is = front_is (room + 1); next = not_lf line (room + 1) (back_line x line is) next; passes = inr (x ++ take room line, with_cr cr, at_room) }

-- the record is longer than `room`
pub room_inside : (line : List ℕ) (room : ℕ) (r : List ℕ) → IsRecordOf line r → room < length r → room < length line
room_inside line room r (inl is) more = let len = ap length is in let sum = length-append r (13 ∷ []) in omega (arith, more, len, sum)
room_inside line room r (inr (is, none)) more = let len = ap length is in omega (arith, more, len)

-- a CR at the index `room` is not the last byte of the line
pub cr_inside : (line : List ℕ) (room : ℕ) (r : List ℕ) → IsRecordOf line r → room < length r → slice_index line room ≡ 13 → room + 1 < length line
cr_inside line room r (inl is) more cr = let len = ap length is in let sum = length-append r (13 ∷ []) in omega (arith, more, len, sum)
cr_inside line room r (inr (is, none)) more cr = elim (cases_lt (room + 1) (length line)) [
  | inl inside ↦ inside
  | inr last ↦
      let len = ap length is in
      let all : take (room + 1) line ≡ line = take_all (room + 1) line (omega (arith, last)) in
      absurd (none (take room line) (sym all ∙ one_more [] line room (omega (arith, more, len)) ∙ ap (λ (c : ℕ). take room line ++ c ∷ []) cr))
]
