-- Lemmas about one line: where it ends, its record, and whether it is too long.
use Rattle.std.proofs.Common.{◌≡◌, ◌≢◌, ℕ, ◌+◌, ◌<◌, ◌≤◌, ◌⊎◌, inl, inr, List, [], ◌∷◌, ◌++◌, length, refl, ap, sym, ◌∙◌, subst, append_assoc, arith, length-append}
use Rattle.std.proofs.lemmas.Bool.{cases_eq, cases_lt}
use Rattle.std.proofs.lemmas.List.{append_cancel_right, nil_from_length}
use Rattle.mes_stream.specs.LineRecord.{IsLine, HasNoCr, IsRecordOf, LineBegun, PassesLimit, LineTooLong}
use Rattle.mes_stream.proofs.PlainLaw.{same_last}

-- the bytes up to a LF are a line in one way
pub one_line : (x y s t : List ℕ) → IsLine x → IsLine y → x ++ 10 ∷ s ≡ y ++ 10 ∷ t → (x ≡ y) × (s ≡ t)
one_line [] [] s t h g same = (refl, let tails : s ≡ t = cc in tails)
one_line [] (d ∷ y) s t h g same = let head : 10 ≡ d = cc in absurd (g.0 (sym head))
one_line (c ∷ x) [] s t h g same = let head : c ≡ 10 = cc in absurd (h.0 head)
one_line (c ∷ x) (d ∷ y) s t h g same =
    let head : c ≡ d = cc in
    let tails : x ++ 10 ∷ s ≡ y ++ 10 ∷ t = cc in
    let on = one_line x y s t h.1 g.1 tails in
    let front : x ≡ y = on.0 in
    (cc, on.1)

-- a line has no LF
pub no_lf : (x s : List ℕ) → IsLine (x ++ 10 ∷ s) → ⊥
no_lf [] s h = h.0 refl
no_lf (c ∷ x) s h = no_lf x s h.1

-- the front of a line is a line
pub front_line : (x s : List ℕ) → IsLine (x ++ s) → IsLine x
front_line [] s h = tt
front_line (c ∷ x) s h = (h.0, front_line x s h.1)

-- the bytes y after x are a part of a line
pub back_line : (x y : List ℕ) → IsLine (x ++ y) → IsLine y
back_line [] y is = is
back_line (c ∷ x) y is = back_line x y is.1

pub line_more : (x s : List ℕ) → IsLine x → IsLine s → IsLine (x ++ s)
line_more [] s h g = g
line_more (c ∷ x) s h g = (h.0, line_more x s h.1 g)

-- bytes before a line's LF belong to the line, if none of them is LF
pub line_on : (x line rest s : List ℕ) (c : ℕ) → IsLine x → c ≢ 10 → IsLine line → x ++ c ∷ rest ≡ line ++ 10 ∷ s → (y : List ℕ) × (line ≡ x ++ c ∷ y)
line_on [] [] rest s c h next g same = let head : c ≡ 10 = cc in absurd (next head)
line_on [] (d ∷ line) rest s c h next g same = let head : c ≡ d = cc in (line, cc)
line_on (b ∷ x) [] rest s c h next g same = let head : b ≡ 10 = cc in absurd (h.0 head)
line_on (b ∷ x) (d ∷ line) rest s c h next g same =
    let head : b ≡ d = cc in
    let tails : x ++ c ∷ rest ≡ line ++ 10 ∷ s = cc in
    let on = line_on x line rest s c h.1 next g.1 tails in
    let is : line ≡ x ++ c ∷ on.0 = on.1 in
    (on.0, cc)

-- a line has one record
pub one_record : (line r q : List ℕ) → IsRecordOf line r → IsRecordOf line q → r ≡ q
one_record line r q (inl is) (inl at) = append_cancel_right r q (13 ∷ []) (sym is ∙ at)
one_record line r q (inl is) (inr (at, none)) = absurd (none r is)
one_record line r q (inr (is, none)) (inl at) = absurd (none q at)
one_record line r q (inr (is, none)) (inr (at, not)) = sym is ∙ at

-- the lengths of a line and of its record
pub record_length : (line r : List ℕ) → IsRecordOf line r → (length r ≤ length line) × (length line ≤ length r + 1)
record_length line r (inl is) = let len = ap length is in let sum = length-append r (13 ∷ []) in (omega arith, omega arith)
record_length line r (inr (is, none)) = let len = ap length is in (omega arith, omega arith)

-- two lists that are equal have equal fronts of one length
pub same_front : (x y s t : List ℕ) (c d : ℕ) → length x ≡ length y → x ++ c ∷ s ≡ y ++ d ∷ t → (x ≡ y) × (c ≡ d) × (s ≡ t)
same_front [] [] s t c d len same = (refl, let head : c ≡ d = cc in head, let tails : s ≡ t = cc in tails)
same_front [] (e ∷ y) s t c d len same = absurd (omega arith)
same_front (b ∷ x) [] s t c d len same = absurd (omega arith)
same_front (b ∷ x) (e ∷ y) s t c d len same =
    let head : b ≡ e = cc in
    let tails : x ++ c ∷ s ≡ y ++ d ∷ t = cc in
    let on = same_front x y s t c d (omega arith) tails in
    let front : x ≡ y = on.0 in
    (cc, on.1, on.2)

-- the record of a line that goes on after a byte past the limit is longer than the limit
pub too_long : (x y r : List ℕ) (c limit : ℕ) → PassesLimit x c limit → IsRecordOf (x ++ c ∷ y) r → length r ≤ limit → ⊥
too_long x y r c limit (inl (len, not)) (inl is) within =
    let sum = length-append x (c ∷ y) in
    let more = length-append r (13 ∷ []) in
    let all = ap length is in
    let none : y ≡ [] = nil_from_length y (omega arith) in
    not (same_last x r c 13 (subst (λ (z : List ℕ). x ++ c ∷ z ≡ r ++ 13 ∷ []) none is)).1
too_long x y r c limit (inl (len, not)) (inr (is, none)) within =
    let sum = length-append x (c ∷ y) in let all = ap length is in absurd (omega arith)
too_long x y r c limit (inr (q, at, len)) of within =
    let sum = length-append x (c ∷ y) in
    let more = length-append q (13 ∷ []) in
    let all = ap length at in
    let lens = record_length (x ++ c ∷ y) r of in
    absurd (omega (arith, lens.1))

-- a part of a line does not go on after a byte past the limit
pub begun_long : (x y : List ℕ) (c limit : ℕ) → PassesLimit x c limit
    → (length (x ++ c ∷ y) ≤ limit) ⊎ ((r : List ℕ) × (x ++ c ∷ y ≡ r ++ 13 ∷ []) × (length r ≤ limit)) → ⊥
begun_long x y c limit (inl (len, not)) (inl short) = let sum = length-append x (c ∷ y) in absurd (omega arith)
begun_long x y c limit (inr (q, at, len)) (inl short) =
    let sum = length-append x (c ∷ y) in let more = length-append q (13 ∷ []) in let all = ap length at in absurd (omega arith)
begun_long x y c limit passes (inr (r, is, short)) = too_long x y r c limit passes (inl is) short

-- bytes pass the limit at one byte
pub one_long : (x y s t : List ℕ) (c d limit : ℕ) → LineTooLong x c limit → LineTooLong y d limit → x ++ c ∷ s ≡ y ++ d ∷ t → (x ≡ y) × (c ≡ d)
one_long x y s t c d limit long too same = elim long.passes [
  | inl h ↦ elim too.passes [
    | inl g ↦ let on = same_front x y s t c d (h.0 ∙ sym g.0) same in (on.0, on.1)
    | inr (q, at, len) ↦
        let on = same_front x q s (d ∷ t) c 13 (h.0 ∙ sym len) (same ∙ ap (λ (z : List ℕ). z ++ d ∷ t) at ∙ append_assoc q (13 ∷ []) (d ∷ t)) in absurd (h.1 on.1)
  ]
  | inr (p, is, long_len) ↦ elim too.passes [
    | inl g ↦
        let on = same_front p y (c ∷ s) t 13 d (long_len ∙ sym g.0) (sym (append_assoc p (13 ∷ []) (c ∷ s)) ∙ ap (λ (z : List ℕ). z ++ c ∷ s) (sym is) ∙ same) in absurd (g.1 (sym on.1))
    | inr (q, at, len) ↦
        let all = ap length is in let some = ap length at in let sum = length-append p (13 ∷ []) in let more = length-append q (13 ∷ []) in
        let on = same_front x y s t c d (omega arith) same in (on.0, on.1)
  ]
]

-- ---- the record of a line, and its limit

pub none_last : HasNoCr []
none_last front same = let len = ap length same in let sum = length-append front (13 ∷ []) in absurd (omega (arith, len, sum))

-- the record of a line that ends with the byte c
ended_by : (x : List ℕ) (c : ℕ) → (r : List ℕ) × IsRecordOf (x ++ c ∷ []) r
ended_by x c = elim (cases_eq c 13) [
  | inl same ↦ (x, inl (ap (λ (n : ℕ). x ++ n ∷ []) same))
  | inr not ↦ (x ++ c ∷ [], inr (refl, λ front same. not (same_last x front c 13 same).1))
]

-- any line has a record
pub some_record : (line : List ℕ) → (r : List ℕ) × IsRecordOf line r
some_record [] = ([], inr (refl, none_last))
some_record (a ∷ line) = by a [] line where
  by : (b : ℕ) (x rest : List ℕ) → (r : List ℕ) × IsRecordOf (x ++ b ∷ rest) r
  by b x [] = ended_by x b
  by b x (c ∷ rest) = subst (λ (y : List ℕ). (r : List ℕ) × IsRecordOf y r) (append_assoc x (b ∷ []) (c ∷ rest)) (by c (x ++ b ∷ []) rest)

-- the record of a part of a line is within the limit
pub record_within : (x r : List ℕ) (limit : ℕ) → LineBegun x limit → IsRecordOf x r → length r ≤ limit
record_within x r limit begun of = by begun.within where
  by : (length x ≤ limit) ⊎ ((q : List ℕ) × (x ≡ q ++ 13 ∷ []) × (length q ≤ limit)) → length r ≤ limit
  by (inl short) = let lens = record_length x r of in omega (arith, lens.0, short)
  by (inr (q, is, short)) = let same = one_record x r q of (inl is) in let len = ap length same in omega (arith, len, short)

-- a part of a line within the limit
pub begun_short : (x : List ℕ) (limit : ℕ) → IsLine x → length x ≤ limit → LineBegun x limit
begun_short x limit is short = record { is = is; within = inl short }

pub one_byte : (x : List ℕ) (c : ℕ) → IsLine x → c ≢ 10 → IsLine (x ++ c ∷ [])
one_byte x c is next = line_more x (c ∷ []) is (next, tt)

-- a part of a line and one more byte are a part of a line, or the byte passes the limit
pub next_byte : (x : List ℕ) (c limit : ℕ) → LineBegun x limit → c ≢ 10 → LineBegun (x ++ c ∷ []) limit ⊎ LineTooLong x c limit
next_byte x c limit begun next = by (cases_lt (length x) limit) begun.within where
  sum : length (x ++ c ∷ []) ≡ length x + 1
  sum = length-append x (c ∷ [])

  by : (length x < limit) ⊎ (limit ≤ length x) → (length x ≤ limit) ⊎ ((q : List ℕ) × (x ≡ q ++ 13 ∷ []) × (length q ≤ limit)) → LineBegun (x ++ c ∷ []) limit ⊎ LineTooLong x c limit
  by (inl less) within = inl (record { is = one_byte x c begun.is next; within = inl (omega (arith, less, sum)) })
  by (inr full) (inl short) = elim (cases_eq c 13) [
    | inl cr ↦ inl (record { is = one_byte x c begun.is next; within = inr (x, ap (λ (n : ℕ). x ++ n ∷ []) cr, short) })
    | inr not ↦ inr (record { is = begun.is; next = next; passes = inl (omega (arith, full, short), not) })
  ]
  by (inr full) (inr (q, is, short)) = elim (cases_lt (length q) limit) [
    | inl less ↦ let len = ap length is in let more = length-append q (13 ∷ []) in elim (cases_eq c 13) [
      | inl cr ↦ inl (record { is = one_byte x c begun.is next; within = inr (x, ap (λ (n : ℕ). x ++ n ∷ []) cr, omega (arith, less, len, more)) })
      | inr not ↦ inr (record { is = begun.is; next = next; passes = inl (omega (arith, full, less, len, more), not) })
    ]
    | inr most ↦ inr (record { is = begun.is; next = next; passes = inr (q, is, omega (arith, most, short)) })
  ]
