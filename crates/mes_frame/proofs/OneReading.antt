-- Every list of bytes has exactly one decoded result as a stream of records. The digits at the
-- front and the byte after them determine which.
use Rattle.std.proofs.Common.{◌≡◌, ℕ, ◌-◌, ◌<◌, ◌≤◌, ◌⊎◌, false, cond, nat_lt, nat_le, ◌==◌, ◌&&◌, max, List, [], ◌∷◌, ◌++◌, length, take, drop, refl, ap, sym, ◌∙◌, inl, inr, subst, append_assoc, arith, length-append, take-append-drop}
use Rattle.std.proofs.lemmas.Bool.{cases_eq, cases_lt, lt-ltb, le-ltb, le-leb, lt-leb, ne_eqb, and_left, and_right}
use Rattle.std.proofs.lemmas.Grind.{common_steps}
use Rattle.std.proofs.lemmas.List.{append-nil, append_cancel_left}
use Rattle.std.specs.Char.{digit_value}
use Rattle.std.specs.Str.Parse.{AllDigits, digits_value}
use Rattle.mes_frame.specs.Record.{SizeBegun, IsSize, IsRecord, DataBegun, SizeShows}
use Rattle.mes_frame.specs.RecordReading.{RecordReading, ReadsRecord, Begins, Whole, Broken}
use Rattle.mes_frame.specs.declared.fault.FrameFault.{FrameFault}
use Rattle.mes_frame.specs.declared.fault.FrameFault.TheVariants.{BadChunkLine, ChunkLineTooLong, ChunkTooLarge, BadChunkEnd, TrailersTooLong, BadSizeLine, SizeLineTooLong, RecordTooLarge}

-- the digits x stop before `rest`: `rest` is empty or begins with another byte, or x has n digits
abbrev pub Stops : ℕ → List ℕ → List ℕ → Type 0
Stops n x [] = Unit {0}
Stops n x (c ∷ s) = (10 ≤ digit_value c) ⊎ (length x ≡ n)

stops_tail : (n c : ℕ) (x rest : List ℕ) → Stops n (c ∷ x) rest → Stops (n - 1) x rest
stops_tail n c x [] stops = tt
stops_tail n c x (d ∷ s) stops = elim stops [ inl h ↦ inl h | inr h ↦ inr (omega arith) ]

goes_on : (n d : ℕ) (s : List ℕ) → Stops n [] (d ∷ s) → digit_value d < 10 → 0 < n → ⊥
goes_on n d s stops digit some = elim stops [ inl h ↦ omega arith | inr h ↦ omega arith ]

-- a list has only one split into digits at the front (at most n) and the bytes after them
pub one_split : (n : ℕ) (x y rest other : List ℕ) → AllDigits 10 x → AllDigits 10 y → length x ≤ n → length y ≤ n → Stops n x rest → Stops n y other → x ++ rest ≡ y ++ other → (x ≡ y) × (rest ≡ other)
one_split n [] [] rest other digits more few less stops ends same = (refl, same)
one_split n [] (d ∷ y) rest other digits more few less stops ends same =
    absurd (goes_on n d (y ++ other) (subst (Stops n []) same stops) more.0 (omega arith))
one_split n (c ∷ x) [] rest other digits more few less stops ends same =
    absurd (goes_on n c (x ++ rest) (subst (Stops n []) (sym same) ends) digits.0 (omega arith))
one_split n (c ∷ x) (d ∷ y) rest other digits more few less stops ends same =
    let tails : x ++ rest ≡ y ++ other = cc in
    let head : c ≡ d = cc in
    let one = one_split (n - 1) x y rest other digits.1 more.1 (omega arith) (omega arith) (stops_tail n c x rest stops) (stops_tail n d y other ends) tails in
    let front : x ≡ y = one.0 in
    (cc, one.1)

-- the decoded result, if the bytes s follow the LF of the size line x
after_line : ℕ → List ℕ → List ℕ → RecordReading
after_line limit x s =
    let size = digits_value 10 x in
    cond (nat_lt limit size) (Broken x 10 RecordTooLarge)
    (cond (nat_le size (length s)) (Whole (x ++ 10 ∷ take size s) (take size s)) (Begins s))

-- the decoded result, if the given bytes follow the digits x
after_digits : ℕ → List ℕ → List ℕ → RecordReading
after_digits limit x [] = Begins []
after_digits limit x (c ∷ s) =
    cond (nat_lt (digit_value c) 10) (Broken x c SizeLineTooLong)
    (cond ((c == 10) && nat_lt 0 (length x)) (after_line limit x s) (Broken x c BadSizeLine))

record Found (limit : ℕ) (w : List ℕ) (reading : RecordReading) : Type 0 where
  x : List ℕ
  rest : List ℕ
  digits : AllDigits 10 x
  few : length x ≤ 20
  whole : w ≡ x ++ rest
  stops : Stops 20 x rest
  is : reading ≡ after_digits limit x rest

at_line_end : (limit : ℕ) (x s : List ℕ) → 0 < length x → after_digits limit x (10 ∷ s) ≡ after_line limit x s
unfolding after_digits
at_line_end limit x s some = let is = lt-ltb 0 (length x) some in rw is

found_digits : (limit : ℕ) (x : List ℕ) → SizeBegun x → Found limit x (Begins [])
unfolding after_digits
found_digits limit x begun = record { x = x; rest = []; digits = begun.digits; few = begun.few; whole = sym (append-nil x); stops = tt; is = refl }

found_line : (limit : ℕ) (w x s : List ℕ) (reading : RecordReading) → IsSize x → w ≡ x ++ 10 ∷ s → reading ≡ after_line limit x s → Found limit w reading
found_line limit w x s reading size whole is = record {
  x = x;
  rest = 10 ∷ s;
  digits = size.begun.digits;
  few = size.begun.few;
  whole = whole;
  stops = inl (omega arith);
  is = is ∙ sym (at_line_end limit x s size.some);
}

found_data : (limit left : ℕ) (x r : List ℕ) → DataBegun x r left limit → Found limit x (Begins r)
unfolding after_line
found_data limit left x r begun =
    let fits = le-ltb limit (digits_value 10 begun.size) begun.within in
    let value = begun.value in
    let more = lt-leb (digits_value 10 begun.size) (length r) (omega arith) in
    found_line limit x begun.size r (Begins r) begun.is_size begun.spelt (rw (fits, more))

found_record : (limit : ℕ) (front r rest : List ℕ) → IsRecord front r limit → Found limit (front ++ rest) (Whole front r)
unfolding after_line
found_record limit front r rest whole =
    let len = length-append r rest in
    let value = whole.value in
    let within = whole.within in
    let fits = le-ltb limit (digits_value 10 whole.size) (omega arith) in
    let enough = le-leb (digits_value 10 whole.size) (length (r ++ rest)) (omega arith) in
    let front-is : take (length r) (r ++ rest) ≡ r = grind (arith, common_steps) in
    found_line limit (front ++ rest) whole.size (r ++ rest) (Whole front r) whole.is_size
    (ap (λ (y : List ℕ). y ++ rest) whole.spelt ∙ append_assoc whole.size (10 ∷ r) rest)
    (rw (fits, enough, value, front-is) (ap (λ (y : List ℕ). Whole y r) whole.spelt))

found_bad : (limit b : ℕ) (x rest : List ℕ) → SizeBegun x → 10 ≤ digit_value b → (b ≡ 10 → x ≡ []) → Found limit (x ++ b ∷ rest) (Broken x b BadSizeLine)
unfolding after_digits
found_bad limit b x rest begun other bare =
    let none = le-ltb (digit_value b) 10 other in
    let no_line : ((b == 10) && nat_lt 0 (length x)) ≡ false =
    elim (cases_eq b 10) [
      | inl is ↦ let empty : x ≡ [] = bare is in let zero_long = ap length empty in and_right (b == 10) (nat_lt 0 (length x)) (le-ltb 0 (length x) (omega arith))
      | inr not ↦ and_left (b == 10) (nat_lt 0 (length x)) (ne_eqb b 10 not)
    ] in
    record { x = x; rest = b ∷ rest; digits = begun.digits; few = begun.few; whole = refl; stops = inl other; is = rw (none, no_line) }

found_long : (limit b : ℕ) (x rest : List ℕ) → SizeBegun x → length x ≡ 20 → digit_value b < 10 → Found limit (x ++ b ∷ rest) (Broken x b SizeLineTooLong)
unfolding after_digits
found_long limit b x rest begun full digit =
    let is = lt-ltb (digit_value b) 10 digit in
    record { x = x; rest = b ∷ rest; digits = begun.digits; few = begun.few; whole = refl; stops = inr full; is = rw is }

found_large : (limit b : ℕ) (x rest : List ℕ) → IsSize x → b ≡ 10 → limit < digits_value 10 x → Found limit (x ++ b ∷ rest) (Broken x b RecordTooLarge)
unfolding after_line
found_large limit b x rest size line above =
    let is = lt-ltb limit (digits_value 10 x) above in
    found_line limit (x ++ b ∷ rest) x rest (Broken x b RecordTooLarge) size (ap (λ (c : ℕ). x ++ c ∷ rest) line) (rw is (ap (λ (c : ℕ). Broken x c RecordTooLarge) line))

found_fault : (limit b : ℕ) (x rest : List ℕ) (fault : FrameFault) → SizeShows x b limit fault → Found limit (x ++ b ∷ rest) (Broken x b fault)
found_fault limit b x rest BadSizeLine (begun, other, bare) = found_bad limit b x rest begun other bare
found_fault limit b x rest SizeLineTooLong (begun, full, digit) = found_long limit b x rest begun full digit
found_fault limit b x rest RecordTooLarge (size, line, above) = found_large limit b x rest size line above
found_fault limit b x rest BadChunkLine h = absurd h
found_fault limit b x rest ChunkLineTooLong h = absurd h
found_fault limit b x rest ChunkTooLarge h = absurd h
found_fault limit b x rest BadChunkEnd h = absurd h
found_fault limit b x rest TrailersTooLong h = absurd h

found : (limit : ℕ) (w : List ℕ) (reading : RecordReading) → ReadsRecord limit w reading → Found limit w reading
found limit w (Begins r) reads = elim reads [
  | inl h ↦ subst (λ (q : List ℕ). Found limit w (Begins q)) (sym h.1) (found_digits limit w h.0)
  | inr h ↦ found_data limit h.0 w r h.1
]
found limit w (Whole front r) (rest, whole, is) =
    subst (λ (v : List ℕ). Found limit v (Whole front r)) (sym whole) (found_record limit front r rest is)
found limit w (Broken front byte fault) (rest, whole, shows) =
    subst (λ (v : List ℕ). Found limit v (Broken front byte fault)) (sym whole) (found_fault limit byte front rest fault shows)

same_found : (limit : ℕ) (w : List ℕ) (reading other : RecordReading) → Found limit w reading → Found limit w other → reading ≡ other
same_found limit w reading other f g =
    let one = one_split 20 f.x g.x f.rest g.rest f.digits g.digits f.few g.few f.stops g.stops (sym f.whole ∙ g.whole) in
    f.is ∙ ap (λ (y : List ℕ). after_digits limit y f.rest) one.0 ∙ ap (after_digits limit g.x) one.1 ∙ sym g.is

pub one_reading : (limit : ℕ) (w : List ℕ) (reading other : RecordReading) → ReadsRecord limit w reading → ReadsRecord limit w other → reading ≡ other
one_reading limit w reading other reads too = same_found limit w reading other (found limit w reading reads) (found limit w other too)

pub record_is_unique : (f r s g q t : List ℕ) (l m : ℕ) → IsRecord f r l → IsRecord g q m → f ++ s ≡ g ++ t → (f ≡ g) × (r ≡ q) × (s ≡ t)
record_is_unique f r s g q t l m first second same =
    let short = first.within in
    let less = second.within in
    let wide : IsRecord f r (max l m) = record { size = first.size; is_size = first.is_size; spelt = first.spelt; value = first.value; within = omega arith } in
    let broad : IsRecord g q (max l m) = record { size = second.size; is_size = second.is_size; spelt = second.spelt; value = second.value; within = omega arith } in
    let one : Whole f r ≡ Whole g q = one_reading (max l m) (f ++ s) (Whole f r) (Whole g q) (s, refl, wide) (t, same, broad) in
    let fronts : f ≡ g = cc in
    let datas : r ≡ q = cc in
    (fronts, datas, append_cancel_left f s t (same ∙ ap (λ (y : List ℕ). y ++ t) (sym fronts)))

record Split (n : ℕ) (w : List ℕ) : Type 0 where
  x : List ℕ
  rest : List ℕ
  digits : AllDigits 10 x
  few : length x ≤ n
  whole : w ≡ x ++ rest
  stops : Stops n x rest

stops_more : (n c : ℕ) (x rest : List ℕ) → 0 < n → Stops (n - 1) x rest → Stops n (c ∷ x) rest
stops_more n c x [] some stops = tt
stops_more n c x (d ∷ s) some stops = elim stops [ inl h ↦ inl h | inr h ↦ inr (omega arith) ]

-- every list splits into digits at the front (at most n) and the bytes after them
split : (n : ℕ) (w : List ℕ) → Split n w
split n [] = record { x = []; rest = []; digits = tt; few = omega arith; whole = refl; stops = tt }
split n (c ∷ w) =
    elim (cases_lt (digit_value c) 10) [
      | inl digit ↦ elim (cases_lt 0 n) [
        | inl remaining ↦ let more = split (n - 1) w in let few = more.few in
            record {
              x = c ∷ more.x;
              rest = more.rest;
              digits = (digit, more.digits);
              few = omega arith;
              whole = ap (λ (y : List ℕ). c ∷ y) more.whole;
              stops = stops_more n c more.x more.rest remaining more.stops;
            }
        | inr none ↦ record { x = []; rest = c ∷ w; digits = tt; few = omega arith; whole = refl; stops = inr (omega arith) }
      ]
      | inr other ↦ record { x = []; rest = c ∷ w; digits = tt; few = omega arith; whole = refl; stops = inl other }
    ]

Read : ℕ → List ℕ → Type 0
Read limit w = (reading : RecordReading) × ReadsRecord limit w reading

read_data : (limit : ℕ) (x s : List ℕ) → IsSize x → Read limit (x ++ 10 ∷ s)
unfolding Read
read_data limit x s size =
    let v = digits_value 10 x in
    elim (cases_lt limit v) [
      | inl above ↦ (Broken x 10 RecordTooLarge, (s, refl, (size, refl, above)))
      | inr within ↦ elim (cases_lt (length s) v) [
        | inl short ↦ (Begins s, inr (v - length s, record { size = x; is_size = size; spelt = refl; value = omega arith; within = within; some = omega arith }))
        | inr enough ↦
            let len : length (take v s) ≡ v = grind (arith, common_steps) in
            let seam : x ++ 10 ∷ s ≡ (x ++ 10 ∷ take v s) ++ drop v s =
            ap (λ (y : List ℕ). x ++ 10 ∷ y) (sym (take-append-drop v s)) ∙ sym (append_assoc x (10 ∷ take v s) (drop v s)) in
            (Whole (x ++ 10 ∷ take v s) (take v s), (drop v s, seam, record { size = x; is_size = size; spelt = refl; value = sym len; within = omega arith }))
      ]
    ]

read_other : (limit c : ℕ) (x s : List ℕ) → SizeBegun x → 10 ≤ digit_value c → Read limit (x ++ c ∷ s)
unfolding Read
read_other limit c [] s begun other = (Broken [] c BadSizeLine, (s, refl, (begun, other, λ is. refl)))
read_other limit c (d ∷ x) s begun other =
    elim (cases_eq c 10) [
      | inl is ↦ subst (λ (b : ℕ). Read limit ((d ∷ x) ++ b ∷ s)) (sym is) (read_data limit (d ∷ x) s (record { begun = begun; some = omega arith }))
      | inr not ↦ (Broken (d ∷ x) c BadSizeLine, (s, refl, (begun, other, λ is. absurd (not is))))
    ]

read_rest : (limit : ℕ) (x rest : List ℕ) → SizeBegun x → Stops 20 x rest → Read limit (x ++ rest)
unfolding Read
read_rest limit x [] begun stops = rw append-nil (Begins [], inl (begun, refl))
read_rest limit x (c ∷ s) begun stops =
    elim (cases_lt (digit_value c) 10) [
      | inl digit ↦ elim stops [
        | inl other ↦ absurd (omega arith)
        | inr full ↦ (Broken x c SizeLineTooLong, (s, refl, (begun, full, digit)))
      ]
      | inr other ↦ read_other limit c x s begun other
    ]

pub some_reading : (limit : ℕ) (w : List ℕ) → (reading : RecordReading) × ReadsRecord limit w reading
unfolding Read
some_reading limit w =
    let parts = split 20 w in
    subst (Read limit) (sym parts.whole) (read_rest limit parts.x parts.rest (record { digits = parts.digits; few = parts.few }) parts.stops)
