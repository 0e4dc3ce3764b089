-- Runs of the state machine over characters of a string that are written without an escape.
use Rattle.std.proofs.Common.{◌≡◌, ◌≢◌, ℕ, ◌+◌, ◌-◌, ◌<◌, ◌≤◌, Bool, true, List, [], ◌∷◌, ◌++◌, length, take, drop, get_or, Some, option_and_then, if◌then◌else◌, nat_lt, refl, ap, sym, ◌∙◌, subst, arith, append_assoc, append-nil, lt-ltb, take-suc, add-one}
use Rattle.std.proofs.Math.Seq.{take-add}
use Rattle.std.proofs.lemmas.Bool.Decides.{nat_tests}
use Rattle.std.proofs.Math.Decide.{ℕ_discrete}
use Rattle.std.specs.List.{AllByRecursion}
use Rattle.mes_json.specs.Machine as m
use Rattle.mes_json.specs.Machine.{Frame, State, run, on_quoted, lead, after_byte}
use Rattle.mes_json.specs.Machine.State.{state}
use Rattle.mes_json.specs.Reader.{mid_view, IsPlain, LeadsTo, StandAlone}
use Rattle.mes_json.specs.declared.limits.TheConstants.{MAX_NESTING}
use Rattle.mes_json.specs.declared.utf8.Utf8State as mid
use Rattle.mes_json.proofs.RunLemmas.{run_on, run_take}
use Rattle.mes_json.proofs.StringLemmas.{between_reads, within_reads}
use Rattle.mes_json.proofs.TakenLemmas.{rest_is}

-- the byte c leads from one state in a string to another, and is added to the string unchanged
record Follows (from : mid.Utf8State) (c : ℕ) (to : mid.Utf8State) : Type 0 where
  keeps : (fs : List Frame) (p : m.Purpose) (b : List ℕ) → on_quoted fs p (mid_view from) b c ≡ Some (state fs (m.ReaderState.quoted p (mid_view to) (b ++ c ∷ [])))

where_true : {A : Type 0} (t : Bool) (x y : A) → t ≡ true → (if t then x else y) ≡ x
where_true t x y is = ap (λ (b : Bool). if b then x else y) is

plain_lead : (c : ℕ) → IsPlain c → lead c ≡ Some m.Utf8State.between
plain_lead c h = where_true (nat_lt c 0x80) (Some m.Utf8State.between) _ (lt-ltb c 0x80 h.1)

plain_step : (fs : List Frame) (p : m.Purpose) (b : List ℕ) (c : ℕ) → IsPlain c → on_quoted fs p m.Utf8State.between b c ≡ Some (state fs (m.ReaderState.quoted p m.Utf8State.between (b ++ c ∷ [])))
plain_step fs p b c h = between_reads c mid.TheVariants.Between h.2 h.0 h.3 (plain_lead c h) fs p b

over_plain : (d : ℕ) (fs : List Frame) (p : m.Purpose) (b q : List ℕ) → AllByRecursion IsPlain q
    → run d (state fs (m.ReaderState.quoted p m.Utf8State.between b)) q ≡ Some (state fs (m.ReaderState.quoted p m.Utf8State.between (b ++ q)))
unfolding run
over_plain d fs p b [] h = ap (λ (x : List ℕ). Some (state fs (m.ReaderState.quoted p m.Utf8State.between x))) (sym (append-nil b))
over_plain d fs p b (c ∷ q) h =
    ap (option_and_then (λ (next : State). run d next q)) (plain_step fs p b c h.0) ∙ over_plain d fs p (b ++ c ∷ []) q h.1
    ∙ ap (λ (x : List ℕ). Some (state fs (m.ReaderState.quoted p m.Utf8State.between x))) (append_assoc b (c ∷ []) q)

pub plain_stands : (q : List ℕ) → AllByRecursion IsPlain q → StandAlone q
plain_stands q h = record { runs = λ fs p b. over_plain MAX_NESTING fs p b q h }

pub space_stands : (b : List ℕ) → 0 < length b → get_or b 0 0 ≡ 0x20 → StandAlone (take 1 b)
space_stands b inside is = subst StandAlone (sym (take-suc b 0 0 inside)) (plain_stands (get_or b 0 0 ∷ []) ((omega arith, omega arith, omega arith, omega arith), tt))

-- c is a continuation byte; the second byte of some characters has a narrower range
abbrev pub GoesOn : ℕ → Type 0
GoesOn c = (0x80 ≤ c) × (c ≤ 0xBF)

pub leads_nowhere : LeadsTo [] m.Utf8State.between
unfolding run
leads_nowhere = record { runs = λ fs p b. ap (λ (x : List ℕ). Some (state fs (m.ReaderState.quoted p m.Utf8State.between x))) (sym (append-nil b)) }

leads_on : (b : List ℕ) (n : ℕ) (from to : mid.Utf8State) → LeadsTo (take n b) (mid_view from) → n < length b → Follows from (get_or b n 0) to
    → LeadsTo (take (n + 1) b) (mid_view to)
leads_on b n from to h inside follows = record {
  runs = λ (fs : List Frame) (p : m.Purpose) (s : List ℕ).
      run_take MAX_NESTING (state fs (m.ReaderState.quoted p m.Utf8State.between s)) (state fs (m.ReaderState.quoted p (mid_view from) (s ++ take n b))) b n inside (h.runs fs p s)
      ∙ follows.keeps fs p (s ++ take n b)
      ∙ ap (λ (x : List ℕ). Some (state fs (m.ReaderState.quoted p (mid_view to) x)))
      (append_assoc s (take n b) (get_or b n 0 ∷ [])
      ∙ ap (λ (x : List ℕ). s ++ x) (sym (ap (λ (k : ℕ). take k b) (add-one n) ∙ take-suc b n 0 inside)));
}

begins : (b : List ℕ) (more least most : ℕ) → 0 < length b → 0x80 ≤ get_or b 0 0 → lead (get_or b 0 0) ≡ Some (m.Utf8State.within more least most)
    → LeadsTo (take 1 b) (m.Utf8State.within more least most)
begins b more least most inside high leads =
    leads_on b 0 mid.TheVariants.Between (mid.TheVariants.Within more least most) leads_nowhere inside
    (record { keeps = between_reads (get_or b 0 0) (mid.TheVariants.Within more least most) (omega arith) (omega arith) (omega arith) leads })

within_on : (b : List ℕ) (n more least most : ℕ) (next : mid.Utf8State) → mid_view next ≡ after_byte more → LeadsTo (take n b) (m.Utf8State.within more least most) → n < length b
    → least ≤ get_or b n 0 → get_or b n 0 ≤ most → LeadsTo (take (n + 1) b) (mid_view next)
within_on b n more least most next after h inside low high =
    leads_on b n (mid.TheVariants.Within more least most) next h inside (record { keeps = within_reads more least most (get_or b n 0) next low high after })

one_more : (b : List ℕ) (n least most : ℕ) → LeadsTo (take n b) (m.Utf8State.within 1 least most) → n < length b → least ≤ get_or b n 0 → get_or b n 0 ≤ most
    → StandAlone (take (n + 1) b)
one_more b n least most h inside low high = within_on b n 1 least most mid.TheVariants.Between refl h inside low high

two_more : (b : List ℕ) (n least most : ℕ) → LeadsTo (take n b) (m.Utf8State.within 2 least most) → n + 1 < length b → least ≤ get_or b n 0 → get_or b n 0 ≤ most
    → GoesOn (get_or b (n + 1) 0) → StandAlone (take (n + 1 + 1) b)
two_more b n least most h inside low high on =
    one_more b (n + 1) 0x80 0xBF (within_on b n 2 least most (mid.TheVariants.Within 1 0x80 0xBF) refl h (omega arith) low high) inside on.0 on.1

three_more : (b : List ℕ) (n least most : ℕ) → LeadsTo (take n b) (m.Utf8State.within 3 least most) → n + 2 < length b → least ≤ get_or b n 0 → get_or b n 0 ≤ most
    → GoesOn (get_or b (n + 1) 0) → GoesOn (get_or b (n + 1 + 1) 0) → StandAlone (take (n + 1 + 1 + 1) b)
three_more b n least most h inside low high on more =
    two_more b (n + 1) 0x80 0xBF (within_on b n 3 least most (mid.TheVariants.Within 2 0x80 0xBF) refl h (omega arith) low high) (omega arith) on.0 on.1 more

lead_two : (c : ℕ) → 0xC2 ≤ c → c ≤ 0xDF → lead c ≡ Some (m.Utf8State.within 1 0x80 0xBF)
lead_two c l h = grind (arith, nat_tests)

lead_three : (c : ℕ) → 0xE0 ≤ c → c ≤ 0xEF → c ≢ 0xE0 → c ≢ 0xED → lead c ≡ Some (m.Utf8State.within 2 0x80 0xBF)
lead_three c l h n k = grind (arith, nat_tests)

lead_four : (c : ℕ) → 0xF0 ≤ c → c ≤ 0xF4 → c ≢ 0xF0 → c ≢ 0xF4 → lead c ≡ Some (m.Utf8State.within 3 0x80 0xBF)
lead_four c l h n k = grind (arith, nat_tests)

pub two_stand : (b : List ℕ) → 2 ≤ length b → 0xC2 ≤ get_or b 0 0 → get_or b 0 0 ≤ 0xDF → GoesOn (get_or b 1 0) → StandAlone (take 2 b)
two_stand b inside low high on = one_more b 1 0x80 0xBF (begins b 1 0x80 0xBF (omega arith) (omega arith) (lead_two (get_or b 0 0) low high)) inside on.0 on.1

pub three_stand : (b : List ℕ) → 3 ≤ length b → 0xE0 ≤ get_or b 0 0 → get_or b 0 0 ≤ 0xEF → (get_or b 0 0 ≡ 0xE0 → 0xA0 ≤ get_or b 1 0) → (get_or b 0 0 ≡ 0xED → get_or b 1 0 ≤ 0x9F)
    → GoesOn (get_or b 1 0) → GoesOn (get_or b 2 0) → StandAlone (take 3 b)
three_stand b inside low high long surrogate on more = by (ℕ_discrete (get_or b 0 0) 0xE0) (ℕ_discrete (get_or b 0 0) 0xED)
  where
    from : (least most : ℕ) → lead (get_or b 0 0) ≡ Some (m.Utf8State.within 2 least most) → least ≤ get_or b 1 0 → get_or b 1 0 ≤ most → StandAlone (take 3 b)
    from least most leads l h = two_more b 1 least most (begins b 2 least most (omega arith) (omega arith) leads) inside l h more

    by : Dec (get_or b 0 0 ≡ 0xE0) → Dec (get_or b 0 0 ≡ 0xED) → StandAlone (take 3 b)
    by (yes e) _ = from 0xA0 0xBF (ap lead e) (long e) on.1
    by (no n) (yes e) = from 0x80 0x9F (ap lead e) on.0 (surrogate e)
    by (no n) (no k) = from 0x80 0xBF (lead_three (get_or b 0 0) low high n k) on.0 on.1

pub four_stand : (b : List ℕ) → 4 ≤ length b → 0xF0 ≤ get_or b 0 0 → get_or b 0 0 ≤ 0xF4 → (get_or b 0 0 ≡ 0xF0 → 0x90 ≤ get_or b 1 0) → (get_or b 0 0 ≡ 0xF4 → get_or b 1 0 ≤ 0x8F)
    → GoesOn (get_or b 1 0) → GoesOn (get_or b 2 0) → GoesOn (get_or b 3 0) → StandAlone (take 4 b)
four_stand b inside low high long above on more last = by (ℕ_discrete (get_or b 0 0) 0xF0) (ℕ_discrete (get_or b 0 0) 0xF4)
  where
    from : (least most : ℕ) → lead (get_or b 0 0) ≡ Some (m.Utf8State.within 3 least most) → least ≤ get_or b 1 0 → get_or b 1 0 ≤ most → StandAlone (take 4 b)
    from least most leads l h = three_more b 1 least most (begins b 3 least most (omega arith) (omega arith) leads) inside l h more last

    by : Dec (get_or b 0 0 ≡ 0xF0) → Dec (get_or b 0 0 ≡ 0xF4) → StandAlone (take 4 b)
    by (yes e) _ = from 0x90 0xBF (ap lead e) (long e) on.1
    by (no n) (yes e) = from 0x80 0x8F (ap lead e) on.0 (above e)
    by (no n) (no k) = from 0x80 0xBF (lead_four (get_or b 0 0) low high n k) on.0 on.1

on : (b : List ℕ) (place n : ℕ) → StandAlone (take place b) → StandAlone (take n (drop place b)) → StandAlone (take (place + n) b)
on b place n h k = record {
  runs = λ (fs : List Frame) (p : m.Purpose) (s : List ℕ).
      ap (run MAX_NESTING (state fs (m.ReaderState.quoted p m.Utf8State.between s))) (take-add place n b)
      ∙ run_on MAX_NESTING _ (state fs (m.ReaderState.quoted p m.Utf8State.between (s ++ take place b))) (take place b) (take n (drop place b)) (h.runs fs p s)
      ∙ k.runs fs p (s ++ take place b)
      ∙ ap (λ (x : List ℕ). Some (state fs (m.ReaderState.quoted p m.Utf8State.between x)))
      (append_assoc s (take place b) (take n (drop place b)) ∙ ap (λ (x : List ℕ). s ++ x) (sym (take-add place n b)));
}

pub stands_further : (b : List ℕ) (place n : ℕ) → place ≤ length b → StandAlone (take place b) → StandAlone (take n (take (length b - place) (drop place b)))
    → StandAlone (take (place + n) b)
stands_further b place n inside h k = on b place n h (subst (λ (x : List ℕ). StandAlone (take n x)) (rest_is b place inside) k)
