-- Each byte of a string adds at most its cost to the bytes and nodes of a state.
use Rattle.std.proofs.Common.{◌≡◌, ◌≢◌, ℕ, zero, suc, ◌+◌, ◌*◌, ◌-◌, ◌≤◌, ◌<◌, inl, inr, Bool, true, false, ◌&&◌, List, [], ◌∷◌, ◌++◌, length, Option, Some, None, if◌then◌else◌, ◌==◌, nat_lt, nat_le, refl, ap, sym, ◌∙◌, subst, arith, encode_utf8, eqb-true}
use Rattle.std.proofs.lemmas.Bool.{cond_both, eqb-false}
use Rattle.std.proofs.lemmas.Bool.Decides.{nat_tests}
use Rattle.std.proofs.lemmas.Str.{length-encode, len_utf8_ascii, len_utf8_bounds}
use Rattle.mes_json.specs.Inner.{Stand, following}
use Rattle.mes_json.specs.Inner.Stand.{outside, inside, escaped}
use Rattle.mes_json.specs.Escape.{Escape, Move, hex_of, by_hex, short_of, pair_of, escape_step}
use Rattle.mes_json.specs.Escape.Escape.{backslash, unit0, unit1, unit2, unit3, high, high_backslash, low0, low1, low2, low3}
use Rattle.mes_json.specs.Escape.Move.{on, makes, refused}
use Rattle.mes_json.specs.Machine.{Frame, Purpose, Utf8State, State, lead, after_byte, on_quoted, in_string, in_escape, end_string}
use Rattle.mes_json.specs.Machine.Purpose.{for_name, for_value}
use Rattle.mes_json.specs.Machine.Utf8State.{between, within, escape}
use Rattle.mes_json.specs.Machine.ReaderState.{quoted}
use Rattle.mes_json.specs.Machine.State.{state}
use Rattle.mes_json.proofs.SoundLemmas.{some_is, none_some, pick}
use Rattle.mes_json.proofs.MeasureLemmas.{Measure, of_frames, of_purpose, of_escape, of_mid}
use Rattle.mes_json.proofs.PaidLemmas.{stand_in_escape, stand_in, IsSoundMid, Pays, Paid}

-- the byte after c is inside a string, if c is at the position `place`
abbrev Goes : Stand → ℕ → Type 0
Goes place c = inside ≡ following place c

within_string : (c : ℕ) → c ≢ 34 → c ≢ 92 → Goes inside c
within_string c q b =
    cond_both (c == 34) outside _ (λ x. inside ≡ x) (λ e. absurd (q (eqb-true c 34 e)))
    (λ _. cond_both (c == 92) escaped inside (λ x. inside ≡ x) (λ e. absurd (b (eqb-true c 92 e))) (λ _. refl))

-- a byte of an escape leads to the right position, and makes no more bytes than were read
abbrev Leads : Escape → ℕ → Move → Type 0
Leads e c (on next) = (stand_in_escape next ≡ following (stand_in_escape e) c) × (of_escape next ≤ of_escape e + 1)
Leads e c (makes v) = (inside ≡ following (stand_in_escape e) c) × (length (encode_utf8 v) ≤ of_escape e + 1)
Leads e c refused = Unit {0}

short : (v : ℕ) → v < 128 → length (encode_utf8 v) ≤ 2
short v small = omega (arith, length-encode v, len_utf8_ascii v small)

long : (v n : ℕ) → 4 ≤ n → length (encode_utf8 v) ≤ n
long v n enough = omega (arith, length-encode v, len_utf8_bounds v)

short_leads : (c : ℕ) → Leads backslash c (short_of c)
short_leads c =
    let P = λ (x : Move). Leads backslash c x in
    cond_both (c == 0x22) _ _ P (λ _. (refl, short 0x22 (omega arith))) (λ _.
    cond_both (c == 0x5C) _ _ P (λ _. (refl, short 0x5C (omega arith))) (λ _.
    cond_both (c == 0x2F) _ _ P (λ _. (refl, short 0x2F (omega arith))) (λ _.
    cond_both (c == 0x62) _ _ P (λ _. (refl, short 0x08 (omega arith))) (λ _.
    cond_both (c == 0x66) _ _ P (λ _. (refl, short 0x0C (omega arith))) (λ _.
    cond_both (c == 0x6E) _ _ P (λ _. (refl, short 0x0A (omega arith))) (λ _.
    cond_both (c == 0x72) _ _ P (λ _. (refl, short 0x0D (omega arith))) (λ _.
    cond_both (c == 0x74) _ _ P (λ _. (refl, short 0x09 (omega arith))) (λ _. tt))))))))

hex_tells : (c : ℕ) → (P : Option ℕ → Type 0) → ((x : ℕ) → Goes inside c → P (Some x)) → P None → P (hex_of c)
hex_tells c P some none =
    cond_both (nat_le 48 c && nat_le c 57) _ _ P (λ e. some (c - 48) (within_string c (λ q. absurd (grind (arith, nat_tests))) (λ b. absurd (grind (arith, nat_tests))))) (λ _.
    cond_both (nat_le 65 c && nat_le c 70) _ _ P (λ e. some (c - 55) (within_string c (λ q. absurd (grind (arith, nat_tests))) (λ b. absurd (grind (arith, nat_tests))))) (λ _.
    cond_both (nat_le 97 c && nat_le c 102) _ _ P (λ e. some (c - 87) (within_string c (λ q. absurd (grind (arith, nat_tests))) (λ b. absurd (grind (arith, nat_tests))))) (λ _. none)))

by_digit : (e : Escape) (c : ℕ) (f : ℕ → Move) → ((x : ℕ) → Goes inside c → Leads e c (f x)) → Leads e c (by_hex (hex_of c) f)
by_digit e c f h = hex_tells c (λ (o : Option ℕ). Leads e c (by_hex o f)) h tt

by_byte : (e : Escape) (c d : ℕ) (next : Escape) → (c ≡ d → Leads e c (on next)) → Leads e c (if c == d then on next else refused)
by_byte e c d next h = cond_both (c == d) (on next) refused (λ x. Leads e c x) (λ t. h (eqb-true c d t)) (λ _. tt)

escape_leads : (e : Escape) (c : ℕ) → Leads e c (escape_step e c)
escape_leads backslash c = cond_both (c == 117) (on unit0) (short_of c) (λ x. Leads backslash c x) (λ _. (refl, omega arith)) (λ _. short_leads c)
escape_leads unit0 c = by_digit unit0 c _ (λ x g. (g, omega arith))
escape_leads (unit1 v) c =
    by_digit (unit1 v) c _ (λ x g. cond_both (nat_le 0xDC (v * 16 + x) && nat_le (v * 16 + x) 0xDF) refused _ (λ y. Leads (unit1 v) c y) (λ _. tt) (λ _. (g, omega arith)))
escape_leads (unit2 v) c = by_digit (unit2 v) c _ (λ x g. (g, omega arith))
escape_leads (unit3 v) c =
    by_digit (unit3 v) c _ (λ x g. cond_both (nat_le 0xD800 (v * 16 + x) && nat_le (v * 16 + x) 0xDBFF) (on (high (v * 16 + x))) (makes (v * 16 + x)) (λ y. Leads (unit3 v) c y)
    (λ _. (g, omega arith)) (λ _. (g, long (v * 16 + x) _ (omega arith))))
escape_leads (high h) c = by_byte (high h) c 92 _ (λ is. (sym (ap (following inside) is), omega arith))
escape_leads (high_backslash h) c = by_byte (high_backslash h) c 117 _ (λ is. (refl, omega arith))
escape_leads (low0 h) c = by_digit (low0 h) c _ (λ x g. cond_both (x == 13) (on (low1 h)) refused (λ y. Leads (low0 h) c y) (λ _. (g, omega arith)) (λ _. tt))
escape_leads (low1 h) c = by_digit (low1 h) c _ (λ x g. cond_both (nat_le 12 x) (on (low2 h (13 * 16 + x))) refused (λ y. Leads (low1 h) c y) (λ _. (g, omega arith)) (λ _. tt))
escape_leads (low2 h v) c = by_digit (low2 h v) c _ (λ x g. (g, omega arith))
escape_leads (low3 h v) c = by_digit (low3 h v) c _ (λ x g. (g, long (pair_of h (v * 16 + x)) _ (omega arith)))

IsIn : Option Utf8State → Type 0
IsIn None = Unit {0}
IsIn (Some mid) = (stand_in mid ≡ inside) × (of_mid mid ≡ 0) × IsSoundMid mid

either : (t : Bool) (o u : Option Utf8State) → IsIn o → IsIn u → IsIn (if t then o else u)
either true o u h k = h
either false o u h k = k

lead_in : (c : ℕ) → IsIn (lead c)
unfolding IsIn
lead_in c =
    either (nat_lt c 0x80) _ _ (refl, refl, tt) (either (nat_lt c 0xC2) _ _ tt (either (nat_lt c 0xE0) _ _ (refl, refl, omega arith) (either (c == 0xE0) _ _ (refl, refl, omega arith)
    (either (c == 0xED) _ _ (refl, refl, omega arith) (either (nat_lt c 0xF0) _ _ (refl, refl, omega arith) (either (c == 0xF0) _ _ (refl, refl, omega arith)
    (either (nat_lt c 0xF4) _ _ (refl, refl, omega arith) (either (c == 0xF4) _ _ (refl, refl, omega arith) tt))))))))

after_byte_in : (n : ℕ) → (stand_in (after_byte n) ≡ inside) × (of_mid (after_byte n) ≡ 0) × IsSoundMid (after_byte n)
after_byte_in zero = (refl, refl, tt)
after_byte_in (suc zero) = (refl, refl, tt)
after_byte_in (suc (suc n)) = (refl, refl, omega arith)

byte_paid : (m : Measure) (cost : Stand → ℕ → ℕ) (fs : List Frame) (p : Purpose) (from to : Utf8State) (s : List ℕ) (c : ℕ) → Pays m cost → stand_in from ≡ inside → of_mid from ≡ 0 → c ≢ 34 → c ≢ 92
    → (stand_in to ≡ inside) × (of_mid to ≡ 0) × IsSoundMid to
    → Paid m cost c (state fs (quoted p from s)) (state fs (quoted p to (s ++ c ∷ [])))
byte_paid m cost fs p from to s c pays represents none q b is = (
  is.0 ∙ within_string c q b ∙ ap (λ (x : Stand). following x c) (sym represents),
  subst (λ (x : Stand). of_frames m fs + (of_purpose m p + m.text (s ++ c ∷ []) + of_mid to) ≤ of_frames m fs + (of_purpose m p + m.text s + of_mid from) + cost x c) (sym represents)
      (omega (arith, pays.more s (c ∷ []), pays.in_string c q, is.1, none)),
  is.2,
)

in_string_paid : (m : Measure) (cost : Stand → ℕ → ℕ) (fs : List Frame) (p : Purpose) (s : List ℕ) (c : ℕ) (next : State) (o : Option Utf8State) → Pays m cost → c ≢ 34 → c ≢ 92 → IsIn o
    → in_string fs p s c o ≡ Some next → Paid m cost c (state fs (quoted p between s)) next
unfolding IsIn
in_string_paid m cost fs p s c next None pays q b is e = none_some e
in_string_paid m cost fs p s c next (Some mid) pays q b is e =
    subst (λ (x : State). Paid m cost c (state fs (quoted p between s)) x) (some_is e) (byte_paid m cost fs p between mid s c pays refl refl q b is)

end_paid : (m : Measure) (cost : Stand → ℕ → ℕ) (fs : List Frame) (p : Purpose) (s : List ℕ) (c : ℕ) → c ≡ 34 → Paid m cost c (state fs (quoted p between s)) (end_string fs p s)
end_paid m cost fs (for_name ms) s c is = (sym (ap (following inside) is), omega arith, tt)
end_paid m cost fs for_value s c is = (sym (ap (following inside) is), omega arith, tt)

backslash_paid : (m : Measure) (cost : Stand → ℕ → ℕ) (fs : List Frame) (p : Purpose) (s : List ℕ) (c : ℕ) → Pays m cost → c ≢ 34 → c ≡ 92
    → Paid m cost c (state fs (quoted p between s)) (state fs (quoted p (escape backslash) s))
backslash_paid m cost fs p s c pays q is = (sym (ap (following inside) is), omega (arith, pays.in_string c q), tt)

escape_costs : (m : Measure) (cost : Stand → ℕ → ℕ) (e : Escape) (c : ℕ) → Pays m cost → (stand_in_escape e ≡ inside → c ≢ 34) → 1 ≤ cost (stand_in_escape e) c
escape_costs m cost backslash c pays q = pays.in_escape c
escape_costs m cost unit0 c pays q = pays.in_string c (q refl)
escape_costs m cost (unit1 v) c pays q = pays.in_string c (q refl)
escape_costs m cost (unit2 v) c pays q = pays.in_string c (q refl)
escape_costs m cost (unit3 v) c pays q = pays.in_string c (q refl)
escape_costs m cost (high h) c pays q = pays.in_string c (q refl)
escape_costs m cost (high_backslash h) c pays q = pays.in_escape c
escape_costs m cost (low0 h) c pays q = pays.in_string c (q refl)
escape_costs m cost (low1 h) c pays q = pays.in_string c (q refl)
escape_costs m cost (low2 h v) c pays q = pays.in_string c (q refl)
escape_costs m cost (low3 h v) c pays q = pays.in_string c (q refl)

-- if a byte and the next one are both inside a string, the first is no quotation mark
no_quote : (c : ℕ) (place next : Stand) → place ≡ inside → (next ≡ outside → ⊥) → next ≡ following place c → c ≢ 34
no_quote c place next inside_is other goes is = other (goes ∙ ap (λ (x : Stand). following x c) inside_is ∙ ap (following inside) is)

in_some_string : (e : Escape) → stand_in_escape e ≡ outside → ⊥
in_some_string backslash is = cc
in_some_string unit0 is = cc
in_some_string (unit1 v) is = cc
in_some_string (unit2 v) is = cc
in_some_string (unit3 v) is = cc
in_some_string (high h) is = cc
in_some_string (high_backslash h) is = cc
in_some_string (low0 h) is = cc
in_some_string (low1 h) is = cc
in_some_string (low2 h v) is = cc
in_some_string (low3 h v) is = cc

in_escape_paid : (m : Measure) (cost : Stand → ℕ → ℕ) (fs : List Frame) (p : Purpose) (e : Escape) (s : List ℕ) (c : ℕ) (next : State) (move : Move) → Pays m cost → Leads e c move
    → in_escape fs p s move ≡ Some next → Paid m cost c (state fs (quoted p (escape e) s)) next
in_escape_paid m cost fs p e s c next (on x) pays leads is =
    let paid = escape_costs m cost e c pays (λ place. no_quote c (stand_in_escape e) (stand_in_escape x) place (in_some_string x) leads.0) in
    subst (λ (t : State). Paid m cost c (state fs (quoted p (escape e) s)) t) (some_is is) (leads.0, omega (arith, leads.1, paid), tt)
in_escape_paid m cost fs p e s c next (makes v) pays leads is =
    let paid = escape_costs m cost e c pays (λ place. no_quote c (stand_in_escape e) inside place (λ o. cc) leads.0) in
    subst (λ (t : State). Paid m cost c (state fs (quoted p (escape e) s)) t) (some_is is) (leads.0, omega (arith, leads.1, paid, pays.more s (encode_utf8 v)), tt)
in_escape_paid m cost fs p e s c next refused pays leads is = none_some is

pub paid_quoted : (m : Measure) (cost : Stand → ℕ → ℕ) (fs : List Frame) (p : Purpose) (mid : Utf8State) (s : List ℕ) (c : ℕ) (next : State) → Pays m cost → IsSoundMid mid
    → on_quoted fs p mid s c ≡ Some next → Paid m cost c (state fs (quoted p mid s)) next
paid_quoted m cost fs p between s c next pays sound e =
    elim (pick (c == 34) _ _ next e) [
      | inl f ↦ subst (λ (x : State). Paid m cost c (state fs (quoted p between s)) x) (some_is f.1) (end_paid m cost fs p s c (eqb-true c 34 f.0))
      | inr f ↦ elim (pick (c == 92) _ _ next f.1) [
        | inl g ↦ subst (λ (x : State). Paid m cost c (state fs (quoted p between s)) x) (some_is g.1) (backslash_paid m cost fs p s c pays (eqb-false c 34 f.0) (eqb-true c 92 g.0))
        | inr g ↦ elim (pick (nat_lt c 32) _ _ next g.1) [
          | inl k ↦ none_some k.1
          | inr k ↦ in_string_paid m cost fs p s c next (lead c) pays (eqb-false c 34 f.0) (eqb-false c 92 g.0) (lead_in c) k.1
        ]
      ]
    ]
paid_quoted m cost fs p (within n least most) s c next pays sound e =
    elim (pick (nat_le least c && nat_le c most) _ _ next e) [
      | inl f ↦
          let above : least ≤ c = at_least f.0 in
          subst (λ (x : State). Paid m cost c (state fs (quoted p (within n least most) s)) x) (some_is f.1)
          (byte_paid m cost fs p (within n least most) (after_byte n) s c pays refl refl (λ q. omega arith) (λ b. omega arith) (after_byte_in n))
      | inr f ↦ none_some f.1
    ]
  where
    at_least : (nat_le least c && nat_le c most) ≡ true → least ≤ c
    at_least f = grind (arith, nat_tests)
paid_quoted m cost fs p (escape x) s c next pays sound e = in_escape_paid m cost fs p x s c next (escape_step x c) pays (escape_leads x c) e
