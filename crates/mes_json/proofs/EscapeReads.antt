-- Completeness: runs of the state machine over an escape.
use Rattle.std.proofs.Common.{◌≡◌, ℕ, ◌+◌, ◌*◌, ◌<◌, ◌≤◌, ◌⊎◌, inl, inr, if◌then◌else◌, ◌==◌, nat_le, List, [], ◌∷◌, ◌++◌, refl, ap, sym, ◌∙◌, subst, arith, encode_utf8}
use Rattle.std.proofs.lemmas.Bool.Decides.{nat_tests}
use Rattle.std.proofs.Math.Utf8.{scalar_cases}
use Rattle.std.specs.Char.{IsScalar}
use Rattle.mes_json.specs.Grammar.{IsHex, IsHex4, IsShort, IsChar}
use Rattle.mes_json.specs.Grammar.IsShort.{quotation_mark, reverse_solidus, solidus, backspace, form_feed, line_feed, carriage_return, tab}
use Rattle.mes_json.specs.Grammar.IsChar.{unescaped, short, escaped, pair}
use Rattle.mes_json.specs.Escape.{Escape, Move, escape_step, hex_of, by_hex, four_digits, pair_of}
use Rattle.mes_json.specs.Escape.Escape.{backslash, unit0, unit1, unit2, unit3, high, high_backslash, low0, low1, low2, low3}
use Rattle.mes_json.specs.Escape.Move.{on, makes, refused}
use Rattle.mes_json.specs.Machine.{State, Frame, Purpose, in_escape}
use Rattle.mes_json.specs.Machine.State.{state}
use Rattle.mes_json.specs.Machine.ReaderState.{quoted}
use Rattle.mes_json.specs.Machine.Utf8State.{between, escape}
use Rattle.mes_json.proofs.Reach.{Reaches, by_byte, then_to}
use Rattle.mes_json.proofs.HexLemmas.{by_range, hex_below, hex_some, two_on, four_on, four_makes}
use Rattle.mes_json.proofs.HeldEscape.{InEscape}
use Rattle.mes_json.proofs.Utf8Lemmas.{over_unescaped}

hex_to : (c v : ℕ) (f : ℕ → Move) (m : Move) → IsHex c v → f v ≡ m → by_hex (hex_of c) f ≡ m
hex_to c v f m h e = ap (λ o. by_hex o f) (hex_some c v h) ∙ e

module _ (d : ℕ) (fs : List Frame) (p : Purpose) (w : List ℕ) where
  abbrev within_escape : Escape → State
  within_escape e = state fs (quoted p (escape e) w)

  abbrev following : ℕ → State
  following c = state fs (quoted p between (w ++ encode_utf8 c))

  over_on : (e next : Escape) (last : State) (c : ℕ) (b : List ℕ) → escape_step e c ≡ on next → Reaches d (within_escape next) b last → Reaches d (within_escape e) (c ∷ b) last
  over_on e next last c b h f = then_to d _ _ _ (c ∷ []) b (by_byte d _ _ c (ap (in_escape fs p w) h)) f

  over_makes : (e : Escape) (c v : ℕ) → escape_step e c ≡ makes v → Reaches d (within_escape e) (c ∷ []) (following v)
  over_makes e c v h = by_byte d _ _ c (ap (in_escape fs p w) h)

  over_short : (letter c : ℕ) → IsShort letter c → Reaches d (within_escape backslash) (letter ∷ []) (following c)
  over_short _ _ quotation_mark = over_makes backslash 0x22 0x22 refl
  over_short _ _ reverse_solidus = over_makes backslash 0x5C 0x5C refl
  over_short _ _ solidus = over_makes backslash 0x2F 0x2F refl
  over_short _ _ backspace = over_makes backslash 0x62 0x08 refl
  over_short _ _ form_feed = over_makes backslash 0x66 0x0C refl
  over_short _ _ line_feed = over_makes backslash 0x6E 0x0A refl
  over_short _ _ carriage_return = over_makes backslash 0x72 0x0D refl
  over_short _ _ tab = over_makes backslash 0x74 0x09 refl

  over_three : (c0 c1 c2 v0 v1 v2 v : ℕ) (b : List ℕ) (last : State) → IsHex c0 v0 → IsHex c1 v1 → IsHex c2 v2 → (v0 * 16 + v1 < 0xDC) ⊎ (0xE0 ≤ v0 * 16 + v1)
      → v ≡ (v0 * 16 + v1) * 16 + v2 → Reaches d (within_escape (unit3 v)) b last → Reaches d (within_escape unit0) (c0 ∷ c1 ∷ c2 ∷ b) last
  over_three c0 c1 c2 v0 v1 v2 v b last h0 h1 h2 r e f =
      over_on unit0 (unit1 v0) last c0 (c1 ∷ c2 ∷ b) (hex_to c0 v0 _ _ h0 refl)
      (over_on (unit1 v0) (unit2 (v0 * 16 + v1)) last c1 (c2 ∷ b) (hex_to c1 v1 _ _ h1 (two_on (v0 * 16 + v1) r))
      (over_on (unit2 (v0 * 16 + v1)) (unit3 v) last c2 b (hex_to c2 v2 _ _ h2 (ap (λ n. on (unit3 n)) (sym e))) f))

  over_escaped : (b : List ℕ) (c : ℕ) → IsHex4 b c → IsScalar c → Reaches d (within_escape unit0) b (following c)
  over_escaped b c h is =
      subst (λ (u : List ℕ). Reaches d (within_escape unit0) u (following c)) (sym h.is)
      (over_three h.c0 h.c1 h.c2 h.v0 h.v1 h.v2 v (h.c3 ∷ []) (following c) h.d0 h.d1 h.d2 (range (scalar_cases c is)) refl
      (over_makes (unit3 v) h.c3 c (hex_to h.c3 h.v3 _ _ h.d3 (ap four_digits sum ∙ four_makes c (no_high (scalar_cases c is))))))
    where
      v : ℕ
      v = (h.v0 * 16 + h.v1) * 16 + h.v2

      sum : v * 16 + h.v3 ≡ c
      sum = omega (arith, h.value)

      no_high : (c < 0xD800) ⊎ ((0xE000 ≤ c) × (c < 0x11_0000)) → (c < 0xD800) ⊎ (0xDBFF < c)
      no_high (inl k) = inl k
      no_high (inr k) = inr (omega arith)

      range : (c < 0xD800) ⊎ ((0xE000 ≤ c) × (c < 0x11_0000)) → (h.v0 * 16 + h.v1 < 0xDC) ⊎ (0xE0 ≤ h.v0 * 16 + h.v1)
      range (inl k) = inl (omega (arith, h.value))
      range (inr k) = inr (omega (arith, h.value, hex_below h.c2 h.v2 h.d2, hex_below h.c3 h.v3 h.d3))

  over_first : (b q : List ℕ) (c : ℕ) (last : State) → IsHex4 b c → 0xD800 ≤ c → c ≤ 0xDBFF → Reaches d (within_escape (high c)) q last
      → Reaches d (within_escape unit0) (b ++ q) last
  over_first b q c last h least most f =
      subst (λ (u : List ℕ). Reaches d (within_escape unit0) (u ++ q) last) (sym h.is)
      (over_three h.c0 h.c1 h.c2 h.v0 h.v1 h.v2 v (h.c3 ∷ q) last h.d0 h.d1 h.d2 (inl (omega (arith, h.value))) refl
      (over_on (unit3 v) (high c) last h.c3 q (hex_to h.c3 h.v3 _ _ h.d3 (ap four_digits sum ∙ four_on c least most)) f))
    where
      v : ℕ
      v = (h.v0 * 16 + h.v1) * 16 + h.v2

      sum : v * 16 + h.v3 ≡ c
      sum = omega (arith, h.value)

  over_second : (first : ℕ) (b : List ℕ) (c : ℕ) → IsHex4 b c → 0xDC00 ≤ c → c ≤ 0xDFFF → Reaches d (within_escape (low0 first)) b (following (pair_of first c))
  over_second first b c h least most =
      subst (λ (u : List ℕ). Reaches d (within_escape (low0 first)) u (following (pair_of first c))) (sym h.is)
      (over_on (low0 first) (low1 first) _ h.c0 (h.c1 ∷ h.c2 ∷ h.c3 ∷ []) (hex_to h.c0 h.v0 _ _ h.d0 (is_d h.v0 d0))
      (over_on (low1 first) (low2 first (13 * 16 + h.v1)) _ h.c1 (h.c2 ∷ h.c3 ∷ []) (hex_to h.c1 h.v1 _ _ h.d1 (is_low h.v1 d1))
      (over_on (low2 first (13 * 16 + h.v1)) (low3 first v) _ h.c2 (h.c3 ∷ []) (hex_to h.c2 h.v2 _ _ h.d2 refl)
      (over_makes (low3 first v) h.c3 (pair_of first c) (hex_to h.c3 h.v3 _ _ h.d3 (ap (λ n. makes (pair_of first n)) sum))))))
    where
      v : ℕ
      v = (13 * 16 + h.v1) * 16 + h.v2

      d0 : h.v0 ≡ 13
      d0 = omega (arith, h.value, hex_below h.c0 h.v0 h.d0, hex_below h.c1 h.v1 h.d1, hex_below h.c2 h.v2 h.d2, hex_below h.c3 h.v3 h.d3)

      d1 : 12 ≤ h.v1
      d1 = omega (arith, h.value, d0, hex_below h.c2 h.v2 h.d2, hex_below h.c3 h.v3 h.d3)

      sum : v * 16 + h.v3 ≡ c
      sum = omega (arith, h.value, d0)

      is_d : (n : ℕ) → n ≡ 13 → (if n == 13 then on (low1 first) else refused) ≡ on (low1 first)
      is_d n e = ap (λ m. if m == 13 then on (low1 first) else refused) e

      is_low : (n : ℕ) → 12 ≤ n → (if nat_le 12 n then on (low2 first (13 * 16 + n)) else refused) ≡ on (low2 first (13 * 16 + n))
      is_low n l = grind (arith, nat_tests)

  over_pair : (a b : List ℕ) (first second : ℕ) → IsHex4 a first → IsHex4 b second → 0xD800 ≤ first → first ≤ 0xDBFF → 0xDC00 ≤ second → second ≤ 0xDFFF
      → Reaches d (within_escape unit0) (a ++ 92 ∷ 117 ∷ b) (following (pair_of first second))
  over_pair a b first second h k l m l' m' =
      over_first a (92 ∷ 117 ∷ b) first _ h l m
      (over_on (high first) (high_backslash first) _ 92 (117 ∷ b) refl
      (over_on (high_backslash first) (low0 first) _ 117 b refl (over_second first b second k l' m')))

  over_backslash : (q : List ℕ) (last : State) → Reaches d (within_escape backslash) q last → Reaches d (state fs (quoted p between w)) (92 ∷ q) last
  over_backslash q last f = then_to d _ _ _ (92 ∷ []) q (by_byte d _ _ 92 refl) f

  -- a character, with or without an escape, leads from between characters to between characters
  pub over_char : (b : List ℕ) (c : ℕ) → IsChar b c → Reaches d (state fs (quoted p between w)) b (following c)
  over_char b c (unescaped is l q n e) = over_unescaped d fs p w b c is l q n e
  over_char b c (short letter h e) =
      subst (λ (u : List ℕ). Reaches d (state fs (quoted p between w)) u (following c)) (sym e) (over_backslash (letter ∷ []) _ (over_short letter c h))
  over_char b c (escaped digits h is e) =
      subst (λ (u : List ℕ). Reaches d (state fs (quoted p between w)) u (following c)) (sym e)
      (over_backslash (117 ∷ digits) _ (over_on backslash unit0 _ 117 digits refl (over_escaped digits c h is)))
  over_char b c (pair first second upper lower h k l m l' m' is e) =
      subst (λ (u : List ℕ). Reaches d (state fs (quoted p between w)) u (following c)) (sym e)
      (subst (λ (n : ℕ). Reaches d (state fs (quoted p between w)) (92 ∷ 117 ∷ (first ++ 92 ∷ 117 ∷ second)) (following n)) (sym is)
      (over_backslash (117 ∷ (first ++ 92 ∷ 117 ∷ second)) _
      (over_on backslash unit0 _ 117 (first ++ 92 ∷ 117 ∷ second) refl (over_pair first second upper lower h k l m l' m'))))

  abbrev Closes : Escape → Type 0
  Closes e = (q : List ℕ) × (c : ℕ) × Reaches d (within_escape e) q (following c)

  abbrev MoveCloses : Move → Type 0
  MoveCloses (on e) = Closes e
  MoveCloses (makes c) = Unit {0}
  MoveCloses refused = ⊥

  by_move : (e : Escape) (c : ℕ) → MoveCloses (escape_step e c) → Closes e
  by_move e c f = by (escape_step e c) refl f
    where
      by : (m : Move) → escape_step e c ≡ m → MoveCloses m → Closes e
      by (on next) h k = (c ∷ k.0, k.1, over_on e next (following k.1) c k.0 h k.2)
      by (makes v) h k = (c ∷ [], v, over_makes e c v h)
      by refused h k = absurd k

  -- the digits that complete an escape: 0 for each, but D and C for the first two of a low
  -- surrogate
  closes_low3 : (v x : ℕ) → Closes (low3 v x)
  closes_low3 v x = by_move (low3 v x) 48 tt

  closes_low2 : (v x : ℕ) → Closes (low2 v x)
  closes_low2 v x = by_move (low2 v x) 48 (closes_low3 v (x * 16 + 0))

  closes_low1 : (v : ℕ) → Closes (low1 v)
  closes_low1 v = by_move (low1 v) 67 (closes_low2 v (13 * 16 + 12))

  closes_low0 : (v : ℕ) → Closes (low0 v)
  closes_low0 v = by_move (low0 v) 68 (closes_low1 v)

  closes_high_backslash : (v : ℕ) → Closes (high_backslash v)
  closes_high_backslash v = by_move (high_backslash v) 117 (closes_low0 v)

  closes_high : (v : ℕ) → Closes (high v)
  closes_high v = by_move (high v) 92 (closes_high_backslash v)

  closes_unit3 : (v : ℕ) → Closes (unit3 v)
  closes_unit3 v = by_move (unit3 v) 48 (by_range MoveCloses 0xD800 (v * 16 + 0) 0xDBFF _ _ (λ _. closes_high (v * 16 + 0)) (λ _. tt))

  closes_unit2 : (v : ℕ) → Closes (unit2 v)
  closes_unit2 v = by_move (unit2 v) 48 (closes_unit3 (v * 16 + 0))

  closes_unit1 : (v : ℕ) → Closes (unit1 v)
  closes_unit1 v = by_move (unit1 v) 48 (by_range MoveCloses 0xDC (v * 16 + 0) 0xDF _ _ (λ h. omega arith) (λ _. closes_unit2 (v * 16 + 0)))

  closes_any : (e : Escape) → Closes e
  closes_any backslash = by_move backslash 34 tt
  closes_any unit0 = by_move unit0 48 (closes_unit1 0)
  closes_any (unit1 v) = closes_unit1 v
  closes_any (unit2 v) = closes_unit2 v
  closes_any (unit3 v) = closes_unit3 v
  closes_any (high v) = closes_high v
  closes_any (high_backslash v) = closes_high_backslash v
  closes_any (low0 v) = closes_low0 v
  closes_any (low1 v) = closes_low1 v
  closes_any (low2 v x) = closes_low2 v x
  closes_any (low3 v x) = closes_low3 v x

  pub escape_closes : (e : Escape) (part : List ℕ) → InEscape e part → (q : List ℕ) × (c : ℕ) × Reaches d (within_escape e) q (following c)
  escape_closes e part h = closes_any e
