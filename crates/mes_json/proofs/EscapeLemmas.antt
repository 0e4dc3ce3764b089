-- Escapes: each step of the state machine over a byte, in terms of the grammar of RFC 8259.
use Rattle.std.proofs.Common.{◌≡◌, ℕ, ◌+◌, ◌*◌, ◌<◌, ◌≤◌, ◌⊎◌, inl, inr, Bool, true, false, if◌then◌else◌, ◌==◌, nat_le, List, [], ◌∷◌, ◌++◌, refl, ap, ◌∙◌, subst, arith, append_assoc, eqb-true}
use Rattle.std.proofs.lemmas.Bool.{leb-true}
use Rattle.std.specs.Char.{IsScalar}
use Rattle.mes_json.specs.Grammar.{IsHex, IsHex4, IsShort, IsChar}
use Rattle.mes_json.specs.Grammar.IsShort.{quotation_mark, reverse_solidus, solidus, backspace, form_feed, line_feed, carriage_return, tab}
use Rattle.mes_json.specs.Grammar.IsChar.{unescaped, short, escaped, pair}
use Rattle.mes_json.specs.Escape.{Escape, Move, short_of, four_digits, pair_of, escape_step, HasBounds}
use Rattle.mes_json.specs.Escape.Escape.{backslash, unit0, unit1, unit2, unit3, high, high_backslash, low0, low1, low2, low3}
use Rattle.mes_json.specs.Escape.Move.{on, makes, refused}
use Rattle.mes_json.proofs.HeldEscape.{InEscape, Digits1, Digits2, Digits3, IsHighUnit}
use Rattle.mes_json.proofs.HexLemmas.{by_range, by_digit, hex_below, hex4_below, scalar_from}
pub use Rattle.mes_json.proofs.EscapeReads.{over_char, escape_closes}

-- the form of the bytes of an escape whose last byte had the effect `Move`
abbrev pub MoveIs : Move → List ℕ → Type 0
MoveIs (on e) part = InEscape e part
MoveIs (makes c) part = IsChar part c
MoveIs refused part = Unit {0}

abbrev Following : List ℕ → ℕ → Move → Type 0
Following part c m = MoveIs m (part ++ c ∷ [])

put : (front part q : List ℕ) (c : ℕ) → part ≡ front ++ q → part ++ c ∷ [] ≡ front ++ (q ++ c ∷ [])
put front part q c e = ap (λ b. b ++ c ∷ []) e ∙ append_assoc front q (c ∷ [])

digit_one : (front part : List ℕ) (c v : ℕ) → part ≡ front → IsHex c v → Digits1 front (part ++ c ∷ []) v
digit_one front part c v e h = record { c0 = c; is = ap (λ b. b ++ c ∷ []) e; d0 = h }

digit_two : (front part : List ℕ) (c v x : ℕ) → Digits1 front part v → IsHex c x → Digits2 front (part ++ c ∷ []) (v * 16 + x)
digit_two front part c v x h k =
    record { c0 = h.c0; c1 = c; v0 = v; v1 = x; is = put front part (h.c0 ∷ []) c h.is; d0 = h.d0; d1 = k; value = refl }

digit_three : (front part : List ℕ) (c v x : ℕ) → Digits2 front part v → IsHex c x → Digits3 front (part ++ c ∷ []) (v * 16 + x)
digit_three front part c v x h k =
    record {
      c0 = h.c0;
      c1 = h.c1;
      c2 = c;
      v0 = h.v0;
      v1 = h.v1;
      v2 = x;
      is = put front part (h.c0 ∷ h.c1 ∷ []) c h.is;
      d0 = h.d0;
      d1 = h.d1;
      d2 = k;
      value = omega (arith, h.value);
    }

record Digits4 (front part : List ℕ) (v : ℕ) : Type 0 where
  digits : List ℕ
  is : part ≡ front ++ digits
  hex : IsHex4 digits v

digit_four : (front part : List ℕ) (c v x : ℕ) → Digits3 front part v → IsHex c x → Digits4 front (part ++ c ∷ []) (v * 16 + x)
digit_four front part c v x h k =
    record {
      digits = h.c0 ∷ h.c1 ∷ h.c2 ∷ c ∷ [];
      is = put front part (h.c0 ∷ h.c1 ∷ h.c2 ∷ []) c h.is;
      hex = record {
        c0 = h.c0;
        c1 = h.c1;
        c2 = h.c2;
        c3 = c;
        v0 = h.v0;
        v1 = h.v1;
        v2 = h.v2;
        v3 = x;
        is = refl;
        d0 = h.d0;
        d1 = h.d1;
        d2 = h.d2;
        d3 = k;
        value = omega (arith, h.value);
      };
    }

-- ---- soundness: each byte of an escape leads to bytes of the form `MoveIs`
by_equal : {A : Type 0} (P : A → Type 0) (c e : ℕ) (x y : A) → (c ≡ e → P x) → P y → P (if c == e then x else y)
by_equal P c e x y f k = by (c == e) (λ h. f (eqb-true c e h))
  where
    by : (b : Bool) → (b ≡ true → P x) → P (if b then x else y)
    by true g = g refl
    by false g = k

by_least : {A : Type 0} (P : A → Type 0) (l c : ℕ) (x y : A) → (l ≤ c → P x) → P y → P (if nat_le l c then x else y)
by_least P l c x y f k = by (nat_le l c) (λ h. f (leb-true l c h))
  where
    by : (b : Bool) → (b ≡ true → P x) → P (if b then x else y)
    by true g = g refl
    by false g = k

short_sound : (part : List ℕ) (c : ℕ) → part ≡ 92 ∷ [] → MoveIs (short_of c) (part ++ c ∷ [])
short_sound part c e =
    by_equal (Following part c) c 0x22 _ _ (at 0x22 0x22 quotation_mark)
    (by_equal (Following part c) c 0x5C _ _ (at 0x5C 0x5C reverse_solidus)
    (by_equal (Following part c) c 0x2F _ _ (at 0x2F 0x2F solidus)
    (by_equal (Following part c) c 0x62 _ _ (at 0x62 0x08 backspace)
    (by_equal (Following part c) c 0x66 _ _ (at 0x66 0x0C form_feed)
    (by_equal (Following part c) c 0x6E _ _ (at 0x6E 0x0A line_feed)
    (by_equal (Following part c) c 0x72 _ _ (at 0x72 0x0D carriage_return)
    (by_equal (Following part c) c 0x74 _ _ (at 0x74 0x09 tab) tt)))))))
  where
    at : (letter v : ℕ) → IsShort letter v → c ≡ letter → IsChar (part ++ c ∷ []) v
    at letter v h k = short letter h (ap (λ b. b ++ c ∷ []) e ∙ ap (λ x. 92 ∷ x ∷ []) k)

unit_sound : (part : List ℕ) (c v x : ℕ) → Digits3 (92 ∷ 117 ∷ []) part v → (v < 0xDC0) ⊎ (0xE00 ≤ v) → IsHex c x → MoveIs (four_digits (v * 16 + x)) (part ++ c ∷ [])
unit_sound part c v x h r k =
    by_range (Following part c) 0xD800 (v * 16 + x) 0xDBFF _ _
    (λ l. record { digits = four.digits; is = four.is; hex = four.hex; least = l.0; most = l.1 })
    (λ l. escaped four.digits four.hex (scalar_from (v * 16 + x) (range r l)) four.is)
  where
    four : Digits4 (92 ∷ 117 ∷ []) (part ++ c ∷ []) (v * 16 + x)
    four = digit_four (92 ∷ 117 ∷ []) part c v x h k

    range : (v < 0xDC0) ⊎ (0xE00 ≤ v) → (v * 16 + x < 0xD800) ⊎ (0xDBFF < v * 16 + x) → (v * 16 + x < 0xD800) ⊎ ((0xE000 ≤ v * 16 + x) × (v * 16 + x < 0x11_0000))
    range _ (inl l) = inl l
    range (inl n) (inr l) = absurd (omega (arith, hex_below c x k))
    range (inr n) (inr l) = inr (omega arith, omega (arith, hex4_below four.digits (v * 16 + x) four.hex))

pair_sound : (whole part : List ℕ) (c first v x : ℕ) → IsHighUnit first whole → Digits3 (whole ++ 92 ∷ 117 ∷ []) part v → 0xDC0 ≤ v → v ≤ 0xDFF → IsHex c x
    → IsChar (part ++ c ∷ []) (pair_of first (v * 16 + x))
pair_sound whole part c first v x u h l m k =
    pair u.digits four.digits first (v * 16 + x) u.hex four.hex u.least u.most (omega arith) (omega (arith, hex_below c x k)) refl
    (four.is ∙ ap (λ b. (b ++ 92 ∷ 117 ∷ []) ++ four.digits) u.is ∙ ap (λ b. 92 ∷ 117 ∷ b) (append_assoc u.digits (92 ∷ 117 ∷ []) four.digits))
  where
    four : Digits4 (whole ++ 92 ∷ 117 ∷ []) (part ++ c ∷ []) (v * 16 + x)
    four = digit_four (whole ++ 92 ∷ 117 ∷ []) part c v x h k

pub escape_sound : (e : Escape) (part : List ℕ) (c : ℕ) → InEscape e part → MoveIs (escape_step e c) (part ++ c ∷ [])
escape_sound backslash part c h =
    by_equal (Following part c) c 117 _ _ (λ k. ap (λ b. b ++ c ∷ []) h ∙ ap (λ x. 92 ∷ x ∷ []) k) (short_sound part c h)
escape_sound unit0 part c h = by_digit (Following part c) c _ tt (λ x k. digit_one (92 ∷ 117 ∷ []) part c x h k)
escape_sound (unit1 v) part c h =
    by_digit (Following part c) c _ tt
    (λ x k. by_range (Following part c) 0xDC (v * 16 + x) 0xDF _ _ (λ _. tt) (λ l. (digit_two (92 ∷ 117 ∷ []) part c v x h k, other (v * 16 + x) l)))
  where
    other : (n : ℕ) → (n < 0xDC) ⊎ (0xDF < n) → (n < 0xDC) ⊎ (0xE0 ≤ n)
    other n (inl l) = inl l
    other n (inr l) = inr (omega arith)
escape_sound (unit2 v) part c h = by_digit (Following part c) c _ tt (λ x k. (digit_three (92 ∷ 117 ∷ []) part c v x h.0 k, other x k h.1))
  where
    other : (x : ℕ) → IsHex c x → (v < 0xDC) ⊎ (0xE0 ≤ v) → (v * 16 + x < 0xDC0) ⊎ (0xE00 ≤ v * 16 + x)
    other x k (inl l) = inl (omega (arith, hex_below c x k))
    other x k (inr l) = inr (omega arith)
escape_sound (unit3 v) part c h = by_digit (Following part c) c _ tt (λ x k. unit_sound part c v x h.0 h.1 k)
escape_sound (high v) part c h =
    by_equal (Following part c) c 92 _ _ (λ k. (part, ap (λ x. part ++ x ∷ []) k, h)) tt
escape_sound (high_backslash v) part c h =
    by_equal (Following part c) c 117 _ _ (λ k. (h.0, put h.0 part (92 ∷ []) c h.1 ∙ ap (λ x. h.0 ++ 92 ∷ x ∷ []) k, h.2)) tt
escape_sound (low0 v) part c h =
    by_digit (Following part c) c _ tt
    (λ x k. by_equal (Following part c) x 13 _ _ (λ e. (h.0, h.2, digit_one (h.0 ++ 92 ∷ 117 ∷ []) part c 13 h.1 (subst (IsHex c) e k))) tt)
escape_sound (low1 v) part c h =
    by_digit (Following part c) c _ tt
    (λ x k. by_least (Following part c) 12 x _ _
    (λ l. (h.0, h.1, digit_two (h.0 ++ 92 ∷ 117 ∷ []) part c 13 x h.2 k, omega arith, omega (arith, hex_below c x k))) tt)
escape_sound (low2 v w) part c h =
    by_digit (Following part c) c _ tt
    (λ x k. (h.0, h.1, digit_three (h.0 ++ 92 ∷ 117 ∷ []) part c w x h.2 k, omega (arith, h.3), omega (arith, h.4, hex_below c x k)))
escape_sound (low3 v w) part c h =
    by_digit (Following part c) c _ tt (λ x k. pair_sound h.0 part c v w x h.1 h.2 h.3 h.4 k)

pub char_scalar : (b : List ℕ) (c : ℕ) → IsChar b c → IsScalar c
char_scalar b c (unescaped is l q n e) = is
char_scalar b c (short letter h e) = by letter c h
  where
    by : (x v : ℕ) → IsShort x v → IsScalar v
    by _ _ quotation_mark = refl
    by _ _ reverse_solidus = refl
    by _ _ solidus = refl
    by _ _ backspace = refl
    by _ _ form_feed = refl
    by _ _ line_feed = refl
    by _ _ carriage_return = refl
    by _ _ tab = refl
char_scalar b c (escaped digits h is e) = is
char_scalar b c (pair first second upper lower h k l m l' m' is e) = scalar_from c (inr (omega arith, omega arith))

-- upper bounds of the values of two and of three hexadecimal digits
digits_two : (front part : List ℕ) (v : ℕ) → Digits2 front part v → v < 256
digits_two front part v h = omega (arith, h.value, hex_below h.c0 h.v0 h.d0, hex_below h.c1 h.v1 h.d1)

digits_three : (front part : List ℕ) (v : ℕ) → Digits3 front part v → v < 4096
digits_three front part v h = omega (arith, h.value, hex_below h.c0 h.v0 h.d0, hex_below h.c1 h.v1 h.d1, hex_below h.c2 h.v2 h.d2)

pub escape_bounds : (e : Escape) (part : List ℕ) → InEscape e part → HasBounds e
escape_bounds backslash part h = tt
escape_bounds unit0 part h = tt
escape_bounds (unit1 v) part h = hex_below h.c0 v h.d0
escape_bounds (unit2 v) part h = by h.1
  where
    by : (v < 0xDC) ⊎ (0xE0 ≤ v) → (v < 0xDC) ⊎ ((0xE0 ≤ v) × (v < 256))
    by (inl l) = inl l
    by (inr l) = inr (l, digits_two _ _ v h.0)
escape_bounds (unit3 v) part h = by h.1
  where
    by : (v < 0xDC0) ⊎ (0xE00 ≤ v) → (v < 0xDC0) ⊎ ((0xE00 ≤ v) × (v < 4096))
    by (inl l) = inl l
    by (inr l) = inr (l, digits_three _ _ v h.0)
escape_bounds (high v) part h = (h.least, h.most)
escape_bounds (high_backslash v) part h = (h.2.least, h.2.most)
escape_bounds (low0 v) part h = (h.2.least, h.2.most)
escape_bounds (low1 v) part h = (h.1.least, h.1.most)
escape_bounds (low2 v w) part h = (h.1.least, h.1.most, h.3, h.4)
escape_bounds (low3 v w) part h = (h.1.least, h.1.most, h.3, h.4)
