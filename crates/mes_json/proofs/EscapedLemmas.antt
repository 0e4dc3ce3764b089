-- The escaped text of a string represents that string: `spells`.
use Rattle.std.proofs.Common.{◌≡◌, ◌≢◌, ℕ, ◌+◌, ◌/◌, ◌%◌, ◌<◌, ◌≤◌, ◌⊎◌, inl, inr, Bool, true, false, ◌&&◌, List, [], ◌∷◌, ◌++◌, refl, ap, sym, ◌∙◌, subst, arith, encode_utf8, append_assoc}
use Rattle.std.proofs.lemmas.List.{append-nil}
use Rattle.std.proofs.lemmas.Bool.Decides.{nat_tests}
use Rattle.std.specs.Char.{IsScalar}
use Rattle.std.specs.Str.{IsUtf8, encode_utf8_all}
use Rattle.std.proofs.Math.Utf8.{next, scalar, scalars}
use Rattle.std.proofs.Math.Decide.{ℕ_discrete}
use Rattle.std.proofs.str.Laws.{one, two, three, four, order}
use Rattle.mes_json.specs.Grammar.{IsHex, IsHex4, IsChar, IsChars}
use Rattle.mes_json.specs.Grammar.IsShort.{quotation_mark, reverse_solidus, backspace, form_feed, line_feed, carriage_return, tab}
use Rattle.mes_json.specs.Grammar.IsChar.{unescaped, short, escaped as by_digits}
use Rattle.mes_json.specs.Grammar.IsChars.{none, some}
use Rattle.mes_json.specs.Canonical.{hex_digit, escaped, escaped_text}

pub escaped-append : (a b : List ℕ) → escaped_text (a ++ b) ≡ escaped_text a ++ escaped_text b
escaped-append [] b = refl
escaped-append (c ∷ a) b = ap (λ (r : List ℕ). escaped c ++ r) (escaped-append a b) ∙ sym (append_assoc (escaped c) (escaped_text a) (escaped_text b))

pub stays : (c : ℕ) → 32 ≤ c → c ≢ 34 → c ≢ 92 → escaped c ≡ c ∷ []
stays c l q b = grind (arith, nat_tests)

hex : (v : ℕ) → v < 16 → IsHex (hex_digit v) v
hex v h = grind (arith, nat_tests)

-- a control character without a short escape is written as \u00 and two digits
control : (c : ℕ) → c < 32 → c ≢ 8 → c ≢ 12 → c ≢ 10 → c ≢ 13 → c ≢ 9 → escaped c ≡ 92 ∷ 117 ∷ 48 ∷ 48 ∷ hex_digit (c / 16) ∷ hex_digit (c % 16) ∷ []
control c h n1 n2 n3 n4 n5 = grind (arith, nat_tests)

four_digits : (c : ℕ) → c < 32 → IsHex4 (48 ∷ 48 ∷ hex_digit (c / 16) ∷ hex_digit (c % 16) ∷ []) c
four_digits c h = record {
  c0 = 48;
  c1 = 48;
  c2 = hex_digit (c / 16);
  c3 = hex_digit (c % 16);
  v0 = 0;
  v1 = 0;
  v2 = c / 16;
  v3 = c % 16;
  is = refl;
  d0 = hex 0 (omega arith);
  d1 = hex 0 (omega arith);
  d2 = hex (c / 16) (omega arith);
  d3 = hex (c % 16) (omega arith);
  value = omega arith;
}

one_escaped : (c : ℕ) → IsScalar c → c < 128 → IsChar (escaped c) c
one_escaped c is low = by (ℕ_discrete c 34) (ℕ_discrete c 92) (ℕ_discrete c 8) (ℕ_discrete c 12) (ℕ_discrete c 10) (ℕ_discrete c 13) (ℕ_discrete c 9) (order c 32)
  where
    at : {x : ℕ} → c ≡ x → IsChar (escaped x) x → IsChar (escaped c) c
    at e h = subst (λ (x : ℕ). IsChar (escaped x) x) (sym e) h

    by : Dec (c ≡ 34) → Dec (c ≡ 92) → Dec (c ≡ 8) → Dec (c ≡ 12) → Dec (c ≡ 10) → Dec (c ≡ 13) → Dec (c ≡ 9) → (c < 32) ⊎ (32 ≤ c) → IsChar (escaped c) c
    by (yes e) _ _ _ _ _ _ _ = at e (short 34 quotation_mark refl)
    by (no _) (yes e) _ _ _ _ _ _ = at e (short 92 reverse_solidus refl)
    by (no _) (no _) (yes e) _ _ _ _ _ = at e (short 98 backspace refl)
    by (no _) (no _) (no _) (yes e) _ _ _ _ = at e (short 102 form_feed refl)
    by (no _) (no _) (no _) (no _) (yes e) _ _ _ = at e (short 110 line_feed refl)
    by (no _) (no _) (no _) (no _) (no _) (yes e) _ _ = at e (short 114 carriage_return refl)
    by (no _) (no _) (no _) (no _) (no _) (no _) (yes e) _ = at e (short 116 tab refl)
    by (no n0) (no n1) (no n2) (no n3) (no n4) (no n5) (no n6) (inl h) =
        by_digits (48 ∷ 48 ∷ hex_digit (c / 16) ∷ hex_digit (c % 16) ∷ []) (four_digits c h) is (control c h n2 n3 n4 n5 n6)
    by (no n0) (no n1) (no n2) (no n3) (no n4) (no n5) (no n6) (inr h) = unescaped is h n0 n1 (stays c h n0 n1 ∙ sym (one c low))

byte_stays : (c : ℕ) → 128 ≤ c → escaped c ≡ c ∷ []
byte_stays c l = stays c (omega arith) (λ e. omega arith) (λ e. omega arith)

two_stay : (a b : ℕ) → 128 ≤ a → 128 ≤ b → escaped_text (a ∷ b ∷ []) ≡ a ∷ b ∷ []
two_stay a b la lb = rw (byte_stays a la, byte_stays b lb) refl

three_stay : (a b c : ℕ) → 128 ≤ a → 128 ≤ b → 128 ≤ c → escaped_text (a ∷ b ∷ c ∷ []) ≡ a ∷ b ∷ c ∷ []
three_stay a b c la lb lc = rw (byte_stays a la, byte_stays b lb, byte_stays c lc) refl

four_stay : (a b c d : ℕ) → 128 ≤ a → 128 ≤ b → 128 ≤ c → 128 ≤ d → escaped_text (a ∷ b ∷ c ∷ d ∷ []) ≡ a ∷ b ∷ c ∷ d ∷ []
four_stay a b c d la lb lc ld = rw (byte_stays a la, byte_stays b lb, byte_stays c lc, byte_stays d ld) refl

not_escaped : (c : ℕ) → 128 ≤ c → escaped_text (encode_utf8 c) ≡ encode_utf8 c
not_escaped c l = by (order c 2048) (order c 65536)
  where
    same : {b : List ℕ} → encode_utf8 c ≡ b → escaped_text b ≡ b → escaped_text (encode_utf8 c) ≡ encode_utf8 c
    same e h = subst (λ (b : List ℕ). escaped_text b ≡ b) (sym e) h

    by : (c < 2048) ⊎ (2048 ≤ c) → (c < 65536) ⊎ (65536 ≤ c) → escaped_text (encode_utf8 c) ≡ encode_utf8 c
    by (inl h) _ = same (two c l h) (two_stay (192 + c / 64) (next c) (omega arith) (omega arith))
    by (inr k) (inl h) = same (three c k h) (three_stay (224 + c / 4096) (next (c / 64)) (next c) (omega arith) (omega arith) (omega arith))
    by (inr _) (inr k) = same (four c k) (four_stay (240 + c / 262144) (next (c / 4096)) (next (c / 64)) (next c) (omega arith) (omega arith) (omega arith) (omega arith))

char_escaped : (c : ℕ) → IsScalar c → IsChar (escaped_text (encode_utf8 c)) c
char_escaped c is = by (order c 128)
  where
    by : (c < 128) ⊎ (128 ≤ c) → IsChar (escaped_text (encode_utf8 c)) c
    by (inl h) = subst (λ (b : List ℕ). IsChar (escaped_text b) c) (sym (one c h)) (rw append-nil (one_escaped c is h))
    by (inr l) = unescaped is (omega arith) (λ e. omega arith) (λ e. omega arith) (not_escaped c l)

both : (x y : Bool) → (x && y) ≡ true → (x ≡ true) × (y ≡ true)
both true y e = (refl, e)
both false y e = absurd (cc)

all_escaped : (cs : List ℕ) → scalars cs ≡ true → IsChars (escaped_text (encode_utf8_all cs)) (encode_utf8_all cs)
all_escaped [] are = none refl refl
all_escaped (c ∷ cs) are =
    let h = both (scalar c) (scalars cs) are in
    some (escaped_text (encode_utf8 c)) (escaped_text (encode_utf8_all cs)) c (encode_utf8_all cs) (char_escaped c h.0) (all_escaped cs h.1)
    (escaped-append (encode_utf8 c) (encode_utf8_all cs)) refl

-- the escaped text of the string s represents s
pub spells : (s : List ℕ) → IsUtf8 s → IsChars (escaped_text s) s
spells s is = subst (λ (b : List ℕ). IsChars (escaped_text b) b) is.1.1 (all_escaped is.0 is.1.0)
