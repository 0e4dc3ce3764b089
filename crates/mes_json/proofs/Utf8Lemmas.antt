-- The state machine reads exactly the characters of UTF-8 (RFC 3629 section 4), byte by byte.
use Rattle.std.proofs.Common.{◌≡◌, ◌≢◌, ℕ, zero, suc, ◌+◌, ◌-◌, ◌*◌, ◌/◌, ◌<◌, ◌≤◌, ◌⊎◌, inl, inr, Bool, true, false, List, [], ◌∷◌, ◌++◌, Option, Some, None, if◌then◌else◌, ◌==◌, nat_lt, refl, ap, sym, ◌∙◌, subst, arith, encode_utf8, ltb-true, ltb-false, eqb-true, append_assoc}
use Rattle.std.proofs.lemmas.Bool.Decides.{nat_tests}
use Rattle.std.specs.Char.{IsScalar}
use Rattle.std.proofs.Math.Utf8.{next, scalar_cases}
use Rattle.std.proofs.lemmas.Bool.{eqb-false}
use Rattle.std.proofs.Math.Decide.{ℕ_discrete}
use Rattle.std.proofs.str.Laws.{one, two, three, four, order}
use Rattle.mes_json.specs.Grammar.{IsChar}
use Rattle.mes_json.specs.Grammar.IsChar.{unescaped}
use Rattle.mes_json.specs.Machine.{Frame, Purpose, Utf8State, lead, after_byte, on_quoted}
use Rattle.mes_json.specs.Machine.State.{state}
use Rattle.mes_json.specs.Machine.ReaderState.{quoted}
use Rattle.mes_json.specs.Machine.Utf8State.{between, within, escape}
use Rattle.mes_json.proofs.Reach.{Reaches, by_byte, then_to}
use Rattle.mes_json.proofs.Held.{Fits, IsPart, PartOf}

lead_ascii : (c : ℕ) → c < 0x80 → lead c ≡ Some between
lead_ascii c h = grind (arith, nat_tests)

lead_two : (c : ℕ) → 0xC2 ≤ c → c < 0xE0 → lead c ≡ Some (within 1 0x80 0xBF)
lead_two c l h = grind (arith, nat_tests)

lead_three : (c : ℕ) → 0xE0 < c → c ≢ 0xED → c < 0xF0 → lead c ≡ Some (within 2 0x80 0xBF)
lead_three c l n h = grind (arith, nat_tests)

lead_four : (c : ℕ) → 0xF0 < c → c < 0xF4 → lead c ≡ Some (within 3 0x80 0xBF)
lead_four c l h = grind (arith, nat_tests)

quoted_lead : (fs : List Frame) (p : Purpose) (s : List ℕ) (c : ℕ) (m : Utf8State) → 32 ≤ c → c ≢ 34 → c ≢ 92 → lead c ≡ Some m
    → on_quoted fs p between s c ≡ Some (state fs (quoted p m (s ++ c ∷ [])))
quoted_lead fs p s c m l q b e = grind (arith, nat_tests)

pub quoted_next : (fs : List Frame) (p : Purpose) (s : List ℕ) (c n least most : ℕ) → least ≤ c → c ≤ most
    → on_quoted fs p (within n least most) s c ≡ Some (state fs (quoted p (after_byte n) (s ++ c ∷ [])))
quoted_next fs p s c n least most l h = grind (arith, nat_tests)

-- ---- completeness: the bytes of a character lead to the state after the character
module _ (d : ℕ) (fs : List Frame) (p : Purpose) where
  ahead : (s : List ℕ) (c : ℕ) (m : Utf8State) → 32 ≤ c → c ≢ 34 → c ≢ 92 → lead c ≡ Some m
      → Reaches d (state fs (quoted p between s)) (c ∷ []) (state fs (quoted p m (s ++ c ∷ [])))
  ahead s c m l q b e = by_byte d _ _ c (quoted_lead fs p s c m l q b e)

  further : (s : List ℕ) (c n least most : ℕ) → least ≤ c → c ≤ most
      → Reaches d (state fs (quoted p (within n least most) s)) (c ∷ []) (state fs (quoted p (after_byte n) (s ++ c ∷ [])))
  further s c n least most l h = by_byte d _ _ c (quoted_next fs p s c n least most l h)

  over_last : (s : List ℕ) (x least most : ℕ) → least ≤ x → x ≤ most
      → Reaches d (state fs (quoted p (within 1 least most) s)) (x ∷ []) (state fs (quoted p between (s ++ x ∷ [])))
  over_last s x least most l h = further s x 1 least most l h

  over_two : (s : List ℕ) (y x least most : ℕ) → least ≤ y → y ≤ most → 0x80 ≤ x → x ≤ 0xBF
      → Reaches d (state fs (quoted p (within 2 least most) s)) (y ∷ x ∷ []) (state fs (quoted p between (s ++ y ∷ x ∷ [])))
  over_two s y x least most l h l' h' =
      subst (λ (u : List ℕ). Reaches d (state fs (quoted p (within 2 least most) s)) (y ∷ x ∷ []) (state fs (quoted p between u))) (append_assoc s (y ∷ []) (x ∷ []))
      (then_to d _ _ _ (y ∷ []) (x ∷ []) (further s y 2 least most l h) (over_last (s ++ y ∷ []) x 0x80 0xBF l' h'))

  over_three : (s : List ℕ) (z y x least most : ℕ) → least ≤ z → z ≤ most → 0x80 ≤ y → y ≤ 0xBF → 0x80 ≤ x → x ≤ 0xBF
      → Reaches d (state fs (quoted p (within 3 least most) s)) (z ∷ y ∷ x ∷ []) (state fs (quoted p between (s ++ z ∷ y ∷ x ∷ [])))
  over_three s z y x least most l h l' h' l'' h'' =
      subst (λ (u : List ℕ). Reaches d (state fs (quoted p (within 3 least most) s)) (z ∷ y ∷ x ∷ []) (state fs (quoted p between u))) (append_assoc s (z ∷ []) (y ∷ x ∷ []))
      (then_to d _ _ _ (z ∷ []) (y ∷ x ∷ []) (further s z 3 least most l h) (over_two (s ++ z ∷ []) y x 0x80 0xBF l' h' l'' h''))

  ahead_with : (s : List ℕ) (c : ℕ) (m : Utf8State) (b : List ℕ) → 128 ≤ c → lead c ≡ Some m
      → Reaches d (state fs (quoted p m (s ++ c ∷ []))) b (state fs (quoted p between ((s ++ c ∷ []) ++ b)))
      → Reaches d (state fs (quoted p between s)) (c ∷ b) (state fs (quoted p between (s ++ c ∷ b)))
  ahead_with s c m b l e f =
      subst (λ (u : List ℕ). Reaches d (state fs (quoted p between s)) (c ∷ b) (state fs (quoted p between u))) (append_assoc s (c ∷ []) b)
      (then_to d _ _ _ (c ∷ []) b (ahead s c m (omega arith) (omega arith) (omega arith) e) f)

  abbrev Over : List ℕ → List ℕ → Type 0
  Over s b = Reaches d (state fs (quoted p between s)) b (state fs (quoted p between (s ++ b)))

  over_two_bytes : (s : List ℕ) (a x : ℕ) → 0xC2 ≤ a → a < 0xE0 → 0x80 ≤ x → x ≤ 0xBF → Over s (a ∷ x ∷ [])
  over_two_bytes s a x l h l' h' = ahead_with s a _ (x ∷ []) (omega arith) (lead_two a l h) (over_last (s ++ a ∷ []) x 0x80 0xBF l' h')

  over_three_bytes : (s : List ℕ) (a y x : ℕ) → 0xE0 ≤ a → a < 0xF0 → (a ≡ 0xE0 → 0xA0 ≤ y) → (a ≡ 0xED → y ≤ 0x9F) → 0x80 ≤ y → y ≤ 0xBF → 0x80 ≤ x → x ≤ 0xBF
      → Over s (a ∷ y ∷ x ∷ [])
  over_three_bytes s a y x l h low high l' h' l'' h'' = by (ℕ_discrete a 0xE0) (ℕ_discrete a 0xED)
    where
      by : Dec (a ≡ 0xE0) → Dec (a ≡ 0xED) → Over s (a ∷ y ∷ x ∷ [])
      by (yes e) _ = ahead_with s a _ (y ∷ x ∷ []) (omega arith) (ap lead e) (over_two (s ++ a ∷ []) y x 0xA0 0xBF (low e) h' l'' h'')
      by (no n) (yes e) = ahead_with s a _ (y ∷ x ∷ []) (omega arith) (ap lead e) (over_two (s ++ a ∷ []) y x 0x80 0x9F l' (high e) l'' h'')
      by (no n) (no m) = ahead_with s a _ (y ∷ x ∷ []) (omega arith) (lead_three a (omega arith) m h) (over_two (s ++ a ∷ []) y x 0x80 0xBF l' h' l'' h'')

  over_four_bytes : (s : List ℕ) (a z y x : ℕ) → 0xF0 ≤ a → a ≤ 0xF4 → (a ≡ 0xF0 → 0x90 ≤ z) → (a ≡ 0xF4 → z ≤ 0x8F) → 0x80 ≤ z → z ≤ 0xBF → 0x80 ≤ y → y ≤ 0xBF → 0x80 ≤ x → x ≤ 0xBF
      → Over s (a ∷ z ∷ y ∷ x ∷ [])
  over_four_bytes s a z y x l h low high lz hz ly hy lx hx = by (ℕ_discrete a 0xF0) (ℕ_discrete a 0xF4)
    where
      by : Dec (a ≡ 0xF0) → Dec (a ≡ 0xF4) → Over s (a ∷ z ∷ y ∷ x ∷ [])
      by (yes e) _ = ahead_with s a _ (z ∷ y ∷ x ∷ []) (omega arith) (ap lead e) (over_three (s ++ a ∷ []) z y x 0x90 0xBF (low e) hz ly hy lx hx)
      by (no n) (yes e) = ahead_with s a _ (z ∷ y ∷ x ∷ []) (omega arith) (ap lead e) (over_three (s ++ a ∷ []) z y x 0x80 0x8F lz (high e) ly hy lx hx)
      by (no n) (no m) = ahead_with s a _ (z ∷ y ∷ x ∷ []) (omega arith) (lead_four a (omega arith) (omega arith)) (over_three (s ++ a ∷ []) z y x 0x80 0xBF lz hz ly hy lx hx)

  over_encoded : (s : List ℕ) (c : ℕ) → (c < 0xD800) ⊎ ((0xE000 ≤ c) × (c < 0x11_0000)) → 32 ≤ c → c ≢ 34 → c ≢ 92 → Over s (encode_utf8 c)
  over_encoded s c r l q b = by (order c 128) (order c 2048) (order c 65536)
    where
      by : (c < 128) ⊎ (128 ≤ c) → (c < 2048) ⊎ (2048 ≤ c) → (c < 65536) ⊎ (65536 ≤ c) → Over s (encode_utf8 c)
      by (inl h) _ _ = subst (Over s) (sym (one c h)) (ahead s c between l q b (lead_ascii c h))
      by (inr k) (inl h) _ = subst (Over s) (sym (two c k h)) (over_two_bytes s (192 + c / 64) (next c) (omega arith) (omega arith) (omega arith) (omega arith))
      by (inr _) (inr k) (inl h) = subst (Over s) (sym (three c k h))
          (over_three_bytes s (224 + c / 4096) (next (c / 64)) (next c) (omega arith) (omega arith) (λ e. omega arith) (λ e. omega arith) (omega arith) (omega arith) (omega arith) (omega arith))
      by (inr _) (inr _) (inr k) = subst (Over s) (sym (four c k))
          (over_four_bytes s (240 + c / 262144) (next (c / 4096)) (next (c / 64)) (next c) (omega arith) (omega arith) (λ e. omega arith) (λ e. omega arith) (omega arith) (omega arith) (omega arith) (omega arith) (omega arith) (omega arith))

  pub over_unescaped : (s b : List ℕ) (c : ℕ) → IsScalar c → 32 ≤ c → c ≢ 34 → c ≢ 92 → b ≡ encode_utf8 c → Reaches d (state fs (quoted p between s)) b (state fs (quoted p between (s ++ encode_utf8 c)))
  over_unescaped s b c is l q n e =
      subst (λ (u : List ℕ). Reaches d (state fs (quoted p between s)) u (state fs (quoted p between (s ++ encode_utf8 c)))) (sym e) (over_encoded s c (scalar_cases c is) l q n)

-- ---- soundness: the bytes that the state machine reads as a character are a character
scalar_in : (c : ℕ) → (c < 0xD800) ⊎ ((0xE000 ≤ c) × (c < 0x11_0000)) → IsScalar c
scalar_in c h = grind (arith, nat_tests)

abbrev pub Char : List ℕ → Type 0
Char b = (c : ℕ) × IsChar b c × (encode_utf8 c ≡ b)

is_char : (c : ℕ) (b : List ℕ) → (c < 0xD800) ⊎ ((0xE000 ≤ c) × (c < 0x11_0000)) → 32 ≤ c → c ≢ 34 → c ≢ 92 → encode_utf8 c ≡ b → Char b
is_char c b r l q n e = (c, unescaped (scalar_in c r) l q n (sym e), e)

bytes_two : (c a x : ℕ) → 192 + c / 64 ≡ a → next c ≡ x → (192 + c / 64) ∷ next c ∷ [] ≡ a ∷ x ∷ []
bytes_two c a x e f = cc

two_char : (a x : ℕ) → 0xC2 ≤ a → a < 0xE0 → 0x80 ≤ x → x ≤ 0xBF → Char (a ∷ x ∷ [])
two_char a x l h l' h' =
    let c : ℕ = (a - 192) * 64 + (x - 128) in
    is_char c _ (inl (omega arith)) (omega arith) (omega arith) (omega arith) (two c (omega arith) (omega arith) ∙ bytes_two c a x (omega arith) (omega arith))

bytes_three : (c a y x : ℕ) → 224 + c / 4096 ≡ a → next (c / 64) ≡ y → next c ≡ x → (224 + c / 4096) ∷ next (c / 64) ∷ next c ∷ [] ≡ a ∷ y ∷ x ∷ []
bytes_three c a y x e f g = cc

three_char : (a y x : ℕ) → 0xE0 ≤ a → a < 0xF0 → (a ≡ 0xE0 → 0xA0 ≤ y) → (a ≡ 0xED → y ≤ 0x9F) → 0x80 ≤ y → y ≤ 0xBF → 0x80 ≤ x → x ≤ 0xBF → Char (a ∷ y ∷ x ∷ [])
three_char a y x l h low high l' h' l'' h'' =
    let c : ℕ = (a - 224) * 4096 + (y - 128) * 64 + (x - 128) in
    let from : 2048 ≤ c = above (ℕ_discrete a 0xE0) in
    is_char c _ (range (order a 0xED) (ℕ_discrete a 0xED)) (omega arith) (omega arith) (omega arith) (three c from (omega arith) ∙ bytes_three c a y x (omega arith) (omega arith) (omega arith))
  where
    above : Dec (a ≡ 0xE0) → 2048 ≤ (a - 224) * 4096 + (y - 128) * 64 + (x - 128)
    above (yes e) = let k : 0xA0 ≤ y = low e in omega arith
    above (no n) = omega arith

    range : (a < 0xED) ⊎ (0xED ≤ a) → Dec (a ≡ 0xED)
        → ((a - 224) * 4096 + (y - 128) * 64 + (x - 128) < 0xD800) ⊎ ((0xE000 ≤ (a - 224) * 4096 + (y - 128) * 64 + (x - 128)) × ((a - 224) * 4096 + (y - 128) * 64 + (x - 128) < 0x11_0000))
    range _ (yes e) = let k : y ≤ 0x9F = high e in inl (omega arith)
    range (inl b) (no n) = inl (omega arith)
    range (inr b) (no n) = inr (omega arith, omega arith)

bytes_four : (c a z y x : ℕ) → 240 + c / 262144 ≡ a → next (c / 4096) ≡ z → next (c / 64) ≡ y → next c ≡ x
    → (240 + c / 262144) ∷ next (c / 4096) ∷ next (c / 64) ∷ next c ∷ [] ≡ a ∷ z ∷ y ∷ x ∷ []
bytes_four c a z y x e f g h = cc

four_char : (a z y x : ℕ) → 0xF0 ≤ a → a ≤ 0xF4 → (a ≡ 0xF0 → 0x90 ≤ z) → (a ≡ 0xF4 → z ≤ 0x8F) → 0x80 ≤ z → z ≤ 0xBF → 0x80 ≤ y → y ≤ 0xBF → 0x80 ≤ x → x ≤ 0xBF
    → Char (a ∷ z ∷ y ∷ x ∷ [])
four_char a z y x l h low high lz hz ly hy lx hx =
    let c : ℕ = (a - 240) * 262144 + (z - 128) * 4096 + (y - 128) * 64 + (x - 128) in
    let from : 65536 ≤ c = above (ℕ_discrete a 0xF0) in
    is_char c _ (inr (omega arith, below (ℕ_discrete a 0xF4))) (omega arith) (omega arith) (omega arith)
    (four c from ∙ bytes_four c a z y x (omega arith) (omega arith) (omega arith) (omega arith))
  where
    above : Dec (a ≡ 0xF0) → 65536 ≤ (a - 240) * 262144 + (z - 128) * 4096 + (y - 128) * 64 + (x - 128)
    above (yes e) = let k : 0x90 ≤ z = low e in omega arith
    above (no n) = omega arith

    below : Dec (a ≡ 0xF4) → (a - 240) * 262144 + (z - 128) * 4096 + (y - 128) * 64 + (x - 128) < 0x11_0000
    below (yes e) = let k : z ≤ 0x8F = high e in omega arith
    below (no n) = omega arith

-- m is the state after c, the first byte of a character, by the range of c
data Leading (c : ℕ) (m : Utf8State) : Type 0 where
  whole : c < 0x80 → m ≡ between → Leading c m
  of_two : 0xC2 ≤ c → c < 0xE0 → m ≡ within 1 0x80 0xBF → Leading c m
  of_three : (least most : ℕ) → 0xE0 ≤ c → c < 0xF0 → (c ≡ 0xE0 → 0xA0 ≤ least) → (c ≡ 0xED → most ≤ 0x9F) → 0x80 ≤ least → least ≤ most → most ≤ 0xBF → m ≡ within 2 least most → Leading c m
  of_four : (least most : ℕ) → 0xF0 ≤ c → c ≤ 0xF4 → (c ≡ 0xF0 → 0x90 ≤ least) → (c ≡ 0xF4 → most ≤ 0x8F) → 0x80 ≤ least → least ≤ most → most ≤ 0xBF → m ≡ within 3 least most → Leading c m

some_is : {A : Type 0} {x y : A} → Some x ≡ Some y → y ≡ x
some_is e = cc

none_some : {A : Type 0} {x : A} {X : Type 0} → None ≡ Some x → X
none_some e = cc

cons_nil : {X : Type 0} {x : ℕ} {q : List ℕ} → x ∷ q ≡ [] → X
cons_nil e = cc

pick : {A : Type 0} (t : Bool) (o u : Option A) (x : A) → (if t then o else u) ≡ Some x → ((t ≡ true) × (o ≡ Some x)) ⊎ ((t ≡ false) × (u ≡ Some x))
pick true o u x e = inl (refl, e)
pick false o u x e = inr (refl, e)

lead_is : (c : ℕ) (m : Utf8State) → lead c ≡ Some m → Leading c m
lead_is c m e =
    elim (pick (nat_lt c 0x80) _ _ m e) [
      | inl h ↦ whole (ltb-true c 0x80 h.0) (some_is h.1)
      | inr h0 ↦ let n0 : 0x80 ≤ c = ltb-false c 0x80 h0.0 in
          elim (pick (nat_lt c 0xC2) _ _ m h0.1) [
            | inl h ↦ none_some h.1
            | inr h1 ↦ let n1 : 0xC2 ≤ c = ltb-false c 0xC2 h1.0 in
                elim (pick (nat_lt c 0xE0) _ _ m h1.1) [
                  | inl h ↦ of_two n1 (ltb-true c 0xE0 h.0) (some_is h.1)
                  | inr h2 ↦ let n2 : 0xE0 ≤ c = ltb-false c 0xE0 h2.0 in
                      elim (pick (c == 0xE0) _ _ m h2.1) [
                        | inl h ↦ let k : c ≡ 0xE0 = eqb-true c 0xE0 h.0 in
                            of_three 0xA0 0xBF (omega arith) (omega arith) (λ _. omega arith) (λ x. omega arith) (omega arith) (omega arith) (omega arith) (some_is h.1)
                        | inr h3 ↦ let n3 : c ≢ 0xE0 = eqb-false c 0xE0 h3.0 in
                            elim (pick (c == 0xED) _ _ m h3.1) [
                              | inl h ↦ let k : c ≡ 0xED = eqb-true c 0xED h.0 in
                                  of_three 0x80 0x9F (omega arith) (omega arith) (λ x. omega arith) (λ _. omega arith) (omega arith) (omega arith) (omega arith) (some_is h.1)
                              | inr h4 ↦ let n4 : c ≢ 0xED = eqb-false c 0xED h4.0 in
                                  elim (pick (nat_lt c 0xF0) _ _ m h4.1) [
                                    | inl h ↦ let k : c < 0xF0 = ltb-true c 0xF0 h.0 in
                                        of_three 0x80 0xBF n2 k (λ x. absurd (n3 x)) (λ x. absurd (n4 x)) (omega arith) (omega arith) (omega arith) (some_is h.1)
                                    | inr h5 ↦ let n5 : 0xF0 ≤ c = ltb-false c 0xF0 h5.0 in
                                        elim (pick (c == 0xF0) _ _ m h5.1) [
                                          | inl h ↦ let k : c ≡ 0xF0 = eqb-true c 0xF0 h.0 in
                                              of_four 0x90 0xBF (omega arith) (omega arith) (λ _. omega arith) (λ x. omega arith) (omega arith) (omega arith) (omega arith) (some_is h.1)
                                          | inr h6 ↦ let n6 : c ≢ 0xF0 = eqb-false c 0xF0 h6.0 in
                                              elim (pick (nat_lt c 0xF4) _ _ m h6.1) [
                                                | inl h ↦ let k : c < 0xF4 = ltb-true c 0xF4 h.0 in
                                                    of_four 0x80 0xBF n5 (omega arith) (λ x. absurd (n6 x)) (λ x. omega arith) (omega arith) (omega arith) (omega arith) (some_is h.1)
                                                | inr h7 ↦ let n7 : 0xF4 ≤ c = ltb-false c 0xF4 h7.0 in
                                                    elim (pick (c == 0xF4) _ _ m h7.1) [
                                                      | inl h ↦ let k : c ≡ 0xF4 = eqb-true c 0xF4 h.0 in
                                                          of_four 0x80 0x8F (omega arith) (omega arith) (λ x. omega arith) (λ _. omega arith) (omega arith) (omega arith) (omega arith) (some_is h.1)
                                                      | inr h8 ↦ none_some h8.1
                                                    ]
                                              ]
                                        ]
                                  ]
                            ]
                      ]
                ]
          ]
    ]

-- the first bytes of a character and one more byte are again the first bytes of a character
part_two : (a : ℕ) → 0xC2 ≤ a → a < 0xE0 → IsPart 1 0x80 0xBF (a ∷ [])
part_two a l h = record { some = omega arith; whole = by }
  where
    by : (q : List ℕ) → Fits 1 0x80 0xBF q → Char (a ∷ q)
    by [] f = absurd f
    by (x ∷ []) f = two_char a x l h f.0 f.1
    by (x ∷ y ∷ q) f = cons_nil f.2

part_three : (a least most : ℕ) → 0xE0 ≤ a → a < 0xF0 → (a ≡ 0xE0 → 0xA0 ≤ least) → (a ≡ 0xED → most ≤ 0x9F) → 0x80 ≤ least → least ≤ most → most ≤ 0xBF → IsPart 2 least most (a ∷ [])
part_three a least most l h low high from some to = record { some = some; whole = by }
  where
    by : (q : List ℕ) → Fits 2 least most q → Char (a ∷ q)
    by [] f = absurd f
    by (y ∷ []) f = absurd f.2
    by (y ∷ x ∷ []) f = let g = f.0 in let i = f.1 in
        three_char a y x l h (λ e. let k : 0xA0 ≤ least = low e in omega arith) (λ e. let k : most ≤ 0x9F = high e in omega arith) (omega arith) (omega arith) f.2.0 f.2.1
    by (y ∷ x ∷ z ∷ q) f = cons_nil f.2.2

part_four : (a least most : ℕ) → 0xF0 ≤ a → a ≤ 0xF4 → (a ≡ 0xF0 → 0x90 ≤ least) → (a ≡ 0xF4 → most ≤ 0x8F) → 0x80 ≤ least → least ≤ most → most ≤ 0xBF → IsPart 3 least most (a ∷ [])
part_four a least most l h low high from some to = record { some = some; whole = by }
  where
    by : (q : List ℕ) → Fits 3 least most q → Char (a ∷ q)
    by [] f = absurd f
    by (z ∷ []) f = absurd f.2
    by (z ∷ y ∷ []) f = absurd f.2.2
    by (z ∷ y ∷ x ∷ []) f =
        four_char a z y x l h (λ e. let k : 0x90 ≤ least = low e in omega arith) (λ e. let k : most ≤ 0x8F = high e in omega arith) (omega arith) (omega arith) f.2.0 f.2.1 f.2.2.0 f.2.2.1
    by (z ∷ y ∷ x ∷ w ∷ q) f = cons_nil f.2.2.2

-- b is a whole character in the state `between`, and the first bytes of a character in other states
abbrev pub IsRead : Utf8State → List ℕ → Type 0
IsRead between b = Char b
IsRead (within n least most) b = PartOf (within n least most) b
IsRead (escape e) b = PartOf (escape e) b

pub first_read : (c : ℕ) (m : Utf8State) → 32 ≤ c → c ≢ 34 → c ≢ 92 → lead c ≡ Some m → IsRead m (c ∷ [])
first_read c m l q b e = by (lead_is c m e)
  where
    by : Leading c m → IsRead m (c ∷ [])
    by (whole h is) = subst (λ (n : Utf8State). IsRead n (c ∷ [])) (sym is) (is_char c _ (inl (omega arith)) l q b (one c h))
    by (of_two k h is) = subst (λ (n : Utf8State). IsRead n (c ∷ [])) (sym is) (part_two c k h)
    by (of_three least most k h low high from some to is) = subst (λ (n : Utf8State). IsRead n (c ∷ [])) (sym is) (part_three c least most k h low high from some to)
    by (of_four least most k h low high from some to is) = subst (λ (n : Utf8State). IsRead n (c ∷ [])) (sym is) (part_four c least most k h low high from some to)

pub next_read : (n least most c : ℕ) (part : List ℕ) → least ≤ c → c ≤ most → PartOf (within n least most) part → IsRead (after_byte n) (part ++ c ∷ [])
next_read zero least most c part l h is = absurd is
next_read (suc zero) least most c part l h is = is.whole (c ∷ []) (l, h, refl)
next_read (suc (suc n)) least most c part l h is =
    record { some = omega arith; whole = λ q f. subst Char (sym (append_assoc part (c ∷ []) q)) (is.whole (c ∷ q) (l, h, f)) }
