-- Lemmas about the tables of base64_letters.rt: what their entries are, and that the sum of a group
-- of entries has the decoded bytes.
use Rattle.std.proofs.Common.{◌≡◌, ℕ, ◌+◌, ◌*◌, ◌/◌, ◌%◌, ◌==◌, ◌<◌, ◌≤◌, nat_lt, Bool, true, ◌&&◌, ◌||◌, List, [], ◌∷◌, ◌++◌, length, take, drop, slice_index, ◌⊎◌, inl, inr, refl, sym, ap, subst, ◌∙◌, arith}
use Rattle.std.proofs.lemmas.Bool.{and_parts, or_cases, eqb-true, ltb-true}
use Rattle.std.proofs.lemmas.List.{drop_more, length-take-le, take-append-le, take-append-drop, take_all, take-take}
use Rattle.std.proofs.Math.Seq.{take-add, take-append-add}
use borrow.Rule.Slice.PartMut.{put_mid, post_of}
use Rattle.std.specs.Int.{w32, to_le_bytes}
use Rattle.base64.specs.Tables.{all_below}
use Rattle.base64.specs.Rfc4648.{encode_symbols, encode_group}
use Rattle.base64.specs.GeneralPurpose.{IsBytes, encode_of, engine_symbols}
use Rattle.base64.specs.Engines.{standard}
use Rattle.base64.proofs.Tables.{all_below_at}
use Rattle.base64.proofs.EngineFacts.{encode_of-append}
use Rattle.mes_model_schema.specs.declared.base64_letters.TheConstants.{NO, FIRST, SECOND, THIRD, FOURTH}

-- ---- the entries of the tables, checked by computing

-- the letters of the base64 alphabet in the order of their values
abbrev pub letters : List ℕ
letters = engine_symbols standard

-- the entry of the byte is NO, or the byte is a letter and the entry is this part of its value
abbrev pub adds : List ℕ → (ℕ → ℕ) → (ℕ → ℕ) → ℕ → Bool
adds table part value byte =
    (slice_index table byte == NO)
    || (nat_lt (value (slice_index table byte)) 64 && ((slice_index table byte == part (value (slice_index table byte)))
    && (slice_index letters (value (slice_index table byte)) == byte)))

-- like `adds`, but as a proposition
abbrev pub Adds : (ℕ → ℕ) → ℕ → ℕ → Type 0
Adds part byte n = (n ≡ NO) ⊎ ((v : ℕ) × (v < 64) × (n ≡ part v) × (slice_index letters v ≡ byte))

added : (table : List ℕ) (part value : ℕ → ℕ) → all_below (adds table part value) 256 ≡ true → (byte : ℕ) → byte < 256
    → Adds part byte (slice_index table byte)
added table part value all byte small =
    elim (or_cases _ _ (all_below_at (adds table part value) 256 byte all small)) [
      | inl none ↦ inl (eqb-true _ _ none)
      | inr letter ↦
          let outer = and_parts _ _ letter in
          let inner = and_parts _ _ outer.1 in
          inr (value (slice_index table byte), ltb-true _ _ outer.0, eqb-true _ _ inner.0, eqb-true _ _ inner.1)
    ]

abbrev pub first_part : ℕ → ℕ
first_part v = v * 4

abbrev pub second_part : ℕ → ℕ
second_part v = v / 16 + v % 16 * 4096

abbrev pub third_part : ℕ → ℕ
third_part v = v / 4 * 256 + v % 4 * 4194304

abbrev pub fourth_part : ℕ → ℕ
fourth_part v = v * 65536

first_adds : (byte : ℕ) → byte < 256 → Adds first_part byte (slice_index FIRST byte)
first_adds = added FIRST first_part (λ n. n / 4) refl

second_adds : (byte : ℕ) → byte < 256 → Adds second_part byte (slice_index SECOND byte)
second_adds = added SECOND second_part (λ n. n % 4 * 16 + n / 4096) refl

third_adds : (byte : ℕ) → byte < 256 → Adds third_part byte (slice_index THIRD byte)
third_adds = added THIRD third_part (λ n. n / 256 % 16 * 4 + n / 4194304) refl

fourth_adds : (byte : ℕ) → byte < 256 → Adds fourth_part byte (slice_index FOURTH byte)
fourth_adds = added FOURTH fourth_part (λ n. n / 65536) refl

-- ---- a group of four letters encodes three bytes

encoded_three : (x y z : ℕ) → encode_of standard (x ∷ y ∷ z ∷ []) ≡ encode_group letters x y z
unfolding encode_symbols
encoded_three x y z = refl

encoded_one : (x : ℕ) → encode_of standard (x ∷ []) ≡ slice_index letters (x / 4) ∷ slice_index letters (x % 4 * 16) ∷ 61 ∷ 61 ∷ []
unfolding encode_symbols
encoded_one x = refl

encoded_two : (x y : ℕ) → encode_of standard (x ∷ y ∷ []) ≡ slice_index letters (x / 4) ∷ slice_index letters (x % 4 * 16 + y / 16) ∷ slice_index letters (y % 16 * 4) ∷ 61 ∷ []
unfolding encode_symbols
encoded_two x y = refl

-- the bytes of the sum of four entries are encoded as the letters with these values
four_values : (v0 v1 v2 v3 n : ℕ) → v0 < 64 → v1 < 64 → v2 < 64 → v3 < 64 → n ≡ first_part v0 + second_part v1 + third_part v2 + fourth_part v3
    → encode_of standard (take 3 (to_le_bytes w32 n)) ≡ slice_index letters v0 ∷ slice_index letters v1 ∷ slice_index letters v2 ∷ slice_index letters v3 ∷ []
four_values v0 v1 v2 v3 n l0 l1 l2 l3 e =
    let x : ℕ = n % 256 in
    let y : ℕ = n / 256 % 256 in
    let z : ℕ = n / 65536 % 256 in
    let e0 : x / 4 ≡ v0 = omega arith in
    let e1 : x % 4 * 16 + y / 16 ≡ v1 = omega arith in
    let e2 : y % 16 * 4 + z / 64 ≡ v2 = omega arith in
    let e3 : z % 64 ≡ v3 = omega arith in
    encoded_three x y z ∙ rw (e0, e1, e2, e3) refl

-- four bytes whose entries have a sum below NO are the encoding of the three bytes of that sum
letters_encode : (a b c d n m0 m1 m2 m3 : ℕ) → Adds first_part a m0 → Adds second_part b m1 → Adds third_part c m2 → Adds fourth_part d m3
    → n ≡ m0 + m1 + m2 + m3 → n < NO → a ∷ b ∷ c ∷ d ∷ [] ≡ encode_of standard (take 3 (to_le_bytes w32 n))
letters_encode a b c d n m0 m1 m2 m3 (inl none) f1 f2 f3 e less = absurd (omega arith)
letters_encode a b c d n m0 m1 m2 m3 (inr f0) (inl none) f2 f3 e less = absurd (omega arith)
letters_encode a b c d n m0 m1 m2 m3 (inr f0) (inr f1) (inl none) f3 e less = absurd (omega arith)
letters_encode a b c d n m0 m1 m2 m3 (inr f0) (inr f1) (inr f2) (inl none) e less = absurd (omega arith)
letters_encode a b c d n m0 m1 m2 m3 (inr f0) (inr f1) (inr f2) (inr f3) e less =
    let sum : n ≡ first_part f0.0 + second_part f1.0 + third_part f2.0 + fourth_part f3.0 = rw (← f0.2, ← f1.2, ← f2.2, ← f3.2) e in
    rw (← f0.3, ← f1.3, ← f2.3, ← f3.3) (sym (four_values f0.0 f1.0 f2.0 f3.0 n f0.1 f1.1 f2.1 f3.1 sum))

abbrev pub sum_of : ℕ → ℕ → ℕ → ℕ → ℕ
sum_of a b c d = slice_index FIRST a + slice_index SECOND b + slice_index THIRD c + slice_index FOURTH d

at_most : (part : ℕ → ℕ) (byte n : ℕ) → ((v : ℕ) → v < 64 → part v ≤ NO) → Adds part byte n → n ≤ NO
at_most part byte n bound (inl none) = omega arith
at_most part byte n bound (inr f) = omega (arith, bound f.0 f.1)

pub entries_bound : (a b c d : ℕ) → a < 256 → b < 256 → c < 256 → d < 256
    → (slice_index FIRST a ≤ NO) × (slice_index SECOND b ≤ NO) × (slice_index THIRD c ≤ NO) × (slice_index FOURTH d ≤ NO)
entries_bound a b c d la lb lc ld = (
  at_most first_part a _ (λ v less. omega arith) (first_adds a la),
  at_most second_part b _ (λ v less. omega arith) (second_adds b lb),
  at_most third_part c _ (λ v less. omega arith) (third_adds c lc),
  at_most fourth_part d _ (λ v less. omega arith) (fourth_adds d ld),
)

four_at : (text : List ℕ) (at : ℕ) → at + 4 ≤ length text
    → take 4 (drop at text) ≡ slice_index text at ∷ slice_index text (at + 1) ∷ slice_index text (at + 2) ∷ slice_index text (at + 3) ∷ []
four_at text at fits =
    let a : drop at text ≡ slice_index text at ∷ drop (at + 1) text = drop_more text at 0 (omega arith) in
    let b : drop (at + 1) text ≡ slice_index text (at + 1) ∷ drop (at + 1 + 1) text = drop_more text (at + 1) 0 (omega arith) in
    let c : drop (at + 1 + 1) text ≡ slice_index text (at + 1 + 1) ∷ drop (at + 1 + 1 + 1) text = drop_more text (at + 1 + 1) 0 (omega arith) in
    let d : drop (at + 1 + 1 + 1) text ≡ slice_index text (at + 1 + 1 + 1) ∷ drop (at + 1 + 1 + 1 + 1) text = drop_more text (at + 1 + 1 + 1) 0 (omega arith) in
    let two : at + 1 + 1 ≡ at + 2 = omega arith in
    let three : at + 1 + 1 + 1 ≡ at + 3 = omega arith in
    rw (a, b, c, d, three, two) refl

pub group_encodes : (text : List ℕ) (at n : ℕ) → IsBytes text → at + 4 ≤ length text
    → n ≡ sum_of (slice_index text at) (slice_index text (at + 1)) (slice_index text (at + 2)) (slice_index text (at + 3)) → n < NO
    → take 4 (drop at text) ≡ encode_of standard (take 3 (to_le_bytes w32 n))
group_encodes text at n small fits e less =
    four_at text at fits
    ∙ letters_encode _ _ _ _ n _ _ _ _ (first_adds _ (small at)) (second_adds _ (small (at + 1))) (third_adds _ (small (at + 2))) (fourth_adds _ (small (at + 3))) e less

-- ---- the last group encodes one or two bytes

-- two letters with two padding bytes encode one byte
two_letters : (a b n m0 m1 : ℕ) → Adds first_part a m0 → Adds second_part b m1 → n ≡ m0 + m1 → n < 256
    → a ∷ b ∷ 61 ∷ 61 ∷ [] ≡ encode_of standard (take 1 (to_le_bytes w32 n))
two_letters a b n m0 m1 (inl none) f1 e less = absurd (omega arith)
two_letters a b n m0 m1 (inr f0) (inl none) e less = absurd (omega arith)
two_letters a b n m0 m1 (inr f0) (inr f1) e less =
    let sum : n ≡ first_part f0.0 + second_part f1.0 = rw (← f0.2, ← f1.2) e in
    let x : ℕ = n % 256 in
    let l0 = f0.1 in
    let l1 = f1.1 in
    let e0 : x / 4 ≡ f0.0 = omega arith in
    let e1 : x % 4 * 16 ≡ f1.0 = omega arith in
    rw (← f0.3, ← f1.3) (sym (encoded_one x ∙ rw (e0, e1) refl))

-- three letters with one padding byte encode two bytes
three_letters : (a b c n m0 m1 m2 : ℕ) → Adds first_part a m0 → Adds second_part b m1 → Adds third_part c m2 → n ≡ m0 + m1 + m2 → n < 65536
    → a ∷ b ∷ c ∷ 61 ∷ [] ≡ encode_of standard (take 2 (to_le_bytes w32 n))
three_letters a b c n m0 m1 m2 (inl none) f1 f2 e less = absurd (omega arith)
three_letters a b c n m0 m1 m2 (inr f0) (inl none) f2 e less = absurd (omega arith)
three_letters a b c n m0 m1 m2 (inr f0) (inr f1) (inl none) e less = absurd (omega arith)
three_letters a b c n m0 m1 m2 (inr f0) (inr f1) (inr f2) e less =
    let sum : n ≡ first_part f0.0 + second_part f1.0 + third_part f2.0 = rw (← f0.2, ← f1.2, ← f2.2) e in
    let x : ℕ = n % 256 in
    let y : ℕ = n / 256 % 256 in
    let l0 = f0.1 in
    let l1 = f1.1 in
    let l2 = f2.1 in
    let e0 : x / 4 ≡ f0.0 = omega arith in
    let e1 : x % 4 * 16 + y / 16 ≡ f1.0 = omega arith in
    let e2 : y % 16 * 4 ≡ f2.0 = omega arith in
    rw (← f0.3, ← f1.3, ← f2.3) (sym (encoded_two x y ∙ rw (e0, e1, e2) refl))

text_of_four : (text : List ℕ) → length text ≡ 4 → text ≡ slice_index text 0 ∷ slice_index text 1 ∷ slice_index text 2 ∷ slice_index text 3 ∷ []
text_of_four text four = sym (take_all 4 text (omega arith)) ∙ four_at text 0 (omega arith)

pub one_byte : (text : List ℕ) (n : ℕ) → IsBytes text → length text ≡ 4 → slice_index text 2 ≡ 61 → slice_index text 3 ≡ 61
    → n ≡ slice_index FIRST (slice_index text 0) + slice_index SECOND (slice_index text 1) → n < 256
    → text ≡ encode_of standard (take 1 (to_le_bytes w32 n))
one_byte text n small four p2 p3 e less =
    text_of_four text four ∙ rw (p2, p3) (two_letters _ _ n _ _ (first_adds _ (small 0)) (second_adds _ (small 1)) e less)

pub two_bytes : (text : List ℕ) (n : ℕ) → IsBytes text → length text ≡ 4 → slice_index text 3 ≡ 61
    → n ≡ slice_index FIRST (slice_index text 0) + slice_index SECOND (slice_index text 1) + slice_index THIRD (slice_index text 2) → n < 65536
    → text ≡ encode_of standard (take 2 (to_le_bytes w32 n))
two_bytes text n small four p3 e less =
    text_of_four text four ∙ rw p3 (three_letters _ _ _ n _ _ _ (first_adds _ (small 0)) (second_adds _ (small 1)) (third_adds _ (small 2)) e less)

-- ---- groups are decoded one after another

-- the encoding of m bytes followed by n new bytes is that of the m, followed by that of the n
pub written_front : (octets ys : List ℕ) (m n k : ℕ) → m % 3 ≡ 0 → m ≤ length octets → n ≤ length ys
    → encode_of standard (take (m + n) (put_mid m k octets ys)) ≡ encode_of standard (take m octets) ++ encode_of standard (take n ys)
written_front octets ys m n k whole room few =
    let front : List ℕ = take m octets in
    let rest : List ℕ = post_of m k octets in
    let len : length front ≡ m = length-take-le m octets room in
    let cut : take (length front + n) (front ++ (ys ++ rest)) ≡ front ++ take n ys =
    take-append-add front (ys ++ rest) n ∙ ap (λ (l : List ℕ). front ++ l) (take-append-le n ys rest few) in
    let all : take (m + n) (put_mid m k octets ys) ≡ front ++ take n ys = subst (λ (i : ℕ). take (i + n) (front ++ (ys ++ rest)) ≡ front ++ take n ys) len cut in
    ap (encode_of standard) all ∙ encode_of-append standard front (take n ys) (omega arith)

pub front_more : (text octets ys : List ℕ) (g k : ℕ) → 3 * g ≤ length octets
    → take (4 * g) text ≡ encode_of standard (take (3 * g) octets)
    → take 4 (drop (4 * g) text) ≡ encode_of standard (take 3 ys) → 3 ≤ length ys
    → take (4 * (g + 1)) text ≡ encode_of standard (take (3 * (g + 1)) (put_mid (3 * g) k octets ys))
front_more text octets ys g k room front group few =
    let n4 : 4 * (g + 1) ≡ 4 * g + 4 = omega arith in
    let n3 : 3 * (g + 1) ≡ 3 * g + 3 = omega arith in
    rw (n4, n3, take-add (4 * g) 4 text, front, group) (sym (written_front octets ys (3 * g) 3 k (omega arith) room few))

pub front_ends : (text octets ys bytes : List ℕ) (g n k : ℕ) → 3 * g ≤ length octets
    → take (4 * g) text ≡ encode_of standard (take (3 * g) octets)
    → drop (4 * g) text ≡ encode_of standard (take n bytes) → n ≤ 3 → length ys ≡ 3 → ys ≡ take 3 bytes
    → text ≡ encode_of standard (take (3 * g + n) (put_mid (3 * g) k octets ys))
front_ends text octets ys bytes g n k room front last few three e =
    let same : take n ys ≡ take n bytes = rw e (take-take n 3 bytes few) in
    sym (take-append-drop (4 * g) text) ∙ rw (front, last, ← same) (sym (written_front octets ys (3 * g) n k (omega arith) room (omega arith)))
