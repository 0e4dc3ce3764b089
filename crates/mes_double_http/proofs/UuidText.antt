-- The hyphenated form of a UUID has 36 visible characters.
use Rattle.std.proofs.Common.{◌≡◌, ℕ, ◌<◌, List, All, Bool, true, false, if◌then◌else◌, arith, sym, subst}
use Rattle.std.proofs.lemmas.Bool.Decides.{nat_tests}
use Rattle.uuid.specs.Text.{lower, hyphen, hex_digit, nibble, hyphenated_text, digit_place, is_hyphen_place}
use Rattle.uuid.proofs.TextLemmas.{by_index_length, by_index_at, nibble_small}
use Rattle.mes_double_http.specs.StreamIds.{IsVisible, IsStreamId}

visible_digit : (d : ℕ) → d < 16 → IsVisible (hex_digit lower d)
visible_digit d small = (grind (arith, nat_tests), grind (arith, nat_tests))

visible_place : (b : Bool) (d : ℕ) → d < 16 → IsVisible (if b then hyphen else hex_digit lower d)
visible_place true d small = (omega arith, omega arith)
visible_place false d small = visible_digit d small

hyphenated-visible : (uuid : List ℕ) → All IsVisible (hyphenated_text lower uuid)
hyphenated-visible uuid k d within =
    let inside : k < 36 = omega (arith, by_index_length 36 (λ j. if is_hyphen_place j then hyphen else hex_digit lower (nibble uuid (digit_place j)))) in
    subst IsVisible (sym (by_index_at 36 (λ j. if is_hyphen_place j then hyphen else hex_digit lower (nibble uuid (digit_place j))) k d inside))
    (visible_place (is_hyphen_place k) (nibble uuid (digit_place k)) (nibble_small uuid (digit_place k)))

hyphenated-id : (uuid : List ℕ) → IsStreamId (hyphenated_text lower uuid)
hyphenated-id uuid =
    let len = by_index_length 36 (λ k. if is_hyphen_place k then hyphen else hex_digit lower (nibble uuid (digit_place k))) in
    (omega (arith, len), omega (arith, len), hyphenated-visible uuid)

pub hyphenated-form : (text uuid : List ℕ) → text ≡ hyphenated_text lower uuid → IsStreamId text
hyphenated-form text uuid is = subst IsStreamId (sym is) (hyphenated-id uuid)
