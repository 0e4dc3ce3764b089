-- The number in a Content-Length, computed digit by digit up to `MAX_BODY + 1`.
use Rattle.std.proofs.Common.{◌≡◌, ℕ, ◌+◌, ◌-◌, ◌*◌, ◌<◌, ◌≤◌, min, List, length, take, get_or, IsTrue, subst, sym, arith}
use Rattle.std.proofs.lemmas.Bool.Decides.{nat_tests}
use Rattle.std.proofs.lemmas.Int.Digits.{digits_value_more}
use Rattle.std.proofs.lemmas.List.{take_more}
use Rattle.std.proofs.lemmas.List.Elements.{All-push}
use Rattle.std.specs.Char.{is_ascii_digit, digit_value}
use Rattle.std.specs.Str.Parse.{digits_value}
use Rattle.httparse.specs.Grammar.{AllPass}
use Rattle.mes_double_http.specs.declared.limits.TheConstants.{MAX_BODY}

-- the first i bytes are digits; `counted` is the number that they write, or MAX_BODY + 1 if larger
pub record CountsDigits (value : List ℕ) (counted i : ℕ) : Type 0 where
  pub digits : AllPass is_ascii_digit (take i value)
  pub number : counted ≡ min (digits_value 10 (take i value)) (MAX_BODY + 1)

digit_small : (d : ℕ) → 48 ≤ d → d ≤ 57 → digit_value d ≡ d - 48
digit_small d low high = grind (arith, nat_tests)

pub counts_more : (value : List ℕ) (counted next i : ℕ) → CountsDigits value counted i → i < length value → IsTrue (is_ascii_digit (get_or value i 0))
    → 48 ≤ get_or value i 0 → get_or value i 0 ≤ 57 → next ≡ min (counted * 10 + (get_or value i 0 - 48)) (MAX_BODY + 1) → CountsDigits value next (i + 1)
counts_more value counted next i c inside digit low high is = record {
  digits = subst (AllPass is_ascii_digit) (sym (take_more value i 0 inside)) (All-push (λ b. IsTrue (is_ascii_digit b)) (take i value) (get_or value i 0) c.digits digit);
  number =
      let small = digit_small (get_or value i 0) low high in
      omega (arith, is, c.number, digits_value_more 10 value i inside, small);
}
