-- A number has no colon, so a text with two numbers is split at the colon between them.
use Rattle.std.proofs.Common.{◌≡◌, ◌≢◌, ◌<◌, ℕ, zero, suc, List, [], ◌∷◌, length, get_or, drop, Some, None, subst, sym, ⊎_elim, arith}
use Rattle.std.specs.Str.Parse.{AllDigits}
use Rattle.std.proofs.lemmas.Bool.{cases_eq}
use Rattle.std.proofs.lemmas.Str.Parse.{digit_at, without_leading_plus_none, without_leading_plus_plus}
use Rattle.std.proofs.lemmas.Str.Pattern.{IsSplitOnceResult, split_after}
use Rattle.mes_double_faults.specs.Texts.{Writes, ArePair, HasNoNumber, HasNoPair}
use Rattle.mes_double_faults.specs.declared.number.TheConstants.{MAX_NUMBER}
use denote.Ref.{Bor}

-- no colon is in the text
abbrev pub HasNoColon : List ℕ → Type 0
HasNoColon text = (i : ℕ) → i < length text → get_or text i 0 ≢ 58

digits_no_colon : (text : List ℕ) → AllDigits 10 text → HasNoColon text
digits_no_colon text digits i small is = let range = digit_at text i digits small in omega (arith, range)

plus_no_colon : (text : List ℕ) → get_or text 0 0 ≡ 43 → AllDigits 10 (drop 1 text) → HasNoColon text
plus_no_colon [] plus digits i small is = omega arith
plus_no_colon (c ∷ cs) plus digits zero small is = omega arith
plus_no_colon (c ∷ cs) plus digits (suc i) small is = digits_no_colon cs digits i (omega arith) is

number_no_colon : (text : List ℕ) (n : ℕ) → Writes text n → HasNoColon text
number_no_colon text n writes =
    ⊎_elim
    (λ plus. plus_no_colon text plus (subst (AllDigits 10) (without_leading_plus_plus text plus) writes.0.1))
    (λ other. digits_no_colon text (subst (AllDigits 10) (without_leading_plus_none text other) writes.0.1))
    (cases_eq (get_or text 0 0) 43)

-- a text that is not split is no pair
pub pair_unsplit : (text : List ℕ) (least greatest : ℕ) → IsSplitOnceResult 58 text None → HasNoPair text least greatest
pair_unsplit text least greatest split (m, n, (first, second, one, two, is), place, low, high) =
    split_after 58 text first second None split (omega arith) is (number_no_colon first m one)

module _ (text : List ℕ) (x y : Bor (List ℕ)) (split : IsSplitOnceResult 58 text (Some (x, y))) (least greatest : ℕ) where
  -- the parts of a pair are its numbers
  parts : (m n : ℕ) → ArePair text m n → Writes x.now m × Writes y.now n
  parts m n (first, second, one, two, is) =
      let same = split_after 58 text first second (Some (x, y)) split (omega arith) is (number_no_colon first m one) in
      (subst (λ t. Writes t m) (sym same.0) one, subst (λ t. Writes t n) (sym same.1) two)

  pub pair_no_first : HasNoNumber x.now 1 MAX_NUMBER → HasNoPair text least greatest
  pair_no_first none (m, n, pair, place, low, high) = none (m, (parts m n pair).0, place.0, place.1)

  pub pair_no_second : HasNoNumber y.now least greatest → HasNoPair text least greatest
  pair_no_second none (m, n, pair, place, low, high) = none (n, (parts m n pair).1, low, high)
