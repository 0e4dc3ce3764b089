-- The number that `get_one` reads from an option of the command line is the one that the option's
-- text writes in decimal digits.
use Rattle.std.proofs.Common.{◌≡◌, ◌<◌, ◌^◌, ◌∙◌, ℕ, List, Option, Some, None, Result, refl, sym, subst, arith}
use Rattle.std.specs.Prelude.{IsSomeAnd, ◌≤◌}
use Rattle.std.specs.Str.Parse.{ExplainsUnsignedError, HasUnsignedDigitsIfOk, ParsesUnsigned}
use Rattle.std.specs.declared.num.ParseIntError.{ParseIntError}
use Rattle.clap.specs.Words.{ReadsOne, Row, Text, one_of, one_text, rows_of}
use Rattle.clap.specs.declared.parser.matches.Found.{Found}
use Rattle.clap.proofs.WalkLemmas.{one_text-rows}
use Rattle.mesosev_args.specs.OptionValues.{HasNumber, Writes}

-- the contract of `u32::from_str`
abbrev pub FromStr : Text → Result ℕ ParseIntError → Type 0
FromStr text r = ParsesUnsigned 32 10 text r × ExplainsUnsignedError 10 text r × HasUnsignedDigitsIfOk text r

-- the text, if present, writes the number in decimal digits
abbrev pub IsWritten : ℕ → Option Text → Type 0
IsWritten n held = IsSomeAnd held (λ t. Writes t n)

-- if a number is read, the text writes this number
written_of_some : (held : Option Text) (r : Option ℕ) → (held ≡ None → r ≡ None) → ((t : Text) → held ≡ Some t → ReadsOne FromStr t r)
    → (n : ℕ) → r ≡ Some n → IsWritten n held
written_of_some None r none value n is =
    let bad : None ≡ Some n = sym (none refl) ∙ is in
    cc
written_of_some (Some t) None none value n is = cc
written_of_some (Some t) (Some m) none value n is =
    let read = value t refl in
    let same : m ≡ n = cc in
    (read.0.0.0, sym read.0.1 ∙ same)

-- if no number is read, the text writes no number below 2^32
written_of_none : (held : Option Text) (r : Option ℕ) → ((t : Text) → held ≡ Some t → ReadsOne FromStr t r)
    → r ≡ None → (n : ℕ) → IsWritten n held → n < 2 ^ 32 → ⊥
written_of_none None r value is n h fits = h
written_of_none (Some t) (Some m) value is n h fits = cc
written_of_none (Some t) None value is n h fits =
    let read = value t refl in
    read.1.0 (h.0, rw h.1 fits)

pub written_once : (held : Option Text) (m n : ℕ) → IsWritten m held → IsWritten n held → m ≡ n
written_once None m n h k = absurd h
written_once (Some t) m n h k = sym h.1 ∙ k.1

pub HasNumber-once : (name : Text) (rows : List Row) (m n : ℕ) → HasNumber name rows m → HasNumber name rows n → m ≡ n
HasNumber-once name rows m n h k = written_once (one_of name rows) m n h k

-- `r` was read from the option of this name
module _ (f : Found) (name : Text) (r : Option ℕ) (value : (t : Text) → one_text f name ≡ Some t → ReadsOne FromStr t r) where
  number_of_none : r ≡ None → (n : ℕ) → HasNumber name (rows_of f) n → n < 2 ^ 32 → ⊥
  number_of_none is n h fits =
      written_of_none (one_text f name) r value is n (subst (IsWritten n) (sym (one_text-rows f name)) h) fits

  -- an option from which no number is read has no number in a range of 32-bit numbers
  pub number_unread : (least most : ℕ) → most < 2 ^ 32 → r ≡ None → ((n : ℕ) × HasNumber name (rows_of f) n × (least ≤ n) × (n ≤ most)) → ⊥
  number_unread least most small is (n, has, above, below) = number_of_none is n has (omega (arith, below, small))

  module _ (none : one_text f name ≡ None → r ≡ None) where
    pub number_read : (n : ℕ) → r ≡ Some n → HasNumber name (rows_of f) n
    number_read n is = subst (IsWritten n) (one_text-rows f name) (written_of_some (one_text f name) r none value n is)

    -- an option from which a number out of the range is read has no number in the range
    pub number_out : (least most n : ℕ) → r ≡ Some n → (((least ≤ n) × (n ≤ most)) → ⊥)
        → ((m : ℕ) × HasNumber name (rows_of f) m × (least ≤ m) × (m ≤ most)) → ⊥
    number_out least most n is not (m, has, above, below) =
        let same : m ≡ n = HasNumber-once name (rows_of f) m n has (number_read n is) in
        not (subst (λ k. (least ≤ k) × (k ≤ most)) same (above, below))
