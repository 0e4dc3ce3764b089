-- The values read from flags, from `--most` and from options that may be absent are those that the
-- matches have.
use Rattle.std.proofs.Common.{◌≡◌, ◌<◌, ◌^◌, ◌∙◌, ap, ℕ, Bool, true, false, Option, Some, None, Result, Ok, Err, refl, sym, subst, arith}
use Rattle.std.specs.Prelude.{◌≤◌, codes}
use Rattle.std.specs.Str.Parse.{ParsesBool}
use Rattle.std.specs.declared.num.ParseIntError.{ParseIntError}
use Rattle.clap.specs.Words.{ReadsOne, TriesOne, Text, one_of, one_text, rows_of}
use Rattle.clap.specs.declared.parser.matches.Found.{Found}
use Rattle.clap.proofs.WalkLemmas.{one_text-rows}
use Rattle.mesosev_args.specs.OptionValues.{HasFlag, HasMost, HasOptional, IsMost, IsWithin}
use Rattle.mesosev_args.proofs.NumberLemmas.{FromStr, IsWritten, written_once}
use Rattle.mes_frame.specs.declared.limits.TheConstants.{MIN_CHUNK, MAX_CHUNK}

-- ---- a flag

-- the contract of `bool::from_str`
abbrev pub BoolFromStr : {E : Type 0} → Text → Result Bool E → Type 0
BoolFromStr text r = ParsesBool text r

set_text : (E : Type 0) (held : Option Text) (r : Option Bool) → (held ≡ None → r ≡ None) → ((t : Text) → held ≡ Some t → ReadsOne {E = E} BoolFromStr t r)
    → r ≡ Some true → held ≡ Some (codes "true")
set_text E None r none value is = let bad : None ≡ Some true = sym (none refl) ∙ is in absurd (cc)
set_text E (Some t) None none value is = absurd (cc)
set_text E (Some t) (Some true) none value is = ap Some (value t refl)
set_text E (Some t) (Some false) none value is = absurd (cc)

unset_text : (E : Type 0) (held : Option Text) (r : Option Bool) → ((t : Text) → held ≡ Some t → ReadsOne {E = E} BoolFromStr t r)
    → (r ≡ Some true → ⊥) → held ≡ Some (codes "true") → ⊥
unset_text E held None value not is = (value (codes "true") is).1.0 refl
unset_text E held (Some true) value not is = not refl
unset_text E held (Some false) value not is = let bad : codes "true" ≡ codes "false" = value (codes "true") is in absurd (cc)

-- for a flag of any name
module _ (E : Type 0) (name : Text) (f : Found) (r : Option Bool) (value : (t : Text) → one_text f name ≡ Some t → ReadsOne {E = E} BoolFromStr t r) where
  pub flag_unset : (r ≡ Some true → ⊥) → one_of name (rows_of f) ≡ Some (codes "true") → ⊥
  flag_unset not is = unset_text E (one_text f name) r value not (one_text-rows f name ∙ is)

  module _ (none : one_text f name ≡ None → r ≡ None) where
    pub flag_set : r ≡ Some true → one_of name (rows_of f) ≡ Some (codes "true")
    flag_set is = sym (one_text-rows f name) ∙ set_text E (one_text f name) r none value is

    -- the flag is set exactly if the value read is true
    pub flag_read : (is_set : Bool) → r ≡ Some is_set → HasFlag name (rows_of f) is_set
    flag_read true is = flag_set is
    flag_read false is = flag_unset (λ e. let bad : Some true ≡ Some false = sym e ∙ is in absurd (cc))

-- ---- the chunk size `--most`

-- the type of the result of reading `--most`
abbrev Tried : Type 0
Tried = Result (Option ℕ) ParseIntError

tried_none : (held : Option Text) (r : Tried) → ((t : Text) → held ≡ Some t → TriesOne FromStr t r) → r ≡ Ok None → held ≡ None
tried_none None r value is = refl
tried_none (Some t) r value is = absurd (subst (λ (s : Tried). TriesOne FromStr t s) is (value t refl))

tried_some : (held : Option Text) (r : Tried) → (held ≡ None → r ≡ Ok None) → ((t : Text) → held ≡ Some t → TriesOne FromStr t r)
    → (n : ℕ) → r ≡ Ok (Some n) → IsWritten n held
tried_some None r none value n is = let same : r ≡ Ok None = none refl in cc
tried_some (Some t) r none value n is =
    let read = subst (λ (s : Tried). TriesOne FromStr t s) is (value t refl) in
    (read.0.0.0, sym read.0.1)

tried_err : (held : Option Text) (r : Tried) (e : ParseIntError) → ((t : Text) → held ≡ Some t → TriesOne FromStr t r)
    → r ≡ Err e → (n : ℕ) → IsWritten n held → n < 2 ^ 32 → ⊥
tried_err None r e value is n h fits = h
tried_err (Some t) r e value is n h fits =
    let read = subst (λ (s : Tried). TriesOne FromStr t s) is (value t refl) in
    read.0 (h.0, rw h.1 fits)

module _ (f : Found) (r : Tried) (value : (t : Text) → one_text f (codes "most") ≡ Some t → TriesOne FromStr t r) where
  -- if no value is read, `--most` has no value
  pub most_absent : r ≡ Ok None → HasMost (rows_of f) None
  most_absent is = sym (one_text-rows f (codes "most")) ∙ tried_none (one_text f (codes "most")) r value is

  module _ (none : one_text f (codes "most") ≡ None → r ≡ Ok None) where
    written : (n : ℕ) → r ≡ Ok (Some n) → IsWritten n (one_of (codes "most") (rows_of f))
    written n is = subst (IsWritten n) (one_text-rows f (codes "most")) (tried_some (one_text f (codes "most")) r none value n is)

    -- if a number is read, it is the value of `--most`
    pub most_given : (n size : ℕ) → r ≡ Ok (Some n) → size ≡ n → HasMost (rows_of f) (Some size)
    most_given n size is same = rw same (written n is)

    -- if the number read is out of range, `--most` has no value in its range, and is not absent
    pub most_out : (n : ℕ) → r ≡ Ok (Some n) → (((MIN_CHUNK ≤ n) × (n ≤ MAX_CHUNK)) → ⊥) → ((most : Option ℕ) × HasMost (rows_of f) most × IsMost most) → ⊥
    most_out n is not (None, has, range) = rw has at (written n is)
    most_out n is not (Some m, has, range) =
        let same : m ≡ n = written_once (one_of (codes "most") (rows_of f)) m n has (written n is) in not (rw (← same) range)

    -- if an error is read, `--most` has no value in its range, and is not absent
    pub most_unread : (e : ParseIntError) → r ≡ Err e → ((most : Option ℕ) × HasMost (rows_of f) most × IsMost most) → ⊥
    most_unread e is (None, has, range) = let same : r ≡ Ok None = none (one_text-rows f (codes "most") ∙ has) in absurd (cc)
    most_unread e is (Some m, has, range) =
        tried_err (one_text f (codes "most")) r e value is m (subst (IsWritten m) (sym (one_text-rows f (codes "most"))) has) (omega (arith, range.1))

-- ---- an option that may be absent

module _ (name : Text) (f : Found) (r : Tried) (value : (t : Text) → one_text f name ≡ Some t → TriesOne FromStr t r) where
  -- if no value is read, the option is not given
  pub optional_absent : r ≡ Ok None → HasOptional name (rows_of f) None
  optional_absent is = sym (one_text-rows f name) ∙ tried_none (one_text f name) r value is

  module _ (none : one_text f name ≡ None → r ≡ Ok None) where
    -- if a number is read, it is the value of the option
    pub optional_given : (n : ℕ) → r ≡ Ok (Some n) → HasOptional name (rows_of f) (Some n)
    optional_given n is = subst (IsWritten n) (one_text-rows f name) (tried_some (one_text f name) r none value n is)

    module _ (least greatest : ℕ) where
      -- if the number read is out of range, the option has no value in its range, and is not absent
      pub optional_out : (n : ℕ) → r ≡ Ok (Some n) → (((least ≤ n) × (n ≤ greatest)) → ⊥)
          → ((m : Option ℕ) × HasOptional name (rows_of f) m × IsWithin least greatest m) → ⊥
      optional_out n is not (None, has, range) = rw has at (optional_given n is)
      optional_out n is not (Some m, has, range) =
          let same : m ≡ n = written_once (one_of name (rows_of f)) m n has (optional_given n is) in not (rw (← same) range)

      -- if an error is read, the option has no value in its range, and is not absent
      pub optional_unread : greatest < 2 ^ 32 → (e : ParseIntError) → r ≡ Err e
          → ((m : Option ℕ) × HasOptional name (rows_of f) m × IsWithin least greatest m) → ⊥
      optional_unread small e is (None, has, range) = let same : r ≡ Ok None = none (one_text-rows f name ∙ has) in absurd (cc)
      optional_unread small e is (Some m, has, range) =
          tried_err (one_text f name) r e value is m (subst (IsWritten m) (sym (one_text-rows f name)) has) (omega (arith, range.1, small))
