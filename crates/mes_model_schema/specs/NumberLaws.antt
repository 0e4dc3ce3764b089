-- The laws of the kinds of numbers: each tree has exactly one value or exactly one first fault.
use Rattle.std.proofs.Common.{◌≡◌, inl, inr, ℕ, suc, ◌+◌, ◌*◌, ◌^◌, ◌<◌, ◌≤◌, Bool, true, false, ◌==◌, List, [], ◌∷◌, length, Option, Some, None, refl, sym, ◌∙◌, ap, subst, arith, zero-mul, lit<, lit≤, ℤ, pos, negsuc, ◌+ℤ◌, if◌then◌else◌}
use Rattle.std.specs.Prelude.{◌/◌, ◌%◌, nat_lt, nat_le, Ok, Err, FitsSigned, decimal}
use Rattle.std.specs.Fmt.{signed_decimal}
use Rattle.std.specs.Int.{w32}
use Rattle.std.specs.Int.Signed.{mag}
use Rattle.std.specs.Option.{option_and_then}
use Rattle.std.proofs.lemmas.Bool.Decides.{eqb_tells, leb_tells}
use Rattle.std.proofs.lemmas.Nat.{div-add-mod', mod_below}
use Rattle.std.proofs.Math.Nat.{one-le-pow, mul-div_cancel, mul-mod_left}
use Rattle.mes_fixed.specs.declared.limits.TheConstants.{MAX_NUMBER_TEXT, MAX_UNITS}
use Rattle.mes_fixed.specs.declared.automaton.NumberState.TheVariants.{AtStart}
use Rattle.mes_fixed.specs.declared.fault.NumFault.{NumFault}
use Rattle.mes_fixed.specs.Number.{Numeral, Spells}
use Rattle.mes_fixed.specs.Gathering.{blank, run}
use Rattle.mes_fixed.specs.Value.{mantissa, exponent, signed, HalfUp, Nearest, Whole, GivesUnits, GivesWhole, GivesSigned, LacksUnits, LacksWhole, LacksSigned, Refuses}
use Rattle.mes_fixed.specs.Value.{Reads as ReadsNumber}
use Rattle.mes_fixed.proofs.Reading.{spelt_run}
use Rattle.mes_fixed.proofs.Grammar.{spelt_from_run}
use Rattle.mes_fixed.proofs.Scales.{half_up_once}
use Rattle.mes_fixed.proofs.Readings.{whole_only, signed_only, units_only}
use Rattle.mes_fixed.specs.Text.{text_of}
use Rattle.mes_json.specs.Tree.Tree.{boolean, number}
use Rattle.mes_json.specs.Cursor.{as_number}
use Rattle.mes_model_schema.specs.Paths.{Place}
use Rattle.mes_model_schema.specs.Fields.{fault}
use Rattle.mes_model_schema.specs.Kinds.{Lawful, Within}
use Rattle.mes_model_schema.specs.Leaves.{number_of}
use Rattle.mes_model_schema.specs.Numbers.{when, exact, nearest, is_unsigned, whole_value, signed_value, units_of, units_value, value_of, or_range, numbers, whole, signed32, fixed}
use Rattle.mes_model_schema.specs.FieldLaws.{bound, broken}
use Rattle.mes_model_schema.specs.StepLaws.{fault_there, expected_there, breaks_there}
use Rattle.mes_model_schema.specs.KindLaws.{number_is}
use Rattle.mes_model_schema.specs.declared.field.FieldFault.{FieldFault}
use Rattle.mes_model_schema.specs.declared.field.FieldFaultKind.TheVariants.{WrongKind, NumberRange}

-- ---- `Option`, and comparisons of natural numbers

pub when_some : {X : Type 0} (b : Bool) (x y : X) → when b x ≡ Some y → (b ≡ true) × (x ≡ y)
when_some true x y e = (refl, cc)
when_some false x y e = absurd (cc)

pub less : (a b : ℕ) → nat_lt a b ≡ true → a < b
less a b e = elim (leb_tells (suc a) b) [
  | inl h ↦ omega (arith, h.1)
  | inr h ↦ let bad = h.0 in absurd (cc)
]

at_most : (a b : ℕ) → nat_le a b ≡ true → a ≤ b
at_most a b e = elim (leb_tells a b) [
  | inl h ↦ h.1
  | inr h ↦ let bad = h.0 in absurd (cc)
]

at_most_test : (a b : ℕ) → a ≤ b → nat_le a b ≡ true
at_most_test a b le = elim (leb_tells a b) [
  | inl h ↦ h.0
  | inr h ↦ absurd (omega (arith, h.1, le))
]

pub less_test : (a b : ℕ) → a < b → nat_lt a b ≡ true
less_test a b lt = elim (leb_tells (suc a) b) [
  | inl h ↦ h.0
  | inr h ↦ absurd (omega (arith, h.1, lt))
]

pub then_some : {X Y : Type 0} (f : X → Option Y) (o : Option X) (y : Y) → option_and_then f o ≡ Some y → (x : X) × (o ≡ Some x) × (f x ≡ Some y)
then_some f None y e = absurd (cc)
then_some f (Some x) y e = (x, refl, e)

-- ---- a text has at most one value

value_sound : {X : Type 0} (Gives : Numeral → X → Type 0) (value : Numeral → Option X) → ((n : Numeral) (x : X) → value n ≡ Some x → Gives n x)
    → (text : List ℕ) (x : X) → value_of value text ≡ Some x → ReadsNumber Gives text x
value_sound Gives value gives text x e = elim (leb_tells (length text) MAX_NUMBER_TEXT) [
  | inl le ↦
      let h = then_some value (run AtStart blank text) x (rw (le.0) at e) in
      record { short = le.1; numeral = h.0; spells = spelt_from_run text h.0 h.1; gives = gives h.0 x h.2 }
  | inr lt ↦ let bad : None ≡ Some x = rw (lt.0) at e in absurd (cc)
]

value_complete : {X : Type 0} (Gives : Numeral → X → Type 0) (value : Numeral → Option X) → ((n : Numeral) (x : X) → Gives n x → value n ≡ Some x)
    → (text : List ℕ) (x : X) → ReadsNumber Gives text x → value_of value text ≡ Some x
value_complete Gives value says text x h = elim (leb_tells (length text) MAX_NUMBER_TEXT) [
  | inl le ↦ rw (le.0, spelt_run text h.numeral h.spells) (says h.numeral x h.gives)
  | inr lt ↦ let short = h.short in absurd (omega (arith, lt.1, short))
]

range_some : {X : Type 0} (at : List Place) (o : Option X) (x : X) → or_range at o ≡ Ok x → o ≡ Some x
range_some at None x e = absurd (cc)
range_some at (Some y) x e = cc

range_there : {X : Type 0} (at : List Place) (o : Option X) (f : FieldFault) → or_range at o ≡ Err f → length f.path ≡ length at
range_there at None f e = fault_there at NumberRange f e
range_there at (Some x) f e = absurd (cc)

pub zero_parts : Numeral
zero_parts = record { negative = false; whole = 48 ∷ []; fraction = []; lowers = false; power = [] }

zero_spelt : Spells (48 ∷ []) zero_parts
unfolding zero_parts
zero_spelt = record { minus = []; frac = []; exp = []; is = refl; is_minus = refl; is_int = inl (refl, refl); is_frac = refl; is_exp = (refl, refl) }

-- the law of a kind of numbers in which the text `0` has a value
pub lawful_numbers : {X : Type 0} (Gives : Numeral → X → Type 0) (value : Numeral → Option X) (write : X → List ℕ)
    → ((n : Numeral) (x : X) → value n ≡ Some x → Gives n x) → ((n : Numeral) (x : X) → Gives n x → value n ≡ Some x)
    → (x : X) × Gives zero_parts x → Lawful (numbers Gives value write) 0
lawful_numbers {X} Gives value write gives says some = record {
  sound = λ at t x e.
      let h = bound (number_of at t) _ _ e in
      (h.0, number_is at t h.0 h.1, value_sound Gives value gives h.0 x (range_some at (value_of value h.0) x h.2));
  complete = λ at t x h. rw (h.1, value_complete Gives value says h.0 x h.2) refl;
  no_null = λ x h. let e = h.1 in absurd (cc);
  sample = (
    number (48 ∷ []),
    some.0,
    (48 ∷ [], refl, record { short = lit≤ tt; numeral = zero_parts; spells = zero_spelt; gives = some.1 }),
  );
  within = within;
  reached = breaks_there (numbers Gives value write) (boolean true) WrongKind (λ e. absurd (cc)) (λ at. refl);
} where
  within : Within (numbers Gives value write) 0
  within at t f e = elim (broken (number_of at t) _ f e) [
    | inl h ↦ omega (arith, expected_there at (as_number t) f h)
    | inr h ↦ omega (arith, range_there at (value_of value h.0) f h.2)
  ]

-- ---- the value computed from the parts of a text

exact_sound : (m : ℕ) (e : ℤ) (v : ℕ) → exact m e ≡ Some v → Whole m e v
exact_sound m (pos k) v h = cc
exact_sound m (negsuc k) v h =
    let both = when_some (m % 10 ^ suc k == 0) (m / 10 ^ suc k) v h in
    elim (eqb_tells (m % 10 ^ suc k) 0) [
      | inl is ↦ sym (div-add-mod' m (10 ^ suc k)) ∙ rw (is.1, both.1) (omega arith)
      | inr isnt ↦ let test = both.0 in let bad = isnt.0 in absurd (cc)
    ]

exact_complete : (m : ℕ) (e : ℤ) (v : ℕ) → Whole m e v → exact m e ≡ Some v
exact_complete m (pos k) v h = cc
exact_complete m (negsuc k) v h = whole_part (10 ^ suc k) (one-le-pow (suc k) 10 (lit< tt)) h where
  whole_part : (w : ℕ) → 1 ≤ w → m ≡ v * w → when (m % w == 0) (m / w) ≡ Some v
  whole_part w le is = elim (eqb_tells (m % w) 0) [
    | inl e ↦ rw (e.0) (ap (λ (x : ℕ). Some x) (ap (λ (x : ℕ). x / w) is ∙ mul-div_cancel v {n = w} (omega (arith, le))))
    | inr e ↦ absurd (e.1 (ap (λ (x : ℕ). x % w) is ∙ mul-mod_left v w))
  ]

nearest_is : (m w : ℕ) → 1 ≤ w → HalfUp m w ((2 * m + w) / (2 * w))
nearest_is m w le =
    let q : ℕ = (2 * m + w) / (2 * w) in
    let parts : q * (2 * w) + (2 * m + w) % (2 * w) ≡ 2 * m + w = div-add-mod' (2 * m + w) (2 * w) in
    let below : (2 * m + w) % (2 * w) < 2 * w = mod_below (2 * m + w) (2 * w) (omega (arith, le)) in
    half_up q ((2 * m + w) % (2 * w)) parts below where
      half_up : (q r : ℕ) → q * (2 * w) + r ≡ 2 * m + w → r < 2 * w → HalfUp m w q
      half_up q r parts below = record { low = omega arith; high = omega arith }

nearest_sound : (m : ℕ) (e : ℤ) → Nearest m e (nearest m e)
nearest_sound m (pos k) = refl
nearest_sound m (negsuc k) = nearest_is m (10 ^ suc k) (one-le-pow (suc k) 10 (lit< tt))

nearest_complete : (m : ℕ) (e : ℤ) (u : ℕ) → Nearest m e u → nearest m e ≡ u
nearest_complete m (pos k) u h = sym h
nearest_complete m (negsuc k) u h = half_up_once m (10 ^ suc k) (nearest m (negsuc k)) u (nearest_sound m (negsuc k)) h

unsigned_sound : (n : Numeral) → is_unsigned n ≡ true → n.negative ≡ true → mantissa n ≡ 0
unsigned_sound n h negative = elim (eqb_tells (mantissa n) 0) [
  | inl is ↦ is.1
  | inr isnt ↦ let test : (mantissa n == 0) ≡ true = rw negative at h in let bad = isnt.0 in absurd (cc)
]

unsigned_complete : (n : Numeral) → (n.negative ≡ true → mantissa n ≡ 0) → is_unsigned n ≡ true
unsigned_complete n h = by_sign n.negative refl where
  by_sign : (b : Bool) → n.negative ≡ b → (if b then mantissa n == 0 else true) ≡ true
  by_sign true e = rw (h e) refl
  by_sign false e = refl

-- ---- the law of unsigned whole numbers

whole_gives : (n : Numeral) (v : ℕ) → whole_value n ≡ Some v → GivesWhole n v
whole_gives n v e = by_test (is_unsigned n) refl e where
  by_test : (b : Bool) → is_unsigned n ≡ b
      → (if b then option_and_then (λ x. when (nat_lt x (2 ^ 64)) x) (exact (mantissa n) (exponent n)) else None) ≡ Some v → GivesWhole n v
  by_test false is e = absurd (cc)
  by_test true is e =
      let h = then_some (λ x. when (nat_lt x (2 ^ 64)) x) (exact (mantissa n) (exponent n)) v e in
      let small = when_some (nat_lt h.0 (2 ^ 64)) h.0 v h.2 in
      let same : h.0 ≡ v = small.1 in
      record {
        unsigned = unsigned_sound n is;
        whole = exact_sound (mantissa n) (exponent n) v (h.1 ∙ ap (λ (x : ℕ). Some x) same);
        fits = subst (λ (x : ℕ). x < 2 ^ 64) same (less h.0 (2 ^ 64) small.0);
      }

whole_says : (n : Numeral) (v : ℕ) → GivesWhole n v → whole_value n ≡ Some v
whole_says n v h =
    rw (unsigned_complete n h.unsigned, exact_complete (mantissa n) (exponent n) v h.whole, less_test v (2 ^ 64) h.fits) refl

whole_zero : GivesWhole zero_parts 0
unfolding zero_parts
whole_zero = record { unsigned = λ e. absurd (cc); whole = refl; fits = lit< tt }

pub lawful_whole : Lawful whole 0
unfolding whole
lawful_whole = lawful_numbers GivesWhole whole_value decimal whole_gives whole_says (0, whole_zero)

-- ---- the law of signed whole numbers

signed_gives : (n : Numeral) (z : ℤ) → signed_value n ≡ Some z → GivesSigned n z
signed_gives n z e =
    let h = then_some (λ v. when (nat_lt (mag (signed n.negative v)) (2 ^ 31)) (signed n.negative v)) (exact (mantissa n) (exponent n)) z e in
    let small = when_some (nat_lt (mag (signed n.negative h.0)) (2 ^ 31)) (signed n.negative h.0) z h.2 in
    record {
      size = h.0;
      whole = exact_sound (mantissa n) (exponent n) h.0 h.1;
      is = sym small.1;
      fits = subst (FitsSigned w32) small.1 (record { sfits = less (mag (signed n.negative h.0)) (2 ^ 31) small.0 });
    }

signed_says : (n : Numeral) (z : ℤ) → GivesSigned n z → signed_value n ≡ Some z
signed_says n z h =
    let small : mag (signed n.negative h.size) < 2 ^ 31 = subst (λ (x : ℤ). mag x < 2 ^ 31) h.is h.fits.sfits in
    rw (exact_complete (mantissa n) (exponent n) h.size h.whole, less_test (mag (signed n.negative h.size)) (2 ^ 31) small)
    (ap (λ (x : ℤ). Some x) (sym h.is))

signed_zero : GivesSigned zero_parts (pos 0)
unfolding zero_parts
signed_zero = record { size = 0; whole = refl; is = refl; fits = record { sfits = lit< tt } }

pub lawful_signed32 : Lawful signed32 0
unfolding signed32
lawful_signed32 = lawful_numbers GivesSigned signed_value signed_decimal signed_gives signed_says (pos 0, signed_zero)

-- ---- the law of decimal numbers

units_give : (places : ℕ) (n : Numeral) (u : ℕ) → units_value places n ≡ Some u → GivesUnits places n u
units_give places n u e = by_test (is_unsigned n) refl e where
  by_test : (b : Bool) → is_unsigned n ≡ b → (if b then when (nat_le (units_of places n) MAX_UNITS) (units_of places n) else None) ≡ Some u
      → GivesUnits places n u
  by_test false is e = absurd (cc)
  by_test true is e =
      let small = when_some (nat_le (units_of places n) MAX_UNITS) (units_of places n) u e in
      record {
        unsigned = unsigned_sound n is;
        rounds = subst (Nearest (mantissa n) (exponent n +ℤ pos places)) small.1 (nearest_sound (mantissa n) (exponent n +ℤ pos places));
        fits = subst (λ (x : ℕ). x ≤ MAX_UNITS) small.1 (at_most (units_of places n) MAX_UNITS small.0);
      }

units_say : (places : ℕ) (n : Numeral) (u : ℕ) → GivesUnits places n u → units_value places n ≡ Some u
units_say places n u h =
    let same : units_of places n ≡ u = nearest_complete (mantissa n) (exponent n +ℤ pos places) u h.rounds in
    rw (unsigned_complete n h.unsigned, same, at_most_test u MAX_UNITS h.fits) refl

units_zero : (places : ℕ) → GivesUnits places zero_parts 0
unfolding zero_parts
units_zero places = record { unsigned = λ e. absurd (cc); rounds = sym (zero-mul _); fits = omega arith }

pub lawful_fixed : (places : ℕ) → Lawful (fixed places) 0
unfolding fixed
lawful_fixed places = lawful_numbers (GivesUnits places) (units_value places) (text_of places) (units_give places) (units_say places) (0, units_zero places)

-- ---- an error of `mes_fixed` means out of range

none_range : {X : Type 0} (Gives : Numeral → X → Type 0) (value : Numeral → Option X) → ((n : Numeral) (x : X) → value n ≡ Some x → Gives n x)
    → (text : List ℕ) → ((x : X) → ReadsNumber Gives text x → ⊥) → value_of value text ≡ None
none_range {X} Gives value gives text never = by_value (value_of value text) refl where
  by_value : (o : Option X) → value_of value text ≡ o → o ≡ None
  by_value None e = refl
  by_value (Some x) e = absurd (never x (value_sound Gives value gives text x e))

pub whole_refused : (at : List Place) (text : List ℕ) (f : NumFault) → Refuses LacksWhole text f → whole.read at (number text) ≡ fault at NumberRange
unfolding whole
whole_refused at text f h =
    rw (none_range GivesWhole whole_value whole_gives text (λ v reads. let e = whole_only text (Err f) tt h v reads in absurd (cc))) refl

pub signed32_refused : (at : List Place) (text : List ℕ) (f : NumFault) → Refuses LacksSigned text f → signed32.read at (number text) ≡ fault at NumberRange
unfolding signed32
signed32_refused at text f h =
    rw (none_range GivesSigned signed_value signed_gives text (λ z reads. let e = signed_only text (Err f) tt h z reads in absurd (cc))) refl

pub fixed_refused : (places : ℕ) (at : List Place) (text : List ℕ) (f : NumFault) → Refuses (LacksUnits places) text f
    → (fixed places).read at (number text) ≡ fault at NumberRange
unfolding fixed
fixed_refused places at text f h =
    rw (none_range (GivesUnits places) (units_value places) (units_give places) text (λ u reads. let e = units_only places text (Err f) tt h u reads in absurd (cc))) refl
