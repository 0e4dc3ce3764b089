-- The kinds of numbers in JSON. `mes_fixed` defines which number a text represents; the functions
-- here compute it from the parts of the text.
use Rattle.std.specs.Prelude.{◌≡◌, ℕ, suc, ◌+◌, ◌*◌, ◌/◌, ◌%◌, ◌^◌, Bool, true, ◌==◌, nat_lt, nat_le, if◌then◌else◌, List, length, Option, Some, None, Result, Ok, ℤ, pos, negsuc, ◌+ℤ◌, decimal}
use Rattle.std.specs.Option.{option_and_then}
use Rattle.std.specs.Fmt.{signed_decimal}
use Rattle.std.specs.Int.Signed.{mag}
use Rattle.mes_fixed.specs.declared.limits.TheConstants.{MAX_NUMBER_TEXT, MAX_UNITS}
use Rattle.mes_fixed.specs.declared.automaton.NumberState.TheVariants.{AtStart}
use Rattle.mes_fixed.specs.Number.{Numeral}
use Rattle.mes_fixed.specs.Gathering.{blank, run}
use Rattle.mes_fixed.specs.Value.{mantissa, exponent, signed, GivesUnits, GivesWhole, GivesSigned}
use Rattle.mes_fixed.specs.Value.{Reads as ReadsNumber}
use Rattle.mes_fixed.specs.Text.{text_of}
use Rattle.mes_json.specs.Tree.Tree.{number}
use Rattle.mes_model_schema.specs.Paths.{Place}
use Rattle.mes_model_schema.specs.Fields.{fault}
use Rattle.mes_model_schema.specs.Kinds.{Kind, ◌>>=◌}
use Rattle.mes_model_schema.specs.Leaves.{number_of}
use Rattle.mes_model_schema.specs.declared.field.FieldFault.{FieldFault}
use Rattle.mes_model_schema.specs.declared.field.FieldFaultKind.TheVariants.{NumberRange}

-- x if the test is true, else `None`
abbrev pub when : {X : Type 0} → Bool → X → Option X
when b x = if b then Some x else None

-- m * 10^e, if it is a whole number
abbrev pub exact : ℕ → ℤ → Option ℕ
exact m (pos k) = Some (m * 10 ^ k)
exact m (negsuc k) = when (m % 10 ^ suc k == 0) (m / 10 ^ suc k)

-- m * 10^e, rounded to the nearest whole number, a half upwards
abbrev pub nearest : ℕ → ℤ → ℕ
nearest m (pos k) = m * 10 ^ k
nearest m (negsuc k) = (2 * m + 10 ^ suc k) / (2 * 10 ^ suc k)

-- the text has no minus sign, or the number is zero
abbrev pub is_unsigned : Numeral → Bool
is_unsigned n = if n.negative then mantissa n == 0 else true

abbrev pub whole_value : Numeral → Option ℕ
whole_value n =
    if is_unsigned n then option_and_then (λ v. when (nat_lt v (2 ^ 64)) v) (exact (mantissa n) (exponent n)) else None

abbrev pub signed_value : Numeral → Option ℤ
signed_value n =
    option_and_then (λ v. when (nat_lt (mag (signed n.negative v)) (2 ^ 31)) (signed n.negative v)) (exact (mantissa n) (exponent n))

abbrev pub units_of : ℕ → Numeral → ℕ
units_of places n = nearest (mantissa n) (exponent n +ℤ pos places)

abbrev pub units_value : ℕ → Numeral → Option ℕ
units_value places n = if is_unsigned n then when (nat_le (units_of places n) MAX_UNITS) (units_of places n) else None

-- the value of a text, which must have at most MAX_NUMBER_TEXT bytes
abbrev pub value_of : {X : Type 0} → (Numeral → Option X) → List ℕ → Option X
value_of value text = if nat_le (length text) MAX_NUMBER_TEXT then option_and_then value (run AtStart blank text) else None

abbrev pub or_range : {X : Type 0} → List Place → Option X → Result X FieldFault
or_range at None = fault at NumberRange
or_range at (Some x) = Ok x

-- the kind of numbers with values in X: which numbers have a value, and the text of a value
abbrev pub numbers : {X : Type 0} → (Numeral → X → Type 0) → (Numeral → Option X) → (X → List ℕ) → Kind X
numbers Gives value write = record {
  Reads = λ t x. (text : List ℕ) × (t ≡ number text) × ReadsNumber Gives text x;
  read = λ at t. number_of at t >>= λ text. or_range at (value_of value text);
  tree = λ x. number (write x);
}

-- the kind of unsigned 64-bit whole numbers
unfoldable pub whole : Kind ℕ
whole = numbers GivesWhole whole_value decimal

-- the kind of signed 32-bit whole numbers
unfoldable pub signed32 : Kind ℤ
signed32 = numbers GivesSigned signed_value signed_decimal

-- the kind of decimal numbers, in units of 10^-places and rounded to the nearest unit
unfoldable pub fixed : ℕ → Kind ℕ
fixed places = numbers (GivesUnits places) (units_value places) (text_of places)
