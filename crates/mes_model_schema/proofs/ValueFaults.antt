-- Lemmas: the first fault of a string, number, boolean, object or bytes is another JSON type, or
-- the right type but no value.
use Rattle.std.proofs.Common.{◌≡◌, ◌⊎◌, inl, inr, ◌↔◌, ℕ, List, Option, Some, None, refl, sym, ◌∙◌, ap}
use Rattle.std.specs.Prelude.{Result, Ok, Err, decimal}
use Rattle.std.specs.Fmt.{signed_decimal}
use Rattle.base64.specs.Engines.{standard}
use Rattle.mes_fixed.specs.Number.{Numeral}
use Rattle.mes_fixed.specs.Value.{GivesUnits, GivesWhole, GivesSigned}
use Rattle.mes_fixed.specs.Text.{text_of as text_of_units}
use Rattle.mes_json.specs.Tree.{Tree}
use Rattle.mes_json.specs.Tree.Tree.{null, boolean, number, string, array, object}
use Rattle.mes_json.specs.Cursor.{as_bool, as_number, as_text, as_items, as_members}
use Rattle.mes_model_schema.specs.Paths.{Place}
use Rattle.mes_model_schema.specs.Fields.{fault}
use Rattle.mes_model_schema.specs.Kinds.{Kind, Breaks, Lawful}
use Rattle.mes_model_schema.specs.Leaves.{expected, text_of, number_of, boolean_of, members_at, texts, booleans, objects, left_out}
use Rattle.mes_model_schema.specs.Lists.{items_at}
use Rattle.mes_model_schema.specs.Numbers.{whole_value, signed_value, units_value, value_of, or_range, numbers, whole, signed32, fixed}
use Rattle.mes_model_schema.specs.Binary.{bytes_in, or_base64, encoded_by, base64_bytes}
use Rattle.mes_model_schema.specs.FieldLaws.{broken, breaks_first}
use Rattle.mes_model_schema.specs.KindLaws.{text_is, number_is}
use Rattle.mes_model_schema.specs.NumberLaws.{lawful_whole, lawful_signed32, lawful_fixed}
use Rattle.mes_model_schema.specs.BinaryLaws.{lawful_base64_bytes}
use Rattle.mes_model_schema.specs.FirstFaults.{IsAt, IsRead, IsString, IsBoolean, IsNumber, IsArray, IsObject, OtherKind, ValueBreaks}
use Rattle.mes_model_schema.specs.declared.field.FieldFault.{FieldFault}
use Rattle.mes_model_schema.specs.declared.field.FieldFaultKind.{FieldFaultKind}
use Rattle.mes_model_schema.specs.declared.field.FieldFaultKind.TheVariants.{WrongKind, BadBase64, NumberRange, LeftOut}

-- ---- the path and the reason of a fault

pub is_at : {V : Type 0} (at : List Place) (why : FieldFaultKind) (f : FieldFault) → fault {V = V} at why ≡ Err f → IsAt at why f
is_at {V} at why f e =
    let same : f ≡ record { path = at; why = why } = cc in
    (ap (λ (g : FieldFault). g.path) same, ap (λ (g : FieldFault). g.why) same)

pub told_at : {V : Type 0} (at : List Place) (why : FieldFaultKind) (f : FieldFault) → IsAt at why f → fault {V = V} at why ≡ Err f
told_at {V} at why f h =
    let E : FieldFault → Result V FieldFault = λ g. Err g in
    ap (λ (p : List Place). E (record { path = p; why = why })) (sym h.0) ∙ ap (λ (w : FieldFaultKind). E (record { path = f.path; why = w })) (sym h.1)

-- ---- the fault of a tree with another JSON type

-- the fault `WrongKind` is returned if and only if the tree has another JSON type
kind_told : {V : Type 0} (seen : Tree → Option V) (Is : Tree → Type 0) → ((t : Tree) → Is t → (v : V) × (seen t ≡ Some v)) → ((t : Tree) → ¬ Is t → seen t ≡ None)
    → (at : List Place) (t : Tree) (f : FieldFault) → (expected at (seen t) ≡ Err f) ↔ OtherKind (Is t) at f
kind_told {V} seen Is some none at t f = (to (seen t) refl, from) where
  to : (o : Option V) → seen t ≡ o → expected at o ≡ Err f → OtherKind (Is t) at f
  to None is e = ((λ h. let both : None ≡ Some (some t h).0 = sym is ∙ (some t h).1 in absurd (cc)), is_at {V = V} at WrongKind f e)
  to (Some v) is e = absurd (cc)

  from : OtherKind (Is t) at f → expected at (seen t) ≡ Err f
  from h = rw (none t h.0) (told_at at WrongKind f h.1)

no_string : (t : Tree) → ¬ IsString t → as_text t ≡ None
no_string null other = refl
no_string (boolean x) other = refl
no_string (number n) other = refl
no_string (string s) other = absurd (other (s, refl))
no_string (array ts) other = refl
no_string (object ms) other = refl

pub string_told : (at : List Place) (t : Tree) (f : FieldFault) → (text_of at t ≡ Err f) ↔ OtherKind (IsString t) at f
string_told = kind_told as_text IsString (λ t h. (h.0, ap as_text h.1)) no_string

no_number : (t : Tree) → ¬ IsNumber t → as_number t ≡ None
no_number null other = refl
no_number (boolean x) other = refl
no_number (number n) other = absurd (other (n, refl))
no_number (string s) other = refl
no_number (array ts) other = refl
no_number (object ms) other = refl

pub number_told : (at : List Place) (t : Tree) (f : FieldFault) → (number_of at t ≡ Err f) ↔ OtherKind (IsNumber t) at f
number_told = kind_told as_number IsNumber (λ t h. (h.0, ap as_number h.1)) no_number

no_boolean : (t : Tree) → ¬ IsBoolean t → as_bool t ≡ None
no_boolean null other = refl
no_boolean (boolean x) other = absurd (other (x, refl))
no_boolean (number n) other = refl
no_boolean (string s) other = refl
no_boolean (array ts) other = refl
no_boolean (object ms) other = refl

pub boolean_told : (at : List Place) (t : Tree) (f : FieldFault) → (boolean_of at t ≡ Err f) ↔ OtherKind (IsBoolean t) at f
boolean_told = kind_told as_bool IsBoolean (λ t h. (h.0, ap as_bool h.1)) no_boolean

no_object : (t : Tree) → ¬ IsObject t → as_members t ≡ None
no_object null other = refl
no_object (boolean x) other = refl
no_object (number n) other = refl
no_object (string s) other = refl
no_object (array ts) other = refl
no_object (object ms) other = absurd (other (ms, refl))

pub object_told : (at : List Place) (t : Tree) (f : FieldFault) → (members_at at t ≡ Err f) ↔ OtherKind (IsObject t) at f
object_told = kind_told as_members IsObject (λ t h. (h.0, ap as_members h.1)) no_object

no_array : (t : Tree) → ¬ IsArray t → as_items t ≡ None
no_array null other = refl
no_array (boolean x) other = refl
no_array (number n) other = refl
no_array (string s) other = refl
no_array (array ts) other = absurd (other (ts, refl))
no_array (object ms) other = refl

pub array_told : (at : List Place) (t : Tree) (f : FieldFault) → (items_at at t ≡ Err f) ↔ OtherKind (IsArray t) at f
array_told = kind_told as_items IsArray (λ t h. (h.0, ap as_items h.1)) no_array

pub texts_break : (at : List Place) (t : Tree) (f : FieldFault) → Breaks texts at t f ↔ OtherKind (IsString t) at f
unfolding texts
texts_break = string_told

pub booleans_break : (at : List Place) (t : Tree) (f : FieldFault) → Breaks booleans at t f ↔ OtherKind (IsBoolean t) at f
unfolding booleans
booleans_break = boolean_told

pub objects_break : (at : List Place) (t : Tree) (f : FieldFault) → Breaks objects at t f ↔ OtherKind (IsObject t) at f
unfolding objects
objects_break = object_told

pub left_out_breaks : (at : List Place) (t : Tree) (f : FieldFault) → Breaks left_out at t f ↔ IsAt at LeftOut f
unfolding left_out
left_out_breaks at t f = (is_at {V = ⊥} at LeftOut f, told_at at LeftOut f)

-- ---- the faults of numbers and of bytes

-- if trees of the right JSON type have only one fault, each such tree with no value has that fault
one_reason : {V : Type 0} {steps : ℕ} (k : Kind V) → Lawful k steps → (Is : Tree → Type 0) (why : FieldFaultKind) (at : List Place) (t : Tree) (f : FieldFault)
    → ((g : FieldFault) → Breaks k at t g → OtherKind (Is t) at g ⊎ (Is t × IsAt at why g)) → (OtherKind (Is t) at f → Breaks k at t f)
    → Breaks k at t f ↔ ValueBreaks Is why k at t f
one_reason {V} k lawful Is why at t f reports other = (to, from) where
  unread : (g : FieldFault) → Breaks k at t g → ¬ IsRead k t
  unread g e read = let both : Ok read.0 ≡ Err g = sym (lawful.complete at t read.0 read.1) ∙ e in absurd (cc)

  to : Breaks k at t f → ValueBreaks Is why k at t f
  to e = elim (reports f e) [
    | inl h ↦ inl h
    | inr h ↦ inr (h.0, unread f e, h.1)
  ]

  by_read : Is t → ¬ IsRead k t → IsAt at why f → (r : Result V FieldFault) → k.read at t ≡ r → Breaks k at t f
  by_read is none place (Ok v) e = absurd (none (v, lawful.sound at t v e))
  by_read is none place (Err g) e = elim (reports g e) [
    | inl h ↦ absurd (h.0 is)
    | inr h ↦ e ∙ sym (told_at {V = V} at why g h.1) ∙ told_at at why f place
  ]

  from : ValueBreaks Is why k at t f → Breaks k at t f
  from (inl h) = other h
  from (inr h) = by_read h.0 h.1 h.2 (k.read at t) refl

range_told : {X : Type 0} (at : List Place) (o : Option X) (f : FieldFault) → or_range at o ≡ Err f → IsAt at NumberRange f
range_told {X} at None f e = is_at {V = X} at NumberRange f e
range_told at (Some x) f e = absurd (cc)

base64_told : (at : List Place) (o : Option (List ℕ)) (f : FieldFault) → or_base64 at o ≡ Err f → IsAt at BadBase64 f
base64_told at None f e = is_at {V = List ℕ} at BadBase64 f e
base64_told at (Some bytes) f e = absurd (cc)

numbers_break : {X : Type 0} (Gives : Numeral → X → Type 0) (value : Numeral → Option X) (write : X → List ℕ) → Lawful (numbers Gives value write) 0
    → (at : List Place) (t : Tree) (f : FieldFault) → Breaks (numbers Gives value write) at t f ↔ ValueBreaks IsNumber NumberRange (numbers Gives value write) at t f
numbers_break {X} Gives value write lawful at t f =
    one_reason (numbers Gives value write) lawful IsNumber NumberRange at t f reports (λ h. breaks_first (number_of at t) _ f ((number_told at t f).1 h)) where
      reports : (g : FieldFault) → Breaks (numbers Gives value write) at t g → OtherKind (IsNumber t) at g ⊎ (IsNumber t × IsAt at NumberRange g)
      reports g e = elim (broken (number_of at t) _ g e) [
        | inl h ↦ inl ((number_told at t g).0 h)
        | inr h ↦ inr ((h.0, number_is at t h.0 h.1), range_told at (value_of value h.0) g h.2)
      ]

pub whole_breaks : (at : List Place) (t : Tree) (f : FieldFault) → Breaks whole at t f ↔ ValueBreaks IsNumber NumberRange whole at t f
unfolding whole
whole_breaks = numbers_break GivesWhole whole_value decimal lawful_whole

pub signed32_breaks : (at : List Place) (t : Tree) (f : FieldFault) → Breaks signed32 at t f ↔ ValueBreaks IsNumber NumberRange signed32 at t f
unfolding signed32
signed32_breaks = numbers_break GivesSigned signed_value signed_decimal lawful_signed32

pub fixed_breaks : (places : ℕ) (at : List Place) (t : Tree) (f : FieldFault)
    → Breaks (fixed places) at t f ↔ ValueBreaks IsNumber NumberRange (fixed places) at t f
unfolding fixed
fixed_breaks places = numbers_break (GivesUnits places) (units_value places) (text_of_units places) (lawful_fixed places)

pub bytes_break : (at : List Place) (t : Tree) (f : FieldFault) → Breaks base64_bytes at t f ↔ ValueBreaks IsString BadBase64 base64_bytes at t f
unfolding base64_bytes
bytes_break at t f =
    one_reason base64_bytes lawful_base64_bytes IsString BadBase64 at t f reports (λ h. breaks_first (text_of at t) _ f ((string_told at t f).1 h)) where
      reports : (g : FieldFault) → Breaks (encoded_by standard) at t g → OtherKind (IsString t) at g ⊎ (IsString t × IsAt at BadBase64 g)
      reports g e = elim (broken (text_of at t) _ g e) [
        | inl h ↦ inl ((string_told at t g).0 h)
        | inr h ↦ inr ((h.0, text_is at t h.0 h.1), base64_told at (bytes_in standard h.0) g h.2)
      ]
