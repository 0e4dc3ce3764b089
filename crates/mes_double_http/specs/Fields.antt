-- The fields of a head (RFC 9110 section 5), and the rules for them.
use Rattle.std.specs.Prelude.{◌≡◌, ℕ, ◌≤◌, Bool, false, ◌==◌, List, [], ◌∷◌, length, take, map, filter, Option, None, Some, position, codes}
use Rattle.std.specs.Option.{option_map_or}
use Rattle.std.specs.Str.{str_eq_ignore_ascii_case}
use Rattle.httparse.specs.Grammar.{Field, trim_ows}
use Rattle.httparse.specs.Spans.{name_and_value}
use Rattle.mes_double_http.specs.StreamIds.{IsStreamId}
use Rattle.mes_double_http.specs.declared.fields.Named.{Named}
use Rattle.mes_double_http.specs.declared.fields.Named.TheVariants.{Nothing, One, More}

-- a field's name, and its value without leading and trailing white space
abbrev pub NameAndValue : Type 0
NameAndValue = List ℕ × List ℕ

abbrev pub pairs_of : List Field → List NameAndValue
pairs_of fields = map name_and_value fields

-- the values of the fields with a name, in order; names are case-insensitive
abbrev pub values_named : List ℕ → List NameAndValue → List (List ℕ)
values_named name fields = map (λ field. field.1) (filter (λ field. str_eq_ignore_ascii_case field.0 name) fields)

-- the value of a list with exactly one value
abbrev pub only : List (List ℕ) → Option (List ℕ)
only [] = None
only (v ∷ []) = Some v
only (v ∷ w ∷ vs) = None

-- the result of a search, if these are the values of the fields with the name
abbrev pub IsNamed : Named → List (List ℕ) → Type 0
IsNamed Nothing vs = vs ≡ []
IsNamed (One v) vs = vs ≡ v.now ∷ []
IsNamed More vs = 2 ≤ length vs

-- the part of a value before the first semicolon, or all of it
abbrev pub before_semicolon : List ℕ → List ℕ
before_semicolon value = option_map_or (λ n. take n value) (position (λ b. b == 59) value) value

-- Transfer-Encoding: chunked, and no other coding (RFC 9112 section 6.1)
abbrev pub is_chunked : List NameAndValue → Bool
is_chunked fields = option_map_or (λ v. str_eq_ignore_ascii_case v (codes "chunked")) (only (values_named (codes "transfer-encoding") fields)) false

-- the media type of a Content-Type without parameters (RFC 9110 section 8.3.1) is application/json
abbrev pub is_json_type : List ℕ → Bool
is_json_type value = str_eq_ignore_ascii_case (trim_ows (before_semicolon value)) (codes "application/json")

abbrev pub is_json : List NameAndValue → Bool
is_json fields = option_map_or is_json_type (only (values_named (codes "content-type") fields)) false

-- the head has exactly one stream id, which is valid
abbrev pub NamesStream : List NameAndValue → List ℕ → Type 0
NamesStream fields id = (values_named (codes "mesos-stream-id") fields ≡ id ∷ []) × IsStreamId id

-- the head has no stream id, or exactly one, which is valid
abbrev pub MayNameStream : List NameAndValue → Option (List ℕ) → Type 0
MayNameStream fields None = values_named (codes "mesos-stream-id") fields ≡ []
MayNameStream fields (Some id) = NamesStream fields id
