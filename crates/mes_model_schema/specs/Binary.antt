-- Bytes, in JSON a string with their padded base64 text (RFC 4648 section 4).
use Rattle.std.specs.Prelude.{◌≡◌, ℕ, nat_lt, Bool, ◌&&◌, List, bytes_eq, Option, Some, None, Result, Ok}
use Rattle.std.specs.List.{list_all}
use Rattle.base64.specs.declared.engine.general_purpose.GeneralPurpose.{GeneralPurpose}
use Rattle.base64.specs.GeneralPurpose.{IsBytes, encode_of, decoded_bytes_of}
use Rattle.base64.specs.Engines.{standard}
use Rattle.mes_json.specs.Tree.Tree.{string}
use Rattle.mes_model_schema.specs.Paths.{Place}
use Rattle.mes_model_schema.specs.Fields.{fault}
use Rattle.mes_model_schema.specs.Kinds.{Kind, ◌>>=◌}
use Rattle.mes_model_schema.specs.Leaves.{text_of}
use Rattle.mes_model_schema.specs.Numbers.{when}
use Rattle.mes_model_schema.specs.declared.field.FieldFault.{FieldFault}
use Rattle.mes_model_schema.specs.declared.field.FieldFaultKind.TheVariants.{BadBase64}

-- the engine encodes these bytes as the text
abbrev pub Encodes : GeneralPurpose → List ℕ → List ℕ → Type 0
Encodes engine text bytes = (text ≡ encode_of engine bytes) × IsBytes bytes

-- `Encodes` as a boolean
abbrev pub encodes : GeneralPurpose → List ℕ → List ℕ → Bool
encodes engine text bytes = bytes_eq text (encode_of engine bytes) && list_all (λ b. nat_lt b 256) bytes

-- the bytes that the text encodes, if it is the text of any bytes
unfoldable pub bytes_in : GeneralPurpose → List ℕ → Option (List ℕ)
bytes_in engine text = when (encodes engine text (decoded_bytes_of engine text)) (decoded_bytes_of engine text)

abbrev pub or_base64 : List Place → Option (List ℕ) → Result (List ℕ) FieldFault
or_base64 at None = fault at BadBase64
or_base64 at (Some bytes) = Ok bytes

-- the kind of bytes that are written as the string that the engine encodes
abbrev pub encoded_by : GeneralPurpose → Kind (List ℕ)
encoded_by engine = record {
  Reads = λ t bytes. (text : List ℕ) × (t ≡ string text) × Encodes engine text bytes;
  read = λ at t. text_of at t >>= λ text. or_base64 at (bytes_in engine text);
  tree = λ bytes. string (encode_of engine bytes);
}

-- the kind of bytes that are padded base64 in the standard alphabet, with unused bits zero
unfoldable pub base64_bytes : Kind (List ℕ)
base64_bytes = encoded_by standard
