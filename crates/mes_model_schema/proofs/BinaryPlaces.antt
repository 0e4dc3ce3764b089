-- Lemmas: the bytes or the fault of a base64 string, from the result of decoding its text.
use Rattle.std.proofs.Common.{◌≡◌, ℕ, List, refl, subst}
use Rattle.std.specs.Prelude.{Ok, Err}
use Rattle.base64.specs.declared.decode.DecodeError.{DecodeError}
use Rattle.base64.specs.declared.decode.DecodeAllocError.{DecodeAllocError}
use Rattle.base64.specs.declared.decode.DecodeAllocError.TheVariants.{DecodeError as Failed}
use Rattle.base64.specs.GeneralPurpose.{IsBytes, IsDecodeFailure, encode_of, decode_of}
use Rattle.base64.specs.Engines.{standard}
use Rattle.mes_json.specs.Tree.{Tree}
use Rattle.mes_model_schema.specs.Paths.{Place}
use Rattle.mes_model_schema.specs.Fields.{fault}
use Rattle.mes_model_schema.specs.Leaves.{text_of}
use Rattle.mes_model_schema.specs.Binary.{base64_bytes}
use Rattle.mes_model_schema.specs.BinaryLaws.{lawful_base64_bytes, no_bytes_in}
use Rattle.mes_model_schema.specs.KindLaws.{text_is}
use Rattle.mes_model_schema.specs.declared.field.FieldFaultKind.TheVariants.{BadBase64}

pub bytes_given : (at : List Place) (t : Tree) (text bytes : List ℕ) → text_of at t ≡ Ok text → text ≡ encode_of standard bytes → IsBytes bytes
    → base64_bytes.read at t ≡ Ok bytes
unfolding base64_bytes
bytes_given at t text bytes is encoded small = lawful_base64_bytes.complete at t bytes (text, text_is at t text is, (encoded, small))

pub bytes_refused : (at : List Place) (t : Tree) (text : List ℕ) (e : DecodeAllocError) (f : DecodeError) → text_of at t ≡ Ok text
    → IsDecodeFailure standard text e → e ≡ Failed f → base64_bytes.read at t ≡ fault at BadBase64
unfolding base64_bytes
bytes_refused at t text e f is fails failed =
    let err : decode_of standard text ≡ Err f = subst (IsDecodeFailure standard text) failed fails in
    rw (is, no_bytes_in standard refl text f err) refl
