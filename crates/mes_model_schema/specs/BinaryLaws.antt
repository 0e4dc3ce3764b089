-- The laws of bytes as base64 strings.
use Rattle.std.proofs.Common.{◌≡◌, inl, inr, ℕ, zero, suc, Bool, true, false, List, [], ◌∷◌, length, bytes_eq, Option, Some, None, refl, sym, ◌∙◌, ap, subst, arith, lit<}
use Rattle.std.specs.Prelude.{nat_lt, ◌&&◌, Ok, Err}
use Rattle.std.specs.List.{list_all}
use Rattle.base64.specs.declared.decode.DecodeError.{DecodeError}
use Rattle.base64.specs.declared.engine.general_purpose.GeneralPurpose.{GeneralPurpose}
use Rattle.base64.specs.Decode.{decode_outcome}
use Rattle.base64.specs.GeneralPurpose.{IsBytes, IsConsistent, encode_of, decode_of, decoded_bytes_of}
use Rattle.base64.specs.Engines.{standard}
use Rattle.base64.proofs.EngineFacts.{decode_of-encode_of}
use Rattle.mes_json.specs.Tree.Tree.{boolean, string}
use Rattle.mes_json.specs.Cursor.{as_text}
use Rattle.mes_model_schema.specs.Paths.{Place}
use Rattle.mes_model_schema.specs.Kinds.{Lawful, Within, Returns}
use Rattle.mes_model_schema.specs.Leaves.{text_of}
use Rattle.mes_model_schema.specs.Numbers.{when}
use Rattle.mes_model_schema.specs.Binary.{Encodes, encodes, bytes_in, or_base64, encoded_by, base64_bytes}
use Rattle.mes_model_schema.specs.FieldLaws.{bound, broken}
use Rattle.mes_model_schema.specs.NameLaws.{same_name, names_equal}
use Rattle.mes_model_schema.specs.StepLaws.{fault_there, expected_there, breaks_there}
use Rattle.mes_model_schema.specs.KindLaws.{text_is}
use Rattle.mes_model_schema.specs.NumberLaws.{when_some, less, less_test}
use Rattle.mes_model_schema.specs.declared.field.FieldFault.{FieldFault}
use Rattle.mes_model_schema.specs.declared.field.FieldFaultKind.TheVariants.{WrongKind, BadBase64}

-- ---- a list is checked to have only numbers below 256

both : (a b : Bool) → (a && b) ≡ true → (a ≡ true) × (b ≡ true)
both true b e = (refl, e)
both false b e = absurd (cc)

are_bytes : (bs : List ℕ) → list_all (λ b. nat_lt b 256) bs ≡ true → IsBytes bs
are_bytes [] e i = lit< tt
are_bytes (b ∷ bs) e zero = less b 256 (both (nat_lt b 256) _ e).0
are_bytes (b ∷ bs) e (suc i) = are_bytes bs (both (nat_lt b 256) _ e).1 i

bytes_test : (bs : List ℕ) → IsBytes bs → list_all (λ b. nat_lt b 256) bs ≡ true
bytes_test [] h = refl
bytes_test (b ∷ bs) h = rw (less_test b 256 (h 0), bytes_test bs (λ i. h (suc i))) refl

-- ---- a text encodes at most one list of bytes

pub encodes_is : (engine : GeneralPurpose) (text bytes : List ℕ) → encodes engine text bytes ≡ true → Encodes engine text bytes
encodes_is engine text bytes e =
    let h = both (bytes_eq text (encode_of engine bytes)) _ e in
    (names_equal text (encode_of engine bytes) h.0, are_bytes bytes h.1)

outcome_ok : (x : Option DecodeError) (d b : List ℕ) → decode_outcome x d ≡ Ok b → d ≡ b
outcome_ok None d b e = cc
outcome_ok (Some f) d b e = absurd (cc)

pub bytes_in_sound : (engine : GeneralPurpose) (text bytes : List ℕ) → bytes_in engine text ≡ Some bytes → Encodes engine text bytes
unfolding bytes_in
bytes_in_sound engine text bytes e =
    let h = when_some (encodes engine text (decoded_bytes_of engine text)) (decoded_bytes_of engine text) bytes e in
    subst (λ (bs : List ℕ). Encodes engine text bs) h.1 (encodes_is engine text (decoded_bytes_of engine text) h.0)

pub bytes_in_complete : (engine : GeneralPurpose) → IsConsistent engine → (text bytes : List ℕ) → Encodes engine text bytes → bytes_in engine text ≡ Some bytes
unfolding bytes_in
bytes_in_complete engine consistent text bytes h =
    let back : decode_of engine text ≡ Ok bytes = subst (λ (s : List ℕ). decode_of engine s ≡ Ok bytes) (sym h.0) (decode_of-encode_of engine bytes consistent h.1) in
    let same : decoded_bytes_of engine text ≡ bytes = outcome_ok _ _ bytes back in
    ap (λ (bs : List ℕ). when (encodes engine text bs) bs) same ∙ test where
      test : when (encodes engine text bytes) bytes ≡ Some bytes
      test = rw (h.0, same_name (encode_of engine bytes), bytes_test bytes h.1) refl

-- a text that the decoder rejects encodes no bytes
pub no_bytes_in : (engine : GeneralPurpose) → IsConsistent engine → (text : List ℕ) (f : DecodeError) → decode_of engine text ≡ Err f → bytes_in engine text ≡ None
no_bytes_in engine consistent text f fails = by_bytes (bytes_in engine text) refl where
  by_bytes : (o : Option (List ℕ)) → bytes_in engine text ≡ o → o ≡ None
  by_bytes None e = refl
  by_bytes (Some bytes) e =
      let h = bytes_in_sound engine text bytes e in
      let back : decode_of engine text ≡ Ok bytes = subst (λ (s : List ℕ). decode_of engine s ≡ Ok bytes) (sym h.0) (decode_of-encode_of engine bytes consistent h.1) in
      let bad : Err f ≡ Ok bytes = sym fails ∙ back in absurd (cc)

-- ---- the law of the kind of bytes

or_base64_ok : (at : List Place) (o : Option (List ℕ)) (bytes : List ℕ) → or_base64 at o ≡ Ok bytes → o ≡ Some bytes
or_base64_ok at None bytes e = absurd (cc)
or_base64_ok at (Some bs) bytes e = cc

base64_there : (at : List Place) (o : Option (List ℕ)) (f : FieldFault) → or_base64 at o ≡ Err f → length f.path ≡ length at
base64_there at None f e = fault_there at BadBase64 f e
base64_there at (Some bytes) f e = absurd (cc)

lawful_encoded : (engine : GeneralPurpose) → IsConsistent engine → Lawful (encoded_by engine) 0
lawful_encoded engine consistent = record {
  sound = λ at t bytes e.
      let h = bound (text_of at t) _ _ e in
      (h.0, text_is at t h.0 h.1, bytes_in_sound engine h.0 bytes (or_base64_ok at (bytes_in engine h.0) bytes h.2));
  complete = λ at t bytes h. rw (h.1, bytes_in_complete engine consistent h.0 bytes h.2) refl;
  no_null = λ bytes h. let e = h.1 in absurd (cc);
  sample = (string (encode_of engine []), [], (encode_of engine [], refl, (refl, are_bytes [] refl)));
  within = within;
  reached = breaks_there (encoded_by engine) (boolean true) WrongKind (λ e. absurd (cc)) (λ at. refl);
} where
  within : Within (encoded_by engine) 0
  within at t f e = elim (broken (text_of at t) _ f e) [
    | inl h ↦ omega (arith, expected_there at (as_text t) f h)
    | inr h ↦ omega (arith, base64_there at (bytes_in engine h.0) f h.2)
  ]

pub lawful_base64_bytes : Lawful base64_bytes 0
unfolding base64_bytes
lawful_base64_bytes = lawful_encoded standard refl

pub base64_bytes_return : (bytes : List ℕ) → IsBytes bytes → Returns base64_bytes bytes
unfolding base64_bytes
base64_bytes_return bytes h = (encode_of standard bytes, refl, (refl, h))
