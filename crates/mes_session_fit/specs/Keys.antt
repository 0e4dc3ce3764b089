-- The key of a resource: its type and all its members except value and allocation_info, which tasks
-- often leave out. Only resources of one key are compared.
use Rattle.std.specs.Prelude.{◌≡◌, ℕ, zero, suc, Bool, true, false, ◌==◌, ◌&&◌, List, Option, unwrap_or, codes, refl}
use Rattle.std.specs.Coded.{Coded, code_by, coded×, coded_ℕ, coded_bool, coded_list, coded_option}
use base.Stored.{Gv, gnil, gnum, gcons}
use Rattle.mes_json.specs.Tree.{Members}
use Rattle.mes_model_schema.specs.MembersCode.{members_code}
use Rattle.mes_model_schema.specs.declared.label.Label.{Label}
use Rattle.mes_model.specs.Id.{Id}
use Rattle.mes_model.specs.Reservation.{Reservation}
use Rattle.mes_model.specs.Resource.{Resource}
use Rattle.mes_model.specs.ResourceValue.{ResourceValue}
use Rattle.mes_model.specs.ResourceValue.TheVariants.{Scalar, Ranges, Set}

-- the type of a value: SCALAR, RANGES or SET
pub data ValueType : Type 0 where
  scalar : ValueType
  ranges : ValueType
  set : ValueType

abbrev pub type_of : ResourceValue → ValueType
type_of (Scalar v) = scalar
type_of (Ranges v) = ranges
type_of (Set v) = set

pub record Key : Type 0 where
  pub name : List ℕ
  pub kind : ValueType
  pub role : List ℕ
  pub reservation : Option Reservation
  pub reservations : List Reservation
  pub disk : Option Members
  pub revocable : Bool
  pub shared : Bool
  pub provider_id : Option Id

-- a resource without a role has the role `*`
abbrev pub key_of : Resource → Key
key_of r = record {
  name = r.name;
  kind = type_of r.value;
  role = unwrap_or r.role (codes "*");
  reservation = r.reservation;
  reservations = r.reservations;
  disk = r.disk;
  revocable = r.revocable;
  shared = r.shared;
  provider_id = r.provider_id;
}

-- ---- equality of keys as a `Bool`, by comparing their encodings

abbrev pub type_number : ValueType → ℕ
type_number scalar = 0
type_number ranges = 1
type_number set = 2

abbrev pub type_numbered : ℕ → ValueType
type_numbered zero = scalar
type_numbered (suc zero) = ranges
type_numbered (suc (suc n)) = set

pub type_numbered_back : (t : ValueType) → type_numbered (type_number t) ≡ t
type_numbered_back scalar = refl
type_numbered_back ranges = refl
type_numbered_back set = refl

abbrev pub type_code : Coded ValueType
type_code = code_by ℕ coded_ℕ type_number type_numbered type_numbered_back

abbrev pub text_code : Coded (List ℕ)
text_code = coded_list coded_ℕ

abbrev pub id_code : Coded Id
id_code = code_by (List ℕ) text_code (λ d. d.value) (λ t. record { value = t }) (λ _. refl)

abbrev pub label_code : Coded Label
label_code =
    code_by (List ℕ × Option (List ℕ)) (coded× text_code (coded_option text_code))
    (λ l. (l.key, l.value)) (λ p. record { key = p.0; value = p.1 }) (λ _. refl)

abbrev pub reservation_code : Coded Reservation
reservation_code =
    code_by (Option (List ℕ) × (Option (List ℕ) × (Option (List ℕ) × Option (List Label))))
    (coded× (coded_option text_code) (coded× (coded_option text_code) (coded× (coded_option text_code) (coded_option (coded_list label_code)))))
    (λ r. (r.kind, (r.role, (r.principal, r.labels))))
    (λ p. record { kind = p.0; role = p.1.0; principal = p.1.1.0; labels = p.1.1.1 }) (λ _. refl)

abbrev pub key_code : Coded Key
key_code =
    code_by
    (List ℕ × (ValueType × (List ℕ × (Option Reservation × (List Reservation × (Option Members × (Bool × (Bool × Option Id))))))))
    (coded× text_code (coded× type_code (coded× text_code (coded× (coded_option reservation_code) (coded× (coded_list reservation_code)
    (coded× (coded_option members_code) (coded× coded_bool (coded× coded_bool (coded_option id_code)))))))))
    (λ k. (k.name, (k.kind, (k.role, (k.reservation, (k.reservations, (k.disk, (k.revocable, (k.shared, k.provider_id)))))))))
    (λ p. record {
      name = p.0;
      kind = p.1.0;
      role = p.1.1.0;
      reservation = p.1.1.1.0;
      reservations = p.1.1.1.1.0;
      disk = p.1.1.1.1.1.0;
      revocable = p.1.1.1.1.1.1.0;
      shared = p.1.1.1.1.1.1.1.0;
      provider_id = p.1.1.1.1.1.1.1.1;
    }) (λ _. refl)

-- true if and only if two encodings are equal
abbrev pub same_stored : Gv → Gv → Bool
same_stored gnil gnil = true
same_stored (gnum m) (gnum n) = m == n
same_stored (gcons a b) (gcons c d) = same_stored a c && same_stored b d
same_stored _ _ = false

-- true if and only if two keys are equal
unfoldable pub keys_agree : Key → Key → Bool
keys_agree j k = same_stored (key_code.code j) (key_code.code k)

-- true if and only if the resource has the key k
abbrev pub is_of : Key → Resource → Bool
is_of k r = keys_agree k (key_of r)
