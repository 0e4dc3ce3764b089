-- When launched tasks fit their offers (mesos.proto, `Resource`, `Value`, `Offer.Operation`).
-- Resources with equal keys are compared, whatever their offers and tasks.
use Rattle.std.specs.Prelude.{◌≡◌, ◌⊎◌, ℕ, ◌+◌, ◌<◌, ◌≤◌, Bool, true, false, ◌&&◌, not, if◌then◌else◌, nat_le, List, ◌++◌, take, drop, slice_get, Some}
use Rattle.std.specs.List.{list_any, flat_map, sum_by}
use Rattle.std.specs.Str.{bytes_eq}
use Rattle.mes_model.specs.Range.{Range}
use Rattle.mes_model.specs.Resource.{Resource}
use Rattle.mes_model.specs.ResourceValue.{ResourceValue}
use Rattle.mes_model.specs.ResourceValue.TheVariants.{Scalar, Ranges, Set}
use Rattle.mes_model.specs.Offer.{Offer}
use Rattle.mes_model.specs.TaskInfo.{TaskInfo}
use Rattle.mes_session_fit.specs.Keys.{Key, key_of, is_of}

-- ---- what a value contains

-- the amount of a SCALAR value in thousandths, or 0 for another type
abbrev pub thousandths_in : ResourceValue → ℕ
thousandths_in (Scalar v) = v.value
thousandths_in (Ranges v) = 0
thousandths_in (Set v) = 0

-- a piece of a value: a point (a number in one of the RANGES) or an item (of a SET)
pub data Piece : Type 0 where
  point : ℕ → Piece
  item : List ℕ → Piece

-- number x is in a range, both ends included; a range whose last number is below its first is empty
abbrev pub in_range : ℕ → Range → Bool
in_range x g = nat_le g.first x && nat_le x g.last

abbrev pub in_ranges : ℕ → List Range → Bool
in_ranges x gs = list_any (in_range x) gs

abbrev pub in_items : List ℕ → List (List ℕ) → Bool
in_items n ns = list_any (bytes_eq n) ns

abbrev pub piece_in : Piece → ResourceValue → Bool
piece_in (point x) (Scalar v) = false
piece_in (point x) (Ranges v) = in_ranges x v.range
piece_in (point x) (Set v) = false
piece_in (item n) (Scalar v) = false
piece_in (item n) (Ranges v) = false
piece_in (item n) (Set v) = in_items n v.item

-- ---- the amounts and the pieces of the resources that have a key

abbrev pub amount_of : Key → Resource → ℕ
amount_of k r = if is_of k r then thousandths_in r.value else 0

abbrev pub amount : Key → List Resource → ℕ
amount k rs = sum_by (amount_of k) rs

abbrev pub piece_of : Key → Piece → Resource → Bool
piece_of k p r = is_of k r && piece_in p r.value

abbrev pub has_piece : Key → Piece → List Resource → Bool
has_piece k p rs = list_any (piece_of k p) rs

-- ---- the resources of offers and of tasks

abbrev pub offered : List Offer → List Resource
offered offers = flat_map (λ o. o.resources) offers

abbrev pub asked : List TaskInfo → List Resource
asked tasks = flat_map (λ t. t.resources) tasks

-- all tasks except the one at index i
abbrev pub others : ℕ → List TaskInfo → List TaskInfo
others i tasks = take i tasks ++ drop (i + 1) tasks

-- an offer has piece p of key k, and no other task takes that piece
abbrev pub is_free : Key → Piece → List Offer → List TaskInfo → Bool
is_free k p offers rest = has_piece k p (offered offers) && not (has_piece k p (asked rest))

-- tasks fit offers: of each key they take at most the offered amount; each piece that they take is
-- offered, and only one task takes it
pub record Fits (offers : List Offer) (tasks : List TaskInfo) : Type 0 where
  pub amounts : (k : Key) → amount k (asked tasks) ≤ amount k (offered offers)
  pub pieces : (i : ℕ) (t : TaskInfo) → slice_get tasks i ≡ Some t → (k : Key) (p : Piece) → has_piece k p t.resources ≡ true → is_free k p offers (others i tasks) ≡ true

-- ---- a resource that does not fit

-- resource r does not fit: the tasks take too much of its key, or one of its pieces is not offered
-- or is taken by another task too
abbrev pub Breaks : List Offer → List TaskInfo → List TaskInfo → Resource → Type 0
Breaks offers tasks rest r =
    (amount (key_of r) (offered offers) < amount (key_of r) (asked tasks))
    ⊎ ((p : Piece) × (piece_in p r.value ≡ true) × (is_free (key_of r) p offers rest ≡ false))

-- the resource at index j of the task at index i does not fit
pub record BreaksAt (offers : List Offer) (tasks : List TaskInfo) (i j : ℕ) : Type 0 where
  pub task : TaskInfo
  pub resource : Resource
  pub task_at : slice_get tasks i ≡ Some task
  pub resource_at : slice_get task.resources j ≡ Some resource
  pub breaks : Breaks offers tasks (others i tasks) resource

-- resource l of task k comes before resource j of task i
abbrev pub ComesBefore : ℕ → ℕ → ℕ → ℕ → Type 0
ComesBefore k l i j = (k < i) ⊎ ((k ≡ i) × (l < j))

-- every resource before resource j of task i fits
abbrev pub NoneAhead : List Offer → List TaskInfo → ℕ → ℕ → Type 0
NoneAhead offers tasks i j = (k l : ℕ) → ComesBefore k l i j → BreaksAt offers tasks k l → ⊥

-- every resource of the tasks before index i fits
abbrev pub NoneBefore : List Offer → List TaskInfo → ℕ → Type 0
NoneBefore offers tasks i = (k l : ℕ) → k < i → BreaksAt offers tasks k l → ⊥

pub record IsFirstBreach (offers : List Offer) (tasks : List TaskInfo) (i j : ℕ) : Type 0 where
  pub breach : BreaksAt offers tasks i j
  pub first : NoneAhead offers tasks i j
