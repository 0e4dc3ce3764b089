-- The request with which the bytes that came begin: whole, incomplete or refused.
use Rattle.std.specs.Prelude.{◌≡◌, ℕ, ◌<◌, ◌≤◌, ◌⊎◌, List, ◌++◌, Option, length, take}
use Rattle.httparse.specs.Grammar.{RequestHead}
use Rattle.httparse.specs.Spans.{RequestOverflows}
use Rattle.mes_double_http.specs.Connections.{persistence}
use Rattle.mes_double_http.specs.Heads.{IsRequest, PendsRequest, FailsRequest}
use Rattle.mes_double_http.specs.Requests.{IsCall, BreaksCall, IsWholeCall, EndsInBody}
use Rattle.mes_double_http.specs.declared.fault.HeadFault.{HeadFault}
use Rattle.mes_double_http.specs.declared.fault.HeadFault.TheVariants as fault
use Rattle.mes_double_http.specs.declared.persistence.Persistence.{Persistence}
use Rattle.mes_double_http.specs.declared.request_reader.FoundHead.{FoundHead}
use Rattle.mes_double_http.specs.declared.request_reader.NextRequest.{NextRequest}
use Rattle.mes_double_http.specs.declared.request_reader.NextRequest.TheVariants.{More, Whole, Fault}
use Rattle.mes_double_http.specs.declared.limits.TheConstants.{MAX_HEAD, MAX_FIELDS}

-- the bytes begin with the head h, within the limits
pub record BeginsHead (bytes : List ℕ) (h : RequestHead) : Type 0 where
  pub front : List ℕ
  pub rest : List ℕ
  pub split : bytes ≡ front ++ rest
  pub is : IsRequest front h

-- the bytes are an incomplete head, and fewer than MAX_HEAD
abbrev pub MayBeginHead : List ℕ → Type 0
MayBeginHead bytes = PendsRequest bytes × (length bytes < MAX_HEAD)

-- whatever bytes follow, a head that begins here has more than MAX_FIELDS fields; and the bytes are
-- no incomplete head
abbrev pub IsNoHead : List ℕ → Type 0
IsNoHead bytes = RequestOverflows MAX_FIELDS bytes × ¬ (PendsRequest bytes)

-- the bytes are an incomplete head, or a valid head and less than its whole body
abbrev pub MayBeginCall : List ℕ → Type 0
MayBeginCall bytes = MayBeginHead bytes ⊎ EndsInBody bytes

-- the bytes begin with a valid head and its whole body
abbrev pub BeginsCall : List ℕ → Type 0
BeginsCall bytes =
    (taken : List ℕ) × (after : List ℕ) × (stream : Option (List ℕ)) × (body : List ℕ)
    × (bytes ≡ taken ++ after) × IsWholeCall taken stream body

-- MAX_HEAD bytes are an incomplete head; or the first MAX_HEAD bytes begin no head; or the bytes
-- begin with a head, and the fault is that of the first rule that it breaks
abbrev pub RefusesHead : HeadFault → List ℕ → Type 0
RefusesHead fault.HeadTooLong bytes = (MAX_HEAD ≤ length bytes) × PendsRequest (take MAX_HEAD bytes)
RefusesHead fault.BadHead bytes = IsNoHead (take MAX_HEAD bytes)
RefusesHead f bytes = (h : RequestHead) × BeginsHead bytes h × BreaksCall f h

-- the head is refused; or a whole request is there, and no memory for its body
abbrev pub RefusesFirst : HeadFault → List ℕ → Type 0
RefusesFirst fault.NoMemory bytes = BeginsCall bytes
RefusesFirst f bytes = RefusesHead f bytes

-- the bytes begin with this valid head
abbrev pub IsFoundHead : List ℕ → FoundHead → Type 0
IsFoundHead bytes found =
    (h : RequestHead) × IsRequest (take found.size bytes) h
    × IsCall h found.announced.length found.announced.stream
    × (found.persistence ≡ persistence h) × (found.size ≤ length bytes)

-- `read_request` refuses so after exactly these bytes, if its reader gives them
abbrev pub RefusesAfter : HeadFault → List ℕ → Type 0
RefusesAfter fault.HeadTooLong taken = (length taken ≡ MAX_HEAD) × PendsRequest taken
RefusesAfter fault.BadHead taken = FailsRequest taken × (length taken ≤ MAX_HEAD)
RefusesAfter f taken = (h : RequestHead) × IsRequest taken h × BreaksCall f h

-- the bytes before and after a search for the next request, and its result
abbrev pub TakesNext : List ℕ → List ℕ → NextRequest → Type 0
TakesNext old new More = (new ≡ old) × MayBeginCall old
TakesNext old new (Whole request after) =
    (taken : List ℕ) × (old ≡ taken ++ new) × (call : IsWholeCall taken request.stream request.body.items)
    × (after ≡ persistence call.head)
TakesNext old new (Fault f) = (new ≡ old) × RefusesFirst f old

-- the request with this stream id and this body was taken, and the bytes `after` are left; or there
-- was no memory for the body
abbrev pub GivesCall : Option (List ℕ) → List ℕ → Persistence → List ℕ → List ℕ → NextRequest → Type 0
GivesCall stream body kept after new More = ⊥
GivesCall stream body kept after new (Whole request p) =
    (request.stream ≡ stream) × (request.body.items ≡ body) × (p ≡ kept) × (new ≡ after)
GivesCall stream body kept after new (Fault f) = f ≡ fault.NoMemory
