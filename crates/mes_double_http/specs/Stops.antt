-- The reasons for which the reading of a head ends before the head is complete.
use Rattle.std.specs.Prelude.{◌≡◌, ℕ, Bool, not, ◌==◌, ◌<◌, List, ◌∷◌, ◌++◌, length}
use Rattle.httparse.specs.Ascii.{space}
use Rattle.httparse.specs.Grammar.{AllPass, is_uri_byte, RequestHead, ResponseHead}
use Rattle.httparse.specs.Spans.{IsRequestAt, IsResponseAt, IsRequestWithin, IsResponseWithin}
use Rattle.httparse.specs.declared.spans.HeaderSpan.{HeaderSpan}
use Rattle.httparse.specs.declared.spans.RequestSpans.{RequestSpans}
use Rattle.httparse.specs.declared.spans.ResponseSpans.{ResponseSpans}
use Rattle.mes_frame.specs.declared.counts.Counts.{Counts}
use Rattle.mes_double_http.specs.Endings.{AllGive, OneFails, OneEnds}
use Rattle.mes_double_http.specs.Heads.{IsRequest, IsResponse, PendsRequest, PendsResponse, FailsRequest, FailsResponse}
use Rattle.mes_double_http.specs.declared.fault.HeadFault.{HeadFault}
use Rattle.mes_double_http.specs.declared.fault.HeadFault.TheVariants as fault
use Rattle.mes_double_http.specs.declared.head.HeadStop.{HeadStop}
use Rattle.mes_double_http.specs.declared.head.HeadStop.TheVariants.{Read, TooLong, Refused, Ended}
use Rattle.mes_double_http.specs.declared.limits.TheConstants.{MAX_HEAD}

-- the `HeadFault` that is reported for the reason
abbrev pub stop_fault : HeadStop → HeadFault
stop_fault Read = fault.Read
stop_fault TooLong = fault.HeadTooLong
stop_fault Refused = fault.BadHead
stop_fault Ended = fault.BadHead

-- the reader failed or ended instead of returning a byte
abbrev pub StopsByte : HeadStop → Counts → Counts → Type 0
StopsByte Read old new = OneFails old new
StopsByte Ended old new = OneEnds old new
StopsByte _ old new = ⊥

-- the reader failed or ended, or MAX_HEAD bytes were read, or the bytes are not a request head
abbrev pub StopsRequest : HeadStop → List ℕ → Counts → Counts → Type 0
StopsRequest Read taken old new = PendsRequest taken × OneFails old new
StopsRequest TooLong taken old new = (length taken ≡ MAX_HEAD) × PendsRequest taken × AllGive old new
StopsRequest Refused taken old new = FailsRequest taken × AllGive old new
StopsRequest Ended taken old new = PendsRequest taken × OneEnds old new

-- the reader failed or ended, or MAX_HEAD bytes were read, or the bytes are not a response head
abbrev pub StopsResponse : HeadStop → List ℕ → Counts → Counts → Type 0
StopsResponse Read taken old new = PendsResponse taken × OneFails old new
StopsResponse TooLong taken old new = (length taken ≡ MAX_HEAD) × PendsResponse taken × AllGive old new
StopsResponse Refused taken old new = FailsResponse taken × AllGive old new
StopsResponse Ended taken old new = PendsResponse taken × OneEnds old new

-- any byte except a space
abbrev pub is_no_space : ℕ → Bool
is_no_space b = not (b == space)

-- the first space is followed by at least one byte, and only by bytes of a target
pub record IsInTarget (taken : List ℕ) : Type 0 where
  pub front : List ℕ
  pub target : List ℕ
  pub is : taken ≡ front ++ space ∷ target
  pub unspaced : AllPass is_no_space front
  pub some : 0 < length target
  pub visible : AllPass is_uri_byte target

-- the spans are those of the request head that was read
pub record IsRequestTaken (taken : List ℕ) (headers : List HeaderSpan) (r : RequestSpans) : Type 0 where
  pub head : RequestHead
  pub at : IsRequestAt taken headers r head
  pub is : IsRequest taken head
  pub within : IsRequestWithin taken headers r

-- the spans are those of the response head that was read
pub record IsResponseTaken (taken : List ℕ) (headers : List HeaderSpan) (r : ResponseSpans) : Type 0 where
  pub head : ResponseHead
  pub at : IsResponseAt taken headers r head
  pub is : IsResponse taken head
  pub within : IsResponseWithin taken headers r
