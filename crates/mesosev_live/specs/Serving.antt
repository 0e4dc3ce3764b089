-- The requests that a connection takes, and the responses that it appends.
use Rattle.std.specs.Prelude.{◌≡◌, ◌≢◌, ◌⊎◌, ℕ, ◌==◌, List, [], ◌∷◌, ◌++◌, length, Option, None, Some, if◌then◌else◌}
use Rattle.mes_double_http.specs.Connections.{persistence}
use Rattle.mes_double_http.specs.Faults.{response_status}
use Rattle.mes_double_http.specs.Pages.{BeginsNoPage, IsWholePage, TakesPage}
use Rattle.mes_double_http.specs.Received.{MayBeginCall, MayBeginHead, TakesNext}
use Rattle.mes_double_http.specs.Requests.{EndsInBody, IsWholeCall}
use Rattle.mes_double_http.specs.Texts.{ok_text, response_text, page_head}
use Rattle.mes_double_http.specs.declared.fault.HeadFault.{HeadFault}
use Rattle.mes_double_http.specs.declared.fault.HeadFault.TheVariants as fault
use Rattle.mes_double_http.specs.declared.persistence.Persistence.{Persistence}
use Rattle.mes_double_http.specs.declared.persistence.Persistence.TheVariants.{Close, Keep, KeepAlive}
use Rattle.mes_double_http.specs.declared.page_request.PageRequest.{PageRequest}
use Rattle.mes_double_http.specs.declared.page_request.PageRequest.TheVariants as asked
use Rattle.mes_double_http.specs.declared.page_request.NextPage.TheVariants as page
use Rattle.mes_double_http.specs.declared.page_writer.PageMedia.{PageMedia}
use Rattle.mes_double_http.specs.declared.page_writer.PageMedia.TheVariants.{Html, Json}
use Rattle.mes_double_http.specs.declared.request.Request.{Request}
use Rattle.mes_double_http.specs.declared.request_reader.NextRequest.{NextRequest}
use Rattle.mes_double_http.specs.declared.request_reader.NextRequest.TheVariants.{Whole, Fault}
use Rattle.mes_double_faults.specs.declared.fault.CallFault.{CallFault}
use Rattle.mes_double_faults.specs.declared.fault.CallFault.TheVariants.{Busy, Unanswered, Slow, Gone, Reset}
use Rattle.mes_double_live.specs.declared.reply.Reply.{Reply}
use Rattle.mesosev_live.specs.Runs.{Exchange, Steps, bytes_of}
use Rattle.mesosev_live.specs.Runs.Step.{serves}
use Rattle.mesosev_live.specs.declared.connection.Connection.{Connection}
use Rattle.mesosev_live.specs.declared.connection.Phase.{Phase}
use Rattle.mesosev_live.specs.declared.connection.Phase.TheVariants.{Serving, Streaming, Ending}
use Rattle.mesosev_live.specs.declared.connection.Served.{Served}
use Rattle.mesosev_live.specs.declared.connection.Served.TheVariants as served

-- what becomes of a connection after the response to a call with this status: after a 400 it is
-- closed
abbrev pub persistence_after : ℕ → Persistence → Persistence
persistence_after status p = if status == 400 then Close else p

-- what the connection is used for after a response without a body
abbrev pub phase_after : Persistence → Phase → Phase
phase_after Close old = Ending
phase_after Keep old = old
phase_after KeepAlive old = old

-- the head of the response to a call: status 200 with the stream that was opened, or a status
-- without a body
abbrev pub head_by : Option (List ℕ) → ℕ → Persistence → List ℕ
head_by (Some id) status p = ok_text id
head_by None status p = response_text (persistence_after status p) status

-- by the fault of the call: nothing if it gets no response
abbrev pub head_after : Option CallFault → List ℕ → List ℕ
head_after None head = head
head_after (Some Busy) head = head
head_after (Some Unanswered) head = []
head_after (Some (Slow seconds)) head = head
head_after (Some Gone) head = head
head_after (Some Reset) head = []

abbrev pub response_head : Reply → Persistence → List ℕ
response_head reply p = head_after reply.fault (head_by reply.opened reply.status p)

-- what the connection is used for after the response to a call
abbrev pub phase_by : Option (List ℕ) → ℕ → Persistence → Phase → Phase
phase_by (Some id) status p old = Streaming
phase_by None status p old = phase_after (persistence_after status p) old

-- by the fault of the call: the connection ends if the call gets no response
abbrev pub phase_with : Option CallFault → Phase → Phase
phase_with None phase = phase
phase_with (Some Busy) phase = phase
phase_with (Some Unanswered) phase = Ending
phase_with (Some (Slow seconds)) phase = phase
phase_with (Some Gone) phase = phase
phase_with (Some Reset) phase = Ending

abbrev pub response_phase : Reply → Persistence → Phase → Phase
response_phase reply p old = phase_with reply.fault (phase_by reply.opened reply.status p old)

-- the head of the response to a request that is refused, or nothing without a response
abbrev pub refusal_head : Option ℕ → List ℕ
refusal_head None = []
refusal_head (Some status) = response_text Close status

-- the bytes that came and are not taken, the bytes to write, and the phase are as before
abbrev pub StaysAs : Connection → Connection → Type 0
StaysAs old new = (new.requests ≡ old.requests) × (new.out ≡ old.out) × (new.phase ≡ old.phase)

-- how a test master's states before and after a request relate to the request and the response
abbrev pub Answers : Type 0 → Type 1
Answers D = D → Request → D → Reply → Type 0

-- how a test master's states before and after an event of a request relate to the bytes of the event
-- and the status of the response
abbrev pub Takes : Type 0 → Type 1
Takes D = D → List ℕ → D → ℕ → Type 0

-- a response without a body was appended
abbrev pub PutsStatus : ℕ → Persistence → Connection → Connection → Type 0
PutsStatus status p old new =
    (new.out ≡ old.out ++ response_text (persistence_after status p) status) × (new.phase ≡ phase_after (persistence_after status p) old.phase)

-- a response with status 200 and this body was appended
abbrev pub PutsBody : PageMedia → List ℕ → Persistence → Connection → Connection → Type 0
PutsBody media body p old new =
    (new.out ≡ old.out ++ page_head p media (length body) ++ body) × (new.phase ≡ phase_after p old.phase)

-- The response to a request for a page was appended: the page, the text of the test master's state,
-- or the status for an event that the test master took.
abbrev pub Shows : {D : Type 0} → (D → List ℕ) → Takes D → Connection → D → PageRequest → Persistence → Connection → D → Served → Type 0
Shows shows takes old desk asked.Page p new after served.Shown = (after ≡ desk) × ((body : List ℕ) × PutsBody Html body p old new)
Shows shows takes old desk asked.State p new after served.Shown = (after ≡ desk) × PutsBody Json (shows desk) p old new
Shows shows takes old desk (asked.Fault body) p new after (served.Demanded status) =
    takes desk body.items after status × PutsStatus status p old new
Shows shows takes old desk request p new after turn = ⊥

-- more bytes are needed: for a call, or for a request for a page
abbrev pub AwaitsMore : List ℕ → Type 0
AwaitsMore bytes = MayBeginCall bytes ⊎ TakesPage bytes bytes page.More

-- the next request is read as a call: it is none for a page
abbrev pub TakesCall : List ℕ → List ℕ → NextRequest → Type 0
TakesCall old new next = BeginsNoPage old × TakesNext old new next

-- the next request is refused: as a call, or as a request for a page
abbrev pub RefusesNext : List ℕ → List ℕ → Option ℕ → Type 0
RefusesNext old new status =
    ((f : HeadFault) × TakesCall old new (Fault f) × (status ≡ response_status f))
    ⊎ ((code : ℕ) × TakesPage old new (page.Refused code) × (status ≡ Some code))
    ⊎ (TakesPage old new page.NoMemory × (status ≡ None))

-- One turn of a connection and its test master. No whole request is there, or the connection serves
-- no more. Or a call was taken, the test master answered it, and its response was appended. Or
-- the next one is refused, and the connection ends after the response. Or a request for a page was
-- taken, and its response was appended.
abbrev pub ServesNext : {D : Type 0} → Answers D → (D → List ℕ) → Takes D → Connection → D → Connection → D → Option Served → Type 0
ServesNext answers shows takes old desk new after None =
    StaysAs old new × (after ≡ desk) × (old.phase ≡ Serving → AwaitsMore old.requests)
ServesNext answers shows takes old desk new after (Some (served.Answered a)) =
    (request : Request) × (p : Persistence) × (old.phase ≡ Serving) × TakesCall old.requests new.requests (Whole request p)
    × answers desk request after a.reply
    × (new.out ≡ old.out ++ response_head a.reply p) × (new.phase ≡ response_phase a.reply p old.phase)
ServesNext answers shows takes old desk new after (Some (served.Refused status)) =
    (old.phase ≡ Serving) × RefusesNext old.requests new.requests status
    × (after ≡ desk) × (new.out ≡ old.out ++ refusal_head status) × (new.phase ≡ Ending)
ServesNext answers shows takes old desk new after (Some turn) =
    (request : PageRequest) × (p : Persistence) × (old.phase ≡ Serving) × TakesPage old.requests new.requests (page.Whole request p)
    × Shows shows takes old desk request p new after turn

-- turns that served these requests, one after the other
unfoldable pub Serves : {D : Type 0} → Answers D → (D → List ℕ) → Takes D → Connection → D → List Served → Connection → D → Type 0
Serves answers shows takes old desk [] new after = (new ≡ old) × (after ≡ desk)
Serves {D} answers shows takes old desk (s ∷ rest) new after =
    (next : Connection) × (later : D) × ServesNext answers shows takes old desk next later (Some s) × Serves answers shows takes next later rest new after

-- the requests were served, and after them no whole request is there, or the connection serves no
-- more
abbrev pub ServesAll : {D : Type 0} → Answers D → (D → List ℕ) → Takes D → Connection → D → List Served → Connection → D → Type 0
ServesAll {D} answers shows takes old desk all new after =
    (last : Connection) × (later : D) × Serves answers shows takes old desk all last later × ServesNext answers shows takes last later new after None

-- At the end of the connection no bytes are left; or they are an incomplete head (H3), or a head and
-- less than its body (H12), which is refused.
abbrev pub EndsRequests : Connection → Connection → Option Served → Type 0
EndsRequests old new None = (old.requests ≡ []) × (new.requests ≡ []) × (new.out ≡ old.out) × (new.phase ≡ Ending)
EndsRequests old new (Some (served.Refused status)) =
    (old.requests ≢ [])
    × (MayBeginHead old.requests → status ≡ response_status fault.BadHead)
    × (EndsInBody old.requests → status ≡ response_status fault.ShortBody)
    × (new.requests ≡ old.requests) × (new.out ≡ old.out ++ refusal_head status) × (new.phase ≡ Ending)
EndsRequests old new (Some turn) = ⊥

-- The exchange is what was served: the bytes are a whole request, and the head its response. Or a
-- request was refused: no bytes were taken. Or the bytes are a whole request for a page, and the
-- response has a body, or only a status.
abbrev pub IsExchange : Exchange → Served → Type 0
IsExchange e (served.Answered a) =
    (request : Request) × (call : IsWholeCall e.request request.stream request.body.items)
    × (e.response ≡ response_head a.reply (persistence call.head))
IsExchange e (served.Refused status) = (e.request ≡ []) × (e.response ≡ refusal_head status)
IsExchange e served.Shown =
    (request : PageRequest) × (whole : IsWholePage e.request request) × (media : PageMedia) × (body : List ℕ)
    × (e.response ≡ page_head (persistence whole.head) media (length body) ++ body)
IsExchange e (served.Demanded status) =
    (request : PageRequest) × (whole : IsWholePage e.request request)
    × (e.response ≡ response_text (persistence_after status (persistence whole.head)) status)

-- each exchange is what was served at its place
abbrev pub AreExchanges : List Exchange → List Served → Type 0
AreExchanges [] [] = Unit {0}
AreExchanges [] (s ∷ rest) = ⊥
AreExchanges (e ∷ more) [] = ⊥
AreExchanges (e ∷ more) (s ∷ rest) = IsExchange e s × AreExchanges more rest

-- The requests of the exchanges were taken, one after the other, and their responses appended in
-- the same order; nothing else was taken or appended.
abbrev pub ServesEach : Connection → Connection → List Served → Type 0
ServesEach old new all =
    (exchanges : List Exchange) × AreExchanges exchanges all × Steps (serves exchanges) (bytes_of old) (bytes_of new)
