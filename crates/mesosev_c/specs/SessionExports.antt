-- The results of the functions that C calls on a session.
use Rattle.std.specs.Prelude.{◌≡◌, ◌⊎◌, ℕ, List, length, slice_get, Option, None, Some, Result, Ok, Err}
use Rattle.std.specs.Str.{IsUtf8}
use Rattle.std.specs.Global.{Vec}
use Rattle.mes_frame.specs.declared.limits.TheConstants.{MAX_RECORD_LIMIT}
use Rattle.mes_model.specs.Id.{Id}
use Rattle.mes_model_offer.specs.Offers.{offer}
use Rattle.mes_msg_call_body.specs.CallBodies.{acknowledge}
use Rattle.mes_session.specs.History.{at_first}
use Rattle.mes_session_state.specs.Held.{offer_in}
use Rattle.mesosev_session.specs.FitTexts.{ChecksFit}
use Rattle.mesosev_session.specs.Replays.{Replays}
use Rattle.mesosev_session.specs.Sessions.{IsAcknowledged, IsChecked, IsHeard, IsSaid, IsSubscribed, NotAcknowledged, NotHeard, NotSaid, NotSubscribed, owed_body}
use Rattle.mesosev_session.specs.Texts.{IsTextOfSome}
use Rattle.mesosev_session.specs.declared.text_refusal.TextRefusal.{TextRefusal}
use Rattle.mesosev_session.specs.declared.text_refusal.TextRefusal.TheVariants.{Absent}
use Rattle.mesosev_session.specs.declared.text_session.TextSession.{TextSession}
use Rattle.mesosev_session.specs.declared.text_stop.TextStop.{TextStop}
use Rattle.mesosev_c.specs.CallTexts.{PutsText}
use Rattle.mesosev_c.specs.Numbers.{SUCCESS, NO_MEMORY, ABSENT}
use Rattle.mesosev_c.specs.SessionResults.{PutsAnswer, PutsRefusal, PutsStop}
use Rattle.mesosev_c.specs.declared.handle.SessionSlot.{SessionSlot}

-- a handle of the session is in the slot; or an allocation failed, and the slot is unchanged
abbrev pub IsSessionPlaced : TextSession → SessionSlot → SessionSlot → ℕ → Type 0
IsSessionPlaced session old new status = ((status ≡ SUCCESS) × (new.held ≡ Some session)) ⊎ ((status ≡ NO_MEMORY) × (new ≡ old))

-- a session without a history was placed
abbrev pub IsNewSession : SessionSlot → SessionSlot → ℕ → Type 0
IsNewSession old new status = (session : TextSession) × (session.session ≡ at_first) × (session.entries ≡ 0) × IsSessionPlaced session old new status

-- the event was applied; or the reason was reported, and the session is unchanged
abbrev pub AnswersHeard : TextSession → List ℕ → TextSession → ℕ → List ℕ → List ℕ → ℕ → Type 0
AnswersHeard old w new size before room status =
    (IsHeard old w new × (status ≡ SUCCESS) × (size ≡ 0) × (room ≡ before))
    ⊎ ((why : TextRefusal) × NotHeard w why × (new ≡ old) × PutsRefusal why old.entries (length w) size before room status)

-- a text, for which `Is` holds, or a reason, for which `Not` holds, was reported
abbrev pub AnswersText : (List ℕ → Type 0) → (TextRefusal → Type 0) → ℕ → ℕ → ℕ → List ℕ → List ℕ → ℕ → Type 0
AnswersText Is Not entries used size before room status =
    ((text : List ℕ) × Is text × (status ≡ SUCCESS) × PutsText text size before room)
    ⊎ ((why : TextRefusal) × Not why × PutsRefusal why entries used size before room status)

abbrev pub AnswersSaid : TextSession → List ℕ → TextSession → ℕ → List ℕ → List ℕ → ℕ → Type 0
AnswersSaid old w new size before room status =
    AnswersText (λ text. IsSaid old w (length before) text new) (λ why. NotSaid old.session w (length before) why × (new ≡ old)) old.entries (length w) size before room status

abbrev pub AnswersChecked : TextSession → List ℕ → TextSession → ℕ → List ℕ → List ℕ → ℕ → Type 0
AnswersChecked old w new size before room status =
    (new ≡ old) × AnswersText (λ text. IsChecked old.session w (length before) text) (λ why. NotSaid old.session w (length before) why) old.entries (length w) size before room status

abbrev pub AnswersSubscribed : TextSession → List ℕ → TextSession → ℕ → List ℕ → List ℕ → ℕ → Type 0
AnswersSubscribed old w new size before room status =
    AnswersText (λ text. IsSubscribed old w (length before) text new) (λ why. NotSubscribed old.session w (length before) why × (new ≡ old)) old.entries (length w) size before room status

abbrev pub AnswersAcknowledged : TextSession → ℕ → TextSession → ℕ → List ℕ → List ℕ → ℕ → Type 0
AnswersAcknowledged old index new size before room status =
    AnswersText (λ text. IsAcknowledged old index (length before) text new) (λ why. NotAcknowledged old.session index (length before) why × (new ≡ old)) old.entries 0 size before room status

-- the canonical text of the offer, or of the body of an ACKNOWLEDGE, at the index was reported
abbrev pub AnswersOfferAt : TextSession → ℕ → TextSession → ℕ → List ℕ → List ℕ → ℕ → Type 0
AnswersOfferAt old index new size before room status =
    (new ≡ old) × ((answer : Result (Vec ℕ) TextRefusal) × IsTextOfSome offer (slice_get old.session.hand index) (length before) answer × PutsAnswer answer old.entries 0 size before room status)

-- the result for the offer with an identifier; bytes that are not UTF-8 are no identifier
abbrev pub IsNamedOffer : TextSession → List ℕ → ℕ → Result (Vec ℕ) TextRefusal → Type 0
IsNamedOffer old id most answer =
    (IsUtf8 id × IsTextOfSome offer (offer_in old.session.hand id) most answer) ⊎ ((IsUtf8 id → ⊥) × (answer ≡ Err Absent))

abbrev pub AnswersOffer : TextSession → List ℕ → TextSession → ℕ → List ℕ → List ℕ → ℕ → Type 0
AnswersOffer old id new size before room status =
    (new ≡ old) × ((answer : Result (Vec ℕ) TextRefusal) × IsNamedOffer old id (length before) answer × PutsAnswer answer old.entries 0 size before room status)

abbrev pub AnswersOwedAt : TextSession → ℕ → TextSession → ℕ → List ℕ → List ℕ → ℕ → Type 0
AnswersOwedAt old index new size before room status =
    (new ≡ old)
    × ((answer : Result (Vec ℕ) TextRefusal) × IsTextOfSome acknowledge (owed_body old.session index) (length before) answer × PutsAnswer answer old.entries 0 size before room status)

-- the identifier of the framework was reported, if there is one
abbrev pub PutsName : Option Id → ℕ → List ℕ → List ℕ → ℕ → Type 0
PutsName (Some id) size before room status = (status ≡ SUCCESS) × PutsText id.value size before room
PutsName None size before room status = (status ≡ ABSENT) × (size ≡ 0) × (room ≡ before)

abbrev pub AnswersName : TextSession → TextSession → ℕ → List ℕ → List ℕ → ℕ → Type 0
AnswersName old new size before room status = (new ≡ old) × PutsName old.session.framework size before room status

-- the session was placed; or the fault or the refusal was reported, and the slot is unchanged
abbrev pub ReportsReplay : Result TextSession TextStop → SessionSlot → SessionSlot → ℕ → List ℕ → List ℕ → ℕ → Type 0
ReportsReplay (Ok session) old new size before room status = IsSessionPlaced session old new status × (size ≡ 0) × (room ≡ before)
ReportsReplay (Err stop) old new size before room status = (new ≡ old) × PutsStop stop size before room status

abbrev pub AnswersReplay : List ℕ → SessionSlot → SessionSlot → ℕ → List ℕ → List ℕ → ℕ → Type 0
AnswersReplay w old new size before room status =
    (result : Result TextSession TextStop) × Replays MAX_RECORD_LIMIT w result × ReportsReplay result old new size before room status

-- the tasks fit; or the fault or the refusal was reported
abbrev pub ReportsFit : Result (Unit {0}) TextStop → ℕ → List ℕ → List ℕ → ℕ → Type 0
ReportsFit (Ok _) size before room status = (status ≡ SUCCESS) × (size ≡ 0) × (room ≡ before)
ReportsFit (Err stop) size before room status = PutsStop stop size before room status

abbrev pub AnswersFit : List ℕ → List ℕ → ℕ → List ℕ → List ℕ → ℕ → Type 0
AnswersFit offers tasks size before room status =
    (result : Result (Unit {0}) TextStop) × ChecksFit offers tasks result × ReportsFit result size before room status
