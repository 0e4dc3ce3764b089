-- Whether tasks fit offers (`Fits`), both as texts of JSON arrays.
use Rattle.std.specs.Prelude.{◌≡◌, ◌⊎◌, ℕ, List, length, Result, Ok, Err}
use Rattle.mes_model.specs.Offer.{Offer}
use Rattle.mes_model.specs.TaskInfo.{TaskInfo}
use Rattle.mes_model.specs.Tasks.{task_info}
use Rattle.mes_model_offer.specs.Offers.{offer}
use Rattle.mes_model_schema.specs.Kinds.{Kind}
use Rattle.mes_model_schema.specs.Lists.{list_of}
use Rattle.mes_msg.specs.RecordFault.{RecordFault}
use Rattle.mes_msg.specs.Texts.{IsFaultOf, IsTextOf}
use Rattle.mes_session_fit.specs.Fits.{Fits, IsFirstBreach}
use Rattle.mes_session_fit.specs.Launched.{as_index}
use Rattle.mes_session_state.specs.declared.refusal.Refusal.TheVariants as refusal
use Rattle.mes_stream.specs.Refusals.{fault_at_record, refusal_of}
use Rattle.mesosev_session.specs.declared.text_stop.TextStop.{TextStop}
use Rattle.mesosev_session.specs.declared.text_stop.TextStop.TheVariants.{Fault, Refused}

-- the bytes w are no array of values of the kind; the error is that of record n of a stream
abbrev pub IsNoList : {V : Type 0} → ℕ → Kind V → List ℕ → TextStop → Type 0
IsNoList n k w (Fault stop) = (why : RecordFault) × IsFaultOf (list_of k) w why × (stop.fault ≡ fault_at_record n (refusal_of why)) × (stop.used ≡ length w)
IsNoList n k w (Refused before refusal) = ⊥

-- the tasks fit the offers; or the refusal names the first resource that does not fit
abbrev pub ChecksLists : List Offer → List TaskInfo → Result (Unit {0}) TextStop → Type 0
ChecksLists offers tasks (Ok _) = Fits offers tasks
ChecksLists offers tasks (Err (Fault stop)) = ⊥
ChecksLists offers tasks (Err (Refused before why)) = (before ≡ 0) × ((i j : ℕ) × (why ≡ refusal.Exceeds (as_index i) j) × IsFirstBreach offers tasks i j)

-- the bytes w are an array of offers, and the bytes v one of tasks
pub record AreLists (w v : List ℕ) (offers : List Offer) (tasks : List TaskInfo) : Type 0 where
  pub offers_text : IsTextOf (list_of offer) w offers
  pub tasks_text : IsTextOf (list_of task_info) v tasks

-- the bytes w are no array of offers; or they are one, but the bytes v are no array of tasks
abbrev pub LackLists : List ℕ → List ℕ → TextStop → Type 0
LackLists w v why = IsNoList 1 offer w why ⊎ ((offers : List Offer) × IsTextOf (list_of offer) w offers × IsNoList 2 task_info v why)

-- the result for the bytes w of offers and the bytes v of tasks
abbrev pub ChecksFit : List ℕ → List ℕ → Result (Unit {0}) TextStop → Type 0
ChecksFit w v result =
    ((offers : List Offer) × (tasks : List TaskInfo) × AreLists w v offers tasks × ChecksLists offers tasks result)
    ⊎ ((why : TextStop) × (result ≡ Err why) × LackLists w v why)
