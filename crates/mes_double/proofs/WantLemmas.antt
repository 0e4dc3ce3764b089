-- The moves in which an allocation may fail, from the contracts of their steps.
use Rattle.std.proofs.Common.{◌≡◌, ℕ, true, inl, inr, ◌<◌, Result, Ok, Err, OnErr, IsOk, IsSome, is_ok, is_some, false, if◌then◌else◌, get_or, length, slice_get, take, List, ◌∷◌, Option, Some, None, refl, sym, ap, subst, ◌∙◌}
use Rattle.std.proofs.lemmas.Result.{on_err_weaker}
use Rattle.std.proofs.lemmas.Option.{slice_get-get_or}
use Rattle.mes_model.specs.Id.{Id}
use Rattle.mes_model.specs.TaskStatus.{TaskStatus}
use Rattle.mes_model.specs.Owed.{owed_key_of}
use Rattle.mes_msg.specs.Event.{Event}
use Rattle.mes_msg.specs.Call.{Call}
use Rattle.mes_session_state.specs.Refusals.{Answers}
use Rattle.mes_session.specs.History.{NeedsMemory}
use Rattle.mes_double_master.specs.declared.refusal.MasterRefusal.{MasterRefusal}
use Rattle.mes_double_master.specs.declared.refusal.MasterRefusal.TheVariants.{NoMemory, NoStream}
use Rattle.mes_double_master.specs.Masters.{MasterState}
use Rattle.mes_double_master.specs.Memory.{MayWantMemory}
use Rattle.mes_double_master.specs.Sending.{Sends, updated, update_sent}
use Rattle.mes_double.specs.declared.moves.Move.{Move}
use Rattle.mes_double.specs.declared.sent.Sent.{Sent}
use Rattle.mes_double.specs.Worlds.{WorldState, is_done, answer_to}
use Rattle.mes_double.specs.Memory.{HearingWants, WishingWants, ArrivingWants, MayWant, WantsMemory}
use Rattle.mes_double.proofs.RunningLemmas.{MovesSoFar}

module _ {T E : Type 0} where
  pub anyway : {P : Type 0} (result : Result T E) → P → OnErr result P
  anyway (Ok t) p = tt
  anyway (Err x) p = p

  pub sent-wants : (result : Result T E) (sends : Sends) (m : MasterState) (e : Event) → sends ≡ Ok (e, m) → OnErr result (IsOk sends)
  sent-wants result sends m e is = anyway result (subst (λ (s : Sends). IsOk s) (sym is) refl)

  pub updated-wants : (result : Result T E) (m : MasterState) (status : TaskStatus) (n : MasterState) (e : Event) → update_sent m status ≡ Ok (e, n) → OnErr result (IsSome m.stream)
  updated-wants result m status n e is = anyway result (by m.stream refl)
    where
      by : (o : Option (List ℕ)) → m.stream ≡ o → is_some m.stream ≡ true
      by None f = absurd (let g : true ≡ false = ap is_ok (sym is) ∙ ap (λ (o : Option (List ℕ)). is_ok (if is_some o then updated m status (owed_key_of status) else Err NoStream)) f in cc)
      by (Some stream) f = ap is_some f

  pub refused-wants : {P : Type 0} (result : Result T E) (why : MasterRefusal) → OnErr result (why ≡ NoMemory) → (why ≡ NoMemory → P) → OnErr result P
  refused-wants result why reported wants = on_err_weaker result wants reported

  pub heard-wants : (result : Result T E) (waiting rest : List Event) (e : Event) → waiting ≡ e ∷ rest → OnErr result (NeedsMemory e) → OnErr result (HearingWants waiting)
  heard-wants result waiting rest e is reported = on_err_weaker result (subst (λ (l : List Event). HearingWants l) (sym is)) reported

  pub wished-wants : (result : Result T E) (w : WorldState) (call : Call) (current : Option (List ℕ)) (stream : List ℕ) → current ≡ Some stream → OnErr result (Answers w.session call None)
      → OnErr result (WishingWants w call current)
  wished-wants result w call current stream is reported = on_err_weaker result (subst (λ (o : Option (List ℕ)). WishingWants w call o) (sym is)) reported

  pub arrived-wants : (result : Result T E) (w v : WorldState) (index : ℕ) (p : Sent) (status : ℕ) → w ≡ v → slice_get w.sent index ≡ Some p → status ≡ (answer_to w p).status
      → OnErr result (is_done status ≡ true) → OnErr result (ArrivingWants v (slice_get v.sent index))
  arrived-wants result w v index p status same is status-is reported =
      subst (λ (u : WorldState). OnErr result (ArrivingWants u (slice_get u.sent index))) same
      (on_err_weaker result (λ (f : is_done status ≡ true). subst (λ (o : Option Sent). ArrivingWants w o) (sym is) (sym (ap is_done status-is) ∙ f)) reported)

pub handled-wants : (w v : WorldState) (index : ℕ) (p : Sent) → w ≡ v → slice_get w.sent index ≡ Some p → MayWantMemory w.master p.call (Some p.stream) → ArrivingWants v (slice_get v.sent index)
handled-wants w v index p same is reported =
    subst (λ (u : WorldState). ArrivingWants u (slice_get u.sent index)) same (subst (λ (o : Option Sent). ArrivingWants w o) (sym is) (by reported))
  where
    by : MayWantMemory w.master p.call (Some p.stream) → is_done (answer_to w p).status ≡ true
    by (inl f) = ap is_done f
    by (inr f) = ap is_done f.0

-- if an allocation may fail in the move after those made so far, the list of moves may want memory
pub so-far-wants : (framework : Id) (ids : List (List ℕ)) (list : List Move) (index : ℕ) (world : WorldState) → MovesSoFar framework ids (take index list) index world
    → (move : Move) → index < length list → move ≡ get_or list index move → MayWant world move → WantsMemory framework ids list
so-far-wants framework ids list index world s move within is wants = record {
  index = index;
  move = move;
  is = slice_get-get_or list index move within ∙ ap (λ (m : Move). Some m) (sym is);
  course = s.course;
  leads = s.leads;
  wants = subst (λ (w : WorldState). MayWant w move) (sym s.is) wants;
}
