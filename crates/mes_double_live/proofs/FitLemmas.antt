-- The tasks that a call launches fit the offers that it takes, if they fit the outstanding offers that
-- it names; and the statuses of two ACCEPTs of one framework are the same.
use Rattle.std.proofs.Common.{◌≡◌, ℕ, Bool, true, false, ◌||◌, not, if◌then◌else◌, List, [], ◌∷◌, Option, Some, None, refl, sym, ap, subst, ◌∙◌}
use Rattle.std.proofs.lemmas.List.{append-nil}
use Rattle.std.proofs.lemmas.List.Sorted.{IsPermutation-refl}
use Rattle.mes_model.specs.Id.{Id}
use Rattle.mes_model.specs.Offer.{Offer}
use Rattle.mes_model.specs.TaskInfo.{TaskInfo}
use Rattle.mes_model.specs.declared.filters.Filters.{Filters}
use Rattle.mes_msg.specs.Accept.{Accept}
use Rattle.mes_msg.specs.Call.{Call}
use Rattle.mes_msg.specs.Call.TheVariants as of
use Rattle.mes_session_fit.specs.Fits.{Fits}
use Rattle.mes_session_fit.specs.Launched.{launched, launched_by}
use Rattle.mes_session_state.specs.Calls.{tasks_of, operations_of, accept_call}
use Rattle.mes_double_master.specs.Masters.{MasterState, MasterAnswer, plain, named, all_there, launchable, agrees, carried_out, is_named, in_stream, handled}
use Rattle.mes_double_master.proofs.FitLemmas.{fits-new, fits-nothing, fits-ran}
use Rattle.mes_double_live.specs.Lives.{LiveState}
use Rattle.mes_double_live.specs.Moving.{LaunchFits, Moves}
use Rattle.mes_double_live.proofs.MoveLemmas.{handles-moves}

-- ---- calls that launch nothing

pub nothing-fits : (os : List Offer) (tasks : List TaskInfo) → tasks ≡ [] → Fits os tasks
nothing-fits os tasks e = subst (Fits os) (sym e) (fits-nothing os)

pub other-fits : (m : MasterState) (call : Call) (given : Option (List ℕ)) → tasks_of call ≡ [] → LaunchFits m call given
other-fits m call given e = fits-ran m call given (handled m call given).took (IsPermutation-refl _) (nothing-fits _ _ e)

-- ---- ACCEPT

abbrev pub AnswerFits : MasterAnswer → Type 0
AnswerFits a = Fits a.took a.ran

either-fits : (b : Bool) (a c : MasterAnswer) → AnswerFits a → AnswerFits c → AnswerFits (if b then a else c)
either-fits true a c f g = f
either-fits false a c f g = g

carried-fits : (m : MasterState) (framework : Id) (body : Accept) → Fits (named body.offer_ids m.outstanding) (launched launched_by body.operations)
    → AnswerFits (carried_out m (of.Accept framework body))
carried-fits m framework body f = by (all_there m.outstanding body.offer_ids) refl
  where
    by : (b : Bool) → all_there m.outstanding body.offer_ids ≡ b
        → Fits (named body.offer_ids m.outstanding) (launchable m body.offer_ids (launched launched_by body.operations))
    by true e = rw e (fits-new _ [] m.launched (launched launched_by body.operations) f)
    by false e = rw e (fits-nothing _)

stream-fits : (m : MasterState) (call : Call) (current given : Option (List ℕ)) → AnswerFits (carried_out m call) → AnswerFits (in_stream m call current given)
stream-fits m call None given f = fits-nothing _
stream-fits m call (Some current) given f = either-fits (is_named current given) _ _ f (fits-nothing _)

accept-fits : (m : MasterState) (framework : Id) (body : Accept) (given : Option (List ℕ)) → Fits (named body.offer_ids m.outstanding) (launched launched_by body.operations)
    → LaunchFits m (of.Accept framework body) given
accept-fits m framework body given f =
    either-fits (m.down || not (agrees m.framework (Some framework))) _ _ (fits-nothing _)
    (stream-fits m (of.Accept framework body) m.stream given (carried-fits m framework body f))

pub made-fits : (m : MasterState) (framework : Id) (ids : List Id) (tasks : List TaskInfo) (filters : Option Filters) (given : Option (List ℕ))
    → Fits (named ids m.outstanding) tasks → LaunchFits m (accept_call framework ids tasks filters) given
made-fits m framework ids [] filters given f = accept-fits m framework (record { offer_ids = ids; operations = operations_of []; filters = filters }) given (fits-nothing _)
made-fits m framework ids (t ∷ ts) filters given f =
    accept-fits m framework (record { offer_ids = ids; operations = operations_of (t ∷ ts); filters = filters }) given (subst (Fits _) (sym (append-nil (t ∷ ts))) f)

-- ---- a live test master launches these tasks

pub launch-moves : (s t : LiveState) (n : MasterState) (call : Call) (framework : Id) (ids : List Id) (tasks : List TaskInfo) (filters : Option Filters) (given : Option (List ℕ))
    → t ≡ s → Fits (named ids s.master.outstanding) tasks → call ≡ accept_call framework ids tasks filters → n ≡ (handled t.master call given).master → Moves s.master n
launch-moves s t n call framework ids tasks filters given e fits made is =
    let launch : LaunchFits s.master call given = subst (λ (c : Call). LaunchFits s.master c given) (sym made) (made-fits s.master framework ids tasks filters given fits) in
    handles-moves s.master n call given launch (is ∙ ap (λ (x : LiveState). (handled x.master call given).master) e)

pub other-moves : (s t : LiveState) (n : MasterState) (call : Call) (given : Option (List ℕ)) → t ≡ s → tasks_of call ≡ [] → n ≡ (handled t.master call given).master → Moves s.master n
other-moves s t n call given e none is =
    handles-moves s.master n call given (other-fits s.master call given none) (is ∙ ap (λ (x : LiveState). (handled x.master call given).master) e)

-- ---- statuses

either-same : (b : Bool) (a c d : MasterAnswer) → c.status ≡ d.status → (if b then a else c).status ≡ (if b then a else d).status
either-same true a c d e = refl
either-same false a c d e = e

stream-same : (m : MasterState) (framework : Id) (one other : Accept) (current given : Option (List ℕ))
    → (in_stream m (of.Accept framework one) current given).status ≡ (in_stream m (of.Accept framework other) current given).status
stream-same m framework one other None given = refl
stream-same m framework one other (Some current) given = by (is_named current given)
  where
    by : (b : Bool) → (if b then carried_out m (of.Accept framework one) else plain 400 m).status ≡ (if b then carried_out m (of.Accept framework other) else plain 400 m).status
    by true = refl
    by false = refl

-- the status of an ACCEPT depends on its framework alone
pub same-status : (m : MasterState) (framework : Id) (one other : Accept) (given : Option (List ℕ))
    → (handled m (of.Accept framework one) given).status ≡ (handled m (of.Accept framework other) given).status
same-status m framework one other given =
    either-same (m.down || not (agrees m.framework (Some framework))) _ _ _ (stream-same m framework one other m.stream given)
