-- How deeds follow one another, and that each event of a master is a deed.
use Rattle.std.proofs.Common.{◌≡◌, ℕ, List, [], ◌∷◌, ◌++◌, Option, Ok, sym, ap, subst}
use Rattle.mes_model.specs.Offer.{Offer}
use Rattle.mes_model.specs.TaskStatus.{TaskStatus}
use Rattle.mes_msg.specs.Call.{Call}
use Rattle.mes_msg.specs.Event.{Event}
use Rattle.mes_double_master.specs.Masters.{MasterState, handled, stream_broke}
use Rattle.mes_double_master.specs.Sending.{Sends, offers_sent, rescind_sent, update_sent}
use Rattle.mes_double_master.specs.Runs.{Deed, after_sending}
use Rattle.mes_double_master.specs.Runs.Deed.{handles, offers, rescinds, updates, breaks}
use Rattle.mes_double_live.specs.Lives.{LiveState}
use Rattle.mes_double_live.specs.Moving.{LaunchFits, DeedFits, past_at, after_deed, DeedsLead, Moves}

leads-then : (m : MasterState) (ds es : List Deed) (n o : MasterState) → DeedsLead m ds n → DeedsLead n es o → DeedsLead m (ds ++ es) o
leads-then m [] es n o first next = subst (λ (x : MasterState). DeedsLead x es o) first next
leads-then m (d ∷ ds) es n o first next = (first.0, leads-then (after_deed m d) ds es n o first.1 next)

pub moves-same : (m n : MasterState) → n ≡ m → Moves m n
moves-same m n e = record { deeds = []; leads = e }

pub moves-then : (m n o : MasterState) → Moves m n → Moves n o → Moves m o
moves-then m n o first next = record { deeds = first.deeds ++ next.deeds; leads = leads-then m first.deeds next.deeds n o first.leads next.leads }

-- `t` is the view of the fields of a live test master of the value `s`; at the end its master is `o`
pub moved : (s t : LiveState) (n o : MasterState) → t ≡ s → o ≡ n → Moves t.master n → Moves s.master o
moved s t n o e f moves = subst (λ (m : MasterState). Moves s.master m) (sym f) (subst (λ (x : LiveState). Moves x.master n) e moves)

-- the test master is the same up to `n`
pub moves-from : (m n o : MasterState) → n ≡ m → Moves n o → Moves m o
moves-from m n o e moves = subst (λ (x : MasterState). Moves x o) e moves

pub same-master : (s t : LiveState) → t ≡ s → t.master ≡ s.master
same-master s t e = ap (λ (x : LiveState). x.master) e

-- ---- one deed

moves-by : (m n : MasterState) (deed : Deed) → DeedFits m deed → n ≡ after_deed m deed → Moves m n
moves-by m n deed fits e = record { deeds = deed ∷ []; leads = (fits, e) }

pub handles-moves : (m n : MasterState) (call : Call) (given : Option (List ℕ)) → LaunchFits m call given → n ≡ (handled m call given).master → Moves m n
handles-moves m n call given fits e = moves-by m n (handles call given) fits e

sent-master : (m n : MasterState) (sends : Sends) (event : Event) → sends ≡ Ok (event, n) → n ≡ (after_sending (past_at m) sends).master
sent-master m n sends event e = sym (ap (λ (s : Sends). (after_sending (past_at m) s).master) e)

pub offers-move : (m n : MasterState) (list : List Offer) (event : Event) → offers_sent m list ≡ Ok (event, n) → Moves m n
offers-move m n list event e = moves-by m n (offers list) tt (sent-master m n _ event e)

pub rescind-moves : (m n : MasterState) (name : List ℕ) (event : Event) → rescind_sent m name ≡ Ok (event, n) → Moves m n
rescind-moves m n name event e = moves-by m n (rescinds name) tt (sent-master m n _ event e)

pub update-moves : (m n : MasterState) (status : TaskStatus) (event : Event) → update_sent m status ≡ Ok (event, n) → Moves m n
update-moves m n status event e = moves-by m n (updates status) tt (sent-master m n _ event e)

pub break-moves : (m n : MasterState) → n ≡ stream_broke m → Moves m n
break-moves m n e = moves-by m n breaks tt e
