-- From a new master on, deeds that fit lead to a master whose promises are kept.
use Rattle.std.proofs.Common.{◌≡◌, ℕ, zero, suc, fold, take, slice_get, List, [], ◌∷◌, Option, Some, None, Ok, Err, refl, subst}
use Rattle.mes_model.specs.Id.{Id}
use Rattle.mes_msg.specs.Call.{Call}
use Rattle.mes_double_master.specs.Masters.{MasterState}
use Rattle.mes_double_master.specs.Sending.{Sends, offers_sent, rescind_sent, update_sent, resend_sent}
use Rattle.mes_double_master.specs.Runs.{master_with, Deed, Past, after_sending, after}
use Rattle.mes_double_master.specs.Runs.Deed.{handles, offers, rescinds, updates, resends, breaks}
use Rattle.mes_double_master.proofs.RunLemmas.{launched-once, taken-once}
use Rattle.mes_double_live.specs.Moving.{LaunchFits, DeedFits, past_at, after_deed, DeedsLead, Moves, IsSafe}

sending-master : (past : Past) (sends : Sends) → (after_sending (past_at past.master) sends).master ≡ (after_sending past sends).master
sending-master past (Ok sent) = refl
sending-master past (Err why) = refl

-- what a deed makes of a master does not depend on what was taken and launched before
after-master : (past : Past) (deed : Deed) → after_deed past.master deed ≡ (after past deed).master
after-master past (handles call stream) = refl
after-master past (offers list) = sending-master past (offers_sent past.master list)
after-master past (rescinds name) = sending-master past (rescind_sent past.master name)
after-master past (updates status) = sending-master past (update_sent past.master status)
after-master past (resends index) = sending-master past (resend_sent past.master index)
after-master past breaks = refl

next : (past : Past) (deed : Deed) (deeds : List Deed) (n : MasterState) → DeedsLead past.master (deed ∷ deeds) n → DeedsLead (after past deed).master deeds n
next past deed deeds n leads = subst (λ (m : MasterState). DeedsLead m deeds n) (after-master past deed) leads.1

ends : (past : Past) (deeds : List Deed) (n : MasterState) → DeedsLead past.master deeds n → n ≡ (fold after past deeds).master
ends past [] n leads = leads
ends past (deed ∷ deeds) n leads = ends (after past deed) deeds n (next past deed deeds n leads)

each-fits : (past : Past) (deeds : List Deed) (n : MasterState) → DeedsLead past.master deeds n
    → (i : ℕ) (call : Call) (stream : Option (List ℕ)) → slice_get deeds i ≡ Some (handles call stream) → LaunchFits (fold after past (take i deeds)).master call stream
each-fits past [] n leads i call stream at = absurd (let none : None ≡ Some (handles call stream) = at in cc)
each-fits past (deed ∷ deeds) n leads zero call stream at = (let same : deed ≡ handles call stream = cc in subst (DeedFits past.master) same leads.0)
each-fits past (deed ∷ deeds) n leads (suc i) call stream at = each-fits (after past deed) deeds n (next past deed deeds n leads) i call stream at

pub safe : (framework : Id) (ids : List (List ℕ)) (interval : Option ℕ) (m : MasterState) → Moves (master_with framework ids interval) m → IsSafe framework ids interval m
safe framework ids interval m moves =
    let new : Past = past_at (master_with framework ids interval) in record {
      deeds = moves.deeds;
      is = ends new moves.deeds m moves.leads;
      launched = launched-once framework ids interval moves.deeds;
      taken = taken-once framework ids interval moves.deeds;
      fits = each-fits new moves.deeds m moves.leads;
    }
