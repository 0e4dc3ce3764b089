-- The invariant `Joined` of session, master and messages holds on every course.
use Rattle.std.proofs.Common.{ℕ, true, ◌&&◌, not, List, [], ◌∷◌, refl, sym, ap, subst, ◌∙◌, arith}
use Rattle.std.specs.List.{list_any}
use Rattle.std.specs.Str.{bytes_eq}
use Rattle.mes_model.specs.Id.{Id}
use Rattle.mes_model.specs.Offer.{Offer}
use Rattle.mes_msg.specs.Event.{Event}
use Rattle.mes_session_state.specs.Held.{names}
use Rattle.mes_session_state.specs.Calls.{named_by}
use Rattle.mes_double.specs.declared.moves.Move.{Move}
use Rattle.mes_double.specs.declared.sent.Sent.{Sent}
use Rattle.mes_double.specs.Courses.{Course, begun, Leads, IsCourse}
use Rattle.mes_double.specs.Promises.{HandAgrees, AllAgrees, is_under_way, caught_up}
use Rattle.mes_double.proofs.ListLemmas.{filter-all, filter-same}
use Rattle.mes_double.proofs.TurnLemmas.{Turn, turn}
use Rattle.mes_double.proofs.TurnLemmas.Turn.{skips, offers, rescinds, reports, tells_owing, resends, hears, wishes, refuses, opens, carries, resubscribes}
use Rattle.mes_double.proofs.Joined.{Joined}
use Rattle.mes_double.proofs.JoinedSending.{skip-joined, offers-joined, rescind-joined, update-joined, hear-joined}
use Rattle.mes_double.proofs.JoinedCalls.{wish-joined, refuse-joined, open-joined, carry-joined, resubscribe-joined}

pub joined-turn : (c d : Course) → Turn c d → Joined c → Joined d
joined-turn c d (skips e) j = subst Joined (sym e) (skip-joined c j)
joined-turn c d (offers list none e) j = subst Joined (sym e) (offers-joined c j list none)
joined-turn c d (rescinds id e) j = subst Joined (sym e) (rescind-joined c j id)
joined-turn c d (reports status none e) j = subst Joined (sym e) (update-joined c j _ _ status)
joined-turn c d (tells_owing status key some e) j = subst Joined (sym e) (update-joined c j _ _ status)
joined-turn c d (resends index x there e) j = subst Joined (sym e) (update-joined c j _ _ x.1)
joined-turn c d (hears x events w e) j = subst Joined (sym e) (hear-joined c j x events w)
joined-turn c d (wishes call stream current said e) j = subst Joined (sym e) (wish-joined c j call stream current said)
joined-turn c d (refuses index p status there none is e) j = subst Joined (sym e) (refuse-joined c j index p there status none is)
joined-turn c d (opens index p uuid uuids there call up e) j = subst Joined (sym e) (open-joined c j index p there uuid uuids up)
joined-turn c d (carries index p there o e) j = subst Joined (sym e) (carry-joined c j index p there)
joined-turn c d (resubscribes uuid uuids up e) j = subst Joined (sym e) (resubscribe-joined c j uuid uuids up)

joined-leads : (c d : Course) (list : List Move) → Leads c list d → Joined c → Joined d
joined-leads c d [] e j = subst Joined (sym e) j
joined-leads c d (move ∷ list) l j = joined-leads l.0 d list l.2 (joined-turn c l.0 (turn c l.0 move l.1) j)

pub joined-begun : (framework : Id) (ids : List (List ℕ)) → Joined (begun framework ids)
joined-begun framework ids = record {
  once = λ x. omega arith;
  known = λ x. omega arith;
  named = λ i p o there n. absurd (cc);
  live = λ i p o there n h. absurd (cc);
  framework = λ known e. absurd (cc);
  own = tt;
  down = λ e. refl;
  sent = λ i h. refl;
  agrees = λ stream e. refl;
}

pub joined : (framework : Id) (ids : List (List ℕ)) (list : List Move) (c : Course) → IsCourse framework ids list c → Joined c
joined framework ids list c l = joined-leads (begun framework ids) c list l (joined-begun framework ids)

pub hand-agrees : (framework : Id) (ids : List (List ℕ)) (list : List Move) (c : Course) → IsCourse framework ids list c → HandAgrees c
hand-agrees framework ids list c l = (joined framework ids list c l).agrees

pub all-agrees : (framework : Id) (ids : List (List ℕ)) (list : List Move) (c : Course) → IsCourse framework ids list c → AllAgrees c
all-agrees framework ids list c l stream current none here =
    ap (λ (events : List Event). (caught_up (record c.world { waiting = events })).hand) (sym none)
    ∙ hand-agrees framework ids list c l stream current
    ∙ filter-same (λ (o : Offer). not (is_under_way c stream o)) (λ (o : Offer). true) (λ o. ap (λ (ps : List Sent). not (list_any (λ (p : Sent). bytes_eq stream p.stream && names (named_by p.call) o) ps)) here) c.world.master.outstanding
    ∙ filter-all c.world.master.outstanding
