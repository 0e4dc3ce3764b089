-- Each list of moves has at most one course.
use Rattle.std.proofs.Common.{◌≡◌, ℕ, ◌++◌, List, [], ◌∷◌, Option, Some, None, refl, sym, ap, subst, ◌∙◌}
use Rattle.mes_model.specs.Id.{Id}
use Rattle.mes_msg.specs.Call.{Call}
use Rattle.mes_session_state.specs.declared.refusal.Refusal.{Refusal}
use Rattle.mes_session_state.specs.Held.{Held}
use Rattle.mes_session_state.specs.Refusals.{as_reported, IsRefused, Answers}
use Rattle.mes_double.specs.declared.moves.Move.{Move}
use Rattle.mes_double.specs.declared.moves.Move.TheVariants as moves
use Rattle.mes_double.specs.Worlds.{WorldState, wishing, Wishes, Happens}
use Rattle.mes_double.specs.Courses.{Course, begun, Follows, Leads, IsCourse}

module _ (once : (held : Held) (call : Call) (fault other : Refusal) → IsRefused held call fault → IsRefused held call other → fault ≡ other) where
  -- a session has one outcome for each call: allowed, or one refusal
  one-answer : (held : Held) (call : Call) (a b : Option Refusal) → Answers held call a → Answers held call b → a ≡ b
  one-answer held call None None f g = refl
  one-answer held call None (Some y) f g = absurd (f g.0 g.2.is)
  one-answer held call (Some x) None f g = absurd (g f.0 f.2.is)
  one-answer held call (Some x) (Some y) f g =
      ap (λ (r : Refusal). Some r) (f.1 ∙ ap as_reported (once held call f.0 g.0 f.2 g.2) ∙ sym g.1)

  one-wish : (w u v : WorldState) (call : Call) (s : Option (List ℕ)) → Wishes w call s u → Wishes w call s v → u ≡ v
  one-wish w u v call None f g = f ∙ sym g
  one-wish w u v call (Some stream) f g = f.2 ∙ ap (wishing w call stream) (one-answer w.session call f.0 g.0 f.1 g.1) ∙ sym g.2

  one-world : (w u v : WorldState) (move : Move) → Happens w move u → Happens w move v → u ≡ v
  one-world w u v (moves.Offer list) f g = f ∙ sym g
  one-world w u v (moves.Rescind name) f g = f ∙ sym g
  one-world w u v (moves.Update status) f g = f ∙ sym g
  one-world w u v (moves.Resend index) f g = f ∙ sym g
  one-world w u v moves.Hear f g = f ∙ sym g
  one-world w u v (moves.Wish call) f g = one-wish w u v call w.master.stream f g
  one-world w u v (moves.Arrive index) f g = f ∙ sym g
  one-world w u v moves.Resubscribe f g = f ∙ sym g

  one-step : (c d e : Course) (move : Move) → Follows c move d → Follows c move e → d ≡ e
  one-step c d e move f g =
      λ i. record {
        world = one-world c.world d.world e.world move f.world g.world i;
        heard = (f.heard ∙ sym g.heard) i;
        arrivals = (f.arrivals ∙ sym g.arrivals) i;
      }

  one-end : (b c : Course) (list : List Move) (d e : Course) → b ≡ c → Leads b list d → Leads c list e → d ≡ e
  one-end b c [] d e same f g = f ∙ same ∙ sym g
  one-end b c (move ∷ list) d e same f g =
      one-end f.0 g.0 list d e (one-step c f.0 g.0 move (subst (λ (x : Course). Follows x move f.0) same f.1) g.1) f.2 g.2

  pub one-course : (framework : Id) (ids : List (List ℕ)) (list : List Move) (c d : Course) → IsCourse framework ids list c → IsCourse framework ids list d → c ≡ d
  one-course framework ids list c d f g = one-end (begun framework ids) (begun framework ids) list c d refl f g

-- ---- a list with one more move

pub leads-more : (c d e : Course) (list : List Move) (move : Move) → Leads c list d → Follows d move e → Leads c (list ++ move ∷ []) e
leads-more c d e [] move l f = (e, subst (λ (x : Course). Follows x move e) l f, refl)
leads-more c d e (first ∷ list) move l f = (l.0, l.1, leads-more l.0 d e list move l.2 f)
