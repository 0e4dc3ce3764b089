-- Proof of `SessionHandle::reach`, which lends the session. When the borrow ends, the handle has the
-- changed session.
use mathlib.Core.Path.{◌≡◌, refl}
use Prim.Native.Nat.{ℕ}
use mathlib.Core.List.{List, [], ◌∷◌}
use seplogic.Ra.Ura.{Ura}
use base.Fraction.{full_share}
use mir.Syntax.{named}
use mir.Raw.{raw as bare}
use mir.Val.{Val, vptr}
use base.Logic.{ent, sep, id⊢}
use base.Fml.{GName, Fml, ftrue, flft, fsep}
use types.Logic.{Logic, sem}
use contract.Running.{tables}
use types.Kit.{‵, raw, ◌⊛◌, some, later, at_ret, ◌$◌, ◌∵◌, !, qed, move, keep, use1, drop, split, join, pick, rewrite, fsplit, fsplit3, fjoin, fpack, suffices, frame, await, group, done}
use types.Part.{whole, sub, look_in}
use types.Run.{stop, fld, load, of_opd, first, blocks, exec, returns, enter, addr}
use types.ByLocal.{alloc_all, pass_all, free_all, look_at, get, through, sets, env, sets_last}
use denote.Exit.{no}
use denote.Memory.{part_at, part_of, mem, cell_at}
use denote.RawPtr.{block_ptr}
use denote.Ref.{MutRef, mut_vals, mut_Tells}
use denote.Signature.{plain, mut_ref_to}
use denote.Steps.{nothing, opens}
use denote.Follow.{follows, Part, lends_Part}
use denote.Triple.Walked.{says, Stays, stay_dropped, walk_of, ends_at, Goes-spent_ref}
use Rattle.std.proofs.alloc.Calls.{token}
use Rattle.std.proofs.raw_atomic.Walks.{proved}
use Rattle.std_alloc.proofs.VecSteps.Shapes.{after}
use Rattle.std_alloc.proofs.BoxSteps.Form.{B, D, τ, word, handle}
use Rattle.std_alloc.proofs.BoxSteps.Steps.{box_out, box_in}
use Rattle.mesosev_c.proofs.AsSessionBox.{E}
use Rattle.mesosev_c.specs.SessionLends.{with_session}
use Rattle.mesosev_c.specs.contracts.handle.SessionHandle.{the_row as Of}
use Rattle.mesosev_session.specs.contracts.text_session.TextSession.{the_row as Held}
use Rattle.mesosev_c.specs.contracts.handle.SessionHandle.reach as f
use Rattle.mesosev_c.proofs.handle.SessionHandle.reach.Statement.{statement}
use Rattle.mesosev_c.proofs.handle.SessionHandle.reach.Code as code

abbrev stayed : Stays f.ended.signature.params f.ended.kept
stayed = (stay_dropped (mut_ref_to (0 ∷ []) tt (plain (λ _. Of))) no, tt)

-- the box that the handle represents
abbrev as_box : Of.Denot → D E
as_box h = record { ptr = h.ptr; alloc = h.alloc; value = h.held }

module _ {M : Type 1} {𝓤 : Ura M} (𝓛 : Logic 𝓤) (h : Of.Denot) (rb ro b o : ℕ) (hv : Val) where
  -- all parts of the handle except the session
  abbrev Rest : Fml
  Rest = fsep (fsep (token E.al h.alloc (bare (τ E)) (block_ptr b o)) (handle E h.alloc hv)) (cell_at full_share Of.mir (word E hv b o ∷ []) rb ro)

  back : h.ptr ≡ block_ptr b o → (w : Held.Denot) → ent 𝓤 (sep 𝓤 (sem 𝓛 ((mem Held).own_at w b o)) (sem 𝓛 Rest)) (sem 𝓛 ((mem Of).own_at (with_session h w) rb ro))
  unfolding part_of
  back at_b w =
      qed 𝓛 (‵ (part_at Held full_share w b o) ∷ ‵ Rest ∷ []) ∵ move ! (1 ∷ []) $ fsplit ! $ fsplit ! $ move ! (3 ∷ []) $
      box_in E ! (as_box (with_session h w)) b o w at_b refl $ use1 𝓛 (‵ (Of.own_val (with_session h w) (word E hv b o ∷ []))) (id⊢ 𝓤 _) $ move ! (1 ∷ 0 ∷ []) $ fjoin ! $
      fpack ! (List Val) (λ us. fsep (cell_at full_share Of.mir us rb ro) (Of.own_val (with_session h w) us)) (word E hv b o ∷ []) $ done !

pub reach_spec : {M : Type 1} → statement M
reach_spec 𝓤 𝓛 𝓜 𝓡 wired =
    let c = f.clauses 𝓛 𝓜.mem 𝓡.returns in let W = walk_of 𝓛 f.ended stayed c in let 𝓣 = tables 𝓤 𝓛.H 𝓜 𝓡 𝓡.env in
    proved 𝓛 f.ended stayed c 𝓜 𝓡 (Goes-spent_ref 𝓛 1 (0 ∷ []) tt (plain (λ _. Of)), tt)
    f.Key.name code.function (code.unfolded 𝓤 𝓛.H 𝓜 𝓡 wired)
    (λ κs. (mut_vals, tt)) (λ κs. (mut_Tells (named 0) κs.0 Of, tt)) (λ κs qs bounds a g are.
    let κ = κs.0 in let q = qs.0 in let rb = a.0.ref_ptr.0 in let ro = a.0.ref_ptr.1 in let γ = a.0.ghost_name in let h = a.0.now in let vs = mut_vals a.0 in
    let y : W.Ghost = ((κs, qs, bounds, a, (vs, tt)), g) in
    qed 𝓛 (((‵ (flft κ q) ⊛ ‵ ftrue) ⊛ ‵ ((MutRef (named 0) κ Of).own_val a.0 vs) ⊛ ‵ ftrue) ∷ ‵ ftrue ∷ []) ∵
    split ! $ split ! $ move ! (2 ∷ []) $ split ! $ keep ! (0 ∷ 2 ∷ []) $
    enter ! _ _ _ _ _ $ alloc_all ! (λ l. pass_all ! refl ((tt, tt), tt) $
    fsplit3 ! $ drop ! $ opens ! tt Of {h = h} rb ro (λ us.
    move ! (1 ∷ []) $ use1 𝓛 (‵ ((B E).own_val (as_box h) us)) (id⊢ 𝓤 _) $ box_out E ! (as_box h) us (λ b o hv at_b ws fa.
    move ! (1 ∷ 2 ∷ []) $ fjoin ! $ move ! (1 ∷ []) $ rewrite ! 2 (λ (xs : List Val). ‵ (cell_at full_share Of.mir xs rb ro)) ws refl $
    -- [the session; the token with the allocator; the word; the open borrow, in three entries]
    first ! $ blocks ! $
    sets ! (of_opd ! (load ! (through ! refl (fld ! refl (stop !))) (look_in ! 2 (sub ! 0 refl (whole !))))) refl (tt, tt) $
    sets_last ! (addr ! (through ! refl (stop !))) refl (tt, tt) $
    exec ! 𝓣.C 𝓣.Λ (env code.Mir.locals l) (after 1 (code.function).body) (at_ret _ (W.post y)) $
    sets ! (of_opd ! (get ! refl)) refl (tt, tt) $
    move ! (1 ∷ 2 ∷ []) $ fjoin ! $ move ! (2 ∷ 3 ∷ 4 ∷ 1 ∷ 0 ∷ []) $ group ! 5 $
    use1 𝓛 (later (some (λ (δ : GName). raw (Part 𝓛 Of Held (with_session h) (named 0) κ q rb ro b o γ (sem 𝓛 (Rest 𝓛 h rb ro b o hv)) (back 𝓛 h rb ro b o hv at_b) h.held δ))))
    (lends_Part 𝓛 Of Held (with_session h) (named 0) κ q rb ro b o γ (sem 𝓛 (Rest 𝓛 h rb ro b o hv)) (back 𝓛 h rb ro b o hv at_b) (Of.coded.code h) (Of.coded.code h) h.held) $ await ! tt $ pick ! (λ δ.
    returns ! (look_at ! 0 refl) $ free_all ! refl $ keep ! (0 ∷ []) $
    use1 𝓛 (‵ ((MutRef (named 0) κ Held).own_val (record { ref_ptr = (b, o); ghost_name = δ; now = h.held }) (vptr b o ∷ [])) ⊛ ‵ (flft κ q) ⊛ ‵ (follows Of Held γ δ (with_session h))) (id⊢ 𝓤 _) $
    suffices ! _ (ends_at 𝓛 f.ended stayed c y (vptr b o) (record { ref_ptr = (b, o); ghost_name = δ; now = h.held }) (tt, tt) (tt, tt)) $ split ! $ move ! (1 ∷ []) $ split ! $
    move ! (2 ∷ 0 ∷ 1 ∷ []) $
    nothing ! $ nothing ! $ fjoin ! $ join ! $ nothing ! $ move ! (2 ∷ 0 ∷ []) $ join ! $ join ! $ frame ! $ says ! refl $ done !)))))
