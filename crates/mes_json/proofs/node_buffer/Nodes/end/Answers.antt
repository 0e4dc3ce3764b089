use Rattle.std.proofs.Common.{◌≡◌, ℕ, List, [], ◌∷◌, ◌++◌, ◌-◌, ◌<◌, length, refl, reverse, ap, sym, ◌∙◌, subst, arith, append-nil}
use Rattle.std.proofs.lemmas.List.{reverse-append, map-append}
use Rattle.mes_json.specs.Lengths.{unreported, AreBegun}
use Rattle.mes_json.specs.Nodes.{Nodes}
use Rattle.mes_json.specs.declared.tape.Node.TheVariants.{End}
use Rattle.mes_json.proofs.LengthsLemmas.{begun_close, begun_end, untold_close}
use Rattle.mes_json.proofs.node_buffer.Nodes.end.Goals as goal
use Rattle.mes_json.proofs.node_buffer.Nodes.end.Goals.{in-Some, in_default}

innermost_first : (xs ys : List ℕ) (x : ℕ) → xs ≡ ys ++ x ∷ [] → reverse xs ≡ x ∷ reverse ys
innermost_first xs ys x is = ap (λ (us : List ℕ). reverse us) is ∙ reverse-append ys (x ∷ [])

nothing : (xs : List ℕ) → (0 < length xs → ⊥) → xs ≡ []
nothing [] h = refl
nothing (x ∷ xs) h = absurd (h (omega arith))

known : (c : goal.After-push_reserved) → AreBegun (reverse c.match-pop.self-inside.begins.items) (c.match-pop.self-inside.nodes.items ++ End ∷ [])
known c = elim c.match-pop.branch [
  | in-Some w ↦ rw (w.self-inside-is, w.tell.ensures, w.index_mut.ensures.value)
      (begun_close w.kept_length-length.result w.in-Some.begin (reverse c.pop.new.self.items) c.self.inside.nodes.items _
      (subst (λ (ps : List ℕ). AreBegun ps c.self.inside.nodes.items) (innermost_first c.self.inside.begins.items c.pop.new.self.items w.in-Some.begin w.in-Some.ensures.items) c.self.invariant)
      (λ some. w.kept_length-length.ensures some ∙ ap (λ (n : ℕ). n - w.in-Some.begin) (w.len.ensures ∙ c.self.inside.nodes.ok.0)))
  | in_default w ↦ let none : c.self.inside.begins.items ≡ [] = nothing c.self.inside.begins.items (λ some. absurd (cc (w.in_default.ensures.variant.1 some))) in
      let left : c.pop.new.self.items ≡ [] = sym (append-nil c.pop.new.self.items) ∙ sym w.in_default.ensures.items ∙ none in
      rw (w.self-inside-is, left) (begun_end c.self.inside.nodes.items (subst (λ (ps : List ℕ). AreBegun (reverse ps) c.self.inside.nodes.items) none c.self.invariant))
]

pub invariant_of-self : goal.invariant_of-self
invariant_of-self c = rw c.push_reserved.ensures.items (known c)

pub returns-clause-items : goal.returns-clause-items
returns-clause-items c = elim c.match-pop.branch [
  | in-Some w ↦ rw (c.push_reserved.ensures.items, w.self-inside-is, w.tell.ensures, w.index_mut.ensures.value)
      (untold_close w.kept_length-length.result w.in-Some.begin c.self.inside.nodes.items _ ∙ ap (λ (n : Nodes). n.items ++ End ∷ []) c.self.view_is)
  | in_default w ↦ rw (c.push_reserved.ensures.items, w.self-inside-is)
      (map-append unreported c.self.inside.nodes.items (End ∷ []) ∙ ap (λ (n : Nodes). n.items ++ End ∷ []) c.self.view_is)
]
