use Rattle.std.proofs.Common.{◌≡◌, ℕ, List, [], ◌∷◌, ◌++◌, length, reverse, ap, sym, ◌∙◌, subst}
use Rattle.std.proofs.lemmas.List.{reverse-append}
use Rattle.mes_json.specs.Lengths.{AreBegun}
use Rattle.mes_json.proofs.LengthsLemmas.{begun_none, begun_open}
use Rattle.mes_json.proofs.node_buffer.Nodes.begin.Goals as goal
use Rattle.mes_json.proofs.node_buffer.Nodes.begin.Goals.{then-is_full, else-is_full}

-- the recorded indices are those of open arrays and objects, also if the outer ones were dropped
before : (c : goal.After-push_reserved) → AreBegun (reverse c.if-is_full.self-inside.begins.items) c.if-is_full.self-inside.nodes.items
before c = elim c.if-is_full.branch [
  | then-is_full w ↦ rw w.self-inside-is (rw w.clear.ensures (begun_none (reverse c.self.inside.begins.items) c.self.inside.nodes.items c.self.invariant))
  | else-is_full w ↦ rw w.self-inside-is c.self.invariant
]

pub invariant_of-self : goal.invariant_of-self
invariant_of-self c =
    let begins = c.if-is_full.self-inside.begins.items in
    let nodes = c.if-is_full.self-inside.nodes in
    let count : c.len.result ≡ length nodes.items = c.len.ensures ∙ nodes.ok.0 in
    let places : length nodes.items ∷ reverse begins ≡ reverse c.push.new.self.items =
    sym (ap (λ (xs : List ℕ). reverse xs) c.push.ensures.items ∙ reverse-append begins (c.len.result ∷ []) ∙ ap (λ (n : ℕ). n ∷ reverse begins) count) in
    rw c.push_reserved.ensures.items
    (subst (λ (ps : List ℕ). AreBegun ps (nodes.items ++ c.args.node ∷ [])) places (begun_open (reverse begins) nodes.items c.args.node (before c) c.requires.unknown))
