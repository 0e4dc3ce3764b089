use Rattle.std.proofs.Common.{[], reverse, ap, sym, ◌∙◌, subst, append-nil}
use Rattle.std.specs.List.{AllByRecursion}
use Rattle.mes_json.specs.Tape.{HasSpan}
use Rattle.mes_json.specs.Cursor.{tokens_held}
use Rattle.mes_json.specs.Lengths.{TellLengths}
use Rattle.mes_json.specs.Nodes.{Nodes}
use Rattle.mes_json.proofs.LengthsLemmas.{begun_tells, untold_tokens, untold_spans}
use Rattle.mes_json.proofs.node_buffer.Nodes.take.Goals as goal

pub returns-clause-held : goal.returns-clause-held
returns-clause-held c texts =
    rw c.replace.ensures.value (sym (untold_tokens texts c.self.inside.nodes.items) ∙ ap (λ (n : Nodes). tokens_held texts n.items) c.self.view_is)

pub returns-clause-spans : goal.returns-clause-spans
returns-clause-spans c texts h =
    rw c.replace.ensures.value (untold_spans texts c.self.inside.nodes.items (subst (λ (n : Nodes). AllByRecursion (HasSpan texts) n.items) (sym c.self.view_is) h))

pub returns-clause-reported : goal.returns-clause-reported
returns-clause-reported c =
    rw c.replace.ensures.value
    (subst TellLengths (append-nil c.self.inside.nodes.items) (begun_tells (reverse c.self.inside.begins.items) c.self.inside.nodes.items [] c.self.invariant tt))
