use Rattle.std.proofs.Common.{ap, ◌∙◌}
use Rattle.mes_json.specs.Passing.{following}
use Rattle.mes_json.proofs.LengthsLemmas.{spans_from, tell_from}
use Rattle.mes_json.proofs.cursor.Element.following.Goals as goal

pub invariant_of-result : goal.invariant_of-result
invariant_of-result c =
    let rest = c.following_value.ensures.rest in
    (rw rest.1 (spans_from c.self.inside.texts.now rest.0 c.self.inside.nodes.now c.self.invariant.0), rw rest.1 (tell_from rest.0 c.self.inside.nodes.now c.self.invariant.1))

pub returns : goal.returns
returns c = c.following_value.ensures.held c.self.inside.texts.now ∙ ap (following 0) c.self.view_is
