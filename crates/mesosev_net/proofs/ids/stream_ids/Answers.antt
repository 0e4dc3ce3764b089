use Rattle.std.proofs.Common.{◌∙◌, refl}
use Rattle.mesosev_net.proofs.IdLemmas.{none_yet, one_more}
use Rattle.mesosev_net.specs.StreamIds.{id_at}
use Rattle.mesosev_net.proofs.ids.stream_ids.Goals as goal

pub loop-i-init : goal.loop-i-init
loop-i-init c = c.new-ids.ensures.items ∙ none_yet (id_at c.args.first)

pub loop-i-preserved : goal.loop-i-preserved
loop-i-preserved c =
    c.in_ok-push.ensures.items ∙ one_more (id_at c.args.first) c.loop-i.i c.loop-i.ids.items c.from_u128.result c.loop-i.invariant
    (c.from_u128.ensures ∙ rw (c.as_u128-number.ensures, c.from.ensures) refl)
