use Rattle.std.proofs.Common.{◌≡◌, ◌==◌, ap, false, length, rules}
use Rattle.std.proofs.lemmas.Result.{on_ok_weaker}
use Rattle.mes_msg.specs.Event.TheVariants.{Offers}
use Rattle.mes_double_live.proofs.MakeLemmas.{all-offered}
use Rattle.mes_double_live.proofs.live.Live.offer_due.Goals as goal

pub returns-clause-steps : goal.returns-clause-steps
returns-clause-steps c =
    let full : (length c.in_ok-made.made.items == 0) ≡ false = search rules in
    on_ok_weaker _
    (all-offered c.in_ok-made.made.items _ _ _ _ full (ap Offers c.new.ensures) c.in_ok-made.ensures.made c.make_offers.ensures.rest c.in_ok-made.ensures.tasks) c.push.ensures.pushed
