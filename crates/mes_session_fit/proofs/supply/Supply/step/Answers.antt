use Rattle.std.proofs.Common.{◌+◌, ◌≤◌, ◌<◌, get_or, length, ap, ◌∙◌, arith}
use Rattle.mes_session_fit.specs.Keys.{key_of}
use Rattle.mes_session_fit.proofs.PourLemmas.{next-same, next-less, one-same, one-less}
use Rattle.mes_session_fit.proofs.supply.Supply.step.Goals as goal

pub returns-then-self-resources-clause-same : goal.returns-then-self-resources-clause-same
returns-then-self-resources-clause-same g c = λ _.
    let os = g.O.OfferList.offers c.args.offers.now in
    let over : length c.get_index.result.now.resources ≤ c.args.self.now.resource = omega (arith, c.if-self-resources.true, ap length c.as_slice-resources.ensures) in
    ap (λ n. c.args.self.now.left + n) (next-same (key_of c.args.key.now) os c.args.self.now.offer c.args.self.now.resource c.get_index.result.now c.get_index.ensures over)

pub returns-then-self-resources-clause-less : goal.returns-then-self-resources-clause-less
returns-then-self-resources-clause-less g c = λ _.
    let os = g.O.OfferList.offers c.args.offers.now in
    let over : length c.get_index.result.now.resources ≤ c.args.self.now.resource = omega (arith, c.if-self-resources.true, ap length c.as_slice-resources.ensures) in
    next-less (key_of c.args.key.now) os c.args.self.now.offer c.args.self.now.resource c.get_index.result.now c.get_index.ensures over

pub returns-clause-same : goal.returns-clause-same
returns-clause-same g c = λ _.
    let os = g.O.OfferList.offers c.args.offers.now in
    let within : c.args.self.now.resource < length c.get_index.result.now.resources = omega (arith, c.if-self-resources.false, ap length c.as_slice-resources.ensures) in
    let is = c.index-resources-self.is ∙ ap (λ rs. get_or rs c.args.self.now.resource c.index-resources-self.result) c.as_slice-resources.ensures in
    omega (arith, c.requires, c.amount_under-self.ensures, one-same (key_of c.args.key.now) os c.args.self.now.offer c.args.self.now.resource c.get_index.result.now c.get_index.ensures c.index-resources-self.result within is)

pub returns-clause-less : goal.returns-clause-less
returns-clause-less g c = λ _.
    let os = g.O.OfferList.offers c.args.offers.now in
    let within : c.args.self.now.resource < length c.get_index.result.now.resources = omega (arith, c.if-self-resources.false, ap length c.as_slice-resources.ensures) in
    let is = c.index-resources-self.is ∙ ap (λ rs. get_or rs c.args.self.now.resource c.index-resources-self.result) c.as_slice-resources.ensures in
    one-less (key_of c.args.key.now) os c.args.self.now.offer c.args.self.now.resource c.get_index.result.now c.get_index.ensures c.index-resources-self.result within is
