use Rattle.std.proofs.Common.{sym, ◌∙◌}
use Rattle.mes_double_http.proofs.SpaceLemmas.{space_found, space_splits, space_start, space_missing}
use Rattle.mes_double_http.proofs.target.through_space.Goals as goal

pub returns-in-Some : goal.returns-in-Some
returns-in-Some c =
    let at = sym c.space_in.ensures.place ∙ c.in-Some.is in
    (_, _, space_start c.args.taken.now c.in-Some.place at, space_splits c.args.taken.now c.in-Some.place at, space_found c.args.taken.now c.in-Some.place at)

pub returns-in-None : goal.returns-in-None
returns-in-None c = space_missing c.args.taken.now (sym c.space_in.ensures.place ∙ c.in-None.is)
