use Rattle.std.proofs.lemmas.Bool.{false≢true}
use Rattle.mes_double_http.proofs.TargetLemmas.{target_split, target_spaced}
use Rattle.mes_double_http.proofs.target.ends_in_target.Goals as goal

pub returns-in-Some : goal.returns-in-Some
returns-in-Some c =
    let split = c.in-Some.ensures in (
      λ yes. let found = c.is_target.ensures.0 yes in
          record { front = split.0; target = c.in-Some.target.now; is = split.1; unspaced = split.2; some = found.0; visible = found.1 },
      λ t. c.is_target.ensures.1 (target_split c.args.taken.now split.0 c.in-Some.target.now split.1 split.2 t),
    )

pub returns-in-None : goal.returns-in-None
returns-in-None c = (λ no. absurd (false≢true no), λ t. absurd (target_spaced c.args.taken.now c.in-None.ensures t))
