use Rattle.mes_double_live_worlds.proofs.AckedLemmas.{acked-shown}
use Rattle.mes_double_live_worlds.proofs.AgreeLemmas.{agrees-shown}
use Rattle.mes_double_live_worlds.proofs.TurnLemmas.{run-shown}
use Rattle.mes_double_live_worlds.proofs.theorems.live_world_laws.Goals as goal

pub returns-clause-shown : goal.returns-clause-shown
returns-clause-shown c = λ framework ids finish_after out turns w runs. (
    let laws = c.world_laws.ensures in
    let (list, course, is, shows) = run-shown framework ids (record { fits = laws.fits framework ids; there = laws.there framework ids }) finish_after out turns w runs in (
      list,
      course,
      is,
      shows,
      record {
        acked = laws.acked framework ids list course is;
        launched = laws.launched framework ids list course is;
        taken = laws.taken framework ids list course is;
        fits = laws.fits framework ids list course is;
        there = laws.there framework ids list course is;
        again = laws.again framework ids list course is;
        agrees = laws.agrees framework ids list course is;
        same = laws.same framework ids list course is;
      },
    )
    )

pub returns-clause-acked : goal.returns-clause-acked
returns-clause-acked c = λ framework ids finish_after out turns w runs. (
    let laws = c.world_laws.ensures in
    let (list, course, is, shows) = run-shown framework ids (record { fits = laws.fits framework ids; there = laws.there framework ids }) finish_after out turns w runs in
    acked-shown course w shows (laws.acked framework ids list course is)
    )

pub returns-clause-agrees : goal.returns-clause-agrees
returns-clause-agrees c = λ framework ids finish_after out turns w runs. (
    let laws = c.world_laws.ensures in
    let (list, course, is, shows) = run-shown framework ids (record { fits = laws.fits framework ids; there = laws.there framework ids }) finish_after out turns w runs in
    agrees-shown framework ids (laws.same framework ids) list course w is shows
    )
