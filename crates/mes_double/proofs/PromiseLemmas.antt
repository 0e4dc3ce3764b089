-- Every course keeps the promises of `world_laws`.
use Rattle.std.proofs.Common.{◌≡◌, ℕ, ◌≤◌, List, length, take}
use Rattle.mes_model.specs.Id.{Id}
use Rattle.mes_double.specs.declared.moves.Move.{Move}
use Rattle.mes_double.specs.Worlds.{WorldState}
use Rattle.mes_double.specs.Courses.{Course, IsCourse}
use Rattle.mes_double.specs.Promises.{KeepsPromises}
use Rattle.mes_double.proofs.Fitting.{what-ran-fits, what-ran-is-there}
use Rattle.mes_double.proofs.JoinedRuns.{hand-agrees, all-agrees}
use Rattle.mes_double.proofs.Keyed.{acked-heard}
use Rattle.mes_double.proofs.RanLemmas.{launched-once, taken-once}
use Rattle.mes_double.proofs.RepeatLemmas.{moves-nothing}
use Rattle.mes_double.proofs.RunningLemmas.{MovesSoFar, so-far-whole}

pub promises-kept : (framework : Id) (ids : List (List ℕ)) (list : List Move) (c : Course) → IsCourse framework ids list c → KeepsPromises c
promises-kept framework ids list c is = record {
  acked = acked-heard framework ids list c is;
  launched = launched-once framework ids list c is;
  taken = taken-once framework ids list c is;
  fits = what-ran-fits framework ids list c is;
  there = what-ran-is-there framework ids list c is;
  again = moves-nothing framework ids list c is;
  agrees = hand-agrees framework ids list c is;
  same = all-agrees framework ids list c is;
}

pub so-far-kept : (framework : Id) (ids : List (List ℕ)) (list : List Move) (index : ℕ) (world : WorldState) → MovesSoFar framework ids (take index list) index world → length list ≤ index
    → (c : Course) × IsCourse framework ids list c × KeepsPromises c × (c.world ≡ world)
so-far-kept framework ids list index world s past =
    let whole : (c : Course) × IsCourse framework ids list c × (c.world ≡ world) = so-far-whole framework ids list index world s past in
    (whole.0, whole.1, promises-kept framework ids list whole.0 whole.1, whole.2)
