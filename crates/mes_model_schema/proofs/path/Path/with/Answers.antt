use Rattle.std.proofs.Common.{arith, sym, subst}
use Rattle.std.proofs.lemmas.List.{length-set}
use Rattle.mes_model_schema.specs.Paths.{IsPath}
use Rattle.mes_model_schema.proofs.PathLemmas.{room_left, steps_more, path_more}
use Rattle.mes_model_schema.proofs.path.Path.with.Goals as goal

pub bounds-steps-self-inside : goal.bounds-steps-self-inside
bounds-steps-self-inside c = room_left c.self.inside.steps c.self.inside.len c.args.self.now c.self.invariant.0 c.self.invariant.1 c.self.view_is c.requires.room

pub invariant_of-result : goal.invariant_of-result
invariant_of-result c =
    let room = room_left c.self.inside.steps c.self.inside.len c.args.self.now c.self.invariant.0 c.self.invariant.1 c.self.view_is c.requires.room in (
      rw length-set c.self.invariant.0,
      omega (arith, room),
      subst IsPath (sym (steps_more c.self.inside.steps c.self.inside.len c.args.step c.args.self.now (omega (arith, room)) c.self.view_is))
          (path_more c.args.self.now _ c.requires.room (subst IsPath c.self.view_is c.self.invariant.2) c.requires.step),
    )

pub returns : goal.returns
returns c =
    let room = room_left c.self.inside.steps c.self.inside.len c.args.self.now c.self.invariant.0 c.self.invariant.1 c.self.view_is c.requires.room in
    steps_more c.self.inside.steps c.self.inside.len c.args.step c.args.self.now (omega (arith, room)) c.self.view_is
