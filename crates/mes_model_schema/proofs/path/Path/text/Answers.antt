use Rattle.std.proofs.Common.{◌≡◌, ◌+◌, ◌≤◌, ◌∷◌, length, take, arith, sym}
use Rattle.std.proofs.lemmas.List.{append-nil, length-map, drop_all}
use Rattle.mes_model_schema.specs.Paths.{first_text}
use Rattle.mes_model_schema.specs.Steps.{place_of}
use Rattle.mes_model_schema.proofs.PathLemmas.{first_place, place_at, path_text_first, length-first_text, length-more, written_more}
use Rattle.mes_model_schema.proofs.path.Path.text.Goals as goal
use Rattle.mes_model_schema.proofs.path.Path.text.Goals.{in-Name, in-Index}

pub loop-step-init : goal.loop-step-init
loop-step-init c =
    let items : take c.self.inside.len c.self.inside.steps ≡ c.in-Some.first.now ∷ c.in-Some.rest.now = c.in-Some.ensures.cases.0 in
    let whole = path_text_first c.args.self.now (take c.self.inside.len c.self.inside.steps) c.in-Some.first.now c.in-Some.rest.now (sym c.self.view_is) items in
    let short = length-first_text (place_of c.in-Some.first.now) (first_place _ _ _ c.self.invariant.2.each items) in
    let text : c.match-first.text.bytes ≡ first_text (place_of c.in-Some.first.now) =
    elim c.match-first.branch [
      | in-Name w ↦ rw (w.text-is, w.in-Name.is, w.push_str-in-Name.ensures.bytes, c.clear.ensures)
      | in-Index w ↦ rw (w.text-is, w.in-Index.is, w.push_index.ensures, c.clear.ensures)
    ] in
    (rw text short, rw text (sym whole))

pub push_step-requires-clause-place : goal.push_step-requires-clause-place
push_step-requires-clause-place c =
    place_at (take c.self.inside.len c.self.inside.steps) c.in-Some.first.now c.in-Some.rest.now c.loop-step.step-index _ c.self.invariant.2.each
    (c.in-Some.ensures.cases.0) c.loop-step-test.true

pub push_step-requires-clause-room : goal.push_step-requires-clause-room
push_step-requires-clause-room c =
    omega (arith, c.self.invariant.2.few, length-map (take c.self.inside.len c.self.inside.steps) place_of, c.in-Some.ensures.cases.1)

pub loop-step-preserved : goal.loop-step-preserved
loop-step-preserved c =
    let items : take c.self.inside.len c.self.inside.steps ≡ c.in-Some.first.now ∷ c.in-Some.rest.now = c.in-Some.ensures.cases.0 in
    let longer : length c.push_step.new.text.bytes ≤ length c.loop-step.text.bytes + 32 =
    length-more _ _ _ c.push_step.ensures (place_at _ _ _ _ _ c.self.invariant.2.each items c.loop-step-test.true) in (
      omega (arith, c.loop-step.invariant.0, longer),
      rw c.push_step.ensures (written_more _ _ _ _ _ c.loop-step-test.true c.loop-step.invariant.1),
    )

pub returns : goal.returns
returns c = rw (drop_all c.loop-step.step-index c.in-Some.rest.now (omega arith), append-nil) at c.loop-step.invariant.1
