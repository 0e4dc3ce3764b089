use Rattle.std.proofs.Common.{ap, refl}
use Rattle.mes_model_schema.specs.Fields.{below}
use Rattle.mes_model_schema.specs.Leaves.{members_at}
use Rattle.mes_model_schema.proofs.FoundLemmas.{members_found, no_members_found}
use Rattle.mes_model_schema.proofs.PartLemmas.{refuses_told}
use Rattle.mes_model_schema.proofs.RowLemmas.{looked_value, flagged_at}
use Rattle.mes_model_schema.proofs.read_row.flagged.Goals as goal

pub returns-in-Some : goal.returns-in-Some
returns-in-Some c = λ ms found.
    let value = looked_value c.args.found.now c.args.path.now c.args.name.now ms c.unique_value.result c.in-Present.value c.unique_value.ensures c.in-Present.is found in
    let held = members_found c.in-Some.field-0 value.0 (c.in-Some.ensures value.0 value.2) in
    rw (flagged_at c.args.path.now (below c.args.path.now c.args.name.now) c.args.name.now ms value.0 refl value.1, ap (members_at (below c.args.path.now c.args.name.now)) held.0)

pub returns-in-None : goal.returns-in-None
returns-in-None c = λ ms found.
    let value = looked_value c.args.found.now c.args.path.now c.args.name.now ms c.unique_value.result c.in-Present.value c.unique_value.ensures c.in-Present.is found in
    refuses_told _ _ _ c.row_refusal.ensures (
    rw (
      flagged_at c.args.path.now (below c.args.path.now c.args.name.now) c.args.name.now ms value.0 refl value.1,
      no_members_found (below c.args.path.now c.args.name.now) value.0 (c.in-None.ensures value.0 value.2),
    ) refl
    )
