use Rattle.std.proofs.Common.{refl}
use Rattle.mes_model_schema.specs.Choices.{type_name}
use Rattle.mes_model_schema.specs.Fields.{below}
use Rattle.mes_model_schema.specs.Leaves.{texts}
use Rattle.mes_model_schema.proofs.PartLemmas.{refuses_told}
use Rattle.mes_model_schema.proofs.RowLemmas.{looked_value, required_at}
use Rattle.mes_model_schema.proofs.read_row.type_of.Goals as goal

pub returns-in-Some : goal.returns-in-Some
unfolding texts
returns-in-Some c = λ ms found.
    let value = looked_value c.args.found.now c.args.path.now type_name ms c.unique_value.result c.in-Present.value c.unique_value.ensures c.in-Present.is found in
    rw (required_at texts c.args.path.now (below c.args.path.now type_name) type_name ms value.0 refl value.1, ← c.in-Some.ensures value.0 value.2) refl

pub returns-in-None : goal.returns-in-None
unfolding texts
returns-in-None c = λ ms found.
    let value = looked_value c.args.found.now c.args.path.now type_name ms c.unique_value.result c.in-Present.value c.unique_value.ensures c.in-Present.is found in
    refuses_told _ _ _ c.type_refusal.ensures (
    rw (
      required_at texts c.args.path.now (below c.args.path.now type_name) type_name ms value.0 refl value.1,
      ← c.in-None.ensures value.0 value.2,
    ) refl
    )
