use Rattle.std.proofs.Common.{refl}
use Rattle.std.specs.Prelude.{codes}
use Rattle.mes_model_schema.specs.Rows.{required}
use Rattle.mes_model_schema.proofs.RowLemmas.{gives_bound}
use Rattle.mes_model_resource.specs.Ids.{id}
use Rattle.mes_msg_call.proofs.call.read_call.Goals as goal

pub returns-in_err-framework_id : goal.returns-in_err-framework_id
returns-in_err-framework_id g c = λ ms framework_found body_found.
    gives_bound (required (codes "framework_id") id c.args.path.now ms) _ _ c.from_residual.result c.from_residual.ensures.1
    (c.in_err-framework_id.ensures ms framework_found)

pub returns-in_err-body : goal.returns-in_err-body
returns-in_err-body g c = λ ms framework_found body_found.
    rw (c.in_ok-framework_id.ensures ms framework_found)
    (gives_bound (required c.args.name.now g.T.Part.kind c.args.path.now ms) _ _ c.from_residual-in_err-body.result c.from_residual-in_err-body.ensures.1
    (c.in_err-body.ensures ms body_found))

pub returns : goal.returns
returns g c = λ ms framework_found body_found.
    rw (c.in_ok-framework_id.ensures ms framework_found, c.in_ok-body.ensures ms body_found) refl
