use Rattle.std.proofs.Common.{refl}
use Rattle.std.specs.Prelude.{codes}
use Rattle.mes_model_schema.specs.Leaves.{left_out}
use Rattle.mes_model_schema.specs.Rows.{optional, required}
use Rattle.mes_model_schema.proofs.PartLemmas.{gives_refused}
use Rattle.mes_model_resource.specs.Ids.{id}
use Rattle.mes_model_schema.proofs.ChoiceLemmas.{gives_told_on, told_behind}
use Rattle.mes_msg_call.proofs.call.read_bare.Goals as goal

pub returns-in_err-framework_id-clause-err : goal.returns-in_err-framework_id-clause-err
returns-in_err-framework_id-clause-err c = λ ms framework_found body_found.
    gives_told_on (required (codes "framework_id") id c.args.path.now ms) _ _ c.from_residual.result c.from_residual.ensures.1
    (c.in_err-framework_id.ensures ms framework_found)

pub returns-in_err-left_out-clause-err : goal.returns-in_err-left_out-clause-err
returns-in_err-left_out-clause-err c = λ ms framework_found body_found.
    told_behind (required (codes "framework_id") id c.args.path.now ms) _ _ c.from_residual-in_err-left_out.result (c.in_ok-framework_id.ensures ms framework_found)
    (gives_told_on (optional c.args.name.now left_out c.args.path.now ms) _ _ c.from_residual-in_err-left_out.result c.from_residual-in_err-left_out.ensures.1
    (gives_refused _ _ (c.in_err-left_out.ensures ms body_found)))

pub returns-clause-ok : goal.returns-clause-ok
returns-clause-ok c = λ ms framework_found body_found. rw (c.in_ok-framework_id.ensures ms framework_found, c.in_ok-left_out.ensures ms body_found) refl
