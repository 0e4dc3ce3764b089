use Rattle.std.proofs.Common.{◌<◌, length, arith}
use Rattle.mes_model_schema.proofs.AppendLemmas.{both_members}
use Rattle.mes_model_schema.proofs.RowListLemmas.{no_text, named_at}
use Rattle.mes_model_schema.proofs.row_ref_list.Tuple2RowRefList.write_rows_text.Goals as goal

pub returns-clause-members : goal.returns-clause-members
returns-clause-members g c =
    let inside : c.args.first < length c.args.names.now = omega (arith, c.requires) in
    both_members _ _ _ _ _ _ _ _ (rw (named_at c.args.names.now no_text c.args.first inside) c.in_ok-head.ensures.members) c.in_ok-rest.ensures.members
    c.deeper.ensures
