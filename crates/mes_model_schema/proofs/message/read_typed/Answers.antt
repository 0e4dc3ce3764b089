use Rattle.std.proofs.Common.{List, sym, ap, subst}
use Rattle.mes_model_schema.specs.FoundRows.{FindsAll}
use Rattle.mes_model_schema.specs.Leaves.{members_at}
use Rattle.mes_model_schema.specs.declared.found_rows.Found.{Found}
use Rattle.mes_model_schema.proofs.RowLemmas.{refused_bound}
use Rattle.mes_model_schema.proofs.RowListLemmas.{texts_of, each_found}
use Rattle.mes_model_schema.proofs.message.read_typed.Goals as goal

pub returns-in_err-find_rows : goal.returns-in_err-find_rows
returns-in_err-find_rows g c = λ t b. refused_bound (members_at c.args.path.now t) _ _ c.from_residual.result c.from_residual.ensures.1 (c.in_err-find_rows.ensures.finds t b)

pub returns : goal.returns
returns g c = λ t b.
    let rows = c.in_ok-find_rows.ensures.finds t b in
    let finds = subst (λ (fs : List Found). FindsAll (texts_of c.args.names.now) rows.0 fs) (sym c.as_slice.ensures.value) rows.2 in
    let each = each_found c.as_slice.result.now (texts_of c.args.names.now) rows.0 finds in
    rw (ap (members_at c.args.path.now) rows.1)
    (c.read_choice.ensures rows.0 (rw c.requires.fits at each))
