use Rattle.std.proofs.Common.{List, sym, ap, subst, refl}
use Rattle.mes_model_schema.specs.FoundRows.{FindsAll}
use Rattle.mes_model_schema.specs.Leaves.{members_at}
use Rattle.mes_model_schema.specs.declared.found_rows.Found.{Found}
use Rattle.mes_model_schema.proofs.RowLemmas.{gives_bound, refused_bound}
use Rattle.mes_model_schema.proofs.RowListLemmas.{texts_of}
use Rattle.mes_model_schema.proofs.message.read_message.Goals as goal

pub returns-in_err-find_rows : goal.returns-in_err-find_rows
returns-in_err-find_rows g c = λ t b. refused_bound (members_at c.args.path.now t) _ _ c.from_residual.result c.from_residual.ensures.1 (c.in_err-find_rows.ensures.finds t b)

pub returns-in_err-values : goal.returns-in_err-values
returns-in_err-values g c = λ t b.
    let rows = c.in_ok-find_rows.ensures.finds t b in
    let finds = subst (λ (fs : List Found). FindsAll (texts_of c.args.names.now) rows.0 fs) (sym c.as_slice.ensures.value) rows.2 in
    rw (ap (members_at c.args.path.now) rows.1)
    (gives_bound _ _ _ c.from_residual-in_err-values.result c.from_residual-in_err-values.ensures.1 (c.in_err-values.ensures rows.0 finds))

pub returns : goal.returns
returns g c = λ t b.
    let rows = c.in_ok-find_rows.ensures.finds t b in
    let finds = subst (λ (fs : List Found). FindsAll (texts_of c.args.names.now) rows.0 fs) (sym c.as_slice.ensures.value) rows.2 in
    rw (ap (members_at c.args.path.now) rows.1, c.in_ok-values.ensures rows.0 finds, c.made_of.ensures) refl
