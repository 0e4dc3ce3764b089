use Rattle.std.proofs.Common.{◌≡◌, List, sym, ◌∙◌, ap, lit<, subst, get_or, arith}
use Rattle.std.proofs.lemmas.List.{get_or_default}
use Rattle.mes_json.specs.Tree.{Tree}
use Rattle.mes_model_schema.specs.Rows.{many, message}
use Rattle.mes_model_schema.specs.Parts.{Gives}
use Rattle.mes_model_schema.specs.declared.found_rows.Found.{Found}
use Rattle.mes_model_schema.specs.declared.found_rows.Found.TheVariants.{Nothing}
use Rattle.mes_model_schema.specs.Leaves.{members_at}
use Rattle.mes_model_schema.proofs.RowLemmas.{found_as, refused_bound}
use Rattle.mes_model_schema.proofs.EitherLemmas.{gives_array, gives_object}
use Rattle.mes_model_schema.proofs.read_row.read_either_list.Goals as goal

pub returns-then-is_some : goal.returns-then-is_some
returns-then-is_some g c = λ t b.
    gives_array c.args.name.now g.T.Part.kind c.args.path.now t c.items.result _ (c.items.ensures t b) (sym c.is_some.ensures ∙ c.if-is_some.true)
    (c.read_items.ensures t b)

pub returns-in_err-find_rows : goal.returns-in_err-find_rows
returns-in_err-find_rows g c = λ t b.
    gives_object c.args.name.now g.T.Part.kind c.args.path.now t c.items.result _ (c.items.ensures t b) (sym c.is_some.ensures ∙ c.if-is_some.false)
    (refused_bound (members_at c.args.path.now t) _ _ c.from_residual.result c.from_residual.ensures.1 (c.in_err-find_rows.ensures.finds t b))

pub returns : goal.returns
returns g c = λ t b.
    let rows = c.in_ok-find_rows.ensures.finds t b in
    let fs = c.find_rows.new.found.items in
    let one = c.index-deref-0.result in
    let at : one ≡ get_or fs 0 one = c.index-deref-0.is ∙ ap (λ (xs : List Found). get_or xs 0 one) c.deref.ensures.0 in
    let there = get_or_default fs 0 Nothing one (omega (arith, c.find_rows.ensures.all, c.nothing_found-found.ensures.all)) in
    gives_object c.args.name.now g.T.Part.kind c.args.path.now t c.items.result _ (c.items.ensures t b) (sym c.is_some.ensures ∙ c.if-is_some.false)
    (subst (λ (x : Tree). Gives ((message (many c.args.name.now g.T.Part.kind)).read c.args.path.now x) c.repeated.result) (sym rows.1)
    (c.repeated.ensures rows.0 (found_as one _ _ (at ∙ sym there) (rows.2 0 (lit< tt)))))
