use Rattle.std.proofs.Common.{◌∙◌, ap, [], ◌∷◌, ◌++◌, ℕ}
use Rattle.mes_model_schema.specs.Paths.Place.{index}
use Rattle.mes_model_schema.specs.Lists.{list_of}
use Rattle.mes_model_schema.proofs.PartLemmas.{gives_told}
use Rattle.mes_model_schema.proofs.ReadListLemmas.{no_list, reads_first, reads_next, reads_fault, reads_last}
use Rattle.mes_model_schema.proofs.read_row.read_items.Goals as goal

pub returns-in_default : goal.returns-in_default
returns-in_default g c = λ t b. gives_told _ _ _ c.refusal_at.ensures (no_list g.T.Part.kind c.args.path.now t (c.in_default.ensures t b))

pub loop-item-init : goal.loop-item-init
loop-item-init g c = λ t b. reads_first g.T.Part.kind c.args.path.now t c.in_ok-values.values.items c.in-Some.items (c.in-Some.ensures t b) c.in_ok-values.ensures.items

pub returns-in_err-value : goal.returns-in_err-value
returns-in_err-value g c = λ t b.
    reads_fault g.T.Part.kind c.args.path.now ((list_of g.T.Part.kind).read c.args.path.now t) c.with.result c.loop-item.values.items c.in-Some-next.item
    c.loop-item.items c.next.new.self _ c.from_residual-in_err-value.result (c.loop-item.invariant t b) (c.with.ensures ∙ ap (λ (i : ℕ). c.args.path.now ++ index i ∷ []) (c.len.ensures ∙ c.loop-item.values.ok.0))
    c.in-Some-next.ensures.item c.in_err-value.ensures c.from_residual-in_err-value.ensures.1

pub loop-item-preserved : goal.loop-item-preserved
loop-item-preserved g c = λ t b.
    reads_next g.T.Part.kind c.args.path.now ((list_of g.T.Part.kind).read c.args.path.now t) c.with.result c.loop-item.values.items c.push.new.self.items
    c.in_ok-value.value c.in-Some-next.item c.loop-item.items c.next.new.self (c.loop-item.invariant t b) (c.with.ensures ∙ ap (λ (i : ℕ). c.args.path.now ++ index i ∷ []) (c.len.ensures ∙ c.loop-item.values.ok.0))
    c.in-Some-next.ensures.item c.in_ok-value.ensures c.in_ok-push.ensures.items

pub returns : goal.returns
returns g c = λ t b.
    rw c.new.ensures (reads_last g.T.Part.kind c.args.path.now ((list_of g.T.Part.kind).read c.args.path.now t) c.loop-item.values.items c.loop-item.items
    c.next.new.self (c.loop-item.invariant t b) c.in_default-next.ensures.item)
