use Rattle.std.proofs.Common.{ℕ, ◌+◌, List, ◌++◌, take, ap, ◌∙◌}
use Rattle.std.proofs.Math.Seq.{take-append-add}
use Rattle.std.proofs.lemmas.List.{take-take}
use Rattle.mes_json.specs.Texts.{Texts}
use Rattle.mes_json.proofs.text_buffer.Texts.append_block.Goals as goal

pub returns-in-Ok : goal.returns-in-Ok
returns-in-Ok c =
    let old = c.self.inside.bytes.items in
    c.truncate.ensures.items
    ∙ ap (take (c.len.result + c.args.count)) c.in-Ok.ensures.items
    ∙ ap (λ (xs : List ℕ). take (c.len.result + c.args.count) (old ++ xs)) c.as_array.ensures
    ∙ ap (λ (m : ℕ). take (m + c.args.count) (old ++ take 16 c.args.bytes.now)) (c.len.ensures ∙ c.self.inside.bytes.ok.0)
    ∙ take-append-add old (take 16 c.args.bytes.now) c.args.count
    ∙ ap (λ (xs : List ℕ). old ++ xs) (take-take c.args.count 16 c.args.bytes.now c.requires.few)
    ∙ ap (λ (t : Texts). t.items ++ take c.args.count c.args.bytes.now) c.self.view_is
