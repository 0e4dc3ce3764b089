use Rattle.std.proofs.Common.{◌≡◌, ℕ, List, ◌∷◌, ◌++◌, subst}
use Rattle.std.specs.Prelude.{IfOk, codes}
use Rattle.mes_msg.specs.ShowLines.{id_text, uuid_text}
use Rattle.mesosev_stream.proofs.WordLemmas.{three_words}
use Rattle.mesosev_stream.proofs.call_line.put_acknowledge.Goals as goal

pub returns : goal.returns
returns c =
    let uuid = c.args.body.now.uuid in
    three_words c.put_uuid.result c.args.line.now.items c.put_word.new.line.items c.put_id.new.line.items c.put_uuid.new.line.items (codes "ACKNOWLEDGE") (id_text c.args.body.now.task_id) (uuid_text uuid)
    c.in_ok-put_word.ensures c.in_ok-put_id.ensures
    (subst (λ (bytes : List ℕ). IfOk c.put_uuid.result (λ done. c.put_uuid.new.line.items ≡ c.put_id.new.line.items ++ 32 ∷ uuid_text bytes)) c.as_slice.ensures c.put_uuid.ensures)
