use Rattle.std.proofs.Common.{◌∙◌}
use Rattle.std.proofs.lemmas.Result.{err_from_is_err_and}
use Rattle.mes_model_schema.specs.KindLaws.{lawful_list}
use Rattle.mes_model_schema.specs.Lists.{list_of}
use Rattle.mes_msg_record.proofs.RecordLemmas.{begins, refused_by}
use Rattle.mesosev_session.proofs.fit_texts.list_of_bytes.Goals as goal

pub returns-in_err-read_items-clause-err : goal.returns-in_err-read_items-clause-err
returns-in_err-read_items-clause-err g c =
    let p = err_from_is_err_and c.from_residual-in_err-read_items.result c.from_residual-in_err-read_items.ensures.1 in
    let spelt = c.in_ok-tape.ensures.read in
    rw (p.1, p.2) (refused_by (list_of g.T.Part.kind) c.args.bytes.now _ spelt.0 _ c.new.ensures spelt.1 (c.in_err-read_items.ensures spelt.0 (begins _ spelt.0 (c.root.ensures ∙ spelt.2))))

pub returns-clause-ok : goal.returns-clause-ok
returns-clause-ok g c =
    let spelt = c.in_ok-tape.ensures.read in
    (spelt.0, spelt.1, (lawful_list g.met.T.Part.lawful).sound _ spelt.0 _ (c.in_ok-read_items.ensures spelt.0 (begins _ spelt.0 (c.root.ensures ∙ spelt.2))))
