use Rattle.std.proofs.Common.{◌∙◌}
use Rattle.std.proofs.lemmas.Result.{err_from_is_err_and}
use Rattle.mes_msg_record.proofs.RecordLemmas.{begins, read_only, read_same, refused_by}
use Rattle.mes_msg_record.proofs.record.read_bytes.Goals as goal

pub returns-in_err-tape-clause-only : goal.returns-in_err-tape-clause-only
returns-in_err-tape-clause-only g c = λ v spells.
    let p = err_from_is_err_and c.from_residual.result c.from_residual.ensures.1 in
    rw (p.1, p.2, c.in_err-tape.ensures.only spells.0 spells.1)

pub returns-in_err-read_from-clause-only : goal.returns-in_err-read_from-clause-only
returns-in_err-read_from-clause-only g c = λ v spells.
    let p = err_from_is_err_and c.from_residual-in_err-read_from.result c.from_residual-in_err-read_from.ensures.1 in
    let begin = begins _ spells.0 (c.root.ensures ∙ c.in_ok-tape.ensures.only spells.0 spells.1) in
    rw (p.1, p.2) (read_only g.T.Part.kind g.met.T.Part.lawful _ spells.0 v _ spells.2 (c.in_err-read_from.ensures spells.0 begin))

pub returns-in_err-read_from-clause-err : goal.returns-in_err-read_from-clause-err
returns-in_err-read_from-clause-err g c =
    let p = err_from_is_err_and c.from_residual-in_err-read_from.result c.from_residual-in_err-read_from.ensures.1 in
    let spelt = c.in_ok-tape.ensures.read in
    rw (p.1, p.2) (refused_by g.T.Part.kind c.args.bytes.now _ spelt.0 _ c.new.ensures spelt.1 (c.in_err-read_from.ensures spelt.0 (begins _ spelt.0 (c.root.ensures ∙ spelt.2))))

pub returns-clause-ok : goal.returns-clause-ok
returns-clause-ok g c =
    let spelt = c.in_ok-tape.ensures.read in
    (spelt.0, spelt.1, g.met.T.Part.lawful.sound _ spelt.0 _ (c.in_ok-read_from.ensures spelt.0 (begins _ spelt.0 (c.root.ensures ∙ spelt.2))))

pub returns-clause-only : goal.returns-clause-only
returns-clause-only g c = λ v spells.
    let begin = begins _ spells.0 (c.root.ensures ∙ c.in_ok-tape.ensures.only spells.0 spells.1) in
    read_same g.T.Part.kind g.met.T.Part.lawful _ spells.0 v _ spells.2 (c.in_ok-read_from.ensures spells.0 begin)
