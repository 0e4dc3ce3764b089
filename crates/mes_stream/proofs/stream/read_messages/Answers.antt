use Rattle.mes_msg.specs.Texts.{IsTextOf}
use Rattle.mes_stream.specs.RecordValues.{IsRefused}
use Rattle.mes_stream.specs.Refusals.{IsMessageRefusal}
use Rattle.mes_stream.proofs.EntryLemmas.{none_read}
use Rattle.mes_stream.proofs.MessageLemmas.{refused_of}
use Rattle.mes_stream.proofs.Wider.{reading_wider}
use Rattle.mes_stream.proofs.stream.read_messages.Goals as goal

pub returns-clause-reads : goal.returns-clause-reads
returns-clause-reads g c =
    let h = c.read_records.ensures in
    (h.0, h.1, h.2, h.3, reading_wider (IsTextOf g.M.Part.kind) (IsRefused (IsTextOf g.M.Part.kind) (IsMessageRefusal g.M.Part.kind)) (IsMessageRefusal g.M.Part.kind) (refused_of g.M.Part.kind) c.args.framing c.args.limit c.args.max_reads _ _ _ h.0 h.1 c.read_records.result h.4)

pub returns-clause-entries : goal.returns-clause-entries
returns-clause-entries g c =
    let h = c.read_records.ensures in
    none_read (IsTextOf g.M.Part.kind) (IsMessageRefusal g.M.Part.kind) (λ r bad. bad) c.args.framing c.args.limit c.args.max_reads _ _ _ h.0 h.1 c.read_records.result
    (reading_wider (IsTextOf g.M.Part.kind) (IsRefused (IsTextOf g.M.Part.kind) (IsMessageRefusal g.M.Part.kind)) (IsMessageRefusal g.M.Part.kind) (refused_of g.M.Part.kind) c.args.framing c.args.limit c.args.max_reads _ _ _ h.0 h.1 c.read_records.result h.4)
