use Rattle.std.proofs.Common.{◌≡◌, ℕ, ◌≤◌, List, length, take, arith, length-take-le}
use Rattle.mes_frame.specs.ChunkState.{remaining_of}
use Rattle.mes_frame.specs.RecordState.{limit_of}
use Rattle.mes_stream.specs.Decoding.{ChunkedRepresents}
use Rattle.mes_stream.specs.declared.record_body.Body.{Body}
use Rattle.mes_stream.specs.declared.stream_reader.Framing.TheVariants.{Chunked}
use Rattle.mes_stream.proofs.ChunkLemmas.{run_before, says_more, before_more}
use Rattle.mes_stream.proofs.ReportsLemmas.{tells_as, run_tells}
use Rattle.mes_stream.proofs.chunked_body.ChunkedBody.consume.Goals as goal
use Rattle.mes_stream.proofs.chunked_body.ChunkedBody.consume.Goals.{then-remaining-rest, else-remaining-rest}

pub returns-clause-reports : goal.returns-clause-reports
returns-clause-reports g c = λ ahead w values s.
    let fits : (c.if-remaining-rest.count ≤ remaining_of c.args.self.now.chunks) × (c.if-remaining-rest.count ≤ length c.args.rest.now) =
    elim c.if-remaining-rest.branch [
      | then-remaining-rest b ↦ (omega (arith, b.count-is, b.if-remaining-rest.true, c.remaining-remaining.ensures), omega (arith, b.count-is, b.if-remaining-rest.true, c.remaining-remaining.ensures))
      | else-remaining-rest b ↦ (omega (arith, b.count-is, b.if-remaining-rest.false, c.remaining-remaining.ensures), omega (arith, b.count-is))
    ] in
    let run : List ℕ = take c.if-remaining-rest.count c.args.rest.now in
    let len : length run ≡ c.if-remaining-rest.count = length-take-le c.if-remaining-rest.count c.args.rest.now fits.1 in
    let used : ℕ = c.consume-taken.result.used in
    let some = c.consume-taken.ensures.used.0 in
    let inside : used ≤ length run = c.consume-taken.ensures.used.1 in
    let within : used ≤ c.if-remaining-rest.count = omega (arith, inside, len) in
    let Represents : Body g.row.R.Denot → List ℕ → List g.row.R-Value.Denot → Type 0 = λ body. ChunkedRepresents g.R.RecordReader.holds g.R.RecordReader.spells ahead (record { chunks = c.pass.new.self; body = body }) in
    tells_as g.R.RecordReader.holds g.R.RecordReader.spells g.R.RecordReader.breaks ahead Chunked Represents c.consume-taken.new.self (limit_of c.consume-taken.new.self.records) w w run c.args.rest.now values used used c.consume-taken.result.out
    (λ after answer h. says_more Chunked (Represents after) g.R.RecordReader.spells g.R.RecordReader.breaks ahead (limit_of c.consume-taken.new.self.records) w c.args.rest.now values used c.if-remaining-rest.count answer some within h)
    (run_tells g.R.RecordReader.holds g.R.RecordReader.spells g.R.RecordReader.breaks ahead c.args.self.now c.pass.new.self c.consume-taken.new.self w run values used c.if-remaining-rest.count c.consume-taken.result.out s len fits.0 some within
    (c.pass.ensures.passes w s.content (take used run) (length-take-le used run inside) s.chunks) (c.consume-taken.ensures.reports ahead s.content values s.body))

pub returns-clause-before : goal.returns-clause-before
returns-clause-before g c = λ ahead w values s.
    let fits : (c.if-remaining-rest.count ≤ remaining_of c.args.self.now.chunks) × (c.if-remaining-rest.count ≤ length c.args.rest.now) =
    elim c.if-remaining-rest.branch [
      | then-remaining-rest b ↦ (omega (arith, b.count-is, b.if-remaining-rest.true, c.remaining-remaining.ensures), omega (arith, b.count-is, b.if-remaining-rest.true, c.remaining-remaining.ensures))
      | else-remaining-rest b ↦ (omega (arith, b.count-is, b.if-remaining-rest.false, c.remaining-remaining.ensures), omega (arith, b.count-is))
    ] in
    let run : List ℕ = take c.if-remaining-rest.count c.args.rest.now in
    let len : length run ≡ c.if-remaining-rest.count = length-take-le c.if-remaining-rest.count c.args.rest.now fits.1 in
    let used : ℕ = c.consume-taken.result.used in
    let some = c.consume-taken.ensures.used.0 in
    let inside : used ≤ length run = c.consume-taken.ensures.used.1 in
    let within : used ≤ c.if-remaining-rest.count = omega (arith, inside, len) in
    before_more Chunked (ChunkedRepresents g.R.RecordReader.holds g.R.RecordReader.spells ahead c.args.self.now) g.R.RecordReader.spells g.R.RecordReader.breaks ahead (limit_of c.consume-taken.new.self.records) w c.args.rest.now values used c.if-remaining-rest.count within
    (λ n early. run_before g.R.RecordReader.holds g.R.RecordReader.spells ahead c.args.self.now (limit_of c.consume-taken.new.self.records) w run values n c.if-remaining-rest.count s len fits.0 (omega (arith, early, within))
    (c.consume-taken.ensures.before ahead s.content values s.body n early))
