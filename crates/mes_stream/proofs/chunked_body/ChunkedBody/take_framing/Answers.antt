use Rattle.std.proofs.Common.{ℕ, List, [], ◌∷◌, ap, ◌∙◌, arith}
use Rattle.mes_frame.specs.ChunkState.{remaining_of}
use Rattle.mes_frame.specs.RecordState.{limit_of}
use Rattle.mes_stream.specs.Decoding.{ChunkedRepresents}
use Rattle.mes_stream.specs.declared.record_body.Body.{Body}
use Rattle.mes_stream.specs.declared.stream_reader.Framing.TheVariants.{Chunked}
use Rattle.std.specs.Prelude.{slice_index}
use Rattle.mes_stream.proofs.ChunkLemmas.{first_before, says_first}
use Rattle.mes_stream.proofs.ReportsLemmas.{tells_as}
use Rattle.mes_stream.proofs.FramingLemmas.{framed_stands, framed_live, none_framed}
use Rattle.mes_stream.proofs.chunked_body.ChunkedBody.take_framing.Goals as goal

pub returns-then-framed-gt0-clause-reports : goal.returns-then-framed-gt0-clause-reports
returns-then-framed-gt0-clause-reports g c = λ ahead w values s.
    rw c.more.ensures (framed_stands g.R.RecordReader.holds g.R.RecordReader.spells ahead c.args.self.now c.frame_run-framed.new.chunks w c.args.rest.now values c.frame_run-framed.result
    c.frame_run-framed.ensures.passes s)

pub returns-then-framed-gt0-clause-before : goal.returns-then-framed-gt0-clause-before
returns-then-framed-gt0-clause-before g c = λ ahead w values s.
    rw c.more.ensures (framed_live g.R.RecordReader.holds g.R.RecordReader.spells ahead c.args.self.now c.frame_run-framed.new.chunks w c.args.rest.now values c.frame_run-framed.result
    c.frame_run-framed.ensures.passes s)

pub returns-clause-reports : goal.returns-clause-reports
returns-clause-reports g c = λ ahead w values s.
    let same = c.frame_run-framed.ensures.none (omega (arith, c.if-framed-gt0.false)) in
    let Represents : Body g.row.R.Denot → List ℕ → List g.row.R-Value.Denot → Type 0 = λ body. ChunkedRepresents g.R.RecordReader.holds g.R.RecordReader.spells ahead (record { chunks = c.frame.new.self.chunks; body = body }) in
    tells_as g.R.RecordReader.holds g.R.RecordReader.spells g.R.RecordReader.breaks ahead Chunked Represents c.frame.new.self.body (limit_of c.frame.new.self.body.records) w w (slice_index c.args.rest.now 0 ∷ []) c.args.rest.now values 1 1 c.frame.result
    (λ after answer h. says_first Chunked (Represents after) g.R.RecordReader.spells g.R.RecordReader.breaks ahead (limit_of c.frame.new.self.body.records) w c.args.rest.now values answer c.requires.some h)
    (c.frame.ensures.reports ahead w values (none_framed g.R.RecordReader.holds g.R.RecordReader.spells ahead c.args.self.now c.frame_run-framed.new.chunks w values same s)
    (ap remaining_of same ∙ c.requires.none))

pub returns-clause-before : goal.returns-clause-before
returns-clause-before g c = λ ahead w values s n first.
    let same = ap (λ (b : Body g.row.R.Denot). limit_of b.records) c.frame.ensures.body in
    rw same (first_before g.R.RecordReader.holds g.R.RecordReader.spells ahead c.args.self.now w c.args.rest.now values n s first)
