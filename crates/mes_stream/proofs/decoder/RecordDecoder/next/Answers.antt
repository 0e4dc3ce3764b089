use Rattle.std.proofs.Common.{List, ◌++◌, take, subst, ℕ}
use Rattle.mes_stream.specs.Chunked.{Live}
use Rattle.mes_stream.specs.Decoding.{Says}
use Rattle.mes_stream.specs.Decoders.{DecoderRepresents}
use Rattle.mes_stream.specs.StreamReaders.{StreamRepresents}
use Rattle.mes_stream.specs.declared.decoder.RecordDecoder.{RecordDecoder}
use Rattle.mes_stream.specs.declared.decoder.State.TheVariants as state
use Rattle.mes_stream.specs.declared.stream_reader.Framing.TheVariants.{Chunked}
use Rattle.mes_stream.specs.declared.fault.Fault.{Fault}
use Rattle.mes_stream.specs.declared.step.Decoded.{Decoded}
use Rattle.mes_stream.proofs.ChunkLemmas.{take_whole}
use Rattle.mes_stream.proofs.DecoderLemmas.{says_ended}
use Rattle.mes_stream.proofs.EntryLemmas.{none_said}
use Rattle.mes_stream.proofs.StreamLemmas.{goes_of}
use Rattle.mes_stream.proofs.decoder.RecordDecoder.next.Goals as goal

pub returns-in-Some-clause-says : goal.returns-in-Some-clause-says
returns-in-Some-clause-says g c = λ limit w values s.
    let t = rw c.in-Going.is at s in
    let new : RecordDecoder g.row.R.Denot = record { state = state.Ended c.in-Some.end } in
    rw c.unpacked-step.ensures (says_ended Chunked (StreamRepresents g.R.RecordReader.holds g.R.RecordReader.spells 0 c.next.new.self Chunked limit) (DecoderRepresents g.R.RecordReader.holds g.R.RecordReader.spells new limit) g.R.RecordReader.spells g.R.RecordReader.breaks 0 limit
    w c.args.piece.now values c.next.result.used c.in-Some.end c.next.result.out (rw c.unpacked-step.ensures at c.in-Some.ensures) (c.next.ensures.says 0 Chunked limit w values t))

pub returns-in-Some-clause-before : goal.returns-in-Some-clause-before
returns-in-Some-clause-before g c = λ limit w values s. rw c.unpacked-step.ensures (c.next.ensures.before 0 Chunked limit w values (rw c.in-Going.is at s))

pub returns-in_default-clause-says : goal.returns-in_default-clause-says
returns-in_default-clause-says g c = λ limit w values s. rw c.unpacked-step.ensures (c.next.ensures.says 0 Chunked limit w values (rw c.in-Going.is at s))

pub returns-in_default-clause-before : goal.returns-in_default-clause-before
returns-in_default-clause-before g c = λ limit w values s. rw c.unpacked-step.ensures (c.next.ensures.before 0 Chunked limit w values (rw c.in-Going.is at s))

pub returns-in_default-clause-live : goal.returns-in_default-clause-live
returns-in_default-clause-live g c = λ limit w values s told.
    let more = rw c.unpacked-step.ensures at told in
    let represents = subst (λ (o : Decoded g.row.R-Value.Denot Fault). Says (StreamRepresents g.R.RecordReader.holds g.R.RecordReader.spells 0 c.next.new.self Chunked limit) g.R.RecordReader.spells g.R.RecordReader.breaks limit
    w values c.args.piece.now c.next.result.used o) more (c.next.ensures.says 0 Chunked limit w values (rw c.in-Going.is at s)) in
    subst (λ (y : List ℕ). Live g.R.RecordReader.spells limit (w ++ y) values) (take_whole c.args.piece.now c.next.result.used (c.next.ensures.more more))
    (goes_of g.R.RecordReader.holds g.R.RecordReader.spells c.next.new.self Chunked limit (w ++ take c.next.result.used c.args.piece.now) values represents)

pub returns-in-Some-clause-entries : goal.returns-in-Some-clause-entries
returns-in-Some-clause-entries g c = λ limit w values s none n.
    rw c.unpacked-step.ensures (none_said g.R.RecordReader.spells g.R.RecordReader.breaks none Chunked (StreamRepresents g.R.RecordReader.holds g.R.RecordReader.spells 0 c.next.new.self Chunked limit) 0 limit w values c.args.piece.now c.next.result.used c.next.result.out n (c.next.ensures.says 0 Chunked limit w values (rw c.in-Going.is at s)))

pub returns-in_default-clause-entries : goal.returns-in_default-clause-entries
returns-in_default-clause-entries g c = λ limit w values s none n.
    rw c.unpacked-step.ensures (none_said g.R.RecordReader.spells g.R.RecordReader.breaks none Chunked (StreamRepresents g.R.RecordReader.holds g.R.RecordReader.spells 0 c.next.new.self Chunked limit) 0 limit w values c.args.piece.now c.next.result.used c.next.result.out n (c.next.ensures.says 0 Chunked limit w values (rw c.in-Going.is at s)))
