use Rattle.std.proofs.Common.{ℕ, ◌+◌, List, ◌++◌, length, take, drop, ap, arith, length-drop}
use Rattle.std.proofs.lemmas.List.{take_rest}
use Rattle.mes_stream.specs.StreamReaders.{StreamRepresents, with_body, body_of}
use Rattle.mes_stream.specs.declared.record_body.Body.{Body}
use Rattle.mes_stream.specs.declared.step.Decoded.TheVariants as out
use Rattle.mes_stream.proofs.ChunkLemmas.{says_on, before_on}
use Rattle.mes_stream.proofs.StreamLemmas.{same_body}
use Rattle.mes_stream.proofs.ReportsLemmas.{tells_as}
use Rattle.mes_stream.proofs.stream_reader.StreamReader.advance.Goals as goal

pub returns-in-Event-clause-reports : goal.returns-in-Event-clause-reports
returns-in-Event-clause-reports g c = λ ahead framing limit w values s.
    let rest = take_rest c.args.piece.now c.loop-at.at in
    let before = c.loop-at.invariant.1 ahead framing limit w values s in
    let Represents : Body g.row.R.Denot → List ℕ → List g.row.R-Value.Denot → Type 0 = λ body. StreamRepresents g.R.RecordReader.holds g.R.RecordReader.spells ahead (with_body c.consume-taken.new.self body) framing limit in
    (tells_as g.R.RecordReader.holds g.R.RecordReader.spells g.R.RecordReader.breaks ahead framing Represents (body_of c.consume-taken.new.self) limit (w ++ take c.loop-at.at c.args.piece.now) w (drop c.loop-at.at c.args.piece.now) c.args.piece.now
    values c.consume-taken.result.used (c.loop-at.at + c.consume-taken.result.used) (out.Event tt)
    (λ after answer h. says_on framing (Represents after) g.R.RecordReader.spells g.R.RecordReader.breaks ahead limit w c.args.piece.now values c.loop-at.at c.consume-taken.result.used answer c.consume-taken.ensures.used.0 h)
    (rw c.in-Event.is at (rw rest at (c.consume-taken.ensures.reports ahead framing limit (w ++ take c.loop-at.at c.args.piece.now) values before.0))))

pub returns-in-Event-clause-before : goal.returns-in-Event-clause-before
returns-in-Event-clause-before g c = λ ahead framing limit w values s.
    let rest = take_rest c.args.piece.now c.loop-at.at in
    let before = c.loop-at.invariant.1 ahead framing limit w values s in
    (before_on framing (StreamRepresents g.R.RecordReader.holds g.R.RecordReader.spells ahead c.consume-taken.new.self framing limit) g.R.RecordReader.spells g.R.RecordReader.breaks ahead limit w c.args.piece.now values c.loop-at.at c.consume-taken.result.used before.1
    (rw rest at (c.consume-taken.ensures.before ahead framing limit (w ++ take c.loop-at.at c.args.piece.now) values before.0)))

pub returns-in-End-clause-reports : goal.returns-in-End-clause-reports
returns-in-End-clause-reports g c = λ ahead framing limit w values s.
    let rest = take_rest c.args.piece.now c.loop-at.at in
    let before = c.loop-at.invariant.1 ahead framing limit w values s in
    let Represents : Body g.row.R.Denot → List ℕ → List g.row.R-Value.Denot → Type 0 = λ body. StreamRepresents g.R.RecordReader.holds g.R.RecordReader.spells ahead (with_body c.consume-taken.new.self body) framing limit in
    rw c.stop.ensures.told (tells_as g.R.RecordReader.holds g.R.RecordReader.spells g.R.RecordReader.breaks ahead framing Represents (body_of c.consume-taken.new.self) limit (w ++ take c.loop-at.at c.args.piece.now) w (drop c.loop-at.at c.args.piece.now) c.args.piece.now
    values c.consume-taken.result.used (c.loop-at.at + c.consume-taken.result.used) out.End
    (λ after answer h. says_on framing (Represents after) g.R.RecordReader.spells g.R.RecordReader.breaks ahead limit w c.args.piece.now values c.loop-at.at c.consume-taken.result.used answer c.consume-taken.ensures.used.0 h)
    (rw c.in-End.is at (rw rest at (c.consume-taken.ensures.reports ahead framing limit (w ++ take c.loop-at.at c.args.piece.now) values before.0))))

pub returns-in-End-clause-before : goal.returns-in-End-clause-before
returns-in-End-clause-before g c = λ ahead framing limit w values s.
    let rest = take_rest c.args.piece.now c.loop-at.at in
    let before = c.loop-at.invariant.1 ahead framing limit w values s in
    rw c.stop.ensures.told (before_on framing (StreamRepresents g.R.RecordReader.holds g.R.RecordReader.spells ahead c.consume-taken.new.self framing limit) g.R.RecordReader.spells g.R.RecordReader.breaks ahead limit w c.args.piece.now values c.loop-at.at c.consume-taken.result.used before.1
    (rw rest at (c.consume-taken.ensures.before ahead framing limit (w ++ take c.loop-at.at c.args.piece.now) values before.0)))

pub returns-in-Fault-clause-reports : goal.returns-in-Fault-clause-reports
returns-in-Fault-clause-reports g c = λ ahead framing limit w values s.
    let rest = take_rest c.args.piece.now c.loop-at.at in
    let before = c.loop-at.invariant.1 ahead framing limit w values s in
    let Represents : Body g.row.R.Denot → List ℕ → List g.row.R-Value.Denot → Type 0 = λ body. StreamRepresents g.R.RecordReader.holds g.R.RecordReader.spells ahead (with_body c.consume-taken.new.self body) framing limit in
    rw (c.stop-in-Fault.ensures.told, c.in-Fault.fault-is) (tells_as g.R.RecordReader.holds g.R.RecordReader.spells g.R.RecordReader.breaks ahead framing Represents (body_of c.consume-taken.new.self) limit (w ++ take c.loop-at.at c.args.piece.now) w (drop c.loop-at.at c.args.piece.now) c.args.piece.now
    values c.consume-taken.result.used (c.loop-at.at + c.consume-taken.result.used) (out.Fault c.in-Fault.fault)
    (λ after answer h. says_on framing (Represents after) g.R.RecordReader.spells g.R.RecordReader.breaks ahead limit w c.args.piece.now values c.loop-at.at c.consume-taken.result.used answer c.consume-taken.ensures.used.0 h)
    (rw c.in-Fault.is at (rw rest at (c.consume-taken.ensures.reports ahead framing limit (w ++ take c.loop-at.at c.args.piece.now) values before.0))))

pub returns-in-Fault-clause-before : goal.returns-in-Fault-clause-before
returns-in-Fault-clause-before g c = λ ahead framing limit w values s.
    let rest = take_rest c.args.piece.now c.loop-at.at in
    let before = c.loop-at.invariant.1 ahead framing limit w values s in
    rw c.stop-in-Fault.ensures.told (before_on framing (StreamRepresents g.R.RecordReader.holds g.R.RecordReader.spells ahead c.consume-taken.new.self framing limit) g.R.RecordReader.spells g.R.RecordReader.breaks ahead limit w c.args.piece.now values c.loop-at.at c.consume-taken.result.used before.1
    (rw rest at (c.consume-taken.ensures.before ahead framing limit (w ++ take c.loop-at.at c.args.piece.now) values before.0)))

pub loop-at-preserved : goal.loop-at-preserved
loop-at-preserved g c =
    let rest = take_rest c.args.piece.now c.loop-at.at in (
      omega (arith, c.consume-taken.ensures.used.1, c.loop-at-test.true, ap length rest, length-drop c.loop-at.at c.args.piece.now),
      λ ahead framing limit w values s.
          let before = c.loop-at.invariant.1 ahead framing limit w values s in
          let reported = rw rest at (c.consume-taken.ensures.reports ahead framing limit (w ++ take c.loop-at.at c.args.piece.now) values before.0) in (
            says_on framing (StreamRepresents g.R.RecordReader.holds g.R.RecordReader.spells ahead c.consume-taken.new.self framing limit) g.R.RecordReader.spells g.R.RecordReader.breaks ahead limit w c.args.piece.now values c.loop-at.at c.consume-taken.result.used out.More c.consume-taken.ensures.used.0
                (rw (same_body c.consume-taken.new.self) at (rw c.in-More.is at reported)),
            before_on framing (StreamRepresents g.R.RecordReader.holds g.R.RecordReader.spells ahead c.consume-taken.new.self framing limit) g.R.RecordReader.spells g.R.RecordReader.breaks ahead limit w c.args.piece.now values c.loop-at.at c.consume-taken.result.used before.1
                (rw rest at (c.consume-taken.ensures.before ahead framing limit (w ++ take c.loop-at.at c.args.piece.now) values before.0)),
          ),
    )

pub returns-clause-reports : goal.returns-clause-reports
returns-clause-reports g c = λ ahead framing limit w values s. rw (c.more.ensures, same_body c.loop-at.self) (c.loop-at.invariant.1 ahead framing limit w values s).0

pub returns-clause-before : goal.returns-clause-before
returns-clause-before g c = λ ahead framing limit w values s. rw c.more.ensures (c.loop-at.invariant.1 ahead framing limit w values s).1
