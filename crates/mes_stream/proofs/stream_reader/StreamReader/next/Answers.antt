use Rattle.mes_stream.proofs.StreamLemmas.{same_body}
use Rattle.mes_stream.proofs.stream_reader.StreamReader.next.Goals as goal
use Rattle.mes_stream.proofs.stream_reader.StreamReader.next.Goals.{in-More, in-Event+in-Ok, in-Event+in-Err, in-End, in-Fault}

pub returns-clause-says : goal.returns-clause-says
returns-clause-says g c = λ ahead framing limit w values s.
    let reported = c.advance-used.ensures.reports ahead framing limit w values s in
    elim c.match-out.branch [
      | in-More b ↦ rw (b.self-is, b.out-is) (rw (same_body c.advance-used.new.self) at (rw b.in-More.is at reported))
      | in-Event+in-Ok b ↦
          let ended = rw b.in-Event.is at reported in
          let said = ended.3 _ b.end_record.result b.end_record.ensures.records (b.end_record.ensures.ends ended.0 ended.1 ended.2) in
          rw (b.self-is, b.out-is) (rw (← b.end_record.ensures.same) at (rw b.in-Ok.is at said))
      | in-Event+in-Err b ↦
          let ended = rw b.in-Event.is at reported in
          let said = ended.3 _ b.end_record.result b.end_record.ensures.records (b.end_record.ensures.ends ended.0 ended.1 ended.2) in
          rw (b.self-is, b.out-is, b.refuse.ensures.fault) (rw b.in-Err.is at said)
      | in-End b ↦ rw (b.self-is, b.out-is) (rw b.in-End.is at reported)
      | in-Fault b ↦ rw (b.self-is, b.out-is) (rw b.in-Fault.is at reported)
    ]
