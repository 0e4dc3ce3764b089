use Rattle.mes_session_log_entry.proofs.LetteredLemmas.{first_whole}
use Rattle.mes_session_log_entry.proofs.first_reader.FirstReaderRecordReader.finish_into.Goals as goal
use Rattle.mes_session_log_entry.proofs.first_reader.FirstReaderRecordReader.finish_into.Goals.{in-Ok, in-Err}

pub returns-clause-memory : goal.returns-clause-memory
returns-clause-memory c = λ r h short not.
    elim c.match-push.branch [
      | in-Ok w ↦ rw w.result-is tt
      | in-Err w ↦ absurd (not (first_whole r c.in_ok-value.value (c.in_ok-value.ensures.ok r h short)))
    ]
