use Rattle.std.proofs.Common.{true≢false, sym}
use Rattle.mes_double_http.proofs.StreamIdLemmas.{no_id}
use Rattle.mes_double_http.proofs.stream_id.StreamId.of_bytes.Goals as goal

pub returns-in-Err-clause-variant : goal.returns-in-Err-clause-variant
returns-in-Err-clause-variant c = (λ e. absurd (true≢false (sym e)), λ is. absurd (no_id _ c.in-Err.ensures.cases.0 is))
