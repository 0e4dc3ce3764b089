use Rattle.std.proofs.Common.{◌≡◌, map, drop}
use Rattle.httparse.specs.Spans.{header_bytes}
use Rattle.mes_double_http.specs.Connections.{has_option}
use Rattle.mes_double_http.proofs.persistence.has_option.Given as goal

abbrev pub invariant-loop-header : goal.invariant-loop-header
invariant-loop-header l =
    has_option l.option (map (header_bytes l.bytes) l.headers) ≡ has_option l.option (map (header_bytes l.bytes) (drop l.header-index l.headers))
