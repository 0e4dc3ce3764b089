use Rattle.std.proofs.Common.{rules, take, arith, length-take}
use Rattle.mes_double_http.specs.Stops.{IsRequestTaken}
use Rattle.mes_double_http.proofs.ReceivedLemmas.{broken-head, kept-by-head}
use Rattle.mes_double_http.proofs.request_reader.find_request.Goals as goal

pub returns-in-Err : goal.returns-in-Err
returns-in-Err c = broken-head c.in-Err.fault c.args.bytes.now c.in-Some.head.len c.in-Err.ensures.0 c.in-Err.ensures.1 c.in-Err.ensures.2

pub returns : goal.returns
returns c =
    let head = c.in-Some.head in
    let taken : IsRequestTaken (take head.len c.args.bytes.now) c.find_head.new.headers head = search rules in
    let found = c.in-Ok.ensures in (
      found.0,
      found.1,
      found.2,
      kept-by-head (take head.len c.args.bytes.now) c.find_head.new.headers head found.0 c.persistence_of-persistence.result taken found.1 c.persistence_of-persistence.ensures,
      omega (arith, taken.within.section.len_fits, length-take head.len c.args.bytes.now),
    )
