use Rattle.std.proofs.Common.{rules, take, arith, length-take}
use Rattle.mes_double_http.specs.Stops.{IsRequestTaken}
use Rattle.mes_double_http.proofs.PageLemmas.{no-page, refused-page}
use Rattle.mes_double_http.proofs.ReceivedLemmas.{kept-by-head}
use Rattle.mes_double_http.proofs.page_request.find_page.Goals as goal

pub returns-in-Ok-None : goal.returns-in-Ok-None
returns-in-Ok-None c =
    let other = rw c.in-Ok-None.field-0-is at c.in-Ok-None.ensures in
    no-page c.args.bytes.now c.in-Some.head.len other.0 other.1 other.2

pub returns-in-Err : goal.returns-in-Err
returns-in-Err c = refused-page c.in-Err.status c.args.bytes.now c.in-Some.head.len c.in-Err.ensures.0 c.in-Err.ensures.1 c.in-Err.ensures.2

pub returns : goal.returns
returns c =
    let head = c.in-Some.head in
    let taken : IsRequestTaken (take head.len c.args.bytes.now) c.whole_head.new.headers head = search rules in
    let found = rw c.in-Ok-Some.field-0-is at c.in-Ok-Some.ensures in (
      found.0,
      found.1,
      found.2,
      kept-by-head (take head.len c.args.bytes.now) c.whole_head.new.headers head found.0 c.persistence_of-persistence.result taken found.1 c.persistence_of-persistence.ensures,
      omega (arith, taken.within.section.len_fits, length-take head.len c.args.bytes.now),
    )
