use Rattle.mes_json.specs.Canonical.{escaped_text}
use Rattle.mes_json.proofs.WriteLemmas.{ok_map, between}
use Rattle.mes_json.proofs.write_string.write_between_marks.Goals as goal

pub returns-clause-written : goal.returns-clause-written
returns-clause-written c =
    ok_map c.append-2.result (λ x h. between c.args.out.now.items (escaped_text c.args.bytes.now) 34 34 c.append.new.out.items c.write_escaped.new.out.items c.append-2.new.out.items
    c.in_ok-append.ensures.written c.in_ok-write_escaped.ensures.written h) c.append-2.ensures.written
