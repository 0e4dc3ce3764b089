use Rattle.std.proofs.Common.{◌-◌, ◌<◌, length, take, ap, arith, length-drop}
use Rattle.std.proofs.lemmas.List.{take_rest}
use Rattle.mesosev_c.proofs.InputLemmas.{counting_none, counting_more, counting_event, ends_amid, stops_amid, ends_all}
use Rattle.mesosev_c.proofs.whole.read_all.Goals as goal

pub loop-at-init : goal.loop-at-init
loop-at-init c = (omega arith, λ framing limit s. counting_none framing limit c.args.bytes.now c.args.stream.now s)

pub loop-at-preserved-in-More : goal.loop-at-preserved-in-More
loop-at-preserved-in-More c =
    let rest = take_rest c.args.bytes.now c.loop-at.at in (
      omega (arith, c.next-used.ensures.used, c.loop-at-test.true, ap length rest, length-drop c.loop-at.at c.args.bytes.now),
      λ framing limit s.
          let h = c.loop-at.invariant.1 framing limit s in
          let said = rw rest at (rw c.in-More.is at (c.next-used.ensures.says 0 framing limit (take c.loop-at.at c.args.bytes.now) h.events h.represents)) in
          counting_more framing limit c.args.bytes.now _ c.loop-at.at c.loop-at.events c.next-used.result.used h (omega (arith, c.next-used.ensures.used, ap length rest)) c.next-used.new.self said,
    )

pub loop-at-preserved : goal.loop-at-preserved
loop-at-preserved c =
    let rest = take_rest c.args.bytes.now c.loop-at.at in (
      omega (arith, c.next-used.ensures.used, c.loop-at-test.true, ap length rest, length-drop c.loop-at.at c.args.bytes.now),
      λ framing limit s.
          let h = c.loop-at.invariant.1 framing limit s in
          let said = rw rest at (rw c.in-Event.is at (c.next-used.ensures.says 0 framing limit (take c.loop-at.at c.args.bytes.now) h.events h.represents)) in
          counting_event framing limit c.args.bytes.now _ c.loop-at.at c.loop-at.events c.next-used.result.used h (omega (arith, c.next-used.ensures.used, ap length rest)) c.next-used.new.self
          c.in-Event.event c.saturating_add-events.result c.saturating_add-events.ensures said.0,
    )

pub returns-in-End : goal.returns-in-End
returns-in-End c = λ framing limit s.
    let rest = take_rest c.args.bytes.now c.loop-at.at in
    let h = c.loop-at.invariant.1 framing limit s in
    let said = rw rest at (rw c.in-End.is at (c.next-used.ensures.says 0 framing limit (take c.loop-at.at c.args.bytes.now) h.events h.represents)) in
    (h.events, h.counted, ends_amid framing limit c.args.bytes.now _ c.loop-at.at c.loop-at.events c.next-used.result.used h (omega (arith, c.next-used.ensures.used, ap length rest)) said)

pub returns-in-Fault : goal.returns-in-Fault
returns-in-Fault c = λ framing limit s.
    let rest = take_rest c.args.bytes.now c.loop-at.at in
    let h = c.loop-at.invariant.1 framing limit s in
    let said = rw rest at (rw c.in-Fault.is at (c.next-used.ensures.says 0 framing limit (take c.loop-at.at c.args.bytes.now) h.events h.represents)) in
    let some : 0 < c.next-used.result.used = (rw c.in-Fault.is at c.next-used.ensures.some) (λ more. absurd (cc)) in
    let live = rw rest at (c.next-used.ensures.before 0 framing limit (take c.loop-at.at c.args.bytes.now) h.events h.represents (c.next-used.result.used - 1) (omega (arith, some))) in
    (h.events, h.counted, rw c.into_fault-fault.ensures (stops_amid framing limit c.args.bytes.now _ c.loop-at.at c.loop-at.events c.next-used.result.used h (omega (arith, c.next-used.ensures.used, ap length rest)) c.in-Fault.fault some live said))

pub returns : goal.returns
returns c = λ framing limit s.
    let h = c.loop-at.invariant.1 framing limit s in
    (h.events, h.counted, ends_all framing limit c.args.bytes.now _ c.loop-at.at c.loop-at.events h _ c.loop-at-test.false (c.end_all-outcome.ensures framing limit (take c.loop-at.at c.args.bytes.now) h.events h.represents))
