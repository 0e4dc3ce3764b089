use Rattle.std.proofs.Common.{arith, sym, get_or, ◌∙◌}
use Rattle.mes_fixed.specs.Gathering.{gathered}
use Rattle.mes_fixed.proofs.Grammar.{stuck_run, more_run, end_run, no_end_run}
use Rattle.mes_fixed.proofs.Gathers.{step_before_point, gathered_before_point}
use Rattle.mes_fixed.proofs.decimal.Decimal.read.Goals as goal

pub loop-byte-preserved : goal.loop-byte-preserved
loop-byte-preserved c =
    let kept = c.loop-byte.invariant.1 in
    let text = c.args.text.now in
    let i = c.loop-byte.byte-index in
    let next = sym c.in-Some.ensures.next in
    let before = step_before_point c.loop-byte.state c.in-Some.next (get_or text i 0) kept.0 next kept.3 in (
      omega (arith, c.gather.ensures.room),
      (
        gathered c.in-Some.next (get_or text i 0) kept.0,
        more_run text i c.loop-byte.state c.in-Some.next kept.0 kept.1 (omega arith) next,
        c.gather.ensures.gathers kept.0 kept.2 before,
        gathered_before_point c.in-Some.next (get_or text i 0) kept.0 before,
      ),
    )

pub returns-in_default-clause-err : goal.returns-in_default-clause-err
returns-in_default-clause-err c =
    let kept = c.loop-byte.invariant.1 in
    (omega arith, stuck_run c.args.text.now c.loop-byte.byte-index c.loop-byte.state kept.0 kept.1 (omega arith) (sym c.in_default.ensures.next))

pub returns-then-may_end-clause-ok : goal.returns-then-may_end-clause-ok
returns-then-may_end-clause-ok c =
    let kept = c.loop-byte.invariant.1 in
    record {
      short = omega arith;
      numeral = kept.0;
      spells = end_run c.args.text.now c.loop-byte.byte-index c.loop-byte.state kept.0 kept.1 (omega arith) (sym c.may_end.ensures ∙ c.if-may_end.true);
      gives = kept.2;
    }

pub returns-else-may_end-clause-err : goal.returns-else-may_end-clause-err
returns-else-may_end-clause-err c =
    let kept = c.loop-byte.invariant.1 in
    (omega arith, no_end_run c.args.text.now c.loop-byte.byte-index c.loop-byte.state kept.0 kept.1 (omega arith) (sym c.may_end.ensures ∙ c.if-may_end.false))
