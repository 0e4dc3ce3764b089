use Rattle.std.proofs.Common.{◌+◌, refl, arith, take, ◌∙◌}
use Rattle.mes_json.specs.Machine.{run}
use Rattle.mes_json.specs.Reader.{state_view}
use Rattle.mes_json.specs.declared.limits.TheConstants.{MAX_NESTING}
use Rattle.mes_json.proofs.ReadLemmas.{stops_at}
use Rattle.mes_json.proofs.RunLemmas.{run_take}
use Rattle.mes_json.proofs.TakenLemmas.{reached_over}
use Rattle.mes_json.proofs.LexerLemmas.{unread_at}
use Rattle.mes_json.proofs.reader.Reader.take_bytes.Goals as goal

pub loop-place-init : goal.loop-place-init
unfolding run
loop-place-init c = record { fits = c.requires.fits; inside = omega arith; reached = refl }

pub step-requires-clause-reached : goal.step-requires-clause-reached
step-requires-clause-reached c = reached_over c.args.self.now c.loop-place.self (take c.loop-place.place c.args.bytes.now) c.requires.reached c.loop-place.invariant.reached

pub take_run-place-requires-clause-reached : goal.take_run-place-requires-clause-reached
take_run-place-requires-clause-reached c =
    reached_over c.args.self.now c.step.new.self (take (c.loop-place.place + 1) c.args.bytes.now) c.requires.reached
    (run_take MAX_NESTING _ _ c.args.bytes.now c.loop-place.place c.loop-place-test.true c.loop-place.invariant.reached ∙ c.in_default.ensures.gives)

pub loop-place-preserved : goal.loop-place-preserved
loop-place-preserved c = record {
  fits = c.take_run-place.ensures.fits;
  inside = c.take_run-place.ensures.inside;
  reached = c.take_run-place.ensures.runs (state_view c.args.self.now)
      (run_take MAX_NESTING _ _ c.args.bytes.now c.loop-place.place c.loop-place-test.true c.loop-place.invariant.reached ∙ c.in_default.ensures.gives);
}

pub returns-in-Err-clause-read : goal.returns-in-Err-clause-read
returns-in-Err-clause-read c no_memory =
    let read = unread_at c.in-Err.stop _ _ no_memory c.in-Err.ensures.gives in
    record {
      inside = c.loop-place-test.true;
      next = read.0;
      reached = run_take MAX_NESTING _ _ c.args.bytes.now c.loop-place.place c.loop-place-test.true c.loop-place.invariant.reached ∙ read.1;
    }

pub returns-in-Err-clause-fault : goal.returns-in-Err-clause-fault
returns-in-Err-clause-fault c =
    stops_at _ _ c.args.bytes.now c.loop-place.place c.in-Err.stop _ refl c.loop-place-test.true c.loop-place.invariant.reached c.in-Err.ensures.gives
