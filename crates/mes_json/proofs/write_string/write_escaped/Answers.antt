use Rattle.std.proofs.Common.{◌+◌, ◌-◌, List, ℕ, ◌++◌, ap, refl, sym, ◌∙◌, arith}
use Rattle.mes_json.proofs.TakenLemmas.{within_rest}
use Rattle.mes_json.proofs.RunOfBytesLemmas.{kept_text, written_more, stops_behind}
use Rattle.mes_json.proofs.WriteLemmas.{extends_then}
use Rattle.mes_json.proofs.write_string.write_escaped.Goals as goal

pub loop-place-init : goal.loop-place-init
loop-place-init c = (
  c.kept_run-place.ensures.inside,
  c.in_ok-append.ensures.written ∙ ap (λ (x : List ℕ). c.args.out.now.items ++ x) (sym (kept_text _ c.kept_run-place.ensures.kept)),
  c.in_ok-append.ensures.front,
  c.kept_run-place.ensures.maximal,
)

pub loop-place-preserved : goal.loop-place-preserved
loop-place-preserved c =
    let b = c.args.bytes.now in
    let place = c.loop-place.place in
    let run = c.kept_run-run.result in (
      within_rest b (place + 1) run (omega (arith, c.loop-place-test.true)) c.kept_run-run.ensures.inside,
      written_more b place (place + 1) run (place + 1 + run - (place + 1)) _ _ _ _ refl (omega arith) c.loop-place-test.true c.kept_run-run.ensures.kept
          c.loop-place.invariant.1 c.in_ok-write_escape.ensures.written c.in_ok-append-2.ensures.written,
      extends_then _ _ _ (extends_then _ _ _ c.loop-place.invariant.2 c.in_ok-write_escape.ensures.front) c.in_ok-append-2.ensures.front,
      stops_behind b (place + 1) run (omega (arith, c.loop-place-test.true)) c.kept_run-run.ensures.maximal,
    )
