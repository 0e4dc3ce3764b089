use Rattle.std.proofs.Common.{◌≡◌, [], ◌∷◌, ◌+◌, ◌∙◌, refl, arith}
use Rattle.std.proofs.lemmas.List.{length-append}
use Rattle.mes_json.specs.Canonical.{escaped_text}
use Rattle.mes_json.proofs.TakenLemmas.{within_rest}
use Rattle.mes_json.proofs.LengthLemmas.{escaped_grows, kept_grows, kept_front, front_within}
use Rattle.mes_json.proofs.canonical_length.capacity_after_quoted.Goals as goal

pub returns-in_err-free-2-clause-none : goal.returns-in_err-free-2-clause-none
returns-in_err-free-2-clause-none c =
    let text = c.args.text.now in
    let b = c.as_bytes-bytes.result.now in
    let same : b ≡ text = c.as_bytes-bytes.ensures.value ∙ c.as_str.ensures in
    rw c.from_residual-in_err-free-2.ensures (omega (
      arith,
      length-append (escaped_text text) (34 ∷ []),
      front_within text b c.kept_run-place.result same,
      kept_front b c.kept_run-place.result c.kept_run-place.ensures.inside c.kept_run-place.ensures.kept,
      c.in_ok-free.ensures,
      c.in_err-free-2.ensures,
    ))

pub loop-place-init : goal.loop-place-init
loop-place-init c = (
  c.kept_run-place.ensures.inside,
  omega (
    arith,
    kept_front c.as_bytes-bytes.result.now c.kept_run-place.result c.kept_run-place.ensures.inside c.kept_run-place.ensures.kept,
    c.in_ok-free.ensures,
    c.in_ok-free-2.ensures,
  ),
)

pub returns-in_err-free-3-clause-none : goal.returns-in_err-free-3-clause-none
returns-in_err-free-3-clause-none c =
    let text = c.args.text.now in
    let b = c.as_bytes-bytes.result.now in
    let place = c.loop-place.place in
    let same : b ≡ text = c.as_bytes-bytes.ensures.value ∙ c.as_str.ensures in
    rw c.from_residual-in_err-free-3.ensures (omega (
      arith,
      length-append (escaped_text text) (34 ∷ []),
      front_within text b (place + 1) same,
      escaped_grows b b place refl c.loop-place-test.true,
      c.loop-place.invariant.1,
      c.in_err-free-3.ensures,
      c.escaped_length.ensures,
    ))

pub returns-in_err-free-4-clause-none : goal.returns-in_err-free-4-clause-none
returns-in_err-free-4-clause-none c =
    let text = c.args.text.now in
    let b = c.as_bytes-bytes.result.now in
    let place = c.loop-place.place in
    let run = c.kept_run-run.result in
    let same : b ≡ text = c.as_bytes-bytes.ensures.value ∙ c.as_str.ensures in
    rw c.from_residual-in_err-free-4.ensures (omega (
      arith,
      length-append (escaped_text text) (34 ∷ []),
      front_within text b (place + 1 + run) same,
      escaped_grows b b place refl c.loop-place-test.true,
      kept_grows b b (place + 1) run refl (omega (arith, c.loop-place-test.true)) c.kept_run-run.ensures.inside c.kept_run-run.ensures.kept,
      c.loop-place.invariant.1,
      c.in_ok-free-3.ensures,
      c.in_err-free-4.ensures,
      c.escaped_length.ensures,
    ))

pub loop-place-preserved : goal.loop-place-preserved
loop-place-preserved c =
    let b = c.as_bytes-bytes.result.now in
    let place = c.loop-place.place in
    let run = c.kept_run-run.result in (
      within_rest b (place + 1) run (omega (arith, c.loop-place-test.true)) c.kept_run-run.ensures.inside,
      omega (
        arith,
        escaped_grows b b place refl c.loop-place-test.true,
        kept_grows b b (place + 1) run refl (omega (arith, c.loop-place-test.true)) c.kept_run-run.ensures.inside c.kept_run-run.ensures.kept,
        c.loop-place.invariant.1,
        c.in_ok-free-3.ensures,
        c.in_ok-free-4.ensures,
        c.escaped_length.ensures,
      ),
    )
