use Rattle.std.proofs.Common.{◌≡◌, ℕ, take, drop, subst, arith}
use Rattle.std.specs.List.{AllByRecursion}
use Rattle.mes_json.specs.Reader.{IsPlain}
use Rattle.mes_json.proofs.FrontLemmas.{all_further}
use Rattle.mes_json.proofs.plain_scan.plain_run.Goals as goal

pub returns-then-front-lt-BLOCK-clause-plain : goal.returns-then-front-lt-BLOCK-clause-plain
returns-then-front-lt-BLOCK-clause-plain c =
    all_further IsPlain c.args.bytes.now c.loop-place.place c.first_in_block-front.result c.loop-place.invariant.plain c.first_in_block-front.ensures.plain

pub loop-place-preserved : goal.loop-place-preserved
loop-place-preserved c =
    let whole : c.first_in_block-front.result ≡ 16 = omega arith in
    record {
      inside = omega arith;
      plain = all_further IsPlain c.args.bytes.now c.loop-place.place 16 c.loop-place.invariant.plain
          (subst (λ (n : ℕ). AllByRecursion IsPlain (take n (drop c.loop-place.place c.args.bytes.now))) whole c.first_in_block-front.ensures.plain);
    }

pub returns-then-front-lt-HALF-clause-plain : goal.returns-then-front-lt-HALF-clause-plain
returns-then-front-lt-HALF-clause-plain c =
    all_further IsPlain c.args.bytes.now c.loop-place.place c.first_in_half-front.result c.loop-place.invariant.plain c.first_in_half-front.ensures.plain

pub run_by_byte-requires-2-clause-before : goal.run_by_byte-requires-2-clause-before
run_by_byte-requires-2-clause-before c =
    let whole : c.first_in_half-front.result ≡ 8 = omega (arith, c.first_in_half-front.ensures.inside, c.if-front-lt-HALF.false) in
    all_further IsPlain c.args.bytes.now c.loop-place.place 8 c.loop-place.invariant.plain
    (subst (λ (n : ℕ). AllByRecursion IsPlain (take n (drop c.loop-place.place c.args.bytes.now))) whole c.first_in_half-front.ensures.plain)
