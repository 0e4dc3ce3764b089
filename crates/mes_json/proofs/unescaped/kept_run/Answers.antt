use Rattle.std.proofs.Common.{◌≡◌, ℕ, take, drop, subst, arith}
use Rattle.std.specs.List.{AllByRecursion}
use Rattle.mes_json.specs.Canonical.{IsKept}
use Rattle.mes_json.proofs.FrontLemmas.{all_further}
use Rattle.mes_json.proofs.unescaped.kept_run.Goals as goal

pub returns-then-front-lt-BLOCK-clause-kept : goal.returns-then-front-lt-BLOCK-clause-kept
returns-then-front-lt-BLOCK-clause-kept c =
    all_further IsKept c.args.bytes.now c.loop-place.place c.kept_in_block-front.result c.loop-place.invariant.kept c.kept_in_block-front.ensures.kept

pub loop-place-preserved : goal.loop-place-preserved
loop-place-preserved c =
    let whole : c.kept_in_block-front.result ≡ 16 = omega arith in
    record {
      inside = omega arith;
      kept = all_further IsKept c.args.bytes.now c.loop-place.place 16 c.loop-place.invariant.kept
          (subst (λ (n : ℕ). AllByRecursion IsKept (take n (drop c.loop-place.place c.args.bytes.now))) whole c.kept_in_block-front.ensures.kept);
    }
