use Rattle.std.proofs.Common.{◌≡◌, ◌-◌, ◌^◌, ℕ, length, take, drop, ◌∙◌, ap, subst, arith}
use Rattle.std.specs.Str.Parse.{digits_value}
use Rattle.mes_fixed.specs.Cut.{CutIs}
use Rattle.mes_fixed.specs.Decimal.{value, raised, lowered}
use Rattle.mes_fixed.proofs.Scaling.{huge_zeros, huge_value, cut_part, huge_part, digits_taken, digits_dropped}
use Rattle.mes_fixed.proofs.decimal.Decimal.scaled.Goals as goal

pub returns-in_err-value_of-clause-none : goal.returns-in_err-value_of-clause-none
returns-in_err-value_of-clause-none c =
    let d = c.args.self.now in
    let same : digits_value 10 c.deref.result.now ≡ value d = ap (digits_value 10) c.deref.ensures.0 in
    rw c.from_residual.ensures (huge_value (value d) (raised d c.args.places) (lowered d) (omega (arith, c.raised-raised.ensures, c.lowered-lowered.ensures)) (omega (arith, c.in_err-value_of.ensures.none, same)))

pub returns-in_err-whole-clause-none : goal.returns-in_err-whole-clause-none
returns-in_err-whole-clause-none c =
    let d = c.args.self.now in
    rw c.from_residual-in_err-whole.ensures (huge_zeros (value d) (raised d c.args.places) (lowered d) _ _ _ (c.in_ok-value_of.ensures.some ∙ ap (digits_value 10) c.deref.ensures.0) c.raised-raised.ensures c.lowered-lowered.ensures (omega arith) c.in_err-whole.ensures.none)

pub value_of-requires-2 : goal.value_of-requires-2
value_of-requires-2 c = digits_taken c.args.self.now.digits.items _ c.saturating_sub.result c.requires.digits (c.split_at.ensures.front ∙ ap (take c.saturating_sub.result) c.deref-2.ensures.0)

pub returns-in_err-value_of-2-clause-none : goal.returns-in_err-value_of-2-clause-none
returns-in_err-value_of-2-clause-none c =
    let d = c.args.self.now in
    let at : c.saturating_sub.result ≡ length d.digits.items - (lowered d - raised d c.args.places) = omega (arith, c.saturating_sub.ensures, c.len.ensures.value, c.raised-raised.ensures, c.lowered-lowered.ensures) in
    let kept = c.split_at.ensures.front ∙ ap (take c.saturating_sub.result) c.deref-2.ensures.0 ∙ ap (λ (i : ℕ). take i d.digits.items) at in
    rw c.from_residual-in_err-value_of-2.ensures (huge_part d.digits.items _ (raised d c.args.places) (lowered d) c.requires.digits (omega (arith, c.raised-raised.ensures, c.lowered-lowered.ensures)) kept c.in_err-value_of-2.ensures.none)

pub cut_of-requires-clause-digits : goal.cut_of-requires-clause-digits
cut_of-requires-clause-digits c = digits_dropped c.args.self.now.digits.items _ c.saturating_sub.result c.requires.digits (c.split_at.ensures.back ∙ ap (drop c.saturating_sub.result) c.deref-2.ensures.0)

pub returns-clause-some : goal.returns-clause-some
returns-clause-some c =
    let d = c.args.self.now in
    let at : c.saturating_sub.result ≡ length d.digits.items - (lowered d - raised d c.args.places) = omega (arith, c.saturating_sub.ensures, c.len.ensures.value, c.raised-raised.ensures, c.lowered-lowered.ensures) in
    let kept = c.split_at.ensures.front ∙ ap (take c.saturating_sub.result) c.deref-2.ensures.0 ∙ ap (λ (i : ℕ). take i d.digits.items) at in
    let dropped = c.split_at.ensures.back ∙ ap (drop c.saturating_sub.result) c.deref-2.ensures.0 ∙ ap (λ (i : ℕ). drop i d.digits.items) at in
    cut_part d.digits.items _ _ (raised d c.args.places) (lowered d) _ _ c.requires.digits (omega (arith, c.raised-raised.ensures, c.lowered-lowered.ensures)) kept dropped c.in_ok-value_of-2.ensures.some (let P : ℕ → Type 0 = λ k. CutIs c.cut_of.result (digits_value 10 c.split_at.result.1.now) (10 ^ k) in subst P (omega (arith, c.raised-raised.ensures, c.lowered-lowered.ensures)) c.cut_of.ensures)
