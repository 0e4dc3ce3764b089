use Rattle.std.proofs.Common.{◌≡◌, [], inl, inr, subst}
use Rattle.mes_fixed.specs.declared.automaton.NumberState.{NumberState}
use Rattle.mes_fixed.specs.Gathering.{IsBeforePoint, IsExponentDigit}
use Rattle.mes_fixed.proofs.Gathers.{push_whole, capped_more}
use Rattle.mes_fixed.proofs.decimal.Decimal.gather.Goals as goal

pub returns-in-AfterZero-clause-gathers : goal.returns-in-AfterZero-clause-gathers
returns-in-AfterZero-clause-gathers c = λ n h b. elim c.in-AfterZero.is [
  | inl e ↦
      let f : n.fraction ≡ [] = subst (λ (p : NumberState). IsBeforePoint p n) e b in
      rw e (record { negative = h.negative; digits = push_whole _ _ n.whole n.fraction c.args.byte h.digits c.push.ensures.items f; fraction_digits = h.fraction_digits; lowers = h.lowers; exponent = h.exponent })
  | inr e ↦
      let f : n.fraction ≡ [] = subst (λ (p : NumberState). IsBeforePoint p n) e b in
      rw e (record { negative = h.negative; digits = push_whole _ _ n.whole n.fraction c.args.byte h.digits c.push.ensures.items f; fraction_digits = h.fraction_digits; lowers = h.lowers; exponent = h.exponent })
]

pub returns-in-InExponent-clause-gathers : goal.returns-in-InExponent-clause-gathers
returns-in-InExponent-clause-gathers c = λ n h b.
    let e = c.in-InExponent.is in
    let d = subst (λ (p : NumberState). IsExponentDigit p c.args.byte) e c.requires.digit in
    rw e (record { negative = h.negative; digits = h.digits; fraction_digits = h.fraction_digits; lowers = h.lowers; exponent = capped_more n.power c.args.byte _ _ _ d h.exponent c.from.ensures c.min-self.ensures })
