use Rattle.std.proofs.Common.{◌≡◌, ℕ, List, [], inl, inr, true, false, map, bytes_eq, set, get_or, sym, ◌∙◌, subst, ap, arith}
use Rattle.std.proofs.lemmas.Bool.{cases_lt}
use Rattle.std.proofs.lemmas.List.{length-map, length-set, get_or-map, get_or_default}
use Rattle.mes_model_schema.specs.FoundRows.{noted}
use Rattle.mes_model_schema.specs.declared.found_rows.Found.{Found}
use Rattle.mes_model_schema.specs.declared.found_rows.Found.TheVariants.{Nothing}
use Rattle.mes_model_schema.proofs.FoundLemmas.{noted_once, refilled}
use Rattle.mes_model_schema.proofs.found_rows.note_member.Goals as goal

pub returns-then-eq-clause-notes : goal.returns-then-eq-clause-notes
returns-then-eq-clause-notes g c = λ i inside.
    let many = length-map c.args.names.now (λ n. n.now) in
    let is : bytes_eq c.args.name.now (get_or (map (λ n. n.now) c.args.names.now) c.loop-i.i []) ≡ true =
    ap (bytes_eq c.args.name.now) (get_or-map (λ n. n.now) c.args.names.now c.loop-i.i _ [] c.loop-i-test.true) ∙ sym c.eq.ensures ∙ c.if-eq.true in
    let shown = noted_once c.args.found.now.items (map (λ n. n.now) c.args.names.now) c.args.name.now c.args.value.now c.loop-i.i c.requires.once (omega (arith, c.loop-i-test.true, many))
    (omega (arith, c.requires.room, many)) is c.loop-i.invariant.before i (omega (arith, inside, many)) in
    let found = c.args.found.now.items in
    let place = c.loop-i.i in
    rw (c.note.ensures, c.deref_mut.ensures.value, c.loop-i.invariant.same)
    (ap (λ (fs : List Found). get_or fs i Nothing) (refilled found (set found place (noted c.args.value.now (get_or found place c.index-deref_mut-i.result))) (length-set found place _))
    ∙ ap (λ (f : Found). get_or (set found place (noted c.args.value.now f)) i Nothing) (get_or_default found place c.index-deref_mut-i.result Nothing (omega (arith, c.loop-i-test.true, c.requires.room)))
    ∙ shown)

pub loop-i-preserved : goal.loop-i-preserved
loop-i-preserved g c = record {
  same = c.loop-i.invariant.same;
  before = λ k early. elim (cases_lt k c.loop-i.i) [
    | inl less ↦ c.loop-i.invariant.before k less
    | inr rest ↦
        let at : c.loop-i.i ≡ k = omega (arith, early, rest) in
        subst (λ (n : ℕ). bytes_eq c.args.name.now (get_or (map (λ n. n.now) c.args.names.now) n []) ≡ false) at
        (ap (bytes_eq c.args.name.now) (get_or-map (λ n. n.now) c.args.names.now c.loop-i.i _ [] c.loop-i-test.true) ∙ sym c.eq.ensures ∙ c.if-eq.false)
  ];
}
