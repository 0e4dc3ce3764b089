use Rattle.std.proofs.Common.{map, ◌∙◌, arith, refl}
use Rattle.std.proofs.lemmas.List.{length-map}
use Rattle.mes_model_schema.specs.Objects.{members_in}
use Rattle.mes_model_schema.proofs.FoundLemmas.{members_found, no_members_found, follow_each_first, follow_each_next, follow_each_last}
use Rattle.mes_model_schema.proofs.PartLemmas.{refuses_told}
use Rattle.mes_model_schema.proofs.found_rows.find_rows.Goals as goal

pub returns-in_default-clause-finds : goal.returns-in_default-clause-finds
returns-in_default-clause-finds g c = λ t b. refuses_told _ _ _ c.refusal_at.ensures (no_members_found c.args.path.now t (c.in_default.ensures t b))

pub loop-name-init : goal.loop-name-init
loop-name-init g c = (
  refl,
  λ t b.
      let found = members_found c.in-Some.members t (c.in-Some.ensures t b) in
      (found.0, (members_in t, found.1, follow_each_first c.args.found.now.items (map (λ n. n.now) c.args.names.now) (members_in t) (λ i inside. c.requires.nothing i))),
)

pub loop-name-preserved : goal.loop-name-preserved
loop-name-preserved g c = (
  c.note_member.ensures.all ∙ c.loop-name.invariant.0,
  λ t b.
      let before = c.loop-name.invariant.1 t b in (
        before.0,
        follow_each_next c.loop-name.found.items c.note_member.new.found.items (map (λ n. n.now) c.args.names.now) (members_in t) before.1.0
            (c.in-Some-next.name.now, c.in-Some-next.value) c.next.new.self
            (λ i inside. c.note_member.ensures.notes i (omega (arith, inside, length-map c.args.names.now (λ n. n.now))))
            (c.in-Some-next.ensures.member before.1.0 before.1.1) before.1.2,
      ),
)

pub returns-clause-finds : goal.returns-clause-finds
returns-clause-finds g c = λ t b.
    let before = c.loop-name.invariant.1 t b in (
      members_in t,
      before.0,
      follow_each_last c.loop-name.found.items (map (λ n. n.now) c.args.names.now) (members_in t) before.1.0 _
          (c.in_default-next.ensures.member before.1.0 before.1.1) before.1.2,
    )
