use Rattle.std.proofs.Common.{refl}
use Rattle.std.specs.Prelude.{codes}
use Rattle.mes_double_faults.specs.declared.fault.Fault.TheVariants.{Event, Call, Chunk}
use Rattle.mes_double_faults.specs.declared.fault.EventFault.TheVariants.{Lost, Repeated, Cut, Late, Muted}
use Rattle.mes_double_faults.specs.declared.fault.CallFault.TheVariants.{Busy, Unanswered, Slow, Gone, Reset}
use Rattle.mes_double_faults.proofs.NameLemmas.{fault_unsplit, no_name, numbered, placed, split_of, unknown, unnumbered}
use Rattle.mes_double_faults.proofs.fault.Fault.parse.Goals as goal

pub returns-in_err-name-clause-none : goal.returns-in_err-name-clause-none
returns-in_err-name-clause-none c = λ _. fault_unsplit c.args.text.now c.in_err-name.ensures.cases

pub returns-in-lose-clause-some : goal.returns-in-lose-clause-some
returns-in-lose-clause-some c = placed (split_of c.in_ok-name.name c.in_ok-name.numbers c.in_ok-name.ensures.cases) (λ k. Event k Lost) _ (λ k. c.in-lose.is) (λ k writes place. (writes, place)) c.event.ensures.some

pub returns-in-lose-clause-none : goal.returns-in-lose-clause-none
returns-in-lose-clause-none c = λ none. unnumbered (split_of c.in_ok-name.name c.in_ok-name.numbers c.in_ok-name.ensures.cases) (codes "lose") c.in-lose.is (c.event.ensures.none none)

pub returns-in-twice-clause-some : goal.returns-in-twice-clause-some
returns-in-twice-clause-some c = placed (split_of c.in_ok-name.name c.in_ok-name.numbers c.in_ok-name.ensures.cases) (λ k. Event k Repeated) _ (λ k. c.in-twice.is) (λ k writes place. (writes, place)) c.event-in-twice.ensures.some

pub returns-in-twice-clause-none : goal.returns-in-twice-clause-none
returns-in-twice-clause-none c = λ none. unnumbered (split_of c.in_ok-name.name c.in_ok-name.numbers c.in_ok-name.ensures.cases) (codes "twice") c.in-twice.is (c.event-in-twice.ensures.none none)

pub returns-in-mute-clause-some : goal.returns-in-mute-clause-some
returns-in-mute-clause-some c = placed (split_of c.in_ok-name.name c.in_ok-name.numbers c.in_ok-name.ensures.cases) (λ k. Event k Muted) _ (λ k. c.in-mute.is) (λ k writes place. (writes, place)) c.event-in-mute.ensures.some

pub returns-in-mute-clause-none : goal.returns-in-mute-clause-none
returns-in-mute-clause-none c = λ none. unnumbered (split_of c.in_ok-name.name c.in_ok-name.numbers c.in_ok-name.ensures.cases) (codes "mute") c.in-mute.is (c.event-in-mute.ensures.none none)

pub returns-in-busy-clause-some : goal.returns-in-busy-clause-some
returns-in-busy-clause-some c = placed (split_of c.in_ok-name.name c.in_ok-name.numbers c.in_ok-name.ensures.cases) (λ k. Call k Busy) _ (λ k. c.in-busy.is) (λ k writes place. (writes, place)) c.call.ensures.some

pub returns-in-busy-clause-none : goal.returns-in-busy-clause-none
returns-in-busy-clause-none c = λ none. unnumbered (split_of c.in_ok-name.name c.in_ok-name.numbers c.in_ok-name.ensures.cases) (codes "busy") c.in-busy.is (c.call.ensures.none none)

pub returns-in-unanswered-clause-some : goal.returns-in-unanswered-clause-some
returns-in-unanswered-clause-some c = placed (split_of c.in_ok-name.name c.in_ok-name.numbers c.in_ok-name.ensures.cases) (λ k. Call k Unanswered) _ (λ k. c.in-unanswered.is) (λ k writes place. (writes, place)) c.call-in-unanswered.ensures.some

pub returns-in-unanswered-clause-none : goal.returns-in-unanswered-clause-none
returns-in-unanswered-clause-none c = λ none. unnumbered (split_of c.in_ok-name.name c.in_ok-name.numbers c.in_ok-name.ensures.cases) (codes "unanswered") c.in-unanswered.is (c.call-in-unanswered.ensures.none none)

pub returns-in-gone-clause-some : goal.returns-in-gone-clause-some
returns-in-gone-clause-some c = placed (split_of c.in_ok-name.name c.in_ok-name.numbers c.in_ok-name.ensures.cases) (λ k. Call k Gone) _ (λ k. c.in-gone.is) (λ k writes place. (writes, place)) c.call-in-gone.ensures.some

pub returns-in-gone-clause-none : goal.returns-in-gone-clause-none
returns-in-gone-clause-none c = λ none. unnumbered (split_of c.in_ok-name.name c.in_ok-name.numbers c.in_ok-name.ensures.cases) (codes "gone") c.in-gone.is (c.call-in-gone.ensures.none none)

pub returns-in-reset-clause-some : goal.returns-in-reset-clause-some
returns-in-reset-clause-some c = placed (split_of c.in_ok-name.name c.in_ok-name.numbers c.in_ok-name.ensures.cases) (λ k. Call k Reset) _ (λ k. c.in-reset.is) (λ k writes place. (writes, place)) c.call-in-reset.ensures.some

pub returns-in-reset-clause-none : goal.returns-in-reset-clause-none
returns-in-reset-clause-none c = λ none. unnumbered (split_of c.in_ok-name.name c.in_ok-name.numbers c.in_ok-name.ensures.cases) (codes "reset") c.in-reset.is (c.call-in-reset.ensures.none none)

pub returns-in_err-place-in-cut-clause-none : goal.returns-in_err-place-in-cut-clause-none
returns-in_err-place-in-cut-clause-none c = λ _. unnumbered (split_of c.in_ok-name.name c.in_ok-name.numbers c.in_ok-name.ensures.cases) (codes "cut") c.in-cut.is (c.in_err-place-in-cut.ensures.none refl)

pub returns-in_ok-place-in-cut-clause-some : goal.returns-in_ok-place-in-cut-clause-some
returns-in_ok-place-in-cut-clause-some c =
    let some = c.in_ok-place-in-cut.ensures.some in
    (numbered (split_of c.in_ok-name.name c.in_ok-name.numbers c.in_ok-name.ensures.cases) (Event c.in_ok-place-in-cut.place (Cut c.in_ok-place-in-cut.bytes)) c.in-cut.is some.0, (some.1, some.3))

pub returns-in_err-place-in-late-clause-none : goal.returns-in_err-place-in-late-clause-none
returns-in_err-place-in-late-clause-none c = λ _. unnumbered (split_of c.in_ok-name.name c.in_ok-name.numbers c.in_ok-name.ensures.cases) (codes "late") c.in-late.is (c.in_err-place-in-late.ensures.none refl)

pub returns-in_ok-place-in-late-clause-some : goal.returns-in_ok-place-in-late-clause-some
returns-in_ok-place-in-late-clause-some c =
    let some = c.in_ok-place-in-late.ensures.some in
    (numbered (split_of c.in_ok-name.name c.in_ok-name.numbers c.in_ok-name.ensures.cases) (Event c.in_ok-place-in-late.place (Late c.in_ok-place-in-late.seconds)) c.in-late.is some.0, (some.1, (some.2, some.3)))

pub returns-in_err-place-in-slow-clause-none : goal.returns-in_err-place-in-slow-clause-none
returns-in_err-place-in-slow-clause-none c = λ _. unnumbered (split_of c.in_ok-name.name c.in_ok-name.numbers c.in_ok-name.ensures.cases) (codes "slow") c.in-slow.is (c.in_err-place-in-slow.ensures.none refl)

pub returns-in_ok-place-in-slow-clause-some : goal.returns-in_ok-place-in-slow-clause-some
returns-in_ok-place-in-slow-clause-some c =
    let some = c.in_ok-place-in-slow.ensures.some in
    (numbered (split_of c.in_ok-name.name c.in_ok-name.numbers c.in_ok-name.ensures.cases) (Call c.in_ok-place-in-slow.place (Slow c.in_ok-place-in-slow.seconds)) c.in-slow.is some.0, (some.1, (some.2, some.3)))

pub returns-in_err-number-in-chunk-clause-none : goal.returns-in_err-number-in-chunk-clause-none
returns-in_err-number-in-chunk-clause-none c = λ _. unnumbered (split_of c.in_ok-name.name c.in_ok-name.numbers c.in_ok-name.ensures.cases) (codes "chunk") c.in-chunk.is (c.in_err-number-in-chunk.ensures.none refl)

pub returns-in_ok-number-in-chunk-clause-some : goal.returns-in_ok-number-in-chunk-clause-some
returns-in_ok-number-in-chunk-clause-some c =
    let some = c.in_ok-number-in-chunk.ensures.some in
    (numbered (split_of c.in_ok-name.name c.in_ok-name.numbers c.in_ok-name.ensures.cases) (Chunk c.in_ok-number-in-chunk.field-0) c.in-chunk.is some.0, (some.1, some.2))

pub returns-in_default-clause-none : goal.returns-in_default-clause-none
returns-in_default-clause-none c =
    let d = c.in_default in
    λ _. unknown (split_of c.in_ok-name.name c.in_ok-name.numbers c.in_ok-name.ensures.cases) (no_name c.in_ok-name.name.now d.not-lose d.not-twice d.not-cut d.not-late d.not-mute d.not-busy d.not-unanswered d.not-slow d.not-gone d.not-reset d.not-chunk)
