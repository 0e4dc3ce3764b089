use Rattle.std.proofs.Common.{◌≡◌, ◌∙◌, ap, ℕ, List, [], ◌++◌, refl, sym, take, drop, append_assoc}
use Rattle.std.proofs.lemmas.List.{take-append-drop}
use Rattle.mes_msg.specs.Events.{Spells}
use Rattle.mes_stream.specs.MessageData.{HoldsData}
use Rattle.mes_stream.specs.Refusals.{IsEventRefusal}
use Rattle.mes_stream.proofs.ReadingLemmas.{gathers_none}
use Rattle.mesosev_live.proofs.input.decode.Goals as goal

split_more : (bytes w rest front back : List ℕ) (n : ℕ) → bytes ≡ w ++ rest → front ≡ take n rest → back ≡ drop n rest → bytes ≡ (w ++ front) ++ back
split_more bytes w rest front back n is first last =
    is ∙ ap (λ (t : List ℕ). w ++ t) (sym (take-append-drop n rest) ∙ ap (λ (t : List ℕ). t ++ drop n rest) (sym first) ∙ ap (λ (t : List ℕ). front ++ t) (sym last))
    ∙ sym (append_assoc w front back)

pub loop-rest-init : goal.loop-rest-init
loop-rest-init c = ([], refl, gathers_none HoldsData Spells IsEventRefusal c.args.reading.now c.args.events.now.items)

pub loop-rest-preserved : goal.loop-rest-preserved
loop-rest-preserved c =
    let h = c.loop-rest.invariant in (
      h.0 ++ c.split_at.result.0.now,
      split_more _ _ _ _ _ _ h.1 c.split_at.ensures.front c.split_at.ensures.back,
      c.in-Ok.ensures.more c.args.reading.now c.args.events.now h.0 h.2,
    )

pub returns-in-Err-clause-stop : goal.returns-in-Err-clause-stop
returns-in-Err-clause-stop c =
    let h = c.loop-rest.invariant in (
      h.0,
      c.split_at.result.0.now,
      c.split_at.result.1.now,
      split_more _ _ _ _ _ _ h.1 c.split_at.ensures.front c.split_at.ensures.back ∙ append_assoc h.0 c.split_at.result.0.now c.split_at.result.1.now,
      c.in-Err.ensures.stop c.args.reading.now c.args.events.now h.0 h.2,
    )
