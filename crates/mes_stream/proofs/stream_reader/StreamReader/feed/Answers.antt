use Rattle.std.proofs.Common.{◌≡◌, ℕ, List, [], ◌∷◌, ◌-◌, ◌<◌, ◌++◌, length, take, drop, inl, ◌∙◌, ap, sym, subst, append-nil, append_assoc, arith, length-drop, take_all, Ok}
use Rattle.std.specs.Prelude.{slice_index}
use Rattle.std.proofs.lemmas.List.{take_rest}
use Rattle.mes_stream.specs.Framings.{EndsIn}
use Rattle.mes_stream.specs.RecordValues.{IsRefused}
use Rattle.mes_stream.specs.StreamReaders.{StreamRepresents, body_of, with_body}
use Rattle.mes_stream.specs.declared.record_body.Body.{Body}
use Rattle.mes_stream.specs.declared.step.Decoded.TheVariants as out
use Rattle.mes_stream.proofs.BodyLemmas.{stops_in, piece_on, value_on}
use Rattle.mes_stream.proofs.StreamLemmas.{same_body}
use Rattle.mes_stream.proofs.Wider.{refused_into, stops_wider}
use Rattle.mes_stream.proofs.stream_reader.StreamReader.feed.Goals as goal

pub loop-at-init : goal.loop-at-init
loop-at-init g c = (omega arith, λ ahead framing limit w values s. ([], sym (append-nil _), rw (append-nil, append-nil) s))

pub loop-at-preserved-in-More : goal.loop-at-preserved-in-More
loop-at-preserved-in-More g c =
    let rest = take_rest c.args.piece.now c.loop-at.at in
    let all = c.advance-taken.ensures.more c.in-More.is in (
      omega (arith, all, c.loop-at-test.true, ap length rest, length-drop c.loop-at.at c.args.piece.now),
      λ ahead framing limit w values s.
          let before = c.loop-at.invariant.1 ahead framing limit w values s in
          let reported = rw rest at (c.advance-taken.ensures.reports ahead framing limit (w ++ take c.loop-at.at c.args.piece.now) (values ++ before.0) before.2) in (
            before.0,
            before.1,
            subst (λ (y : List ℕ). StreamRepresents g.R.RecordReader.holds g.R.RecordReader.spells ahead c.advance-taken.new.self framing limit y (values ++ before.0)) (piece_on w c.args.piece.now c.loop-at.at c.advance-taken.result.used)
                (rw (same_body c.advance-taken.new.self) at (rw c.in-More.is at reported)),
          ),
    )

pub returns-in-Err-clause-feeds : goal.returns-in-Err-clause-feeds
returns-in-Err-clause-feeds g c = λ ahead framing limit w values s.
    let rest = take_rest c.args.piece.now c.loop-at.at in
    let before = c.loop-at.invariant.1 ahead framing limit w values s in
    let reported = rw rest at (c.advance-taken.ensures.reports ahead framing limit (w ++ take c.loop-at.at c.args.piece.now) (values ++ before.0) before.2) in
    let ended = rw c.in-Event.is at reported in
    let into = rw c.in-Err.is at (c.end_record_into.ensures.ends ended.0 ended.1 ended.2) in
    let Represents : Body g.row.R.Denot → List ℕ → List g.row.R-Value.Denot → Type 0 = λ body. StreamRepresents g.R.RecordReader.holds g.R.RecordReader.spells ahead (with_body c.advance-taken.new.self body) framing limit in
    let refused = refused_into g.R.RecordReader.holds g.R.RecordReader.spells g.R.RecordReader.breaks framing ahead limit Represents (w ++ take c.loop-at.at c.args.piece.now) (values ++ before.0) (drop c.loop-at.at c.args.piece.now) c.advance-taken.result.used
    (body_of c.advance-taken.new.self) (body_of c.end_record_into.new.self) ended.0 _ _ c.in-Err.why c.end_record_into.ensures.records ended.3 into in
    let is : c.advance-taken.result.out ≡ out.Event tt = c.in-Event.is in
    let some : 0 < c.advance-taken.result.used = c.advance-taken.ensures.some (λ more. absurd (cc)) in
    let lives = c.advance-taken.ensures.before ahead framing limit (w ++ take c.loop-at.at c.args.piece.now) (values ++ before.0) before.2 (c.advance-taken.result.used - 1) (omega (arith, some)) in (
      before.0,
      into.1 ∙ before.1,
      omega (arith, some),
      rw c.refuse.ensures.fault (stops_in framing g.R.RecordReader.spells (IsRefused g.R.RecordReader.spells g.R.RecordReader.breaks) ahead limit w c.args.piece.now (values ++ before.0) _ c.loop-at.at c.advance-taken.result.used c.loop-at.invariant.0 some
          (omega (arith, c.advance-taken.ensures.used, ap length rest)) (rw rest at lives) refused),
    )

pub loop-at-preserved : goal.loop-at-preserved
loop-at-preserved g c =
    let rest = take_rest c.args.piece.now c.loop-at.at in (
      omega (arith, c.advance-taken.ensures.used, c.loop-at-test.true, ap length rest, length-drop c.loop-at.at c.args.piece.now),
      λ ahead framing limit w values s.
          let before = c.loop-at.invariant.1 ahead framing limit w values s in
          let reported = rw rest at (c.advance-taken.ensures.reports ahead framing limit (w ++ take c.loop-at.at c.args.piece.now) (values ++ before.0) before.2) in
          let ended = rw c.in-Event.is at reported in
          let into = c.in_default.ensures.ends ended.0 ended.1 ended.2 in
          let said = ended.3 (body_of c.end_record_into.new.self) (Ok into.0) c.end_record_into.ensures.records into.1 in
          let taken = rw (← c.end_record_into.ensures.same) at said.0 in (
            before.0 ++ into.0 ∷ [],
            into.2 ∙ ap (λ (x : List g.row.R-Value.Denot). x ++ into.0 ∷ []) before.1 ∙ append_assoc _ before.0 (into.0 ∷ []),
            value_on (StreamRepresents g.R.RecordReader.holds g.R.RecordReader.spells ahead c.end_record_into.new.self framing limit) w c.args.piece.now values before.0 into.0 c.loop-at.at c.advance-taken.result.used taken,
          ),
    )

pub returns-in-End-clause-feeds : goal.returns-in-End-clause-feeds
returns-in-End-clause-feeds g c = λ ahead framing limit w values s.
    let rest = take_rest c.args.piece.now c.loop-at.at in
    let before = c.loop-at.invariant.1 ahead framing limit w values s in
    let reported = rw rest at (c.advance-taken.ensures.reports ahead framing limit (w ++ take c.loop-at.at c.args.piece.now) (values ++ before.0) before.2) in
    let is : c.advance-taken.result.out ≡ out.End = c.in-End.is in
    let some : 0 < c.advance-taken.result.used = c.advance-taken.ensures.some (λ more. absurd (cc)) in (
      before.0,
      before.1,
      omega (arith, some),
      subst (λ (y : List ℕ). EndsIn framing g.R.RecordReader.spells limit y (values ++ before.0)) (piece_on w c.args.piece.now c.loop-at.at c.advance-taken.result.used) (rw c.in-End.is at reported),
    )

pub returns-in-Fault-clause-feeds : goal.returns-in-Fault-clause-feeds
returns-in-Fault-clause-feeds g c = λ ahead framing limit w values s.
    let rest = take_rest c.args.piece.now c.loop-at.at in
    let before = c.loop-at.invariant.1 ahead framing limit w values s in
    let reported = rw rest at (c.advance-taken.ensures.reports ahead framing limit (w ++ take c.loop-at.at c.args.piece.now) (values ++ before.0) before.2) in
    let is : c.advance-taken.result.out ≡ out.Fault c.in-Fault.fault = c.in-Fault.is in
    let some : 0 < c.advance-taken.result.used = c.advance-taken.ensures.some (λ more. absurd (cc)) in
    let lives = c.advance-taken.ensures.before ahead framing limit (w ++ take c.loop-at.at c.args.piece.now) (values ++ before.0) before.2 (c.advance-taken.result.used - 1) (omega (arith, some)) in (
      before.0,
      before.1,
      omega (arith, some),
      rw c.in-Fault.fault-is (stops_in framing g.R.RecordReader.spells (IsRefused g.R.RecordReader.spells g.R.RecordReader.breaks) ahead limit w c.args.piece.now (values ++ before.0) _ c.loop-at.at c.advance-taken.result.used c.loop-at.invariant.0 some
          (omega (arith, c.advance-taken.ensures.used, ap length rest)) (rw rest at lives)
          (stops_wider g.R.RecordReader.spells g.R.RecordReader.breaks (IsRefused g.R.RecordReader.spells g.R.RecordReader.breaks) (λ r why h. inl h) framing ahead limit ((w ++ take c.loop-at.at c.args.piece.now) ++ take (c.advance-taken.result.used - 1) (drop c.loop-at.at c.args.piece.now)) (values ++ before.0)
          (slice_index (drop c.loop-at.at c.args.piece.now) (c.advance-taken.result.used - 1)) _ (rw c.in-Fault.is at reported))),
    )

pub returns-clause-feeds : goal.returns-clause-feeds
returns-clause-feeds g c = λ ahead framing limit w values s.
    let before = c.loop-at.invariant.1 ahead framing limit w values s in
    (before.0, before.1, rw (take_all c.loop-at.at c.args.piece.now c.loop-at-test.false) at before.2)
