use Rattle.std.proofs.Common.{◌≡◌, ℕ, ◌+◌, ◌-◌, List, [], ◌∷◌, ◌++◌, take, ap, arith, refl, inr, subst, length-take-le, ◌∙◌}
use Rattle.std.specs.Prelude.{slice_index}
use Rattle.mes_frame.specs.RecordState.{limit_of}
use Rattle.mes_frame.specs.declared.record.RecordState.{RecordState}
use Rattle.mes_stream.specs.Framings.{SaysIn}
use Rattle.mes_stream.specs.Taking.{BodyRepresents, record_answer}
use Rattle.mes_stream.specs.declared.record_body.Body.{Body}
use Rattle.mes_stream.specs.declared.record_error.RecordError.TheVariants as refusal
use Rattle.mes_stream.specs.declared.stream_reader.Framing.TheVariants.{Plain}
use Rattle.mes_stream.proofs.BodyLemmas.{take_take, one_more, data_live, data_next, size_live, stands_on, ends_as, whole_fits}
use Rattle.mes_stream.proofs.record_body.Body.consume.Goals as goal
use Rattle.mes_stream.proofs.record_body.Body.consume.Goals.{then-last, else-last}

pub returns-in-Size-clause-before : goal.returns-in-Size-clause-before
returns-in-Size-clause-before g c = λ ahead b values s n first.
    size_live g.R.RecordReader.holds g.R.RecordReader.spells ahead c.args.self.now b c.args.run.now s.r values n (limit_of c.front_of.new.records) s c.in-Size.ensures.limit
    ((c.in-Size.ensures.fronts s.x s.r s.state).1 n (rw c.more.ensures at first))

pub returns-in-Size-clause-reports : goal.returns-in-Size-clause-reports
returns-in-Size-clause-reports g c = λ ahead b values s.
    rw c.more.ensures (stands_on g.R.RecordReader.holds g.R.RecordReader.spells ahead c.args.self.now _ b (take c.in-Size.count c.args.run.now) s.r values s refl c.in-Size.ensures.limit s.kept
    (c.in-Size.ensures.fronts s.x s.r s.state).0)

pub returns-in-Err-clause-reports : goal.returns-in-Err-clause-reports
returns-in-Err-clause-reports g c = λ ahead b values s.
    let h = c.in-Data.ensures.fronts s.x s.r s.state in
    let within = c.in-Data.ensures.within in
    let size = length-take-le c.in-Data.count c.args.run.now within.1 in
    let inside = c.in-Err.ensures.err (omega (arith, within, size)) in
    let limit = c.in-Data.ensures.limit in
    let n : ℕ = c.in-Err.refused.taken + 1 - 1 in
    let phase : c.in-Err.refused.taken + 1 ≡ n + 1 = omega arith in
    let same : s.r ++ take (c.in-Err.refused.taken + 1) (take c.in-Data.count c.args.run.now) ≡ (s.r ++ take n c.args.run.now) ++ slice_index c.args.run.now n ∷ [] =
    ap (λ (y : List ℕ). s.r ++ y) (take_take (c.in-Err.refused.taken + 1) c.in-Data.count c.args.run.now (omega (arith, inside, size)) ∙ ap (λ (m : ℕ). take m c.args.run.now) phase)
    ∙ one_more s.r c.args.run.now n (omega (arith, inside, within, size)) in
    let starved = subst (λ (y : List ℕ). g.R.RecordReader.breaks y refusal.NoMemory) same (c.in-Err.ensures.begins s.r s.kept) in
    let next = data_next g.R.RecordReader.holds g.R.RecordReader.spells ahead c.args.self.now b c.args.run.now values n h.0.0 s (λ r. g.R.RecordReader.breaks (r ++ slice_index c.args.run.now n ∷ []) refusal.NoMemory)
    (omega (arith, inside, h.0.2, size)) (omega (arith, inside, within, size)) (rw limit at h.0.1) starved in
    rw (c.no_memory.ensures.fault, c.no_memory.ensures.used) (inr (refl, rw limit next))

pub returns-in-Err-clause-before : goal.returns-in-Err-clause-before
returns-in-Err-clause-before g c = λ ahead b values s n early.
    let h = c.in-Data.ensures.fronts s.x s.r s.state in
    let within = c.in-Data.ensures.within in
    let used = c.no_memory.ensures.used in
    let inside = c.in-Err.ensures.err (omega (arith, within, length-take-le c.in-Data.count c.args.run.now within.1)) in
    let limit = c.in-Data.ensures.limit in
    rw limit (data_live g.R.RecordReader.holds g.R.RecordReader.spells ahead c.args.self.now b c.args.run.now values n h.0.0 s
    (omega (arith, early, used, inside, h.0.2, length-take-le c.in-Data.count c.args.run.now within.1)) (omega (arith, early, used, inside, within, length-take-le c.in-Data.count c.args.run.now within.1)) (rw limit at h.0.1))

pub returns-after-last-clause-reports : goal.returns-after-last-clause-reports
returns-after-last-clause-reports g c = λ ahead b values s.
    let h = c.in-Data.ensures.fronts s.x s.r s.state in
    let limit = c.in-Data.ensures.limit in
    let kept = c.in-Ok.ensures.ok s.r s.kept in
    let within = c.in-Data.ensures.within in
    let mid : Body g.row.R.Denot = record { records = c.front_of.new.records; reader = c.push_run.new.self; done = c.args.self.now.done } in
    elim c.if-last.branch [
      | then-last w ↦
          let ended = rw w.if-last.true at h.1 in
          let is = rw limit at ended.0 in
          rw w.result-is (
            s.r ++ take c.in-Data.count c.args.run.now,
            kept,
            whole_fits g.R.RecordReader.holds g.R.RecordReader.spells ahead c.args.self.now b _ _ values s is,
            λ after answer same ends.
                subst (λ (t : RecordState). SaysIn Plain (BodyRepresents g.R.RecordReader.holds g.R.RecordReader.spells ahead after) g.R.RecordReader.spells g.R.RecordReader.breaks ahead (limit_of t) b values c.args.run.now c.in-Data.count (record_answer after.done answer)) same
                (ends_as g.R.RecordReader.holds g.R.RecordReader.spells ahead g.R.RecordReader.breaks c.args.self.now mid after b c.args.run.now values c.in-Data.count h.0.0 answer
                s within.0 within.1 h.0.2 (rw limit at h.0.1) refl (ap (λ (t : RecordState). limit_of t) same ∙ limit) is (rw same ended.1) ends),
          )
      | else-last w ↦
          rw w.result-is (stands_on g.R.RecordReader.holds g.R.RecordReader.spells ahead c.args.self.now _ b (take c.in-Data.count c.args.run.now) (s.r ++ take c.in-Data.count c.args.run.now) values s refl limit kept
          (rw w.if-last.false at h.1))
    ]

pub returns-after-last-clause-before : goal.returns-after-last-clause-before
returns-after-last-clause-before g c = λ ahead b values s n inside.
    let h = c.in-Data.ensures.fronts s.x s.r s.state in
    let limit = c.in-Data.ensures.limit in
    let within = c.in-Data.ensures.within in
    let lives = data_live g.R.RecordReader.holds g.R.RecordReader.spells ahead c.args.self.now b c.args.run.now values n h.0.0 s (omega (arith, inside, h.0.2)) (omega (arith, inside, within.1)) (rw limit at h.0.1) in
    elim c.if-last.branch [
      | then-last w ↦ rw limit lives
      | else-last w ↦ rw limit lives
    ]
