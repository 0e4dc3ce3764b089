use Rattle.std.proofs.Common.{◌≡◌, ℕ, ◌+◌, ◌-◌, ◌<◌, ◌≤◌, List, ◌++◌, length, take, ap, sym, arith, refl, subst, length-take-le}
use Rattle.std.specs.Prelude.{slice_index}
use Rattle.mes_frame.specs.declared.fault.FrameFault.TheVariants.{RecordTooLarge}
use Rattle.mes_stream.specs.JsonLines.{LinesStop}
use Rattle.mes_stream.specs.LineRecord.{LineBegun}
use Rattle.mes_stream.specs.declared.fault.Fault.TheVariants.{Frame, NoMemory}
use Rattle.mes_stream.proofs.BodyLemmas.{take_take}
use Rattle.mes_stream.proofs.LineLemmas.{line_on, part_live, part_long, part_stands, part_starved}
use Rattle.mes_stream.proofs.LineRecords.{line_more}
use Rattle.mes_stream.proofs.line_body.LineBody.take_part.Goals as goal

pub returns-then-room-data-clause-reports : goal.returns-then-room-data-clause-reports
returns-then-room-data-clause-reports g c = λ ahead b values s.
    let n = c.line_length.result in
    let within = c.line_length.ensures.within in
    let line = c.line_length.ensures.line in
    let size = length-take-le n c.args.run.now within in
    let bytes = s.bytes in
    let all = ap length s.has in
    let most = s.within in
    let left = c.room-room.ensures in
    let at = c.too_long_at.result in
    let inside : at < n = let h = c.too_long_at.ensures.within in omega (arith, h, size) in
    let same : at ≡ at + 1 - 1 = omega arith in
    let long = c.too_long_at.ensures.passes s.x c.args.self.now.limit (omega (arith, left, bytes, all, most)) (line_more s.x (take n c.args.run.now) s.is line) in
    rw c.frame.ensures (subst (λ (m : ℕ). LinesStop g.R.RecordReader.spells g.R.RecordReader.breaks ahead c.args.self.now.limit (b ++ take m c.args.run.now) values (slice_index c.args.run.now m) (Frame RecordTooLarge)) same
    (part_long g.R.RecordReader.holds g.R.RecordReader.spells ahead g.R.RecordReader.breaks c.args.self.now b c.args.run.now values s n within line at inside long))

pub returns-then-room-data-clause-before : goal.returns-then-room-data-clause-before
returns-then-room-data-clause-before g c = λ ahead b values s k early.
    let n = c.line_length.result in
    let within = c.line_length.ensures.within in
    let line = c.line_length.ensures.line in
    let size = length-take-le n c.args.run.now within in
    let bytes = s.bytes in
    let all = ap length s.has in
    let most = s.within in
    let left = c.room-room.ensures in
    let le : k ≤ c.too_long_at.result = omega (arith, early) in
    let short : k ≤ n = let h = c.too_long_at.ensures.within in omega (arith, h, size, le) in
    let begun = c.too_long_at.ensures.before s.x c.args.self.now.limit (omega (arith, left, bytes, all, most)) (line_more s.x (take n c.args.run.now) s.is line) k le in
    line_on g.R.RecordReader.holds g.R.RecordReader.spells ahead (λ x r. x ≡ r) c.args.self.now b values s (take k c.args.run.now) (λ x. LineBegun x c.args.self.now.limit)
    (subst (λ (y : List ℕ). LineBegun (s.x ++ y) c.args.self.now.limit) (take_take k n c.args.run.now short) begun)

pub returns-in-Err-clause-reports : goal.returns-in-Err-clause-reports
returns-in-Err-clause-reports g c = λ ahead b values s.
    let n = c.line_length.result in
    let within = c.line_length.ensures.within in
    let line = c.line_length.ensures.line in
    let size = length-take-le n c.args.run.now within in
    let bytes = s.bytes in
    let all = ap length s.has in
    let most = s.within in
    let left = c.room-room.ensures in
    let m = c.record_length.result in
    let at = c.in-Err.refused.taken in
    let le : m ≤ n = let h = c.record_length.ensures.within in omega (arith, h, size) in
    let short = length-take-le m (take n c.args.run.now) (omega (arith, le, size)) in
    let inside : at < m = let h = c.in-Err.ensures.err in omega (arith, h, short) in
    let room = c.if-room-data.false in
    let same : at ≡ at + 1 - 1 = omega arith in
    rw (c.no_memory.ensures.fault, c.no_memory.ensures.used) (subst (λ (i : ℕ). LinesStop g.R.RecordReader.spells g.R.RecordReader.breaks ahead c.args.self.now.limit (b ++ take i c.args.run.now) values (slice_index c.args.run.now i) NoMemory) same
    (part_starved g.R.RecordReader.holds g.R.RecordReader.spells ahead g.R.RecordReader.breaks c.args.self.now b c.args.run.now values s n within line m at le inside (omega (arith, left, bytes, all, most, room, short)) (c.in-Err.ensures.begins s.r s.kept)))

pub returns-in-Err-clause-before : goal.returns-in-Err-clause-before
returns-in-Err-clause-before g c = λ ahead b values s k early.
    let n = c.line_length.result in
    let within = c.line_length.ensures.within in
    let line = c.line_length.ensures.line in
    let size = length-take-le n c.args.run.now within in
    let bytes = s.bytes in
    let all = ap length s.has in
    let most = s.within in
    let left = c.room-room.ensures in
    let m = c.record_length.result in
    let le : m ≤ n = let h = c.record_length.ensures.within in omega (arith, h, size) in
    let short = length-take-le m (take n c.args.run.now) (omega (arith, le, size)) in
    let used = c.no_memory.ensures.used in
    let err = c.in-Err.ensures.err in
    let room = c.if-room-data.false in
    part_live g.R.RecordReader.holds g.R.RecordReader.spells ahead g.R.RecordReader.breaks c.args.self.now b c.args.run.now values s n within line k (omega (arith, early, used, err, le, short)) (omega (arith, early, used, err, left, bytes, all, most, room, short))

pub returns-clause-reports : goal.returns-clause-reports
returns-clause-reports g c = λ ahead b values s.
    let n = c.line_length.result in
    let within = c.line_length.ensures.within in
    let line = c.line_length.ensures.line in
    let size = length-take-le n c.args.run.now within in
    let bytes = s.bytes in
    let all = ap length s.has in
    let most = s.within in
    let left = c.room-room.ensures in
    let m = c.record_length.result in
    let le : m ≤ n = let h = c.record_length.ensures.within in omega (arith, h, size) in
    let short = length-take-le m (take n c.args.run.now) (omega (arith, le, size)) in
    let room = c.if-room-data.false in
    rw c.more.ensures (part_stands g.R.RecordReader.holds g.R.RecordReader.spells ahead g.R.RecordReader.breaks c.args.self.now b c.args.run.now values s n within line _ m (c.line_length.ensures.some c.requires.some c.requires.line) le refl c.record_length.ensures.record
    (omega (arith, left, bytes, all, most, room, short)) (c.in_default.ensures.ok s.r s.kept) c.saturating_add-self.ensures refl c.push.ensures.same.1 c.push.ensures.same.0 refl _ (sym size))

pub returns-clause-before : goal.returns-clause-before
returns-clause-before g c = λ ahead b values s k early.
    let n = c.line_length.result in
    let within = c.line_length.ensures.within in
    let line = c.line_length.ensures.line in
    let size = length-take-le n c.args.run.now within in
    let bytes = s.bytes in
    let all = ap length s.has in
    let most = s.within in
    let left = c.room-room.ensures in
    let m = c.record_length.result in
    let h = c.record_length.ensures.within in
    let short = length-take-le m (take n c.args.run.now) h.0 in
    let room = c.if-room-data.false in
    let k_less : k < n = let less = rw c.more.ensures at early in omega (arith, less, size) in
    part_live g.R.RecordReader.holds g.R.RecordReader.spells ahead g.R.RecordReader.breaks c.args.self.now b c.args.run.now values s n within line k (omega (arith, k_less)) (omega (arith, k_less, h, size, left, bytes, all, most, room, short))
