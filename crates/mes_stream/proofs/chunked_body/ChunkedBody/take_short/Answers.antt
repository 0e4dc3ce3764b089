use Rattle.std.proofs.Common.{◌≡◌, ℕ, List, ◌+◌, ◌-◌, ◌<◌, ◌++◌, length, take, ap, subst, slice_index, arith}
use Rattle.mes_stream.specs.declared.record_error.RecordError.TheVariants as refusal
use Rattle.mes_stream.proofs.GatherLemmas.{gathered_live, gathered_stops}
use Rattle.mes_stream.proofs.chunked_body.ChunkedBody.take_short.Goals as goal

pub returns-then-is_empty-clause-before : goal.returns-then-is_empty-clause-before
returns-then-is_empty-clause-before g c = λ ahead w values s n early.
    let made = c.gather_short_chunks-gathered.result in
    gathered_live g.R.RecordReader.holds g.R.RecordReader.spells ahead c.args.self.now c.gather_short_chunks-gathered.new.chunks w c.args.rest.now made.bytes.items made.places.items values made.used s
    (c.gather_short_chunks-gathered.ensures.gathers w s.content s.chunks) (λ some. omega (arith, c.gather_short_chunks-gathered.ensures.few some, c.remaining-most.ensures)) n (rw c.more.ensures at early)

pub returns-in-Ok-clause-reports : goal.returns-in-Ok-clause-reports
returns-in-Ok-clause-reports g c = λ ahead w values s.
    rw c.more-in-Ok.ensures (record {
      content = s.content ++ c.gather_short_chunks-gathered.result.bytes.items;
      chunks = (c.gather_short_chunks-gathered.ensures.gathers w s.content s.chunks).represents;
      body = rw c.as_slice.ensures.value at (c.in-Ok.ensures.ok ahead s.content values s.body);
    })

pub returns-in-Ok-clause-before : goal.returns-in-Ok-clause-before
returns-in-Ok-clause-before g c = λ ahead w values s n early.
    let made = c.gather_short_chunks-gathered.result in
    rw c.pass.ensures.limit
    (gathered_live g.R.RecordReader.holds g.R.RecordReader.spells ahead c.args.self.now c.gather_short_chunks-gathered.new.chunks w c.args.rest.now made.bytes.items made.places.items values made.used s
    (c.gather_short_chunks-gathered.ensures.gathers w s.content s.chunks) (λ some. omega (arith, c.gather_short_chunks-gathered.ensures.few some, c.remaining-most.ensures)) n (rw c.more-in-Ok.ensures at early))

pub returns-in-Err-clause-reports : goal.returns-in-Err-clause-reports
returns-in-Err-clause-reports g c = λ ahead w values s.
    let made = c.gather_short_chunks-gathered.result in
    let k : ℕ = c.in-Err.refused.taken in
    let value = c.as_slice.ensures.value in
    let length_is = ap (λ (l : List ℕ). length l) value in
    let some : 0 < length made.bytes.items = grind (arith, c.if-is_empty.ensures, c.is_empty.ensures, c.if-is_empty.false) in
    let inside : k < length made.bytes.items = omega (arith, length_is, some, c.in-Err.ensures.err (omega (arith, length_is, some))) in
    let starved = subst (λ (l : List ℕ). g.R.RecordReader.breaks (s.body.r ++ take (k + 1) l) refusal.NoMemory) value (c.in-Err.ensures.begins s.body.r s.body.kept) in
    let back : slice_index made.places.items k ≡ slice_index c.as_slice-in-Err.result.now k + 1 - 1 = omega (arith, ap (λ (l : List ℕ). slice_index l k) c.as_slice-in-Err.ensures.value) in
    rw (c.no_memory.ensures.fault, c.no_memory.ensures.used, c.pass.ensures.limit)
    (gathered_stops g.R.RecordReader.holds g.R.RecordReader.spells ahead c.args.self.now g.R.RecordReader.breaks c.gather_short_chunks-gathered.new.chunks w c.args.rest.now made.bytes.items made.places.items values made.used k _ s
    (c.gather_short_chunks-gathered.ensures.gathers w s.content s.chunks) inside (omega (arith, c.gather_short_chunks-gathered.ensures.few some, c.remaining-most.ensures)) back starved)

pub returns-in-Err-clause-before : goal.returns-in-Err-clause-before
returns-in-Err-clause-before g c = λ ahead w values s n early.
    let made = c.gather_short_chunks-gathered.result in
    let k : ℕ = c.in-Err.refused.taken in
    let value = c.as_slice.ensures.value in
    let length_is = ap (λ (l : List ℕ). length l) value in
    let some : 0 < length made.bytes.items = grind (arith, c.if-is_empty.ensures, c.is_empty.ensures, c.if-is_empty.false) in
    let inside : k < length made.bytes.items = omega (arith, length_is, some, c.in-Err.ensures.err (omega (arith, length_is, some))) in
    let phase : slice_index made.places.items k < made.used = c.gather_short_chunks-gathered.ensures.inside k (omega (arith, inside, c.gather_short_chunks-gathered.ensures.places)) in
    let at_place = ap (λ (l : List ℕ). slice_index l k) c.as_slice-in-Err.ensures.value in
    rw c.pass.ensures.limit
    (gathered_live g.R.RecordReader.holds g.R.RecordReader.spells ahead c.args.self.now c.gather_short_chunks-gathered.new.chunks w c.args.rest.now made.bytes.items made.places.items values made.used s
    (c.gather_short_chunks-gathered.ensures.gathers w s.content s.chunks) (λ some. omega (arith, c.gather_short_chunks-gathered.ensures.few some, c.remaining-most.ensures)) n (omega (arith, early, c.no_memory.ensures.used, phase, at_place)))
