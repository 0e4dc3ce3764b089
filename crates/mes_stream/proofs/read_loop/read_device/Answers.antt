use Rattle.std.proofs.Common.{◌∙◌, length, arith, rules}
use Rattle.mes_stream.proofs.ReadLemmas.{reads_start, reads_more, reads_stop, reads_fail, reads_end, reads_spent}
use Rattle.mes_stream.proofs.read_loop.read_device.Goals as goal

pub reads-init : goal.reads-init
reads-init g c = (search rules, reads_start (g.C.Consumer.goes c.args.consumer.now c.args.to.now c.args.consumer.now c.args.to.now) (g.S.Source.device c.args.source.now).bytes (g.S.Source.device c.args.source.now).counts c.requires)

pub returns-in-Err : goal.returns-in-Err
returns-in-Err g c =
    reads_fail (g.C.Consumer.goes c.args.consumer.now c.args.to.now c.reads.consumer c.reads.to) (g.C.Consumer.goes c.args.consumer.now c.args.to.now c.reads.consumer c.reads.to) (g.S.Source.device c.args.source.now).bytes (g.S.Source.device c.reads.source).bytes (g.S.Source.device c.fetch.new.self).bytes (g.S.Source.device c.args.source.now).counts (g.S.Source.device c.reads.source).counts (g.S.Source.device c.fetch.new.self).counts
    c.reads.counter c.args.max_reads (length c.reads.buffer) c.reads.invariant.1 c.reads-test.true (omega (arith, c.reads.invariant.0))
    (g.C.Consumer.stops c.args.consumer.now c.args.to.now c.reads.consumer c.reads.to) c.in-Err.ensures.bytes c.in-Err.ensures.counted

pub returns-then-taken-eq0 : goal.returns-then-taken-eq0
returns-then-taken-eq0 g c =
    reads_end (g.C.Consumer.goes c.args.consumer.now c.args.to.now c.reads.consumer c.reads.to) (g.C.Consumer.goes c.args.consumer.now c.args.to.now c.reads.consumer c.reads.to) (g.S.Source.device c.args.source.now).bytes (g.S.Source.device c.reads.source).bytes (g.S.Source.device c.fetch.new.self).bytes (g.S.Source.device c.args.source.now).counts (g.S.Source.device c.reads.source).counts (g.S.Source.device c.fetch.new.self).counts
    c.reads.counter c.args.max_reads (length c.reads.buffer) c.reads.invariant.1 c.reads-test.true (omega (arith, c.reads.invariant.0))
    (g.C.Consumer.stops c.args.consumer.now c.args.to.now c.reads.consumer c.reads.to) (rw c.if-taken-eq0.true at c.in-Ok.ensures.bytes.0) (c.in-Ok.ensures.bytes.1 c.if-taken-eq0.true (omega (arith, c.fetch.auto.buffer, c.reads.invariant.0)))
    (rw c.if-taken-eq0.true at c.in-Ok.ensures.counted)

pub returns-in-Err-consume : goal.returns-in-Err-consume
returns-in-Err-consume g c =
    let r = c.reads.invariant.1 in
    reads_stop (g.C.Consumer.goes c.args.consumer.now c.args.to.now c.reads.consumer c.reads.to) (g.C.Consumer.goes c.args.consumer.now c.args.to.now c.consume.new.self c.consume.new.to) (g.S.Source.device c.args.source.now).bytes (g.S.Source.device c.reads.source).bytes (g.S.Source.device c.fetch.new.self).bytes (g.S.Source.device c.args.source.now).counts (g.S.Source.device c.reads.source).counts (g.S.Source.device c.fetch.new.self).counts
    c.reads.counter c.args.max_reads (length c.reads.buffer) c.reads.invariant.1 c.reads-test.true (omega (arith, c.reads.invariant.0))
    (g.C.Consumer.stops c.args.consumer.now c.args.to.now c.consume.new.self c.consume.new.to) c.in-Ok.taken c.fetch.new.buffer c.in-Err-consume.stop (omega (arith, c.if-taken-eq0.false)) c.in-Ok.ensures.within (omega (arith, c.fetch.auto.buffer, c.reads.invariant.0)) c.in-Ok.ensures.bytes.0 c.in-Ok.ensures.counted
    (c.in-Err-consume.ensures.stop c.args.consumer.now c.args.to.now r.w r.goes)

pub reads-preserved : goal.reads-preserved
reads-preserved g c =
    let r = c.reads.invariant.1 in (
      c.fetch.auto.buffer ∙ c.reads.invariant.0,
      reads_more (g.C.Consumer.goes c.args.consumer.now c.args.to.now c.reads.consumer c.reads.to) (g.C.Consumer.goes c.args.consumer.now c.args.to.now c.consume.new.self c.consume.new.to) (g.S.Source.device c.args.source.now).bytes (g.S.Source.device c.reads.source).bytes (g.S.Source.device c.fetch.new.self).bytes (g.S.Source.device c.args.source.now).counts (g.S.Source.device c.reads.source).counts (g.S.Source.device c.fetch.new.self).counts
          c.reads.counter c.args.max_reads (length c.reads.buffer) c.reads.invariant.1 c.reads-test.true (omega (arith, c.reads.invariant.0))
          c.in-Ok.taken c.fetch.new.buffer (omega (arith, c.if-taken-eq0.false)) c.in-Ok.ensures.within (omega (arith, c.fetch.auto.buffer, c.reads.invariant.0)) c.in-Ok.ensures.bytes.0 c.in-Ok.ensures.counted
          (c.in_default.ensures.more c.args.consumer.now c.args.to.now r.w r.goes),
    )

pub returns : goal.returns
returns g c =
    reads_spent (g.C.Consumer.goes c.args.consumer.now c.args.to.now c.reads.consumer c.reads.to) (g.C.Consumer.stops c.args.consumer.now c.args.to.now c.reads.consumer c.reads.to) (g.S.Source.device c.args.source.now).bytes (g.S.Source.device c.reads.source).bytes
    (g.S.Source.device c.args.source.now).counts (g.S.Source.device c.reads.source).counts c.reads.counter c.args.max_reads c.reads.invariant.1 (omega (arith, c.reads-test.false, c.reads.auto.counter-end))
