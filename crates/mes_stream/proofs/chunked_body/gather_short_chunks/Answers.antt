use Rattle.std.proofs.Common.{◌+◌, arith}
use Rattle.std.proofs.lemmas.List.{take_rest}
use Rattle.mes_stream.proofs.GatherLemmas.{so_far_none, so_far_framing, so_far_byte}
use Rattle.mes_stream.proofs.chunked_body.gather_short_chunks.Goals as goal
use Rattle.mes_stream.proofs.chunked_body.gather_short_chunks.Goals.{else-loop-next-test, then-loop-next-test+then-remaining-eq0}

pub loop-next-init : goal.loop-next-init
loop-next-init c = rw (c.new-bytes.ensures, c.new-places.ensures) (so_far_none c.args.chunks.now c.args.piece.now c.args.most)

pub loop-next-preserved : goal.loop-next-preserved
loop-next-preserved c =
    let rest = take_rest c.args.piece.now c.loop-next.used in
    let framed = so_far_framing c.args.chunks.now c.loop-next.next c.next_chunk-used.new.self c.args.piece.now c.loop-next.bytes.items c.loop-next.places.items c.args.most c.loop-next.used c.next_chunk-used.result
    c.loop-next.invariant (rw rest at c.next_chunk-used.ensures.within) (λ w body represents. rw rest at (c.next_chunk-used.ensures.passes w body represents)) c.next_chunk-used.ensures.none in
    let inside = framed.inside in
    rw (c.push.ensures.items, c.push-in-loop-next.ensures.items)
    (so_far_byte c.args.chunks.now c.next_chunk-used.new.self c.pass.new.self c.args.piece.now c.loop-next.bytes.items c.loop-next.places.items c.args.most (c.loop-next.used + c.next_chunk-used.result) framed
    (omega (arith, inside, c.if-used-piece.false)) (omega (arith, c.if-len-most.false, c.len.ensures.value)) (λ w body p one represents. c.pass.ensures.passes w body p one represents))

pub returns-clause-gathers : goal.returns-clause-gathers
returns-clause-gathers c = λ w body represents.
    let rest = take_rest c.args.piece.now c.loop-next.used in
    elim c.loop-next-test.branch [
      | else-loop-next-test b ↦ rw (b.next-is, b.used-is) (c.loop-next.invariant.gathers w body represents)
      | then-loop-next-test+then-remaining-eq0 b ↦
          let framed = so_far_framing c.args.chunks.now c.loop-next.next b.next_chunk-used.new.self c.args.piece.now c.loop-next.bytes.items c.loop-next.places.items c.args.most c.loop-next.used b.next_chunk-used.result
          c.loop-next.invariant (rw rest at b.next_chunk-used.ensures.within) (λ w body represents. rw rest at (b.next_chunk-used.ensures.passes w body represents)) b.next_chunk-used.ensures.none in
          rw (b.next-is, b.used-is) (framed.gathers w body represents)
    ]
