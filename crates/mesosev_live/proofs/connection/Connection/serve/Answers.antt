use Rattle.std.proofs.Common.{◌∙◌, ◌+◌, ap, ℕ, List, Option, length, subst, sym, refl}
use Rattle.std.proofs.lemmas.List.{length-append}
use Rattle.mesosev_live.specs.Serving.{Serves, ServesNext}
use Rattle.mesosev_live.specs.declared.connection.Served.{Served}
use Rattle.mesosev_live.proofs.ServedLemmas.{one_more}
use Rattle.mesosev_live.proofs.connection.Connection.serve.Goals as goal

pub loop-init : goal.loop-init
unfolding Serves
loop-init g c = record {
  kept = λ first before. before;
  turns = subst (λ (all : List Served). Serves g.D.Desk.answers g.D.Desk.shows g.D.Desk.takes c.args.self.now c.args.desk.now all c.args.self.now c.args.desk.now) (sym c.requires) (refl, refl);
  count = ap length c.requires;
}

pub loop-preserved : goal.loop-preserved
loop-preserved g c =
    let next = subst (λ (turn : Option Served). ServesNext g.D.Desk.answers g.D.Desk.shows g.D.Desk.takes c.loop.self c.loop.desk c.serve_next.new.self c.serve_next.new.desk turn) c.in-Some.is c.in_ok-turn.ensures.next in
    record {
      kept = λ first before. c.serve_next.ensures.kept first (c.loop.invariant.kept first before);
      turns = subst (λ (all : List Served). Serves g.D.Desk.answers g.D.Desk.shows g.D.Desk.takes c.args.self.now c.args.desk.now all c.serve_next.new.self c.serve_next.new.desk) (sym c.in_ok-keep.ensures)
          (one_more g.D.Desk.answers g.D.Desk.shows g.D.Desk.takes c.args.self.now c.args.desk.now c.loop.served.items c.loop.self c.loop.desk c.in-Some.turn c.serve_next.new.self c.serve_next.new.desk c.loop.invariant.turns next);
      count = ap length c.in_ok-keep.ensures ∙ length-append c.loop.served.items _ ∙ ap (λ (n : ℕ). n + 1) c.loop.invariant.count;
    }
