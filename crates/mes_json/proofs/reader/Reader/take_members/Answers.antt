use Rattle.mes_json.proofs.PlainLemmas.{runs_further}
use Rattle.mes_json.proofs.TakenLemmas.{nothing_taken}
use Rattle.mes_json.proofs.reader.Reader.take_members.Goals as goal

pub loop-place-init : goal.loop-place-init
loop-place-init c = nothing_taken c.args.self.now c.args.bytes.now c.args.from c.requires.fits c.requires.inside

pub loop-place-preserved : goal.loop-place-preserved
loop-place-preserved c =
    runs_further c.args.self.now c.loop-place.self c.take_token-next.new.self c.args.bytes.now c.args.from c.loop-place.place c.take_token-next.result
    c.loop-place.invariant c.take_token-next.ensures
