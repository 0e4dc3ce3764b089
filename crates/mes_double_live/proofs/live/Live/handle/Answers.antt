use Rattle.std.proofs.Common.{option_copied}
use Rattle.mes_double_live.proofs.FitLemmas.{other-moves}
use Rattle.mes_double_live.proofs.LaunchLemmas.{other-handles}
use Rattle.mes_double_live.proofs.live.Live.handle.Goals as goal

pub returns-clause-moves : goal.returns-clause-moves
returns-clause-moves c =
    other-moves _ _ _ c.args.call.now (option_copied c.args.stream) c.self.view_is c.requires c.in_ok-handle.ensures.ok.master_is

pub returns-clause-handles : goal.returns-clause-handles
returns-clause-handles c =
    other-handles _ _ _ c.args.call.now (option_copied c.args.stream) c.self.view_is c.requires c.in_ok-handle.ensures.ok.master_is
