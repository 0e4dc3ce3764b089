use Rattle.std.proofs.Common.{◌≡◌, take, map}
use Rattle.mes_json.specs.View.{view}
use Rattle.mesosev_log.specs.SessionJson.{key_tree}
use Rattle.mesosev_log.proofs.session_json.keys_json.Given as goal

-- the trees of the first ones
abbrev pub invariant-loop-index : goal.invariant-loop-index
invariant-loop-index l = map view l.trees.items ≡ map key_tree (take l.index l.session.owed)
