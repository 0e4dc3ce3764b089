use Rattle.std.proofs.Common.{◌≡◌, length, map}
use Rattle.mes_json.specs.Tree.{Tree, Members}
use Rattle.mes_json.specs.Tree.Tree.{object}
use Rattle.mes_json.specs.Tokens.{BeginsWith, BeginsMembers}
use Rattle.mes_model_schema.specs.Objects.{members_in}
use Rattle.mes_model_schema.proofs.FoundLemmas.{FollowEach}
use Rattle.mes_model_schema.proofs.found_rows.find_rows.Given as goal

abbrev pub invariant-loop-name : goal.invariant-loop-name
invariant-loop-name g l =
    (length l.found.items ≡ length l.initial.found.items) × ((t : Tree) → BeginsWith l.element t
    → (t ≡ object (members_in t)) × ((rest : Members) × BeginsMembers l.members rest × FollowEach l.found.items (map (λ n. n.now) l.names) (members_in t) rest))

abbrev pub decreases-loop-name : goal.decreases-loop-name
decreases-loop-name g l = length l.members
