-- The members of a tree that is an object.
use Rattle.std.specs.Prelude.{◌≡◌}
use Rattle.mes_json.specs.Tree.{Tree, Members}
use Rattle.mes_json.specs.Tree.Tree.{null, boolean, number, string, array, object}
use Rattle.mes_json.specs.Tree.Members.{no_members}

-- the members of an object; any other tree has no members
abbrev pub members_in : Tree → Members
members_in (object ms) = ms
members_in null = no_members
members_in (boolean x) = no_members
members_in (number n) = no_members
members_in (string s) = no_members
members_in (array ts) = no_members

-- the tree is an object
abbrev pub IsObject : Tree → Type 0
IsObject t = t ≡ object (members_in t)
