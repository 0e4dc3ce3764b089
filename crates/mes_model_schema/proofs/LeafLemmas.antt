-- Lemma: a tree that is no object has no members.
use Rattle.std.proofs.Common.{◌≡◌, None, refl}
use Rattle.mes_json.specs.Tree.{Tree, Members}
use Rattle.mes_json.specs.Tree.Tree.{null, boolean, number, string, array, object}
use Rattle.mes_json.specs.Cursor.{as_members}

pub no_object : (t : Tree) → ((ms : Members) → t ≡ object ms → ⊥) → as_members t ≡ None
no_object null other = refl
no_object (boolean x) other = refl
no_object (number n) other = refl
no_object (string s) other = refl
no_object (array ts) other = refl
no_object (object ms) other = absurd (other ms refl)
