-- The canonical text of a tree is a JSON text of that tree: `canonical_is_text`.
use Rattle.std.proofs.Common.{ℕ, zero, suc, ◌≤◌, List, [], ◌∷◌, ◌++◌, refl, sym, arith}
use Rattle.std.proofs.lemmas.List.{append-nil}
use Rattle.std.specs.Str.{IsUtf8}
use Rattle.mes_json.specs.Tree.{Tree, Items, Members, depth, depth_of_items, depth_of_members}
use Rattle.mes_json.specs.Tree.Tree.{null, boolean, number, string, array, object}
use Rattle.mes_json.specs.Tree.Items.{no_items, item}
use Rattle.mes_json.specs.Tree.Members.{no_members, member}
use Rattle.mes_json.specs.Grammar.{IsString, Spaced, IsMember, IsValue, AreItems, MoreItems, AreMembers, MoreMembers, IsText}
use Rattle.mes_json.specs.Canonical.{escaped_text, quoted_text, canonical, canonical_items, more_items, canonical_members, more_members}
use Rattle.mes_json.specs.Writable.{IsWritable, AreWritable, AreWritableMembers}
use Rattle.mes_json.proofs.EscapedLemmas.{spells}

-- a text without white space around it has the form `Spaced`
bare : {It : List ℕ → Type 0} {b : List ℕ} → It b → Spaced It b
bare {b = b} h = record { before = []; inside = b; after = []; is = sym (append-nil b); spaces_before = tt; has = h; spaces_after = tt }

quoted_is : (s : List ℕ) → IsUtf8 s → IsString s (quoted_text s)
quoted_is s is = record { inside = escaped_text s; is = refl; chars = spells s is }

member_is : {It : List ℕ → Type 0} (name value : List ℕ) → IsUtf8 name → It value → IsMember (IsString name) It (quoted_text name ++ 58 ∷ value)
member_is name value is h = record { name = quoted_text name; value = value; is = refl; is_name = bare (quoted_is name is); is_value = bare h }

mutual
  value_is : (t : Tree) (d : ℕ) → IsWritable t → depth t ≤ d → IsValue t d (canonical t)
  value_is null d w h = refl
  value_is (boolean x) d w h = refl
  value_is (number n) d w h = (refl, w)
  value_is (string s) d w h = quoted_is s w
  value_is (array ts) zero w h = omega arith
  value_is (array ts) (suc d) w h = (canonical_items ts, refl, items_are ts d w (omega arith))
  value_is (object ms) zero w h = omega arith
  value_is (object ms) (suc d) w h = (canonical_members ms, refl, members_are ms d w (omega arith))

  items_are : (ts : Items) (d : ℕ) → AreWritable ts → depth_of_items ts ≤ d → AreItems ts d (canonical_items ts)
  items_are no_items d w h = tt
  items_are (item t ts) d w h =
      record { first = canonical t; rest = more_items ts; is = refl; is_first = bare (value_is t d w.0 (omega arith)); is_rest = more_are ts d w.1 (omega arith) }

  more_are : (ts : Items) (d : ℕ) → AreWritable ts → depth_of_items ts ≤ d → MoreItems ts d (more_items ts)
  more_are no_items d w h = refl
  more_are (item t ts) d w h = (
    canonical t ++ more_items ts,
    refl,
    record { first = canonical t; rest = more_items ts; is = refl; is_first = bare (value_is t d w.0 (omega arith)); is_rest = more_are ts d w.1 (omega arith) },
  )

  members_are : (ms : Members) (d : ℕ) → AreWritableMembers ms → depth_of_members ms ≤ d → AreMembers ms d (canonical_members ms)
  members_are no_members d w h = tt
  members_are (member name t ms) d w h = record {
    first = quoted_text name ++ 58 ∷ canonical t;
    rest = more_members ms;
    is = refl;
    is_first = member_is name (canonical t) w.0 (value_is t d w.1 (omega arith));
    is_rest = more_members_are ms d w.2 (omega arith);
  }

  more_members_are : (ms : Members) (d : ℕ) → AreWritableMembers ms → depth_of_members ms ≤ d → MoreMembers ms d (more_members ms)
  more_members_are no_members d w h = refl
  more_members_are (member name t ms) d w h = (
    (quoted_text name ++ 58 ∷ canonical t) ++ more_members ms,
    refl,
    record {
      first = quoted_text name ++ 58 ∷ canonical t;
      rest = more_members ms;
      is = refl;
      is_first = member_is name (canonical t) w.0 (value_is t d w.1 (omega arith));
      is_rest = more_members_are ms d w.2 (omega arith);
    },
  )

pub canonical_is_text : (t : Tree) (d : ℕ) → IsWritable t → depth t ≤ d → IsText d (canonical t) t
canonical_is_text t d w h = bare (value_is t d w h)
