-- The trees that have a JSON text: strings in UTF-8, numbers by the grammar. Every `Json`
-- represents such a tree.
use Rattle.std.specs.Prelude.{◌≡◌, ℕ, List, ◌∷◌, ◌++◌}
use Rattle.std.specs.Str.{IsUtf8}
use Rattle.mes_fixed.specs.Number.{IsNumber}
use Rattle.mes_json.specs.Tree.{Tree, Items, Members}
use Rattle.mes_json.specs.Tree.Tree.{null, boolean, number, string, array, object}
use Rattle.mes_json.specs.Tree.Items.{no_items, item}
use Rattle.mes_json.specs.Tree.Members.{no_members, member}
use Rattle.mes_json.specs.Canonical.{quoted_text, canonical}

abbrev mutual
  pub IsWritable : Tree → Type 0
  IsWritable null = Unit {0}
  IsWritable (boolean x) = Unit {0}
  IsWritable (number n) = IsNumber n
  IsWritable (string s) = IsUtf8 s
  IsWritable (array ts) = AreWritable ts
  IsWritable (object ms) = AreWritableMembers ms

  pub AreWritable : Items → Type 0
  AreWritable no_items = Unit {0}
  AreWritable (item t ts) = IsWritable t × AreWritable ts

  pub AreWritableMembers : Members → Type 0
  AreWritableMembers no_members = Unit {0}
  AreWritableMembers (member name t ms) = IsUtf8 name × IsWritable t × AreWritableMembers ms

-- the bytes `old` are a prefix of the bytes `new`
pub record Extends (old new : List ℕ) : Type 0 where
  pub rest : List ℕ
  pub is : new ≡ old ++ rest

-- the canonical text of a member with the given name and value
abbrev pub member_text : List ℕ → Tree → List ℕ
member_text name t = quoted_text name ++ 58 ∷ canonical t
