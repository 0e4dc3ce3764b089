-- A JSON value as a tree (RFC 8259 sections 3 to 7). A number is its text; a string is its text in
-- UTF-8 without escapes; items and members are in order, with repeated names.
use Rattle.std.specs.Prelude.{ℕ, suc, max, Bool, List}

mutual
  pub data Tree : Type 0 where
    null : Tree
    boolean : Bool → Tree
    number : List ℕ → Tree
    string : List ℕ → Tree
    array : Items → Tree
    object : Members → Tree

  pub data Items : Type 0 where
    no_items : Items
    item : Tree → Items → Items

  pub data Members : Type 0 where
    no_members : Members
    member : List ℕ → Tree → Members → Members

-- the nesting depth: 0 for a scalar, 1 for an empty array or object
abbrev mutual
  pub depth : Tree → ℕ
  depth null = 0
  depth (boolean x) = 0
  depth (number n) = 0
  depth (string s) = 0
  depth (array ts) = suc (depth_of_items ts)
  depth (object ms) = suc (depth_of_members ms)

  pub depth_of_items : Items → ℕ
  depth_of_items no_items = 0
  depth_of_items (item t ts) = max (depth t) (depth_of_items ts)

  pub depth_of_members : Members → ℕ
  depth_of_members no_members = 0
  depth_of_members (member name t ms) = max (depth t) (depth_of_members ms)
