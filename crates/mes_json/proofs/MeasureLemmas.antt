-- A measure of a state of the state machine: an amount for each string, name and number, and one
-- for each mark. A literal is one mark. An array or object has two, for its first and last byte.
use Rattle.std.proofs.Common.{◌≡◌, ℕ, ◌+◌, List, [], ◌∷◌, arith}
use Rattle.mes_json.specs.Tree.{Tree, Items, Members}
use Rattle.mes_json.specs.Tree.Tree.{null, boolean, number, string, array, object}
use Rattle.mes_json.specs.Tree.Items.{no_items, item}
use Rattle.mes_json.specs.Tree.Members.{no_members, member}
use Rattle.mes_json.specs.Escape.{Escape}
use Rattle.mes_json.specs.Escape.Escape.{backslash, unit0, unit1, unit2, unit3, high, high_backslash, low0, low1, low2, low3}
use Rattle.mes_json.specs.Machine.{Frame, Utf8State, Purpose, ReaderState, State, with_item, with_member}
use Rattle.mes_json.specs.Machine.Frame.{frame, array_frame}
use Rattle.mes_json.specs.Machine.Utf8State.{between, within, escape}
use Rattle.mes_json.specs.Machine.Purpose.{for_name, for_value}
use Rattle.mes_json.specs.Machine.Token.{literal, digits}
use Rattle.mes_json.specs.Machine.ReaderState.{value, first_item, name, quoted, named, token, after}
use Rattle.mes_json.specs.Machine.State.{state}

pub record Measure : Type 0 where
  pub text : List ℕ → ℕ
  pub mark : ℕ

abbrev mutual
  pub of_tree : Measure → Tree → ℕ
  of_tree m null = m.mark
  of_tree m (boolean x) = m.mark
  of_tree m (number n) = m.text n
  of_tree m (string s) = m.text s
  of_tree m (array ts) = m.mark + of_items m ts + m.mark
  of_tree m (object ms) = m.mark + of_members m ms + m.mark

  pub of_items : Measure → Items → ℕ
  of_items m no_items = 0
  of_items m (item t ts) = of_tree m t + of_items m ts

  pub of_members : Measure → Members → ℕ
  of_members m no_members = 0
  of_members m (member k t ms) = m.text k + of_tree m t + of_members m ms

abbrev pub of_frames : Measure → List Frame → ℕ
of_frames m [] = 0
of_frames m (frame ms k ∷ fs) = m.mark + of_members m ms + m.text k + of_frames m fs
of_frames m (array_frame ts ∷ fs) = m.mark + of_items m ts + of_frames m fs

-- the number of bytes read of an unfinished escape, which are not in the decoded string
abbrev pub of_escape : Escape → ℕ
of_escape backslash = 1
of_escape unit0 = 2
of_escape (unit1 v) = 3
of_escape (unit2 v) = 4
of_escape (unit3 v) = 5
of_escape (high h) = 6
of_escape (high_backslash h) = 7
of_escape (low0 h) = 8
of_escape (low1 h) = 9
of_escape (low2 h v) = 10
of_escape (low3 h v) = 11

abbrev pub of_mid : Utf8State → ℕ
of_mid between = 0
of_mid (within n least most) = 0
of_mid (escape e) = of_escape e

abbrev pub of_purpose : Measure → Purpose → ℕ
of_purpose m (for_name ms) = m.mark + of_members m ms
of_purpose m for_value = 0

abbrev pub of_at : Measure → ReaderState → ℕ
of_at m value = 0
of_at m first_item = m.mark
of_at m (name ms) = m.mark + of_members m ms
of_at m (quoted p mid s) = of_purpose m p + m.text s + of_mid mid
of_at m (named ms k) = m.mark + of_members m ms + m.text k
of_at m (token (literal e rest t)) = 0
of_at m (token (digits part n)) = m.text n
of_at m (after t) = of_tree m t

abbrev pub of_state : Measure → State → ℕ
of_state m (state fs a) = of_frames m fs + of_at m a

pub with_item_adds : (m : Measure) (ts : Items) (t : Tree) → of_items m (with_item ts t) ≡ of_items m ts + of_tree m t
with_item_adds m no_items t = omega arith
with_item_adds m (item u ts) t = omega (arith, with_item_adds m ts t)

pub with_member_adds : (m : Measure) (ms : Members) (k : List ℕ) (t : Tree) → of_members m (with_member ms k t) ≡ of_members m ms + m.text k + of_tree m t
with_member_adds m no_members k t = omega arith
with_member_adds m (member j u ms) k t = omega (arith, with_member_adds m ms k t)
