-- How clap's model walks over consecutive options in their usual spelling, at any position.
use Rattle.std.proofs.Common.{◌≡◌, ◌++◌, ◌==◌, ◌∙◌, ap, ℕ, List, [], ◌∷◌, Option, Some, None, Bool, true, false, refl}
use Rattle.std.specs.Prelude.{fold}
use Rattle.std.specs.Str.{bytes_eq}
use Rattle.clap.specs.Words.{Row, Rule, Text}
use Rattle.clap.specs.Lexer.{long_of}
use Rattle.clap.specs.Faults.{check_fault, defaults_fault, level_fault, settle_fault, turn_fault, use_fault, walk_fault}
use Rattle.clap.specs.Kinds.{Kinds, or_else}
use Rattle.clap.specs.Simple.{Shape}
use Rattle.clap.specs.Walk.{Names, Walk, arg_by_id, arg_by_long, idle, most_values, nothing_held, rows_after, settled_rows, takes_values, used, walk_from, walked, with_default}

-- ---- walks over concatenated arguments

pub both_walk : (f : Walk → Text → Walk) (w : Walk) (a b : List Text) → fold f w (a ++ b) ≡ fold f (fold f w a) b
both_walk f w [] b = refl
both_walk f w (x ∷ a) b = both_walk f (f w x) a b

else_else : (a b c : Kinds) → or_else a (or_else b c) ≡ or_else (or_else a b) c
else_else [] b c = refl
else_else (x ∷ a) b c = refl

pub both_fault : (s : Shape) (names : Names) (w : Walk) (a b : List Text)
    → walk_fault s names w (a ++ b) ≡ or_else (walk_fault s names w a) (walk_fault s names (fold (walked s.rules names) w a) b)
unfolding walk_fault
both_fault s names w [] b = refl
both_fault s names w (x ∷ a) b =
    ap (λ (k : Kinds). or_else (turn_fault s names w x) k) (both_fault s names (walked s.rules names w x) a b)
    ∙ else_else (turn_fault s names w x) (walk_fault s names (walked s.rules names w x) a) (walk_fault s names (fold (walked s.rules names) (walked s.rules names w x) a) b)

-- ---- states of the walk between two options

-- the state of the walk: the rows so far, and the option whose value was the last argument
abbrev pub between : List Row → Option (Text × List Text) → Walk
between rows pending = record { held = record { rows = rows; pending = pending; skip = 0 }; waiting = idle; position = 1; is_trailing = false; stopped = None }

-- The subcommand accepts the arguments. Once the pending option is used, the rows of the matches
-- are these.
pub record Reaches (s : Shape) (words : List Text) (rows : List Row) : Type 0 where
  pub left : List Row
  pub pending : Option (Text × List Text)
  pub walk_is : fold (walked s.rules []) (walk_from nothing_held) words ≡ between left pending
  pub rows_are : settled_rows s.rules pending left ≡ rows
  pub settles : settle_fault s.rules s.args_override_self (between left pending).held ≡ []
  pub quiet : walk_fault s [] (walk_from nothing_held) words ≡ []

pub reaches_start : (s : Shape) → Reaches s [] []
unfolding walk_fault
reaches_start s = record { left = []; pending = None; walk_is = refl; rows_are = refl; settles = refl; quiet = refl }

-- if `more` leads from one state between options to another without an error, so do both lists
reaches_on : (s : Shape) (words more : List Text) (rows next left : List Row) (pending : Option (Text × List Text)) → (r : Reaches s words rows)
    → fold (walked s.rules []) (between r.left r.pending) more ≡ between left pending
    → walk_fault s [] (between r.left r.pending) more ≡ []
    → settled_rows s.rules pending left ≡ next → settle_fault s.rules s.args_override_self (between left pending).held ≡ []
    → Reaches s (words ++ more) next
reaches_on s words more rows next left pending r walk_is quiet rows_are settles = record {
  left = left;
  pending = pending;
  walk_is = both_walk (walked s.rules []) (walk_from nothing_held) words more
      ∙ ap (λ (w : Walk). fold (walked s.rules []) w more) r.walk_is ∙ walk_is;
  rows_are = rows_are;
  settles = settles;
  quiet = both_fault s [] (walk_from nothing_held) words more
      ∙ ap (λ (k : Kinds). or_else k (walk_fault s [] (fold (walked s.rules []) (walk_from nothing_held) words) more)) r.quiet
      ∙ ap (λ (w : Walk). walk_fault s [] w more) r.walk_is ∙ quiet;
}

-- ---- a walk over one flag

-- the argument is this flag of the subcommand
pub record IsFlag (c : List Rule) (a : Rule) (word name : Text) : Type 0 where
  pub dashes : bytes_eq word (45 ∷ 45 ∷ []) ≡ false
  pub long : long_of word ≡ Some (name, None)
  pub by_long : arg_by_long c name ≡ Some a
  pub takes : takes_values a ≡ false

pub reaches_flag : (s : Shape) (a : Rule) (word name : Text) → IsFlag s.rules a word name → (words : List Text) (rows : List Row) → Reaches s words rows
    → use_fault s.args_override_self a [] rows ≡ [] → Reaches s (words ++ word ∷ []) (used a [] rows)
unfolding walked walk_fault
reaches_flag s a word name is words rows r passes =
    reaches_on s words (word ∷ []) rows (used a [] rows) (used a [] (settled_rows s.rules r.pending r.left)) None r
    (simp (is.dashes, is.long, is.by_long, is.takes) refl)
    (simp (is.dashes, is.long, is.by_long, is.takes, r.settles, r.rows_are, passes) refl)
    (ap (used a []) r.rows_are) refl

-- ---- a walk over one option with a value

-- how arguments give an option a value: not at all, in one argument, or in two
pub data Given : Type 0 where
  absent : Given
  joined : (x : ℕ) (xs : Text) → Given
  apart : (x : ℕ) (xs : Text) → Given

abbrev pub given_words : Text → Given → List Text
given_words option absent = []
given_words option (joined x xs) = (option ++ 61 ∷ x ∷ xs) ∷ []
given_words option (apart x xs) = option ∷ (x ∷ xs) ∷ []

-- the value that the arguments give, if any
abbrev pub given_value : Given → Option Text
given_value absent = None
given_value (joined x xs) = Some (x ∷ xs)
given_value (apart x xs) = Some (x ∷ xs)

-- the rows of the matches after the option is given a value, or left out
abbrev pub used_value : Rule → Option Text → List Row → List Row
used_value a None rows = rows
used_value a (Some v) rows = used a (v ∷ []) rows

-- the value does not begin with a hyphen
abbrev pub IsNoFlag : Option Text → Type 0
IsNoFlag None = Unit {0}
IsNoFlag (Some []) = ⊥
IsNoFlag (Some (x ∷ xs)) = (x == 45) ≡ false

-- the option may be given this value if the matches have these rows so far
abbrev pub IsUsable : Bool → Rule → Option Text → List Row → Type 0
IsUsable again a None rows = Unit {0}
IsUsable again a (Some v) rows = use_fault again a (v ∷ []) rows ≡ []

-- the argument is this option of the subcommand, which takes one value
pub record IsOption (c : List Rule) (a : Rule) (word name : Text) : Type 0 where
  pub dashes : bytes_eq word (45 ∷ 45 ∷ []) ≡ false
  pub long : long_of word ≡ Some (name, None)
  pub dashes_joined : (v : Text) → bytes_eq (word ++ 61 ∷ v) (45 ∷ 45 ∷ []) ≡ false
  pub long_joined : (v : Text) → long_of (word ++ 61 ∷ v) ≡ Some (name, Some v)
  pub by_long : arg_by_long c name ≡ Some a
  pub by_id : arg_by_id c a.id ≡ Some a
  pub same : bytes_eq a.id a.id ≡ true
  pub takes : takes_values a ≡ true
  pub one : most_values a ≡ 1

pub reaches_option : (s : Shape) (a : Rule) (word name : Text) → IsOption s.rules a word name → (words : List Text) (rows : List Row) → Reaches s words rows
    → (g : Given) → IsNoFlag (given_value g) → IsUsable s.args_override_self a (given_value g) rows
    → Reaches s (words ++ given_words word g) (used_value a (given_value g) rows)
unfolding walked walk_fault
reaches_option s a word name is words rows r absent plain passes =
    reaches_on s words [] rows rows r.left r.pending r refl refl r.rows_are r.settles
reaches_option s a word name is words rows r (joined x xs) plain passes =
    reaches_on s words ((word ++ 61 ∷ x ∷ xs) ∷ []) rows (used a ((x ∷ xs) ∷ []) rows) (used a ((x ∷ xs) ∷ []) (settled_rows s.rules r.pending r.left)) None r
    (simp (is.dashes_joined (x ∷ xs), is.long_joined (x ∷ xs), is.by_long, is.takes) refl)
    (simp (is.dashes_joined (x ∷ xs), is.long_joined (x ∷ xs), is.by_long, is.takes, r.settles, r.rows_are, passes) refl)
    (ap (used a ((x ∷ xs) ∷ [])) r.rows_are) refl
reaches_option s a word name is words rows r (apart x xs) plain passes =
    reaches_on s words (word ∷ (x ∷ xs) ∷ []) rows (used a ((x ∷ xs) ∷ []) rows) (settled_rows s.rules r.pending r.left) (Some (a.id, (x ∷ xs) ∷ [])) r
    (simp (is.dashes, is.long, is.by_long, is.by_id, is.one, is.same, plain) refl)
    (simp (is.dashes, is.long, is.by_long, is.one, plain, r.settles) refl)
    (simp (is.by_id, r.rows_are) refl)
    (simp (is.by_id, r.rows_are, passes) refl)

-- ---- the end of the arguments

-- the errors of the subcommand at the end of the arguments
abbrev pub end_fault : Shape → List Row → Kinds
end_fault s rows = or_else (defaults_fault rows s.rules) (check_fault s (fold with_default rows s.rules) false)

-- the rows of the subcommand's matches: those given, and defaults for the options left out
pub reaches_rows : (s : Shape) (words : List Text) (rows : List Row) → Reaches s words rows → rows_after s.rules [] words ≡ fold with_default rows s.rules
reaches_rows s words rows r =
    ap (λ (w : Walk). fold with_default (settled_rows s.rules w.held.pending w.held.rows) s.rules) r.walk_is
    ∙ ap (λ (q : List Row). fold with_default q s.rules) r.rows_are

pub reaches_good : (s : Shape) (words : List Text) (rows : List Row) → Reaches s words rows → end_fault s rows ≡ [] → level_fault s [] nothing_held words false [] ≡ []
reaches_good s words rows r good =
    ap (λ (w : Walk). or_else (walk_fault s [] (walk_from nothing_held) words) (or_else (settle_fault s.rules s.args_override_self w.held)
    (end_fault s (settled_rows s.rules w.held.pending w.held.rows)))) r.walk_is
    ∙ ap (λ (k : Kinds). or_else k (or_else (settle_fault s.rules s.args_override_self (between r.left r.pending).held) (end_fault s (settled_rows s.rules r.pending r.left)))) r.quiet
    ∙ ap (λ (k : Kinds). or_else k (end_fault s (settled_rows s.rules r.pending r.left))) r.settles
    ∙ ap (end_fault s) r.rows_are ∙ good
