-- The arguments up to a subcommand's name in clap's model. The arguments after the name belong to
-- the subcommand.
use Rattle.std.proofs.Common.{◌≡◌, ◌++◌, ◌∙◌, ap, append_assoc, append-nil, sym, List, [], ◌∷◌, Some, false, true, refl}
use Rattle.std.specs.Prelude.{◌&&◌, codes, find, fold, not}
use Rattle.std.specs.Str.{bytes_eq}
use Rattle.clap.specs.Words.{App, Rule, Text}
use Rattle.clap.specs.Faults.{built_fault, check_fault, defaults_fault, level_fault, walk_fault}
use Rattle.clap.specs.Kinds.{Kinds, or_else}
use Rattle.clap.specs.Simple.{Shape, entered, label_of, names_of, new_shape}
use Rattle.clap.specs.Walk.{Names, Walk, answers_to, idle, nothing_held, rows_after, subcommand_met, walk, walk_from, walked, with_default}

passed_on : (c : List Rule) (names : Names) (w : Walk) (p : Text × List Text) (rest : List Text)
    → fold (walked c names) (record w { stopped = Some p }) rest ≡ record w { stopped = Some (p.0, p.1 ++ rest) }
unfolding walked
passed_on c names w p [] = ap (λ (t : List Text). record w { stopped = Some (p.0, t) }) (sym (append-nil p.1))
passed_on c names w p (word ∷ rest) =
    passed_on c names w (p.0, p.1 ++ word ∷ []) rest ∙ ap (λ (t : List Text). record w { stopped = Some (p.0, t) }) (append_assoc p.1 (word ∷ []) rest)

quiet_on : (s : Shape) (names : Names) (w : Walk) (p : Text × List Text) (rest : List Text) → walk_fault s names (record w { stopped = Some p }) rest ≡ []
unfolding walked walk_fault
quiet_on s names w p [] = refl
quiet_on s names w p (word ∷ rest) = quiet_on s names w (p.0, p.1 ++ word ∷ []) rest

-- the state of the walk over the arguments after the subcommand's name
abbrev met : Text → List Text → Walk
met name rest = record { held = nothing_held; waiting = idle; position = 1; is_trailing = false; stopped = Some (name, rest) }

-- a subcommand with these rules of arguments, as clap builds it, with the version of `mesosev`
abbrev pub leaf_shape : Text → List Rule → Shape
leaf_shape name rules = record (new_shape name) { rules = rules; disable_help_subcommand = true; is_built = true; propagate_version = true; has_version = true }

-- the name is that of this subcommand of a command that clap has built
pub record IsSubcommand (b : App) (name : Text) (s : Shape) : Type 0 where
  pub met : subcommand_met (names_of b) idle name ≡ Some name
  pub found : find (λ s. answers_to name (label_of s)) b.subs ≡ Some s
  pub other : (bytes_eq name (codes "help") && not b.top.disable_help_subcommand) ≡ false

module _ (b : App) (name : Text) (s : Shape) (is : IsSubcommand b name s) (rest : List Text) where
  top_walk : walk b.top.rules (names_of b) nothing_held (name ∷ rest) ≡ met name rest
  unfolding walked
  top_walk = simp (is.met) (passed_on b.top.rules (names_of b) (met name []) (name, []) rest)

  top_quiet : walk_fault b.top (names_of b) (walk_from nothing_held) (name ∷ rest) ≡ []
  unfolding walked walk_fault
  top_quiet = simp (is.met, is.other) (quiet_on b.top (names_of b) (met name []) (name, []) rest)

  -- the matches are those of the arguments after the subcommand's name
  pub rows_behind : entered b (walk b.top.rules (names_of b) nothing_held (name ∷ rest)).stopped ≡ Some (s.name, rows_after s.rules [] rest)
  rows_behind = ap (λ (w : Walk). entered b w.stopped) top_walk ∙ simp (is.found) refl

  -- the errors of the command itself at the end of the arguments
  abbrev pub top_end : Kinds
  top_end = or_else (defaults_fault [] b.top.rules) (check_fault b.top (fold with_default [] b.top.rules) true)

  -- if the subcommand accepts the arguments after its name, the command accepts all arguments
  pub taken_behind : level_fault s [] nothing_held rest false [] ≡ [] → top_end ≡ [] → built_fault b nothing_held (name ∷ rest) ≡ []
  taken_behind good ends = simp (top_quiet, top_walk, is.found, good, ends) refl
