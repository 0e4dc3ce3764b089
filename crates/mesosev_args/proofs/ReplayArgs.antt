-- Arguments of `replay` in the usual spelling are accepted, and give the values that they name.
use Rattle.std.proofs.Common.{◌≡◌, ◌++◌, ◌∙◌, ap, subst, sym, ℕ, List, [], ◌∷◌, Option, Some, None, Bool, true, false, refl}
use Rattle.std.specs.Prelude.{codes, fold}
use Rattle.clap.specs.Faults.{use_fault}
use Rattle.clap.specs.Words.{Row, Rule, Text, one_of}
use Rattle.clap.specs.Simple.{Shape, built, filled, filled_from, help_rule, version_rule}
use Rattle.clap.specs.Walk.{with_default}
use Rattle.clap.proofs.OnLiterals.{clap_on_literals}
use Rattle.mesosev_args.specs.CommandLine.{command_app, json_rule, limit_rule}
use Rattle.mesosev_args.specs.NamedOptions.{SayReplay}
use Rattle.mesosev_args.specs.OptionValues.{HasFlag, HasLimit, IsLimit}
use Rattle.mesosev_args.proofs.JsonFlag.{json_is, json_said, json_words, reaches_json, rows_json}
use Rattle.mesosev_args.proofs.OptionArgs.{Fits, SaysLimit, has_flag, has_number, limit_is, limit_parser, read_plain, read_value, says_limit, set_text, usual_limit, value_or}
use Rattle.mesosev_args.proofs.Subcommands.{IsSubcommand, leaf_shape}
use Rattle.mesosev_args.proofs.ParsedArgs.{Takes, takes_words}
use Rattle.mesosev_args.proofs.Walks.{IsUsable, Reaches, end_fault, given_value, given_words, reaches_option, reaches_start, used_value}

-- the rules of the subcommand's arguments, as clap builds them
abbrev rules : List Rule
rules = filled_from 1 (limit_rule ∷ json_rule ∷ help_rule ∷ version_rule ∷ [])

abbrev shape : Shape
shape = leaf_shape (codes "replay") rules

replay_is : IsSubcommand (built command_app) (codes "replay") shape
replay_is = record { met = refl; found = refl; other = refl }

-- the rows of the matches after `--limit`, and after all arguments
abbrev rows_limit : Option Text → List Row
rows_limit v = used_value (filled limit_rule) v []

abbrev rows_said : Option Text → Bool → List Row
rows_said v json = rows_json json (rows_limit v)

abbrev rows_end : Option Text → Bool → List Row
rows_end v json = fold with_default (rows_said v json) rules

usable : (v : Option Text) → Fits limit_parser v → IsUsable false (filled limit_rule) v []
usable None fits = tt
usable (Some v) fits = simp fits refl

texts : (v : Option Text) (json : Bool) → (one_of (codes "limit") (rows_end v json) ≡ value_or usual_limit (read_value v)) × (one_of (codes "json") (rows_end v json) ≡ set_text json)
texts None false = (refl, refl)
texts None true = (refl, refl)
texts (Some v) false = (refl, refl)
texts (Some v) true = (refl, refl)

good_end : (v : Option Text) (json : Bool) → end_fault shape (rows_said v json) ≡ []
unfolding clap_on_literals
good_end None false = refl
good_end None true = refl
good_end (Some v) false = refl
good_end (Some v) true = refl

-- the flag may follow the other arguments
json_usable : (v : Option Text) → use_fault false (filled json_rule) [] (rows_limit v) ≡ []
json_usable None = refl
json_usable (Some v) = refl

-- clap accepts the arguments, and the matches have these values
pub record SaidReplay (words : List Text) (limit : ℕ) (json : Bool) : Type 0 where
  pub rows : List Row
  pub takes : Takes words (codes "replay") rows
  pub limit_has : HasLimit rows limit
  pub json_has : HasFlag (codes "json") rows json

pub said_replay : (words : List Text) (limit : ℕ) (json : Bool) → SayReplay words limit json → IsLimit limit → SaidReplay words limit json
said_replay words limit json (program, limits, lines, says, line, spelt) range =
    let s : SaysLimit limits limit = says_limit limits limit says range in
    let v = given_value s.given in
    let t = texts v json in
    let front = given_words (codes "--limit") s.given in
    let back = json_words json in
    let rows = rows_end v json in
    let reaches : Reaches shape (front ++ back) (rows_said v json) =
    reaches_json shape (json_is rules refl) front (rows_limit v) json
    (reaches_option shape (filled limit_rule) (codes "--limit") (codes "limit") (limit_is rules refl refl) [] []
    (reaches_start shape) s.given s.plain (usable v s.fits)) (json_usable v) in
    let same : words ≡ program ∷ codes "replay" ∷ (front ++ back) =
    spelt ∙ ap (λ (l : List Text). program ∷ codes "replay" ∷ (l ++ lines)) s.is
    ∙ ap (λ (l : List Text). program ∷ codes "replay" ∷ (front ++ l)) (json_said json lines line) in
    record {
      rows = rows;
      takes = subst (λ (w : List Text). Takes w (codes "replay") rows) (sym same)
          (takes_words program (codes "replay") shape replay_is (front ++ back) (rows_said v json) reaches (good_end v json));
      limit_has = has_number (one_of (codes "limit") rows) (codes "--limit") usual_limit limit_parser limits limit s (t.0 ∙ ap (value_or usual_limit) (read_plain v s.plain));
      json_has = has_flag (codes "json") rows json t.1;
    }
