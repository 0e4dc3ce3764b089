-- Arguments of `relog`, which has `--limit` only, are accepted in the usual spelling, and give the
-- value that they name.
use Rattle.std.proofs.Common.{◌≡◌, ◌∙◌, ap, subst, sym, ℕ, List, [], ◌∷◌, Option, Some, None, false, refl}
use Rattle.std.specs.Prelude.{codes, fold}
use Rattle.clap.specs.Words.{Row, Rule, Text, one_of}
use Rattle.clap.specs.Simple.{Shape, built, filled, filled_from, help_rule, version_rule}
use Rattle.clap.specs.Walk.{with_default}
use Rattle.clap.proofs.OnLiterals.{clap_on_literals}
use Rattle.mesosev_args.specs.CommandLine.{command_app, limit_rule}
use Rattle.mesosev_args.specs.NamedOptions.{SayLog}
use Rattle.mesosev_args.specs.OptionValues.{HasLimit, IsLimit}
use Rattle.mesosev_args.proofs.OptionArgs.{Fits, SaysLimit, has_number, limit_is, limit_parser, read_plain, read_value, says_limit, usual_limit, value_or}
use Rattle.mesosev_args.proofs.Subcommands.{IsSubcommand, leaf_shape}
use Rattle.mesosev_args.proofs.ParsedArgs.{Takes, takes_words}
use Rattle.mesosev_args.proofs.Walks.{IsUsable, Reaches, end_fault, given_value, given_words, reaches_option, reaches_start, used_value}

-- the rules of the subcommand's arguments, as clap builds them
abbrev rules : List Rule
rules = filled_from 1 (limit_rule ∷ help_rule ∷ version_rule ∷ [])

abbrev pub log_shape : Text → Shape
log_shape name = leaf_shape name rules

abbrev rows_said : Option Text → List Row
rows_said v = used_value (filled limit_rule) v []

abbrev rows_end : Option Text → List Row
rows_end v = fold with_default (rows_said v) rules

usable : (v : Option Text) → Fits limit_parser v → IsUsable false (filled limit_rule) v []
usable None fits = tt
usable (Some v) fits = simp fits refl

texts : (v : Option Text) → one_of (codes "limit") (rows_end v) ≡ value_or usual_limit (read_value v)
texts None = refl
texts (Some v) = refl

good_end : (name : Text) (v : Option Text) → end_fault (log_shape name) (rows_said v) ≡ []
unfolding clap_on_literals
good_end name None = refl
good_end name (Some v) = refl

-- clap accepts the arguments, and the matches have this value
pub record SaidLog (words : List Text) (name : Text) (limit : ℕ) : Type 0 where
  pub rows : List Row
  pub takes : Takes words name rows
  pub limit_has : HasLimit rows limit

pub said_log : (name : Text) → IsSubcommand (built command_app) name (log_shape name) → (words : List Text) (limit : ℕ) → SayLog name words limit → IsLimit limit
    → SaidLog words name limit
said_log name is words limit (program, limits, says, spelt) range =
    let s : SaysLimit limits limit = says_limit limits limit says range in
    let v = given_value s.given in
    let reaches : Reaches (log_shape name) (given_words (codes "--limit") s.given) (rows_said v) =
    reaches_option (log_shape name) (filled limit_rule) (codes "--limit") (codes "limit") (limit_is rules refl refl) [] []
    (reaches_start (log_shape name)) s.given s.plain (usable v s.fits) in
    let same : words ≡ program ∷ name ∷ given_words (codes "--limit") s.given = spelt ∙ ap (λ (l : List Text). program ∷ name ∷ l) s.is in
    record {
      rows = rows_end v;
      takes = subst (λ (w : List Text). Takes w name (rows_end v)) (sym same)
          (takes_words program name (log_shape name) is (given_words (codes "--limit") s.given) (rows_said v) reaches (good_end name v));
      limit_has = has_number (one_of (codes "limit") (rows_end v)) (codes "--limit") usual_limit limit_parser limits limit s (texts v ∙ ap (value_or usual_limit) (read_plain v s.plain));
    }
