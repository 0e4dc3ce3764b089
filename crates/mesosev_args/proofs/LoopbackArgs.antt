-- Arguments of `loopback` in the usual spelling are accepted, and give the value that they name.
use Rattle.std.proofs.Common.{◌≡◌, ◌∙◌, ap, subst, sym, ℕ, List, [], ◌∷◌, Option, Some, None, false, refl, arith}
use Rattle.std.specs.Prelude.{codes, fold}
use Rattle.clap.specs.Words.{Row, Rule, Text, one_of}
use Rattle.clap.specs.Simple.{Shape, built, filled, filled_from, help_rule, version_rule}
use Rattle.clap.specs.Walk.{with_default}
use Rattle.clap.proofs.OnLiterals.{clap_on_literals}
use Rattle.mesosev_args.specs.CommandLine.{command_app, most_rule, usually}
use Rattle.mesosev_args.specs.NamedOptions.{SayLoopback}
use Rattle.mesosev_args.specs.OptionValues.{HasNumber, IsMost}
use Rattle.mes_frame.specs.declared.limits.TheConstants.{MIN_CHUNK, MAX_CHUNK}
use Rattle.mesosev_args.specs.declared.args.TheConstants.{DEFAULT_LOOPBACK_CHUNK}
use Rattle.mesosev_args.proofs.OptionArgs.{Fits, Says, has_number, most_parser, read_plain, read_value, says_usually, value_or}
use Rattle.mesosev_args.proofs.Subcommands.{IsSubcommand, leaf_shape}
use Rattle.mesosev_args.proofs.ParsedArgs.{Takes, takes_words}
use Rattle.mesosev_args.proofs.Walks.{IsOption, IsUsable, Reaches, end_fault, given_value, given_words, reaches_option, reaches_start, used_value}

abbrev rule : Rule
rule = usually DEFAULT_LOOPBACK_CHUNK.now most_rule

-- the rules of the subcommand's arguments, as clap builds them
abbrev rules : List Rule
rules = filled_from 1 (rule ∷ help_rule ∷ version_rule ∷ [])

abbrev shape : Shape
shape = leaf_shape (codes "loopback") rules

loopback_is : IsSubcommand (built command_app) (codes "loopback") shape
loopback_is = record { met = refl; found = refl; other = refl }

most_is : IsOption rules (filled rule) (codes "--most") (codes "most")
most_is = record { dashes = refl; long = refl; dashes_joined = λ v. refl; long_joined = λ v. refl; by_long = refl; by_id = refl; same = refl; takes = refl; one = refl }

abbrev rows_said : Option Text → List Row
rows_said v = used_value (filled rule) v []

abbrev rows_end : Option Text → List Row
rows_end v = fold with_default (rows_said v) rules

usable : (v : Option Text) → Fits most_parser v → IsUsable false (filled rule) v []
usable None fits = tt
usable (Some v) fits = simp fits refl

abbrev usual : Option Text
usual = Some DEFAULT_LOOPBACK_CHUNK.now

texts : (v : Option Text) → one_of (codes "most") (rows_end v) ≡ value_or usual (read_value v)
texts None = refl
texts (Some v) = refl

good_end : (v : Option Text) → end_fault shape (rows_said v) ≡ []
unfolding clap_on_literals
good_end None = refl
good_end (Some v) = refl

-- clap accepts the arguments, and the matches have this value
pub record SaidLoopback (words : List Text) (most : ℕ) : Type 0 where
  pub rows : List Row
  pub takes : Takes words (codes "loopback") rows
  pub most_has : HasNumber (codes "most") rows most

pub said_loopback : (words : List Text) (most : ℕ) → SayLoopback words most → IsMost (Some most) → SaidLoopback words most
said_loopback words most (program, sizes, says, spelt) range =
    let s : Says (codes "--most") usual most_parser sizes most = says_usually MIN_CHUNK MAX_CHUNK (omega arith) (codes "--most") DEFAULT_LOOPBACK_CHUNK.now sizes most says range in
    let v = given_value s.given in
    let reaches : Reaches shape (given_words (codes "--most") s.given) (rows_said v) =
    reaches_option shape (filled rule) (codes "--most") (codes "most") most_is [] [] (reaches_start shape) s.given s.plain (usable v s.fits) in
    let same : words ≡ program ∷ codes "loopback" ∷ given_words (codes "--most") s.given = spelt ∙ ap (λ (l : List Text). program ∷ codes "loopback" ∷ l) s.is in
    record {
      rows = rows_end v;
      takes = subst (λ (w : List Text). Takes w (codes "loopback") (rows_end v)) (sym same)
          (takes_words program (codes "loopback") shape loopback_is (given_words (codes "--most") s.given) (rows_said v) reaches (good_end v));
      most_has = has_number (one_of (codes "most") (rows_end v)) (codes "--most") usual most_parser sizes most s (texts v ∙ ap (value_or usual) (read_plain v s.plain));
    }
