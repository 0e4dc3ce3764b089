-- Arguments of `check`, which has `--chunked`, `--lines`, `--calls` and `--limit`, are accepted in
-- the usual spelling, and give the values that they name.
use Rattle.std.proofs.Common.{◌≡◌, ◌++◌, ◌∙◌, ap, subst, sym, ℕ, List, [], ◌∷◌, Option, Some, None, Bool, true, false, refl}
use Rattle.std.specs.Prelude.{codes, fold}
use Rattle.clap.specs.Words.{Row, Rule, Text, one_of}
use Rattle.clap.specs.Simple.{Shape, built, filled, filled_from, help_rule, version_rule}
use Rattle.clap.specs.Walk.{with_default}
use Rattle.clap.proofs.OnLiterals.{clap_on_literals}
use Rattle.mesosev_args.specs.CommandLine.{command_app, calls_rule, chunked_rule, limit_rule, lines_rule}
use Rattle.mesosev_args.specs.NamedOptions.{SayReading}
use Rattle.mesosev_args.specs.OptionValues.{HasFlag, HasFraming, HasLimit, IsLimit}
use Rattle.mes_stream.specs.declared.stream_reader.Framing.{Framing}
use Rattle.mes_stream.specs.declared.stream_reader.Framing.TheVariants.{Plain, Chunked, Lines}
use Rattle.mesosev_args.proofs.OptionArgs.{SaysLimit, HasFlagTexts, flags_are, has_flag, has_framing, has_number, input_is, input_words, limit_is, limit_parser, limit_usable, reaches_input, read_plain, read_value, rows_input, rows_limit, says_limit, usual_limit, value_or}
use Rattle.mesosev_args.proofs.Subcommands.{IsSubcommand, leaf_shape}
use Rattle.mesosev_args.proofs.ParsedArgs.{Takes, takes_words}
use Rattle.mesosev_args.proofs.Walks.{Reaches, end_fault, given_value, given_words, reaches_option}

-- the rules of the subcommand's arguments, as clap builds them
abbrev rules : List Rule
rules = filled_from 1 (chunked_rule ∷ lines_rule ∷ calls_rule ∷ limit_rule ∷ help_rule ∷ version_rule ∷ [])

abbrev pub reading_shape : Text → Shape
reading_shape name = leaf_shape name rules

abbrev rows_end : Framing → Bool → Option Text → List Row
rows_end framing calls v = fold with_default (rows_limit framing calls v) rules

texts : (framing : Framing) (calls : Bool) (v : Option Text)
    → HasFlagTexts (rows_end framing calls v) framing calls × (one_of (codes "limit") (rows_end framing calls v) ≡ value_or usual_limit (read_value v))
texts Plain false None = ((refl, refl, refl), refl)
texts Plain false (Some v) = ((refl, refl, refl), refl)
texts Plain true None = ((refl, refl, refl), refl)
texts Plain true (Some v) = ((refl, refl, refl), refl)
texts Chunked false None = ((refl, refl, refl), refl)
texts Chunked false (Some v) = ((refl, refl, refl), refl)
texts Chunked true None = ((refl, refl, refl), refl)
texts Chunked true (Some v) = ((refl, refl, refl), refl)
texts Lines false None = ((refl, refl, refl), refl)
texts Lines false (Some v) = ((refl, refl, refl), refl)
texts Lines true None = ((refl, refl, refl), refl)
texts Lines true (Some v) = ((refl, refl, refl), refl)

good_end : (name : Text) (framing : Framing) (calls : Bool) (v : Option Text) → end_fault (reading_shape name) (rows_limit framing calls v) ≡ []
unfolding clap_on_literals
good_end name Plain false None = refl
good_end name Plain false (Some v) = refl
good_end name Plain true None = refl
good_end name Plain true (Some v) = refl
good_end name Chunked false None = refl
good_end name Chunked false (Some v) = refl
good_end name Chunked true None = refl
good_end name Chunked true (Some v) = refl
good_end name Lines false None = refl
good_end name Lines false (Some v) = refl
good_end name Lines true None = refl
good_end name Lines true (Some v) = refl

-- clap accepts the arguments, and the matches have these values
pub record SaidReading (words : List Text) (name : Text) (framing : Framing) (limit : ℕ) (calls : Bool) : Type 0 where
  pub rows : List Row
  pub takes : Takes words name rows
  pub framing_has : HasFraming rows framing
  pub limit_has : HasLimit rows limit
  pub calls_has : HasFlag (codes "calls") rows calls

pub said_reading : (name : Text) → IsSubcommand (built command_app) name (reading_shape name) → (words : List Text) (framing : Framing) (limit : ℕ) (calls : Bool)
    → SayReading name words framing limit calls → IsLimit limit → SaidReading words name framing limit calls
said_reading name is words framing limit calls (program, flags, limits, flag, says, spelt) range =
    let s : SaysLimit limits limit = says_limit limits limit says range in
    let v = given_value s.given in
    let t = texts framing calls v in
    let front = input_words framing calls in
    let back = given_words (codes "--limit") s.given in
    let rows = rows_end framing calls v in
    let reaches : Reaches (reading_shape name) (front ++ back) (rows_limit framing calls v) =
    reaches_option (reading_shape name) (filled limit_rule) (codes "--limit") (codes "limit") (limit_is rules refl refl) front (rows_input framing calls)
    (reaches_input (reading_shape name) (flags_are rules refl refl refl) framing calls) s.given s.plain (limit_usable framing calls v s.fits) in
    let same : words ≡ program ∷ name ∷ (front ++ back) =
    spelt ∙ ap (λ (f : List Text). program ∷ name ∷ (f ++ limits)) (input_is framing calls flags flag) ∙ ap (λ (l : List Text). program ∷ name ∷ (front ++ l)) s.is in
    record {
      rows = rows;
      takes = subst (λ (w : List Text). Takes w name rows) (sym same)
          (takes_words program name (reading_shape name) is (front ++ back) (rows_limit framing calls v) reaches (good_end name framing calls v));
      framing_has = has_framing framing calls rows t.0;
      limit_has = has_number (one_of (codes "limit") rows) (codes "--limit") usual_limit limit_parser limits limit s (t.1 ∙ ap (value_or usual_limit) (read_plain v s.plain));
      calls_has = has_flag (codes "calls") rows calls t.0.2;
    }
