-- Arguments of `convert` in the usual spelling are accepted, and give the values that they name.
use Rattle.std.proofs.Common.{◌≡◌, ◌++◌, ◌∙◌, ap, append_assoc, subst, sym, ℕ, List, [], ◌∷◌, Option, Some, None, Bool, true, false, refl}
use Rattle.std.specs.Prelude.{codes, fold}
use Rattle.clap.specs.Faults.{use_fault}
use Rattle.clap.specs.Words.{Row, Rule, Text, one_of}
use Rattle.clap.specs.Simple.{Shape, built, filled, filled_from, help_rule, version_rule}
use Rattle.clap.specs.Walk.{with_default}
use Rattle.clap.proofs.OnLiterals.{clap_on_literals}
use Rattle.mesosev_args.specs.CommandLine.{command_app, calls_rule, chunked_rule, json_rule, limit_rule, lines_rule, most_rule}
use Rattle.mesosev_args.specs.NamedOptions.{SayConvert, json_in, most_in}
use Rattle.mesosev_args.specs.OptionValues.{HasFlag, HasFraming, HasLimit, HasMost, IsLimit, IsMost}
use Rattle.mes_stream.specs.declared.stream_reader.Framing.{Framing}
use Rattle.mes_stream.specs.declared.stream_reader.Framing.TheVariants.{Plain, Chunked, Lines}
use Rattle.mesosev_stream.specs.declared.conversion.OutputFormat.{OutputFormat}
use Rattle.mesosev_args.proofs.JsonFlag.{json_is, json_said, json_words, reaches_json, rows_json}
use Rattle.mesosev_args.proofs.OptionArgs.{Fits, SaysLimit, SaysMost, HasFlagTexts, flags_are, has_flag, has_framing, has_most, has_number, input_is, input_words, limit_is, limit_parser, limit_usable, most_parser, reaches_input, read_plain, read_value, rows_input, rows_limit, says_limit, says_most, set_text, usual_limit, value_or}
use Rattle.mesosev_args.proofs.Subcommands.{IsSubcommand, leaf_shape}
use Rattle.mesosev_args.proofs.ParsedArgs.{Takes, takes_words}
use Rattle.mesosev_args.proofs.Walks.{IsOption, IsUsable, Reaches, end_fault, given_value, given_words, reaches_option, used_value}

-- the rules of the subcommand's arguments, as clap builds them
abbrev rules : List Rule
rules = filled_from 1 (chunked_rule ∷ lines_rule ∷ calls_rule ∷ limit_rule ∷ most_rule ∷ json_rule ∷ help_rule ∷ version_rule ∷ [])

abbrev shape : Shape
shape = leaf_shape (codes "convert") rules

most_is : IsOption rules (filled most_rule) (codes "--most") (codes "most")
most_is = record { dashes = refl; long = refl; dashes_joined = λ v. refl; long_joined = λ v. refl; by_long = refl; by_id = refl; same = refl; takes = refl; one = refl }

convert_is : IsSubcommand (built command_app) (codes "convert") shape
convert_is = record { met = refl; found = refl; other = refl }

most_usable : (framing : Framing) (calls : Bool) (v w : Option Text) → Fits most_parser w → IsUsable false (filled most_rule) w (rows_limit framing calls v)
most_usable framing calls v None fits = tt
most_usable Plain false None (Some w) fits = simp fits refl
most_usable Plain false (Some v) (Some w) fits = simp fits refl
most_usable Plain true None (Some w) fits = simp fits refl
most_usable Plain true (Some v) (Some w) fits = simp fits refl
most_usable Chunked false None (Some w) fits = simp fits refl
most_usable Chunked false (Some v) (Some w) fits = simp fits refl
most_usable Chunked true None (Some w) fits = simp fits refl
most_usable Chunked true (Some v) (Some w) fits = simp fits refl
most_usable Lines false None (Some w) fits = simp fits refl
most_usable Lines false (Some v) (Some w) fits = simp fits refl
most_usable Lines true None (Some w) fits = simp fits refl
most_usable Lines true (Some v) (Some w) fits = simp fits refl

-- the rows of the matches after `--most`, and after all arguments
abbrev rows_most : Framing → Bool → Option Text → Option Text → List Row
rows_most framing calls v w = used_value (filled most_rule) w (rows_limit framing calls v)

abbrev rows_said : Framing → Bool → Option Text → Option Text → Bool → List Row
rows_said framing calls v w json = rows_json json (rows_most framing calls v w)

abbrev rows_end : Framing → Bool → Option Text → Option Text → Bool → List Row
rows_end framing calls v w json = fold with_default (rows_said framing calls v w json) rules

abbrev HasTexts : List Row → Framing → Bool → Option Text → Option Text → Option Text → Type 0
HasTexts rows framing calls limit most json =
    HasFlagTexts rows framing calls × (one_of (codes "limit") rows ≡ limit) × (one_of (codes "most") rows ≡ most) × (one_of (codes "json") rows ≡ json)

texts : (framing : Framing) (calls : Bool) (v w : Option Text) (json : Bool)
    → HasTexts (rows_end framing calls v w json) framing calls (value_or usual_limit (read_value v)) (read_value w) (set_text json)
texts Plain false None None false = ((refl, refl, refl), refl, refl, refl)
texts Plain false None None true = ((refl, refl, refl), refl, refl, refl)
texts Plain false None (Some w) false = ((refl, refl, refl), refl, refl, refl)
texts Plain false None (Some w) true = ((refl, refl, refl), refl, refl, refl)
texts Plain false (Some v) None false = ((refl, refl, refl), refl, refl, refl)
texts Plain false (Some v) None true = ((refl, refl, refl), refl, refl, refl)
texts Plain false (Some v) (Some w) false = ((refl, refl, refl), refl, refl, refl)
texts Plain false (Some v) (Some w) true = ((refl, refl, refl), refl, refl, refl)
texts Plain true None None false = ((refl, refl, refl), refl, refl, refl)
texts Plain true None None true = ((refl, refl, refl), refl, refl, refl)
texts Plain true None (Some w) false = ((refl, refl, refl), refl, refl, refl)
texts Plain true None (Some w) true = ((refl, refl, refl), refl, refl, refl)
texts Plain true (Some v) None false = ((refl, refl, refl), refl, refl, refl)
texts Plain true (Some v) None true = ((refl, refl, refl), refl, refl, refl)
texts Plain true (Some v) (Some w) false = ((refl, refl, refl), refl, refl, refl)
texts Plain true (Some v) (Some w) true = ((refl, refl, refl), refl, refl, refl)
texts Chunked false None None false = ((refl, refl, refl), refl, refl, refl)
texts Chunked false None None true = ((refl, refl, refl), refl, refl, refl)
texts Chunked false None (Some w) false = ((refl, refl, refl), refl, refl, refl)
texts Chunked false None (Some w) true = ((refl, refl, refl), refl, refl, refl)
texts Chunked false (Some v) None false = ((refl, refl, refl), refl, refl, refl)
texts Chunked false (Some v) None true = ((refl, refl, refl), refl, refl, refl)
texts Chunked false (Some v) (Some w) false = ((refl, refl, refl), refl, refl, refl)
texts Chunked false (Some v) (Some w) true = ((refl, refl, refl), refl, refl, refl)
texts Chunked true None None false = ((refl, refl, refl), refl, refl, refl)
texts Chunked true None None true = ((refl, refl, refl), refl, refl, refl)
texts Chunked true None (Some w) false = ((refl, refl, refl), refl, refl, refl)
texts Chunked true None (Some w) true = ((refl, refl, refl), refl, refl, refl)
texts Chunked true (Some v) None false = ((refl, refl, refl), refl, refl, refl)
texts Chunked true (Some v) None true = ((refl, refl, refl), refl, refl, refl)
texts Chunked true (Some v) (Some w) false = ((refl, refl, refl), refl, refl, refl)
texts Chunked true (Some v) (Some w) true = ((refl, refl, refl), refl, refl, refl)
texts Lines false None None false = ((refl, refl, refl), refl, refl, refl)
texts Lines false None None true = ((refl, refl, refl), refl, refl, refl)
texts Lines false None (Some w) false = ((refl, refl, refl), refl, refl, refl)
texts Lines false None (Some w) true = ((refl, refl, refl), refl, refl, refl)
texts Lines false (Some v) None false = ((refl, refl, refl), refl, refl, refl)
texts Lines false (Some v) None true = ((refl, refl, refl), refl, refl, refl)
texts Lines false (Some v) (Some w) false = ((refl, refl, refl), refl, refl, refl)
texts Lines false (Some v) (Some w) true = ((refl, refl, refl), refl, refl, refl)
texts Lines true None None false = ((refl, refl, refl), refl, refl, refl)
texts Lines true None None true = ((refl, refl, refl), refl, refl, refl)
texts Lines true None (Some w) false = ((refl, refl, refl), refl, refl, refl)
texts Lines true None (Some w) true = ((refl, refl, refl), refl, refl, refl)
texts Lines true (Some v) None false = ((refl, refl, refl), refl, refl, refl)
texts Lines true (Some v) None true = ((refl, refl, refl), refl, refl, refl)
texts Lines true (Some v) (Some w) false = ((refl, refl, refl), refl, refl, refl)
texts Lines true (Some v) (Some w) true = ((refl, refl, refl), refl, refl, refl)

good_end : (framing : Framing) (calls : Bool) (v w : Option Text) (json : Bool) → end_fault shape (rows_said framing calls v w json) ≡ []
unfolding clap_on_literals
good_end Plain false None None false = refl
good_end Plain false None None true = refl
good_end Plain false None (Some w) false = refl
good_end Plain false None (Some w) true = refl
good_end Plain false (Some v) None false = refl
good_end Plain false (Some v) None true = refl
good_end Plain false (Some v) (Some w) false = refl
good_end Plain false (Some v) (Some w) true = refl
good_end Plain true None None false = refl
good_end Plain true None None true = refl
good_end Plain true None (Some w) false = refl
good_end Plain true None (Some w) true = refl
good_end Plain true (Some v) None false = refl
good_end Plain true (Some v) None true = refl
good_end Plain true (Some v) (Some w) false = refl
good_end Plain true (Some v) (Some w) true = refl
good_end Chunked false None None false = refl
good_end Chunked false None None true = refl
good_end Chunked false None (Some w) false = refl
good_end Chunked false None (Some w) true = refl
good_end Chunked false (Some v) None false = refl
good_end Chunked false (Some v) None true = refl
good_end Chunked false (Some v) (Some w) false = refl
good_end Chunked false (Some v) (Some w) true = refl
good_end Chunked true None None false = refl
good_end Chunked true None None true = refl
good_end Chunked true None (Some w) false = refl
good_end Chunked true None (Some w) true = refl
good_end Chunked true (Some v) None false = refl
good_end Chunked true (Some v) None true = refl
good_end Chunked true (Some v) (Some w) false = refl
good_end Chunked true (Some v) (Some w) true = refl
good_end Lines false None None false = refl
good_end Lines false None None true = refl
good_end Lines false None (Some w) false = refl
good_end Lines false None (Some w) true = refl
good_end Lines false (Some v) None false = refl
good_end Lines false (Some v) None true = refl
good_end Lines false (Some v) (Some w) false = refl
good_end Lines false (Some v) (Some w) true = refl
good_end Lines true None None false = refl
good_end Lines true None None true = refl
good_end Lines true None (Some w) false = refl
good_end Lines true None (Some w) true = refl
good_end Lines true (Some v) None false = refl
good_end Lines true (Some v) None true = refl
good_end Lines true (Some v) (Some w) false = refl
good_end Lines true (Some v) (Some w) true = refl

-- `--json` may follow the other arguments
json_usable : (framing : Framing) (calls : Bool) (v w : Option Text) → use_fault false (filled json_rule) [] (rows_most framing calls v w) ≡ []
json_usable Plain false None None = refl
json_usable Plain false None (Some w) = refl
json_usable Plain false (Some v) None = refl
json_usable Plain false (Some v) (Some w) = refl
json_usable Plain true None None = refl
json_usable Plain true None (Some w) = refl
json_usable Plain true (Some v) None = refl
json_usable Plain true (Some v) (Some w) = refl
json_usable Chunked false None None = refl
json_usable Chunked false None (Some w) = refl
json_usable Chunked false (Some v) None = refl
json_usable Chunked false (Some v) (Some w) = refl
json_usable Chunked true None None = refl
json_usable Chunked true None (Some w) = refl
json_usable Chunked true (Some v) None = refl
json_usable Chunked true (Some v) (Some w) = refl
json_usable Lines false None None = refl
json_usable Lines false None (Some w) = refl
json_usable Lines false (Some v) None = refl
json_usable Lines false (Some v) (Some w) = refl
json_usable Lines true None None = refl
json_usable Lines true None (Some w) = refl
json_usable Lines true (Some v) None = refl
json_usable Lines true (Some v) (Some w) = refl

-- clap accepts the arguments, and the matches have these values
pub record SaidConvert (words : List Text) (framing : Framing) (limit : ℕ) (format : OutputFormat) (calls : Bool) : Type 0 where
  pub rows : List Row
  pub takes : Takes words (codes "convert") rows
  pub framing_has : HasFraming rows framing
  pub limit_has : HasLimit rows limit
  pub most_has : HasMost rows (most_in format)
  pub json_has : HasFlag (codes "json") rows (json_in format)
  pub calls_has : HasFlag (codes "calls") rows calls

pub said_convert : (words : List Text) (framing : Framing) (limit : ℕ) (format : OutputFormat) (calls : Bool) → SayConvert words framing limit format calls → IsLimit limit
    → IsMost (most_in format) → SaidConvert words framing limit format calls
said_convert words framing limit format calls (program, flags, limits, sizes, lines, flag, says, size, line, spelt) range size_range =
    let json = json_in format in
    let s : SaysLimit limits limit = says_limit limits limit says range in
    let m : SaysMost sizes (most_in format) = says_most sizes (most_in format) size size_range in
    let v = given_value s.given in
    let w = given_value m.given in
    let t = texts framing calls v w json in
    let front = input_words framing calls in
    let middle = given_words (codes "--limit") s.given in
    let back = given_words (codes "--most") m.given in
    let last = json_words json in
    let rows = rows_end framing calls v w json in
    let reaches : Reaches shape (((front ++ middle) ++ back) ++ last) (rows_said framing calls v w json) =
    reaches_json shape (json_is rules refl) ((front ++ middle) ++ back) (rows_most framing calls v w) json
    (reaches_option shape (filled most_rule) (codes "--most") (codes "most") most_is (front ++ middle) (rows_limit framing calls v)
    (reaches_option shape (filled limit_rule) (codes "--limit") (codes "limit") (limit_is rules refl refl) front (rows_input framing calls)
    (reaches_input shape (flags_are rules refl refl refl) framing calls) s.given s.plain (limit_usable framing calls v s.fits))
    m.given m.plain (most_usable framing calls v w m.fits)) (json_usable framing calls v w) in
    let same : words ≡ program ∷ codes "convert" ∷ (((front ++ middle) ++ back) ++ last) =
    spelt ∙ ap (λ (f : List Text). program ∷ codes "convert" ∷ (f ++ (limits ++ (sizes ++ lines)))) (input_is framing calls flags flag)
    ∙ ap (λ (l : List Text). program ∷ codes "convert" ∷ (front ++ (l ++ (sizes ++ lines)))) s.is
    ∙ ap (λ (l : List Text). program ∷ codes "convert" ∷ (front ++ (middle ++ (l ++ lines)))) m.is
    ∙ ap (λ (l : List Text). program ∷ codes "convert" ∷ (front ++ (middle ++ (back ++ l)))) (json_said json lines line)
    ∙ ap (λ (l : List Text). program ∷ codes "convert" ∷ l) (sym (append_assoc (front ++ middle) back last ∙ append_assoc front middle (back ++ last))) in
    record {
      rows = rows;
      takes = subst (λ (l : List Text). Takes l (codes "convert") rows) (sym same)
          (takes_words program (codes "convert") shape convert_is (((front ++ middle) ++ back) ++ last) (rows_said framing calls v w json) reaches (good_end framing calls v w json));
      framing_has = has_framing framing calls rows t.0;
      limit_has = has_number (one_of (codes "limit") rows) (codes "--limit") usual_limit limit_parser limits limit s (t.1 ∙ ap (value_or usual_limit) (read_plain v s.plain));
      most_has = has_most rows w (most_in format) (t.2 ∙ read_plain w m.plain) m.size;
      json_has = has_flag (codes "json") rows json t.3;
      calls_has = has_flag (codes "calls") rows calls t.0.2;
    }
