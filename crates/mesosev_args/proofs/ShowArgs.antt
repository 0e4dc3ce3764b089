-- Arguments of `show` in the usual spelling are accepted, and give the values that they name.
use Rattle.std.proofs.Common.{◌≡◌, ◌++◌, ◌∙◌, ap, append_assoc, subst, sym, ℕ, List, [], ◌∷◌, Option, Some, None, Bool, true, false, refl}
use Rattle.std.specs.Prelude.{codes, fold}
use Rattle.clap.specs.Faults.{use_fault}
use Rattle.clap.specs.Words.{Row, Rule, Text, one_of}
use Rattle.clap.specs.Simple.{Shape, built, filled, filled_from, help_rule, version_rule}
use Rattle.clap.specs.Walk.{with_default}
use Rattle.clap.proofs.OnLiterals.{clap_on_literals}
use Rattle.mesosev_args.specs.CommandLine.{command_app, calls_rule, chunked_rule, json_rule, limit_rule, lines_rule}
use Rattle.mesosev_args.specs.NamedOptions.{SayShow}
use Rattle.mesosev_args.specs.OptionValues.{HasFlag, HasFraming, HasLimit, IsLimit}
use Rattle.mes_stream.specs.declared.stream_reader.Framing.{Framing}
use Rattle.mes_stream.specs.declared.stream_reader.Framing.TheVariants.{Plain, Chunked, Lines}
use Rattle.mesosev_args.proofs.JsonFlag.{json_is, json_said, json_words, reaches_json, rows_json}
use Rattle.mesosev_args.proofs.OptionArgs.{SaysLimit, HasFlagTexts, flags_are, has_flag, has_framing, has_number, input_is, input_words, limit_is, limit_parser, limit_usable, reaches_input, read_plain, read_value, rows_input, rows_limit, says_limit, set_text, usual_limit, value_or}
use Rattle.mesosev_args.proofs.Subcommands.{IsSubcommand, leaf_shape}
use Rattle.mesosev_args.proofs.ParsedArgs.{Takes, takes_words}
use Rattle.mesosev_args.proofs.Walks.{Reaches, end_fault, given_value, given_words, reaches_option}

-- the rules of the subcommand's arguments, as clap builds them
abbrev rules : List Rule
rules = filled_from 1 (chunked_rule ∷ lines_rule ∷ calls_rule ∷ limit_rule ∷ json_rule ∷ help_rule ∷ version_rule ∷ [])

abbrev shape : Shape
shape = leaf_shape (codes "show") rules

show_is : IsSubcommand (built command_app) (codes "show") shape
show_is = record { met = refl; found = refl; other = refl }

-- the rows of the matches after all arguments
abbrev rows_said : Framing → Bool → Option Text → Bool → List Row
rows_said framing calls v json = rows_json json (rows_limit framing calls v)

abbrev rows_end : Framing → Bool → Option Text → Bool → List Row
rows_end framing calls v json = fold with_default (rows_said framing calls v json) rules

abbrev HasTexts : List Row → Framing → Bool → Option Text → Option Text → Type 0
HasTexts rows framing calls limit json = HasFlagTexts rows framing calls × (one_of (codes "limit") rows ≡ limit) × (one_of (codes "json") rows ≡ json)

texts : (framing : Framing) (calls : Bool) (v : Option Text) (json : Bool)
    → HasTexts (rows_end framing calls v json) framing calls (value_or usual_limit (read_value v)) (set_text json)
texts Plain false None false = ((refl, refl, refl), refl, refl)
texts Plain false None true = ((refl, refl, refl), refl, refl)
texts Plain false (Some v) false = ((refl, refl, refl), refl, refl)
texts Plain false (Some v) true = ((refl, refl, refl), refl, refl)
texts Plain true None false = ((refl, refl, refl), refl, refl)
texts Plain true None true = ((refl, refl, refl), refl, refl)
texts Plain true (Some v) false = ((refl, refl, refl), refl, refl)
texts Plain true (Some v) true = ((refl, refl, refl), refl, refl)
texts Chunked false None false = ((refl, refl, refl), refl, refl)
texts Chunked false None true = ((refl, refl, refl), refl, refl)
texts Chunked false (Some v) false = ((refl, refl, refl), refl, refl)
texts Chunked false (Some v) true = ((refl, refl, refl), refl, refl)
texts Chunked true None false = ((refl, refl, refl), refl, refl)
texts Chunked true None true = ((refl, refl, refl), refl, refl)
texts Chunked true (Some v) false = ((refl, refl, refl), refl, refl)
texts Chunked true (Some v) true = ((refl, refl, refl), refl, refl)
texts Lines false None false = ((refl, refl, refl), refl, refl)
texts Lines false None true = ((refl, refl, refl), refl, refl)
texts Lines false (Some v) false = ((refl, refl, refl), refl, refl)
texts Lines false (Some v) true = ((refl, refl, refl), refl, refl)
texts Lines true None false = ((refl, refl, refl), refl, refl)
texts Lines true None true = ((refl, refl, refl), refl, refl)
texts Lines true (Some v) false = ((refl, refl, refl), refl, refl)
texts Lines true (Some v) true = ((refl, refl, refl), refl, refl)

good_end : (framing : Framing) (calls : Bool) (v : Option Text) (json : Bool) → end_fault shape (rows_said framing calls v json) ≡ []
unfolding clap_on_literals
good_end Plain false None false = refl
good_end Plain false None true = refl
good_end Plain false (Some v) false = refl
good_end Plain false (Some v) true = refl
good_end Plain true None false = refl
good_end Plain true None true = refl
good_end Plain true (Some v) false = refl
good_end Plain true (Some v) true = refl
good_end Chunked false None false = refl
good_end Chunked false None true = refl
good_end Chunked false (Some v) false = refl
good_end Chunked false (Some v) true = refl
good_end Chunked true None false = refl
good_end Chunked true None true = refl
good_end Chunked true (Some v) false = refl
good_end Chunked true (Some v) true = refl
good_end Lines false None false = refl
good_end Lines false None true = refl
good_end Lines false (Some v) false = refl
good_end Lines false (Some v) true = refl
good_end Lines true None false = refl
good_end Lines true None true = refl
good_end Lines true (Some v) false = refl
good_end Lines true (Some v) true = refl

-- the flag may follow the other arguments
json_usable : (framing : Framing) (calls : Bool) (v : Option Text) → use_fault false (filled json_rule) [] (rows_limit framing calls v) ≡ []
json_usable Plain false None = refl
json_usable Plain false (Some v) = refl
json_usable Plain true None = refl
json_usable Plain true (Some v) = refl
json_usable Chunked false None = refl
json_usable Chunked false (Some v) = refl
json_usable Chunked true None = refl
json_usable Chunked true (Some v) = refl
json_usable Lines false None = refl
json_usable Lines false (Some v) = refl
json_usable Lines true None = refl
json_usable Lines true (Some v) = refl

-- clap accepts the arguments, and the matches have these values
pub record SaidShow (words : List Text) (framing : Framing) (limit : ℕ) (json calls : Bool) : Type 0 where
  pub rows : List Row
  pub takes : Takes words (codes "show") rows
  pub framing_has : HasFraming rows framing
  pub limit_has : HasLimit rows limit
  pub json_has : HasFlag (codes "json") rows json
  pub calls_has : HasFlag (codes "calls") rows calls

pub said_show : (words : List Text) (framing : Framing) (limit : ℕ) (json calls : Bool) → SayShow words framing limit json calls → IsLimit limit
    → SaidShow words framing limit json calls
said_show words framing limit json calls (program, flags, limits, lines, flag, says, line, spelt) range =
    let s : SaysLimit limits limit = says_limit limits limit says range in
    let v = given_value s.given in
    let t = texts framing calls v json in
    let front = input_words framing calls in
    let middle = given_words (codes "--limit") s.given in
    let back = json_words json in
    let rows = rows_end framing calls v json in
    let reaches : Reaches shape ((front ++ middle) ++ back) (rows_said framing calls v json) =
    reaches_json shape (json_is rules refl) (front ++ middle) (rows_limit framing calls v) json
    (reaches_option shape (filled limit_rule) (codes "--limit") (codes "limit") (limit_is rules refl refl) front (rows_input framing calls)
    (reaches_input shape (flags_are rules refl refl refl) framing calls) s.given s.plain (limit_usable framing calls v s.fits)) (json_usable framing calls v) in
    let same : words ≡ program ∷ codes "show" ∷ ((front ++ middle) ++ back) =
    spelt ∙ ap (λ (f : List Text). program ∷ codes "show" ∷ (f ++ (limits ++ lines))) (input_is framing calls flags flag)
    ∙ ap (λ (l : List Text). program ∷ codes "show" ∷ (front ++ (l ++ lines))) s.is
    ∙ ap (λ (l : List Text). program ∷ codes "show" ∷ (front ++ (middle ++ l))) (json_said json lines line)
    ∙ ap (λ (l : List Text). program ∷ codes "show" ∷ l) (sym (append_assoc front middle back)) in
    record {
      rows = rows;
      takes = subst (λ (w : List Text). Takes w (codes "show") rows) (sym same)
          (takes_words program (codes "show") shape show_is ((front ++ middle) ++ back) (rows_said framing calls v json) reaches (good_end framing calls v json));
      framing_has = has_framing framing calls rows t.0;
      limit_has = has_number (one_of (codes "limit") rows) (codes "--limit") usual_limit limit_parser limits limit s (t.1 ∙ ap (value_or usual_limit) (read_plain v s.plain));
      json_has = has_flag (codes "json") rows json t.2;
      calls_has = has_flag (codes "calls") rows calls t.0.2;
    }
