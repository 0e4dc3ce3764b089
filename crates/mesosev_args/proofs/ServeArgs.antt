-- Arguments of `serve` in the usual spelling are accepted, and give the values that they name.
use Rattle.std.proofs.Common.{◌≡◌, ◌++◌, ◌∙◌, ap, append_assoc, subst, sym, ℕ, List, [], ◌∷◌, Option, Some, None, false, refl, arith, inl, inr}
use Rattle.std.specs.Prelude.{IsSomeAnd, codes, fold}
use Rattle.clap.specs.Words.{Row, Rule, Text, first_of, one_of}
use Rattle.clap.specs.Simple.{Shape, built, filled, filled_from, help_rule, version_rule}
use Rattle.clap.specs.Walk.{used, with_default}
use Rattle.clap.specs.declared.builder.value_parser.ValueParser.TheVariants as vp
use Rattle.clap.proofs.OnLiterals.{clap_on_literals}
use Rattle.uuid.specs.Text.{parsed}
use Rattle.mesosev_args.specs.CommandLine.{command_app, count_rule, port_rule, stream_rule}
use Rattle.mesosev_args.specs.NamedOptions.{SayServe, SayStream}
use Rattle.mesosev_args.specs.OptionValues.{HasNumber, HasStream, IsCount, IsPort}
use Rattle.mesosev_args.specs.declared.args.TheConstants.{MIN_CONNECTIONS, MAX_CONNECTIONS, MIN_PORT, MAX_PORT, DEFAULT_STREAM}
use Rattle.mesosev_args.proofs.OptionArgs.{Fits, Gives, Says, given_number, gives_number, gives_text, number_parser, reaches_given, read_value, says_number, value_or}
use Rattle.mesosev_args.proofs.Subcommands.{IsSubcommand, leaf_shape}
use Rattle.mesosev_args.proofs.ParsedArgs.{Takes, takes_words}
use Rattle.mesosev_args.proofs.Walks.{Given, IsNoFlag, IsOption, IsUsable, Reaches, absent, end_fault, given_value, given_words, reaches_option, reaches_start, used_value}

-- the rules of the subcommand's arguments, as clap builds them
abbrev rules : List Rule
rules = filled_from 1 (port_rule ∷ count_rule ∷ stream_rule ∷ help_rule ∷ version_rule ∷ [])

abbrev shape : Shape
shape = leaf_shape (codes "serve") rules

serve_is : IsSubcommand (built command_app) (codes "serve") shape
serve_is = record { met = refl; found = refl; other = refl }

port_is : IsOption rules (filled port_rule) (codes "--port") (codes "port")
port_is = record { dashes = refl; long = refl; dashes_joined = λ v. refl; long_joined = λ v. refl; by_long = refl; by_id = refl; same = refl; takes = refl; one = refl }

count_is : IsOption rules (filled count_rule) (codes "--count") (codes "count")
count_is = record { dashes = refl; long = refl; dashes_joined = λ v. refl; long_joined = λ v. refl; by_long = refl; by_id = refl; same = refl; takes = refl; one = refl }

stream_is : IsOption rules (filled stream_rule) (codes "--stream") (codes "stream")
stream_is = record { dashes = refl; long = refl; dashes_joined = λ v. refl; long_joined = λ v. refl; by_long = refl; by_id = refl; same = refl; takes = refl; one = refl }

-- ---- the rows of clap's matches, one for each option, after each option

abbrev rows_port : Text → List Row
rows_port p = used (filled port_rule) (p ∷ []) []

abbrev rows_count : Text → Text → List Row
rows_count p c = used (filled count_rule) (c ∷ []) (rows_port p)

abbrev rows_said : Text → Text → Option Text → List Row
rows_said p c v = used_value (filled stream_rule) v (rows_count p c)

abbrev rows_end : Text → Text → Option Text → List Row
rows_end p c v = fold with_default (rows_said p c v) rules

port_usable : (p : Text) → Fits (number_parser MIN_PORT MAX_PORT) (Some p) → IsUsable false (filled port_rule) (Some p) []
port_usable p fits = simp fits refl

count_usable : (p c : Text) → Fits (number_parser MIN_CONNECTIONS MAX_CONNECTIONS) (Some c) → IsUsable false (filled count_rule) (Some c) (rows_port p)
count_usable p c fits = simp fits refl

stream_usable : (p c : Text) (v : Option Text) → IsUsable false (filled stream_rule) v (rows_count p c)
stream_usable p c None = tt
stream_usable p c (Some v) = refl

abbrev HasTexts : List Row → Text → Text → Option Text → Type 0
HasTexts rows p c v = (one_of (codes "port") rows ≡ read_value (Some p)) × (one_of (codes "count") rows ≡ read_value (Some c))
    × (first_of (codes "stream") rows ≡ value_or (Some DEFAULT_STREAM.now) v)

texts : (p c : Text) (v : Option Text) → HasTexts (rows_end p c v) p c v
texts p c None = (refl, refl, refl)
texts p c (Some v) = (refl, refl, refl)

good_end : (p c : Text) (v : Option Text) → end_fault shape (rows_said p c v) ≡ []
unfolding clap_on_literals
good_end p c None = refl
good_end p c (Some v) = refl

-- ---- `--stream`

-- the arguments give `--stream` this id, or leave out the option for the default id
record SaysStream (words : List Text) (stream : List ℕ) : Type 0 where
  given : Given
  is : words ≡ given_words (codes "--stream") given
  plain : IsNoFlag (given_value given)
  parses : IsSomeAnd (value_or (Some DEFAULT_STREAM.now) (given_value given)) (λ text. parsed text ≡ Some stream)

says_stream : (words : List Text) (stream : List ℕ) → SayStream words stream → SaysStream words stream
says_stream words stream (inl (is, parses)) = record { given = absent; is = is; plain = tt; parses = parses }
says_stream words stream (inr (text, says, parses)) =
    let g : Gives (codes "--stream") vp.String words text = gives_text (codes "--stream") words text says in
    record {
      given = g.given;
      is = g.is;
      plain = subst IsNoFlag (sym g.value_is) g.plain;
      parses = subst (λ (v : Option Text). IsSomeAnd (value_or (Some DEFAULT_STREAM.now) v) (λ t. parsed t ≡ Some stream)) (sym g.value_is) parses;
    }

-- clap accepts the arguments, and the matches have these values
pub record SaidServe (words : List Text) (port count : ℕ) (stream : List ℕ) : Type 0 where
  pub rows : List Row
  pub takes : Takes words (codes "serve") rows
  pub port_has : HasNumber (codes "port") rows port
  pub count_has : HasNumber (codes "count") rows count
  pub stream_has : HasStream rows stream

pub said_serve : (words : List Text) (port count : ℕ) (stream : List ℕ) → SayServe words port count stream → IsPort port → IsCount count
    → SaidServe words port count stream
said_serve words port count stream (program, ports, counts, streams, says_port, says_count, says, spelt) port_range count_range =
    let p : Says (codes "--port") None (number_parser MIN_PORT MAX_PORT) ports port = says_number MIN_PORT MAX_PORT (omega arith) (codes "--port") None ports port says_port port_range in
    let c : Says (codes "--count") None (number_parser MIN_CONNECTIONS MAX_CONNECTIONS) counts count = says_number MIN_CONNECTIONS MAX_CONNECTIONS (omega arith) (codes "--count") None counts count says_count count_range in
    let s : SaysStream streams stream = says_stream streams stream says in
    let gp = gives_number (codes "--port") (number_parser MIN_PORT MAX_PORT) ports port p in
    let gc = gives_number (codes "--count") (number_parser MIN_CONNECTIONS MAX_CONNECTIONS) counts count c in
    let v = given_value s.given in
    let rows = rows_end p.text c.text v in
    let t = texts p.text c.text v in
    let front = given_words (codes "--port") gp.given in
    let middle = given_words (codes "--count") gc.given in
    let back = given_words (codes "--stream") s.given in
    let reaches : Reaches shape ((front ++ middle) ++ back) (rows_said p.text c.text v) =
    reaches_option shape (filled stream_rule) (codes "--stream") (codes "stream") stream_is (front ++ middle) (rows_count p.text c.text)
    (reaches_given shape (filled count_rule) (codes "--count") (codes "count") count_is front counts (rows_port p.text)
    (reaches_given shape (filled port_rule) (codes "--port") (codes "port") port_is [] ports [] (reaches_start shape) (number_parser MIN_PORT MAX_PORT) p.text gp
    (port_usable p.text gp.fits)) (number_parser MIN_CONNECTIONS MAX_CONNECTIONS) c.text gc (count_usable p.text c.text gc.fits))
    s.given s.plain (stream_usable p.text c.text v) in
    let same : words ≡ program ∷ codes "serve" ∷ ((front ++ middle) ++ back) =
    spelt ∙ ap (λ (l : List Text). program ∷ codes "serve" ∷ (l ++ (counts ++ streams))) gp.is
    ∙ ap (λ (l : List Text). program ∷ codes "serve" ∷ (front ++ (l ++ streams))) gc.is
    ∙ ap (λ (l : List Text). program ∷ codes "serve" ∷ (front ++ (middle ++ l))) s.is
    ∙ ap (λ (l : List Text). program ∷ codes "serve" ∷ l) (sym (append_assoc front middle back)) in
    record {
      rows = rows;
      takes = subst (λ (w : List Text). Takes w (codes "serve") rows) (sym same)
          (takes_words program (codes "serve") shape serve_is ((front ++ middle) ++ back) (rows_said p.text c.text v) reaches (good_end p.text c.text v));
      port_has = given_number (one_of (codes "port") rows) (codes "--port") (number_parser MIN_PORT MAX_PORT) ports port p t.0;
      count_has = given_number (one_of (codes "count") rows) (codes "--count") (number_parser MIN_CONNECTIONS MAX_CONNECTIONS) counts count c t.1;
      stream_has = subst (λ (h : Option Text). IsSomeAnd h (λ text. parsed text ≡ Some stream)) (sym t.2) s.parses;
    }
