-- Arguments of `subscribe` in the usual spelling are accepted, and give the values that they name.
use Rattle.std.proofs.Common.{◌≡◌, ◌++◌, ◌∙◌, ap, append_assoc, subst, sym, ℕ, List, [], ◌∷◌, Option, Some, None, Bool, true, false, refl, arith}
use Rattle.std.specs.Prelude.{codes, fold}
use Rattle.clap.specs.Faults.{use_fault}
use Rattle.clap.specs.Words.{Row, Rule, Text, first_of, one_of}
use Rattle.clap.specs.Simple.{Shape, built, filled, filled_from, help_rule, version_rule}
use Rattle.clap.specs.Walk.{used, with_default}
use Rattle.clap.specs.declared.builder.value_parser.ValueParser.TheVariants as vp
use Rattle.clap.proofs.OnLiterals.{clap_on_literals}
use Rattle.mesosev_args.specs.CommandLine.{command_app, json_rule, name_rule, reads_rule, to_rule, user_rule}
use Rattle.mesosev_args.specs.NamedOptions.{SaySubscribe}
use Rattle.mesosev_args.specs.OptionValues.{HasFlag, HasNumber, HasText, IsReads}
use Rattle.mesosev_args.specs.declared.args.TheConstants.{DEFAULT_SUBSCRIBE_READS, MAX_SUBSCRIBE_READS, MIN_SUBSCRIBE_READS}
use Rattle.mesosev_args.proofs.JsonFlag.{json_is, json_said, json_words, reaches_json, rows_json}
use Rattle.mesosev_args.proofs.OptionArgs.{Fits, Gives, Says, gives_text, has_flag, has_number, number_parser, reaches_given, read_plain, read_value, says_usually, set_text, value_or}
use Rattle.mesosev_args.proofs.Subcommands.{IsSubcommand, leaf_shape}
use Rattle.mesosev_args.proofs.ParsedArgs.{Takes, takes_words}
use Rattle.mesosev_args.proofs.Walks.{IsOption, IsUsable, Reaches, end_fault, given_value, given_words, reaches_option, reaches_start, used_value}

-- the rules of the subcommand's arguments, as clap builds them
abbrev rules : List Rule
rules = filled_from 1 (to_rule ∷ user_rule ∷ name_rule ∷ reads_rule ∷ json_rule ∷ help_rule ∷ version_rule ∷ [])

abbrev shape : Shape
shape = leaf_shape (codes "subscribe") rules

subscribe_is : IsSubcommand (built command_app) (codes "subscribe") shape
subscribe_is = record { met = refl; found = refl; other = refl }

to_is : IsOption rules (filled to_rule) (codes "--to") (codes "to")
to_is = record { dashes = refl; long = refl; dashes_joined = λ v. refl; long_joined = λ v. refl; by_long = refl; by_id = refl; same = refl; takes = refl; one = refl }

user_is : IsOption rules (filled user_rule) (codes "--user") (codes "user")
user_is = record { dashes = refl; long = refl; dashes_joined = λ v. refl; long_joined = λ v. refl; by_long = refl; by_id = refl; same = refl; takes = refl; one = refl }

name_is : IsOption rules (filled name_rule) (codes "--name") (codes "name")
name_is = record { dashes = refl; long = refl; dashes_joined = λ v. refl; long_joined = λ v. refl; by_long = refl; by_id = refl; same = refl; takes = refl; one = refl }

reads_is : IsOption rules (filled reads_rule) (codes "--reads") (codes "reads")
reads_is = record { dashes = refl; long = refl; dashes_joined = λ v. refl; long_joined = λ v. refl; by_long = refl; by_id = refl; same = refl; takes = refl; one = refl }

-- ---- the rows of clap's matches, one for each option, after each option

abbrev rows_to : Text → List Row
rows_to a = used (filled to_rule) (a ∷ []) []

abbrev rows_user : Text → Text → List Row
rows_user a u = used (filled user_rule) (u ∷ []) (rows_to a)

abbrev rows_name : Text → Text → Text → List Row
rows_name a u n = used (filled name_rule) (n ∷ []) (rows_user a u)

abbrev rows_reads : Text → Text → Text → Option Text → List Row
rows_reads a u n v = used_value (filled reads_rule) v (rows_name a u n)

abbrev rows_said : Text → Text → Text → Option Text → Bool → List Row
rows_said a u n v json = rows_json json (rows_reads a u n v)

abbrev rows_end : Text → Text → Text → Option Text → Bool → List Row
rows_end a u n v json = fold with_default (rows_said a u n v json) rules

reads_usable : (a u n : Text) (v : Option Text) → Fits (number_parser MIN_SUBSCRIBE_READS MAX_SUBSCRIBE_READS) v → IsUsable false (filled reads_rule) v (rows_name a u n)
reads_usable a u n None fits = tt
reads_usable a u n (Some v) fits = simp fits refl

abbrev usual : Option Text
usual = Some DEFAULT_SUBSCRIBE_READS.now

-- `--json` may follow the other arguments
json_usable : (a u n : Text) (v : Option Text) → use_fault false (filled json_rule) [] (rows_reads a u n v) ≡ []
json_usable a u n None = refl
json_usable a u n (Some v) = refl

abbrev HasTexts : List Row → Text → Text → Text → Option Text → Bool → Type 0
HasTexts rows a u n v json = (first_of (codes "to") rows ≡ Some a) × (first_of (codes "user") rows ≡ Some u) × (first_of (codes "name") rows ≡ Some n)
    × (one_of (codes "reads") rows ≡ value_or usual (read_value v)) × (one_of (codes "json") rows ≡ set_text json)

texts : (a u n : Text) (v : Option Text) (json : Bool) → HasTexts (rows_end a u n v json) a u n v json
texts a u n None false = (refl, refl, refl, refl, refl)
texts a u n None true = (refl, refl, refl, refl, refl)
texts a u n (Some v) false = (refl, refl, refl, refl, refl)
texts a u n (Some v) true = (refl, refl, refl, refl, refl)

good_end : (a u n : Text) (v : Option Text) (json : Bool) → end_fault shape (rows_said a u n v json) ≡ []
unfolding clap_on_literals
good_end a u n None false = refl
good_end a u n None true = refl
good_end a u n (Some v) false = refl
good_end a u n (Some v) true = refl

-- clap accepts the arguments, and the matches have these values
pub record SaidSubscribe (words : List Text) (to user name : Text) (reads : ℕ) (json : Bool) : Type 0 where
  pub rows : List Row
  pub takes : Takes words (codes "subscribe") rows
  pub to_has : HasText (codes "to") rows to
  pub user_has : HasText (codes "user") rows user
  pub name_has : HasText (codes "name") rows name
  pub reads_has : HasNumber (codes "reads") rows reads
  pub json_has : HasFlag (codes "json") rows json

pub said_subscribe : (words : List Text) (to user name : Text) (reads : ℕ) (json : Bool) → SaySubscribe words to user name reads json → IsReads reads
    → SaidSubscribe words to user name reads json
said_subscribe words to user name reads json (program, tos, users, names, numbers, lines, says_to, says_user, says_name, says, says_json, spelt) range =
    let a : Gives (codes "--to") vp.String tos to = gives_text (codes "--to") tos to says_to in
    let u : Gives (codes "--user") vp.String users user = gives_text (codes "--user") users user says_user in
    let n : Gives (codes "--name") vp.String names name = gives_text (codes "--name") names name says_name in
    let s : Says (codes "--reads") usual (number_parser MIN_SUBSCRIBE_READS MAX_SUBSCRIBE_READS) numbers reads =
    says_usually MIN_SUBSCRIBE_READS MAX_SUBSCRIBE_READS (omega arith) (codes "--reads") DEFAULT_SUBSCRIBE_READS.now numbers reads says range in
    let v = given_value s.given in
    let rows = rows_end to user name v json in
    let t = texts to user name v json in
    let wa = given_words (codes "--to") a.given in
    let wu = given_words (codes "--user") u.given in
    let wn = given_words (codes "--name") n.given in
    let wr = given_words (codes "--reads") s.given in
    let wj = json_words json in
    let reaches : Reaches shape (((wa ++ wu) ++ wn) ++ wr) (rows_reads to user name v) =
    reaches_option shape (filled reads_rule) (codes "--reads") (codes "reads") reads_is ((wa ++ wu) ++ wn) (rows_name to user name)
    (reaches_given shape (filled name_rule) (codes "--name") (codes "name") name_is (wa ++ wu) names (rows_user to user)
    (reaches_given shape (filled user_rule) (codes "--user") (codes "user") user_is wa users (rows_to to)
    (reaches_given shape (filled to_rule) (codes "--to") (codes "to") to_is [] tos [] (reaches_start shape) vp.String to a refl)
    vp.String user u refl) vp.String name n refl)
    s.given s.plain (reads_usable to user name v s.fits) in
    let all : Reaches shape ((((wa ++ wu) ++ wn) ++ wr) ++ wj) (rows_said to user name v json) =
    reaches_json shape (json_is rules refl) (((wa ++ wu) ++ wn) ++ wr) (rows_reads to user name v) json reaches (json_usable to user name v) in
    let same : words ≡ program ∷ codes "subscribe" ∷ ((((wa ++ wu) ++ wn) ++ wr) ++ wj) =
    spelt ∙ ap (λ (l : List Text). program ∷ codes "subscribe" ∷ (l ++ (users ++ (names ++ (numbers ++ lines))))) a.is
    ∙ ap (λ (l : List Text). program ∷ codes "subscribe" ∷ (wa ++ (l ++ (names ++ (numbers ++ lines))))) u.is
    ∙ ap (λ (l : List Text). program ∷ codes "subscribe" ∷ (wa ++ (wu ++ (l ++ (numbers ++ lines))))) n.is
    ∙ ap (λ (l : List Text). program ∷ codes "subscribe" ∷ (wa ++ (wu ++ (wn ++ (l ++ lines))))) s.is
    ∙ ap (λ (l : List Text). program ∷ codes "subscribe" ∷ (wa ++ (wu ++ (wn ++ (wr ++ l))))) (json_said json lines says_json)
    ∙ ap (λ (l : List Text). program ∷ codes "subscribe" ∷ l)
    (sym (append_assoc ((wa ++ wu) ++ wn) wr wj ∙ append_assoc (wa ++ wu) wn (wr ++ wj) ∙ append_assoc wa wu (wn ++ (wr ++ wj)))) in
    record {
      rows = rows;
      takes = subst (λ (w : List Text). Takes w (codes "subscribe") rows) (sym same)
          (takes_words program (codes "subscribe") shape subscribe_is ((((wa ++ wu) ++ wn) ++ wr) ++ wj) (rows_said to user name v json) all (good_end to user name v json));
      to_has = t.0;
      user_has = t.1;
      name_has = t.2;
      reads_has = has_number (one_of (codes "reads") rows) (codes "--reads") usual (number_parser MIN_SUBSCRIBE_READS MAX_SUBSCRIBE_READS) numbers reads s
          (t.3 ∙ ap (value_or usual) (read_plain v s.plain));
      json_has = has_flag (codes "json") rows json t.4;
    }
