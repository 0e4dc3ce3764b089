-- The arguments that set a flag or give an option of the command line its value, in clap's model.
use Rattle.std.proofs.Common.{◌≡◌, ◌++◌, ◌≤◌, ◌==◌, ◌∙◌, ap, append-nil, ℕ, List, [], ◌∷◌, Option, Some, None, Bool, true, false, inl, inr, refl, sym, subst, arith}
use Rattle.std.specs.Prelude.{IsSomeAnd, codes, option_map, pos}
use Rattle.std.specs.Str.Parse.{IsNumeral, without_leading_plus}
use Rattle.std.proofs.lemmas.Bool.{eqb-true, ne_eqb}
use Rattle.std.proofs.lemmas.Int.{ints}
use Rattle.std.proofs.lemmas.Str.Parse.{digit_from_value}
use Rattle.clap.specs.Words.{Accepts, Row, Rule, Text, one_of}
use Rattle.clap.specs.Faults.{use_fault}
use Rattle.clap.specs.Kinds.{value_kinds}
use Rattle.clap.specs.Lexer.{without_minus}
use Rattle.clap.specs.Simple.{Shape, filled}
use Rattle.clap.specs.Walk.{arg_by_id, arg_by_long, used}
use Rattle.clap.specs.declared.builder.value_parser.ValueParser.{ValueParser}
use Rattle.clap.specs.declared.builder.value_parser.ValueParser.TheVariants as vp
use Rattle.clap.proofs.KindLemmas.{value_kinds-ok}
use Rattle.mesosev_args.specs.CommandLine.{calls_rule, chunked_rule, limit_rule, lines_rule}
use Rattle.mesosev_args.specs.NamedOptions.{SayFraming, SayInput, SayLimit, SayMost, SayNumber, SayOptional, SayText, SayUsually}
use Rattle.mesosev_args.specs.OptionValues.{HasFlag, HasFraming, HasMost, HasOptional, IsLimit, IsMost, IsWithin, Writes}
use Rattle.mes_stream.specs.declared.stream_reader.Framing.{Framing}
use Rattle.mes_stream.specs.declared.stream_reader.Framing.TheVariants.{Plain, Chunked, Lines}
use Rattle.mes_frame.specs.declared.limits.TheConstants.{MIN_CHUNK, MAX_CHUNK, MIN_RECORD_LIMIT, MAX_RECORD_LIMIT}
use Rattle.mesosev_args.specs.declared.args.TheConstants.{DEFAULT_LIMIT}
use Rattle.mesosev_args.proofs.Walks.{Given, IsFlag, IsNoFlag, IsOption, IsUsable, Reaches, reaches_option, absent, apart, given_value, given_words, joined, reaches_flag, reaches_start, used_value}

-- ---- arguments that give an option a number in a range

abbrev pub number_parser : ℕ → ℕ → ValueParser
number_parser least most = vp.Signed (pos least) (pos most)

-- the parser accepts the value, or no value is given
abbrev pub Fits : ValueParser → Option Text → Type 0
Fits parser None = Unit {0}
Fits parser (Some v) = value_kinds false parser v ≡ []

-- the given value, or the default if no value is given
abbrev pub value_or : Option Text → Option Text → Option Text
value_or usual None = usual
value_or usual (Some v) = Some v

-- the given value without a leading hyphen, from which the number is read
abbrev pub read_value : Option Text → Option Text
read_value = option_map without_minus

pub read_plain : (v : Option Text) → IsNoFlag v → read_value v ≡ v
read_plain None plain = refl
read_plain (Some []) plain = absurd plain
read_plain (Some (x ∷ xs)) plain = simp plain refl

no_hyphen : (x : ℕ) (xs : Text) → IsNumeral 10 (without_leading_plus (x ∷ xs)) → (x == 45) ≡ false
no_hyphen x xs h = go (x == 43) refl
  where
    go : (b : Bool) → (x == 43) ≡ b → (x == 45) ≡ false
    go true is =
        let plus : x ≡ 43 = eqb-true x 43 is in
        ne_eqb _ _ (λ e. omega (arith, plus, e))
    go false is =
        let numeral : IsNumeral 10 (x ∷ xs) = rw is at h in
        ne_eqb _ _ (λ e. omega (arith, digit_from_value x numeral.1.0, e))

-- the arguments give the option or leave it out; the option's text (or default) writes n
pub record Says (option : Text) (usual : Option Text) (parser : ValueParser) (words : List Text) (n : ℕ) : Type 0 where
  pub given : Given
  pub is : words ≡ given_words option given
  pub plain : IsNoFlag (given_value given)
  pub fits : Fits parser (given_value given)
  pub text : Text
  pub text_is : value_or usual (given_value given) ≡ Some text
  pub writes : Writes text n

-- for a range of 32-bit numbers
module _ (least most : ℕ) (small : most ≤ 4294967295) where
  accepted : (x : ℕ) (xs : Text) (n : ℕ) → (x == 45) ≡ false → Writes (x ∷ xs) n → (least ≤ n) × (n ≤ most) → Accepts false (number_parser least most) (x ∷ xs)
  accepted x xs n plain writes range = rw plain (writes.0, omega (arith, ints, writes.1, range.0, range.1), omega (arith, ints, writes.1, range.0, range.1), omega (arith, ints, writes.1, range.0, range.1))

  passes : (x : ℕ) (xs : Text) (n : ℕ) → Writes (x ∷ xs) n → (least ≤ n) × (n ≤ most) → value_kinds false (number_parser least most) (x ∷ xs) ≡ []
  passes x xs n writes range = value_kinds-ok false (number_parser least most) (x ∷ xs) (accepted x xs n (no_hyphen x xs writes.0) writes range)

  pub says_number : (option : Text) (usual : Option Text) (words : List Text) (n : ℕ) → SayNumber option words n → (least ≤ n) × (n ≤ most)
      → Says option usual (number_parser least most) words n
  says_number option usual words n ([], writes, side) range = absurd (omega (arith, writes.0.0))
  says_number option usual words n (x ∷ xs, writes, inl is) range =
      record { given = apart x xs; is = is; plain = no_hyphen x xs writes.0; fits = passes x xs n writes range; text = x ∷ xs; text_is = refl; writes = writes }
  says_number option usual words n (x ∷ xs, writes, inr is) range =
      record { given = joined x xs; is = is; plain = no_hyphen x xs writes.0; fits = passes x xs n writes range; text = x ∷ xs; text_is = refl; writes = writes }

  -- arguments that give the option a number in the range, or leave it out for the default
  pub says_usually : (option usual : Text) (words : List Text) (n : ℕ) → SayUsually usual option words n → (least ≤ n) × (n ≤ most)
      → Says option (Some usual) (number_parser least most) words n
  says_usually option usual words n (inl (is, writes)) range =
      record { given = absent; is = is; plain = tt; fits = tt; text = usual; text_is = refl; writes = writes }
  says_usually option usual words n (inr says) range = says_number option (Some usual) words n says range

-- ---- arguments that give an option a text

pub value_or_none : (v : Option Text) → value_or None v ≡ v
value_or_none None = refl
value_or_none (Some v) = refl

-- the arguments give the option this text, which the parser accepts
pub record Gives (option : Text) (parser : ValueParser) (words : List Text) (text : Text) : Type 0 where
  pub given : Given
  pub is : words ≡ given_words option given
  pub value_is : given_value given ≡ Some text
  pub plain : IsNoFlag (Some text)
  pub fits : Fits parser (Some text)

pub gives_number : (option : Text) (parser : ValueParser) (words : List Text) (n : ℕ) → (s : Says option None parser words n) → Gives option parser words s.text
gives_number option parser words n s =
    let value : given_value s.given ≡ Some s.text = sym (value_or_none (given_value s.given)) ∙ s.text_is in
    record { given = s.given; is = s.is; value_is = value; plain = subst IsNoFlag value s.plain; fits = subst (Fits parser) value s.fits }

pub gives_text : (option : Text) (words : List Text) (text : Text) → SayText option words text → Gives option vp.String words text
gives_text option words [] (plain, is) = absurd plain
gives_text option words (x ∷ xs) (plain, inl is) = record { given = apart x xs; is = is; value_is = refl; plain = plain; fits = refl }
gives_text option words (x ∷ xs) (plain, inr is) = record { given = joined x xs; is = is; value_is = refl; plain = plain; fits = refl }

-- if arguments are accepted with these rows, adding the option adds the option's row
pub reaches_given : (s : Shape) (a : Rule) (option name : Text) → IsOption s.rules a option name → (words more : List Text) (rows : List Row) → Reaches s words rows
    → (parser : ValueParser) (text : Text) → (g : Gives option parser more text) → IsUsable s.args_override_self a (Some text) rows
    → Reaches s (words ++ given_words option g.given) (used a (text ∷ []) rows)
reaches_given s a option name is words more rows r parser text g usable =
    subst (λ (v : Option Text). Reaches s (words ++ given_words option g.given) (used_value a v rows)) g.value_is
    (reaches_option s a option name is words rows r g.given (subst IsNoFlag (sym g.value_is) g.plain)
    (subst (λ (v : Option Text). IsUsable s.args_override_self a v rows) (sym g.value_is) usable))

-- an option without a default has the number that the arguments give
pub given_number : (held : Option Text) (option : Text) (parser : ValueParser) (words : List Text) (n : ℕ) → (s : Says option None parser words n)
    → held ≡ read_value (Some s.text) → IsSomeAnd held (λ text. Writes text n)
given_number held option parser words n s is =
    subst (λ (h : Option Text). IsSomeAnd h (λ text. Writes text n)) (sym (is ∙ read_plain (Some s.text) (gives_number option parser words n s).plain)) s.writes

-- the text of an option in the matches writes the number that the arguments give
pub has_number : (held : Option Text) (option : Text) (usual : Option Text) (parser : ValueParser) (words : List Text) (n : ℕ)
    → (s : Says option usual parser words n) → held ≡ value_or usual (given_value s.given) → IsSomeAnd held (λ text. Writes text n)
has_number held option usual parser words n s is = subst (λ h. IsSomeAnd h (λ text. Writes text n)) (sym (is ∙ s.text_is)) s.writes

-- ---- arguments that give an option a number or leave it out

-- the text of an option writes the number; without a number the option has no text
abbrev pub IsMaybe : Option Text → Option ℕ → Type 0
IsMaybe held None = held ≡ None
IsMaybe held (Some n) = IsSomeAnd held (λ text. Writes text n)

-- the arguments give the option this number; without a number they leave out the option
pub record SaysOptional (option : Text) (parser : ValueParser) (words : List Text) (n : Option ℕ) : Type 0 where
  pub given : Given
  pub is : words ≡ given_words option given
  pub plain : IsNoFlag (given_value given)
  pub fits : Fits parser (given_value given)
  pub number : IsMaybe (given_value given) n

module _ (least most : ℕ) (small : most ≤ 4294967295) (option : Text) (words : List Text) where
  pub says_optional : (n : Option ℕ) → SayOptional option words n → IsWithin least most n → SaysOptional option (number_parser least most) words n
  says_optional None is range = record { given = absent; is = is; plain = tt; fits = tt; number = refl }
  says_optional (Some n) says range =
      let s : Says option None (number_parser least most) words n = says_number least most small option None words n says range in
      record { given = s.given; is = s.is; plain = s.plain; fits = s.fits; number = has_number (given_value s.given) option None (number_parser least most) words n s (sym (value_or_none (given_value s.given))) }

-- the option has the number that the arguments give, or is not given
pub has_optional : (option : Text) (rows : List Row) (held : Option Text) (n : Option ℕ) → one_of option rows ≡ held → IsMaybe held n → HasOptional option rows n
has_optional option rows held None is number = is ∙ number
has_optional option rows held (Some n) is number = subst (λ h. IsSomeAnd h (λ text. Writes text n)) (sym is) number

-- ---- a flag

-- the text of a flag in the matches
abbrev pub set_text : Bool → Option Text
set_text false = Some (codes "false")
set_text true = Some (codes "true")

pub has_flag : (name : Text) (rows : List Row) (is_set : Bool) → one_of name rows ≡ set_text is_set → HasFlag name rows is_set
has_flag name rows false is = λ set. let other : Some (codes "false") ≡ Some (codes "true") = sym is ∙ set in absurd (cc)
has_flag name rows true is = is

-- ---- `--chunked`, `--lines` and `--calls`

abbrev flag_words : Framing → List Text
flag_words Plain = []
flag_words Chunked = codes "--chunked" ∷ []
flag_words Lines = codes "--lines" ∷ []

-- whether `--chunked` is set for this framing, and whether `--lines` is
abbrev pub is_chunked : Framing → Bool
is_chunked Plain = false
is_chunked Chunked = true
is_chunked Lines = false

abbrev pub is_lines : Framing → Bool
is_lines Plain = false
is_lines Chunked = false
is_lines Lines = true

abbrev rows_flag : Framing → List Row
rows_flag Plain = []
rows_flag Chunked = used (filled chunked_rule) [] []
rows_flag Lines = used (filled lines_rule) [] []

flag_is : (framing : Framing) (words : List Text) → SayFraming words framing → words ≡ flag_words framing
flag_is Plain words is = is
flag_is Chunked words is = is
flag_is Lines words is = is

-- the flag of the framing, then `--calls`
abbrev pub input_words : Framing → Bool → List Text
input_words framing false = flag_words framing
input_words framing true = flag_words framing ++ codes "--calls" ∷ []

-- the rows of the matches after these flags
abbrev pub rows_input : Framing → Bool → List Row
rows_input framing false = rows_flag framing
rows_input framing true = used (filled calls_rule) [] (rows_flag framing)

pub input_is : (framing : Framing) (calls : Bool) (words : List Text) → SayInput words framing calls → words ≡ input_words framing calls
input_is framing false words (flags, kinds, flag, none, is) =
    is ∙ ap (λ (k : List Text). flags ++ k) none ∙ append-nil flags ∙ flag_is framing flags flag
input_is framing true words (flags, kinds, flag, one, is) =
    is ∙ ap (λ (k : List Text). flags ++ k) one ∙ ap (λ (f : List Text). f ++ codes "--calls" ∷ []) (flag_is framing flags flag)

-- the rules of a subcommand's arguments have these flags
pub record HasFlags (c : List Rule) : Type 0 where
  pub chunked : IsFlag c (filled chunked_rule) (codes "--chunked") (codes "chunked")
  pub lines : IsFlag c (filled lines_rule) (codes "--lines") (codes "lines")
  pub calls : IsFlag c (filled calls_rule) (codes "--calls") (codes "calls")

pub flags_are : (c : List Rule) → arg_by_long c (codes "chunked") ≡ Some (filled chunked_rule) → arg_by_long c (codes "lines") ≡ Some (filled lines_rule)
    → arg_by_long c (codes "calls") ≡ Some (filled calls_rule) → HasFlags c
flags_are c chunked lines calls = record {
  chunked = record { dashes = refl; long = refl; by_long = chunked; takes = refl };
  lines = record { dashes = refl; long = refl; by_long = lines; takes = refl };
  calls = record { dashes = refl; long = refl; by_long = calls; takes = refl };
}

-- the arguments begin with `--chunked` or `--lines`, or with neither
reaches_framing : (s : Shape) → HasFlags s.rules → (framing : Framing) → Reaches s (flag_words framing) (rows_flag framing)
reaches_framing s have Plain = reaches_start s
reaches_framing s have Chunked = reaches_flag s (filled chunked_rule) (codes "--chunked") (codes "chunked") have.chunked [] [] (reaches_start s) refl
reaches_framing s have Lines = reaches_flag s (filled lines_rule) (codes "--lines") (codes "lines") have.lines [] [] (reaches_start s) refl

-- `--calls` may follow the flag of the framing
calls_usable : (again : Bool) (framing : Framing) → use_fault again (filled calls_rule) [] (rows_flag framing) ≡ []
calls_usable false Plain = refl
calls_usable false Chunked = refl
calls_usable false Lines = refl
calls_usable true Plain = refl
calls_usable true Chunked = refl
calls_usable true Lines = refl

pub reaches_input : (s : Shape) → HasFlags s.rules → (framing : Framing) (calls : Bool) → Reaches s (input_words framing calls) (rows_input framing calls)
reaches_input s have framing false = reaches_framing s have framing
reaches_input s have framing true =
    reaches_flag s (filled calls_rule) (codes "--calls") (codes "calls") have.calls (flag_words framing) (rows_flag framing) (reaches_framing s have framing)
    (calls_usable s.args_override_self framing)

-- the texts of these flags in the matches
abbrev pub HasFlagTexts : List Row → Framing → Bool → Type 0
HasFlagTexts rows framing calls =
    (one_of (codes "chunked") rows ≡ set_text (is_chunked framing)) × (one_of (codes "lines") rows ≡ set_text (is_lines framing))
    × (one_of (codes "calls") rows ≡ set_text calls)

pub has_framing : (framing : Framing) (calls : Bool) (rows : List Row) → HasFlagTexts rows framing calls → HasFraming rows framing
has_framing Plain calls rows is = (has_flag (codes "chunked") rows false is.0, has_flag (codes "lines") rows false is.1)
has_framing Chunked calls rows is = (has_flag (codes "chunked") rows true is.0, has_flag (codes "lines") rows false is.1)
has_framing Lines calls rows is = (has_flag (codes "chunked") rows false is.0, has_flag (codes "lines") rows true is.1)

-- ---- `--limit`

abbrev pub limit_parser : ValueParser
limit_parser = number_parser MIN_RECORD_LIMIT MAX_RECORD_LIMIT

abbrev pub usual_limit : Option Text
usual_limit = Some DEFAULT_LIMIT.now

pub limit_is : (c : List Rule) → arg_by_long c (codes "limit") ≡ Some (filled limit_rule) → arg_by_id c (codes "limit") ≡ Some (filled limit_rule)
    → IsOption c (filled limit_rule) (codes "--limit") (codes "limit")
limit_is c by_long by_id =
    record { dashes = refl; long = refl; dashes_joined = λ v. refl; long_joined = λ v. refl; by_long = by_long; by_id = by_id; same = refl; takes = refl; one = refl }

-- the rows of the matches after the flags and `--limit`
abbrev pub rows_limit : Framing → Bool → Option Text → List Row
rows_limit framing calls v = used_value (filled limit_rule) v (rows_input framing calls)

pub limit_usable : (framing : Framing) (calls : Bool) (v : Option Text) → Fits limit_parser v → IsUsable false (filled limit_rule) v (rows_input framing calls)
limit_usable framing calls None fits = tt
limit_usable Plain false (Some v) fits = simp fits refl
limit_usable Plain true (Some v) fits = simp fits refl
limit_usable Chunked false (Some v) fits = simp fits refl
limit_usable Chunked true (Some v) fits = simp fits refl
limit_usable Lines false (Some v) fits = simp fits refl
limit_usable Lines true (Some v) fits = simp fits refl

-- the arguments that give `--limit` this number, or leave out the option for the default
abbrev pub SaysLimit : List Text → ℕ → Type 0
SaysLimit = Says (codes "--limit") usual_limit limit_parser

pub says_limit : (words : List Text) (limit : ℕ) → SayLimit words limit → IsLimit limit → SaysLimit words limit
says_limit words limit says range = says_usually MIN_RECORD_LIMIT MAX_RECORD_LIMIT (omega arith) (codes "--limit") DEFAULT_LIMIT.now words limit says range

-- ---- `--most`

abbrev pub most_parser : ValueParser
most_parser = number_parser MIN_CHUNK MAX_CHUNK

-- the text of `--most` writes the chunk size; without a size the option has no text
abbrev IsSize : Option Text → Option ℕ → Type 0
IsSize held None = held ≡ None
IsSize held (Some most) = IsSomeAnd held (λ text. Writes text most)

-- the arguments that give `--most` this chunk size; without a size they leave out the option
pub record SaysMost (words : List Text) (most : Option ℕ) : Type 0 where
  pub given : Given
  pub is : words ≡ given_words (codes "--most") given
  pub plain : IsNoFlag (given_value given)
  pub fits : Fits most_parser (given_value given)
  pub size : IsSize (given_value given) most

pub says_most : (words : List Text) (most : Option ℕ) → SayMost words most → IsMost most → SaysMost words most
says_most words None is range = record { given = absent; is = is; plain = tt; fits = tt; size = refl }
says_most words (Some most) says range =
    let s : Says (codes "--most") None most_parser words most = says_number MIN_CHUNK MAX_CHUNK (omega arith) (codes "--most") None words most says range in
    record { given = s.given; is = s.is; plain = s.plain; fits = s.fits; size = has_number (given_value s.given) (codes "--most") None most_parser words most s (sym (value_or_none (given_value s.given))) }

pub has_most : (rows : List Row) (held : Option Text) (most : Option ℕ) → one_of (codes "most") rows ≡ held → IsSize held most → HasMost rows most
has_most rows held None is size = is ∙ size
has_most rows held (Some most) is size = subst (λ h. IsSomeAnd h (λ text. Writes text most)) (sym is) size
