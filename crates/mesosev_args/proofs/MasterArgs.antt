-- Arguments of `master` in the usual spelling are accepted, and give the values that they name.
use Rattle.std.proofs.Common.{◌≡◌, ◌++◌, ◌∙◌, ap, append_assoc, append-nil, subst, sym, ℕ, List, [], ◌∷◌, Bool, true, false, Option, Some, None, refl, arith}
use Rattle.std.specs.Prelude.{codes, fold, unwrap_or}
use Rattle.std.specs.List.{AllZip}
use Rattle.clap.specs.Words.{Row, Rule, Text, all_of, one_of}
use Rattle.clap.specs.Faults.{use_fault}
use Rattle.clap.specs.Simple.{Shape, built, filled, filled_from, help_rule, version_rule}
use Rattle.clap.specs.Walk.{used, with_default}
use Rattle.clap.specs.declared.builder.value_parser.ValueParser.{ValueParser}
use Rattle.clap.proofs.OnLiterals.{clap_on_literals}
use Rattle.mesosev_args.specs.CommandLine.{chunk_rule, command_app, fault_rule, faults_rule, finish_after_rule, heartbeat_rule, master_port_rule, once_rule, resend_rule, seconds_rule, seed_rule}
use Rattle.mesosev_args.specs.NamedOptions.{IsInRange, SayFlag, SayMaster}
use Rattle.mesosev_args.specs.OptionValues.{HasFaults, HasFlag, HasNumber, HasOptional, HasRandom, NamesFault}
use Rattle.mes_double_faults.specs.Plans.{Plan}
use Rattle.mesosev_args.specs.declared.args.Options.TheVariants.{Master}
use Rattle.mes_frame.specs.declared.limits.TheConstants.{MIN_CHUNK, MAX_CHUNK}
use Rattle.mesosev_args.specs.declared.args.TheConstants.{MIN_MASTER_PORT, MAX_PORT, MAX_SECONDS, MIN_HEARTBEAT, MIN_RESEND, MIN_FINISH_AFTER, MIN_SECONDS}
use Rattle.mesosev_args.specs.declared.args.TheConstants.{DEFAULT_HEARTBEAT, DEFAULT_MASTER_CHUNK, DEFAULT_RESEND}
use Rattle.mesosev_args.proofs.OptionArgs.{Fits, Says, SaysOptional, given_number, gives_number, has_flag, has_number, has_optional, most_parser, number_parser, reaches_given, read_plain, read_value, says_number, says_optional, says_usually, set_text, value_or}
use Rattle.mesosev_args.proofs.Subcommands.{IsSubcommand, leaf_shape}
use Rattle.mesosev_args.proofs.ParsedArgs.{Takes, takes_words}
use Rattle.mesosev_args.proofs.Walks.{IsFlag, IsOption, IsUsable, Reaches, end_fault, given_value, given_words, reaches_flag, reaches_option, reaches_start, used_value}

-- the rules of the subcommand's arguments, as clap builds them
abbrev rules : List Rule
rules = filled_from 1
    (master_port_rule ∷ heartbeat_rule ∷ resend_rule ∷ finish_after_rule ∷ seconds_rule ∷ chunk_rule ∷ fault_rule ∷ faults_rule ∷ seed_rule ∷ once_rule
    ∷ help_rule ∷ version_rule ∷ [])

abbrev shape : Shape
shape = leaf_shape (codes "master") rules

master_is : IsSubcommand (built command_app) (codes "master") shape
master_is = record { met = refl; found = refl; other = refl }

port_is : IsOption rules (filled master_port_rule) (codes "--port") (codes "port")
port_is = record { dashes = refl; long = refl; dashes_joined = λ v. refl; long_joined = λ v. refl; by_long = refl; by_id = refl; same = refl; takes = refl; one = refl }

heartbeat_is : IsOption rules (filled heartbeat_rule) (codes "--heartbeat") (codes "heartbeat")
heartbeat_is = record { dashes = refl; long = refl; dashes_joined = λ v. refl; long_joined = λ v. refl; by_long = refl; by_id = refl; same = refl; takes = refl; one = refl }

resend_is : IsOption rules (filled resend_rule) (codes "--resend") (codes "resend")
resend_is = record { dashes = refl; long = refl; dashes_joined = λ v. refl; long_joined = λ v. refl; by_long = refl; by_id = refl; same = refl; takes = refl; one = refl }

finish_after_is : IsOption rules (filled finish_after_rule) (codes "--finish-after") (codes "finish-after")
finish_after_is = record { dashes = refl; long = refl; dashes_joined = λ v. refl; long_joined = λ v. refl; by_long = refl; by_id = refl; same = refl; takes = refl; one = refl }

seconds_is : IsOption rules (filled seconds_rule) (codes "--seconds") (codes "seconds")
seconds_is = record { dashes = refl; long = refl; dashes_joined = λ v. refl; long_joined = λ v. refl; by_long = refl; by_id = refl; same = refl; takes = refl; one = refl }

most_is : IsOption rules (filled chunk_rule) (codes "--most") (codes "most")
most_is = record { dashes = refl; long = refl; dashes_joined = λ v. refl; long_joined = λ v. refl; by_long = refl; by_id = refl; same = refl; takes = refl; one = refl }

once_is : IsFlag rules (filled once_rule) (codes "--once") (codes "once")
once_is = record { dashes = refl; long = refl; by_long = refl; takes = refl }

-- ---- the rows of clap's matches, one for each option, after each option

abbrev rows_port : Text → List Row
rows_port p = used (filled master_port_rule) (p ∷ []) []

abbrev rows_heartbeat : Text → Option Text → List Row
rows_heartbeat p h = used_value (filled heartbeat_rule) h (rows_port p)

abbrev rows_resend : Text → Option Text → Option Text → List Row
rows_resend p h r = used_value (filled resend_rule) r (rows_heartbeat p h)

abbrev rows_finish_after : Text → Option Text → Option Text → Option Text → List Row
rows_finish_after p h r f = used_value (filled finish_after_rule) f (rows_resend p h r)

abbrev rows_seconds : Text → Option Text → Option Text → Option Text → Option Text → List Row
rows_seconds p h r f s = used_value (filled seconds_rule) s (rows_finish_after p h r f)

abbrev rows_most : Text → Option Text → Option Text → Option Text → Option Text → Option Text → List Row
rows_most p h r f s m = used_value (filled chunk_rule) m (rows_seconds p h r f s)

abbrev rows_said : Text → Option Text → Option Text → Option Text → Option Text → Option Text → Bool → List Row
rows_said p h r f s m false = rows_most p h r f s m
rows_said p h r f s m true = used (filled once_rule) [] (rows_most p h r f s m)

abbrev rows_end : Text → Option Text → Option Text → Option Text → Option Text → Option Text → Bool → List Row
rows_end p h r f s m o = fold with_default (rows_said p h r f s m o) rules

-- the parsers of the values of the options
abbrev port_parser : ValueParser
port_parser = number_parser MIN_MASTER_PORT MAX_PORT

abbrev heartbeat_parser : ValueParser
heartbeat_parser = number_parser MIN_HEARTBEAT MAX_SECONDS

abbrev resend_parser : ValueParser
resend_parser = number_parser MIN_RESEND MAX_SECONDS

abbrev finish_after_parser : ValueParser
finish_after_parser = number_parser MIN_FINISH_AFTER MAX_SECONDS

abbrev seconds_parser : ValueParser
seconds_parser = number_parser MIN_SECONDS MAX_SECONDS

-- ---- each option may be used after the options before it: one case for each set of options given

port_usable : (p : Text) → Fits port_parser (Some p) → IsUsable false (filled master_port_rule) (Some p) []
port_usable p fits = simp fits refl

heartbeat_usable : (p : Text) (h : Option Text) → Fits heartbeat_parser h → IsUsable false (filled heartbeat_rule) h (rows_port p)
heartbeat_usable p None fits = tt
heartbeat_usable p (Some h) fits = simp fits refl

resend_usable : (p : Text) (h r : Option Text) → Fits resend_parser r → IsUsable false (filled resend_rule) r (rows_heartbeat p h)
resend_usable p h None fits = tt
resend_usable p None (Some r) fits = simp fits refl
resend_usable p (Some h) (Some r) fits = simp fits refl

finish_after_usable : (p : Text) (h r f : Option Text) → Fits finish_after_parser f → IsUsable false (filled finish_after_rule) f (rows_resend p h r)
finish_after_usable p h r None fits = tt
finish_after_usable p None None (Some f) fits = simp fits refl
finish_after_usable p None (Some r) (Some f) fits = simp fits refl
finish_after_usable p (Some h) None (Some f) fits = simp fits refl
finish_after_usable p (Some h) (Some r) (Some f) fits = simp fits refl

seconds_usable : (p : Text) (h r f s : Option Text) → Fits seconds_parser s → IsUsable false (filled seconds_rule) s (rows_finish_after p h r f)
seconds_usable p h r f None fits = tt
seconds_usable p None None None (Some s) fits = simp fits refl
seconds_usable p None None (Some f) (Some s) fits = simp fits refl
seconds_usable p None (Some r) None (Some s) fits = simp fits refl
seconds_usable p None (Some r) (Some f) (Some s) fits = simp fits refl
seconds_usable p (Some h) None None (Some s) fits = simp fits refl
seconds_usable p (Some h) None (Some f) (Some s) fits = simp fits refl
seconds_usable p (Some h) (Some r) None (Some s) fits = simp fits refl
seconds_usable p (Some h) (Some r) (Some f) (Some s) fits = simp fits refl

most_usable : (p : Text) (h r f s m : Option Text) → Fits most_parser m → IsUsable false (filled chunk_rule) m (rows_seconds p h r f s)
most_usable p h r f s None fits = tt
most_usable p None None None None (Some m) fits = simp fits refl
most_usable p None None None (Some s) (Some m) fits = simp fits refl
most_usable p None None (Some f) None (Some m) fits = simp fits refl
most_usable p None None (Some f) (Some s) (Some m) fits = simp fits refl
most_usable p None (Some r) None None (Some m) fits = simp fits refl
most_usable p None (Some r) None (Some s) (Some m) fits = simp fits refl
most_usable p None (Some r) (Some f) None (Some m) fits = simp fits refl
most_usable p None (Some r) (Some f) (Some s) (Some m) fits = simp fits refl
most_usable p (Some h) None None None (Some m) fits = simp fits refl
most_usable p (Some h) None None (Some s) (Some m) fits = simp fits refl
most_usable p (Some h) None (Some f) None (Some m) fits = simp fits refl
most_usable p (Some h) None (Some f) (Some s) (Some m) fits = simp fits refl
most_usable p (Some h) (Some r) None None (Some m) fits = simp fits refl
most_usable p (Some h) (Some r) None (Some s) (Some m) fits = simp fits refl
most_usable p (Some h) (Some r) (Some f) None (Some m) fits = simp fits refl
most_usable p (Some h) (Some r) (Some f) (Some s) (Some m) fits = simp fits refl

once_usable : (p : Text) (h r f s m : Option Text) → use_fault false (filled once_rule) [] (rows_most p h r f s m) ≡ []
once_usable p None None None None None = refl
once_usable p None None None None (Some m) = refl
once_usable p None None None (Some s) None = refl
once_usable p None None None (Some s) (Some m) = refl
once_usable p None None (Some f) None None = refl
once_usable p None None (Some f) None (Some m) = refl
once_usable p None None (Some f) (Some s) None = refl
once_usable p None None (Some f) (Some s) (Some m) = refl
once_usable p None (Some r) None None None = refl
once_usable p None (Some r) None None (Some m) = refl
once_usable p None (Some r) None (Some s) None = refl
once_usable p None (Some r) None (Some s) (Some m) = refl
once_usable p None (Some r) (Some f) None None = refl
once_usable p None (Some r) (Some f) None (Some m) = refl
once_usable p None (Some r) (Some f) (Some s) None = refl
once_usable p None (Some r) (Some f) (Some s) (Some m) = refl
once_usable p (Some h) None None None None = refl
once_usable p (Some h) None None None (Some m) = refl
once_usable p (Some h) None None (Some s) None = refl
once_usable p (Some h) None None (Some s) (Some m) = refl
once_usable p (Some h) None (Some f) None None = refl
once_usable p (Some h) None (Some f) None (Some m) = refl
once_usable p (Some h) None (Some f) (Some s) None = refl
once_usable p (Some h) None (Some f) (Some s) (Some m) = refl
once_usable p (Some h) (Some r) None None None = refl
once_usable p (Some h) (Some r) None None (Some m) = refl
once_usable p (Some h) (Some r) None (Some s) None = refl
once_usable p (Some h) (Some r) None (Some s) (Some m) = refl
once_usable p (Some h) (Some r) (Some f) None None = refl
once_usable p (Some h) (Some r) (Some f) None (Some m) = refl
once_usable p (Some h) (Some r) (Some f) (Some s) None = refl
once_usable p (Some h) (Some r) (Some f) (Some s) (Some m) = refl

-- ---- the matches at the end: one case for each set of options given

abbrev usual_heartbeat : Option Text
usual_heartbeat = Some DEFAULT_HEARTBEAT.now

abbrev usual_resend : Option Text
usual_resend = Some DEFAULT_RESEND.now

abbrev usual_size : Option Text
usual_size = Some DEFAULT_MASTER_CHUNK.now

abbrev HasTexts : List Row → Text → Option Text → Option Text → Option Text → Option Text → Option Text → Bool → Type 0
HasTexts rows p h r f s m o = (one_of (codes "port") rows ≡ read_value (Some p)) × (one_of (codes "heartbeat") rows ≡ value_or usual_heartbeat (read_value h))
    × (one_of (codes "resend") rows ≡ value_or usual_resend (read_value r)) × (one_of (codes "finish-after") rows ≡ read_value f)
    × (one_of (codes "seconds") rows ≡ read_value s) × (one_of (codes "most") rows ≡ value_or usual_size (read_value m))
    × (one_of (codes "once") rows ≡ set_text o) × (all_of (codes "fault") rows ≡ None) × (one_of (codes "faults") rows ≡ None)

texts : (p : Text) (h r f s m : Option Text) (o : Bool) → HasTexts (rows_end p h r f s m o) p h r f s m o
texts p None None None None None false = (refl, refl, refl, refl, refl, refl, refl, refl, refl)
texts p None None None None None true = (refl, refl, refl, refl, refl, refl, refl, refl, refl)
texts p None None None None (Some m) false = (refl, refl, refl, refl, refl, refl, refl, refl, refl)
texts p None None None None (Some m) true = (refl, refl, refl, refl, refl, refl, refl, refl, refl)
texts p None None None (Some s) None false = (refl, refl, refl, refl, refl, refl, refl, refl, refl)
texts p None None None (Some s) None true = (refl, refl, refl, refl, refl, refl, refl, refl, refl)
texts p None None None (Some s) (Some m) false = (refl, refl, refl, refl, refl, refl, refl, refl, refl)
texts p None None None (Some s) (Some m) true = (refl, refl, refl, refl, refl, refl, refl, refl, refl)
texts p None None (Some f) None None false = (refl, refl, refl, refl, refl, refl, refl, refl, refl)
texts p None None (Some f) None None true = (refl, refl, refl, refl, refl, refl, refl, refl, refl)
texts p None None (Some f) None (Some m) false = (refl, refl, refl, refl, refl, refl, refl, refl, refl)
texts p None None (Some f) None (Some m) true = (refl, refl, refl, refl, refl, refl, refl, refl, refl)
texts p None None (Some f) (Some s) None false = (refl, refl, refl, refl, refl, refl, refl, refl, refl)
texts p None None (Some f) (Some s) None true = (refl, refl, refl, refl, refl, refl, refl, refl, refl)
texts p None None (Some f) (Some s) (Some m) false = (refl, refl, refl, refl, refl, refl, refl, refl, refl)
texts p None None (Some f) (Some s) (Some m) true = (refl, refl, refl, refl, refl, refl, refl, refl, refl)
texts p None (Some r) None None None false = (refl, refl, refl, refl, refl, refl, refl, refl, refl)
texts p None (Some r) None None None true = (refl, refl, refl, refl, refl, refl, refl, refl, refl)
texts p None (Some r) None None (Some m) false = (refl, refl, refl, refl, refl, refl, refl, refl, refl)
texts p None (Some r) None None (Some m) true = (refl, refl, refl, refl, refl, refl, refl, refl, refl)
texts p None (Some r) None (Some s) None false = (refl, refl, refl, refl, refl, refl, refl, refl, refl)
texts p None (Some r) None (Some s) None true = (refl, refl, refl, refl, refl, refl, refl, refl, refl)
texts p None (Some r) None (Some s) (Some m) false = (refl, refl, refl, refl, refl, refl, refl, refl, refl)
texts p None (Some r) None (Some s) (Some m) true = (refl, refl, refl, refl, refl, refl, refl, refl, refl)
texts p None (Some r) (Some f) None None false = (refl, refl, refl, refl, refl, refl, refl, refl, refl)
texts p None (Some r) (Some f) None None true = (refl, refl, refl, refl, refl, refl, refl, refl, refl)
texts p None (Some r) (Some f) None (Some m) false = (refl, refl, refl, refl, refl, refl, refl, refl, refl)
texts p None (Some r) (Some f) None (Some m) true = (refl, refl, refl, refl, refl, refl, refl, refl, refl)
texts p None (Some r) (Some f) (Some s) None false = (refl, refl, refl, refl, refl, refl, refl, refl, refl)
texts p None (Some r) (Some f) (Some s) None true = (refl, refl, refl, refl, refl, refl, refl, refl, refl)
texts p None (Some r) (Some f) (Some s) (Some m) false = (refl, refl, refl, refl, refl, refl, refl, refl, refl)
texts p None (Some r) (Some f) (Some s) (Some m) true = (refl, refl, refl, refl, refl, refl, refl, refl, refl)
texts p (Some h) None None None None false = (refl, refl, refl, refl, refl, refl, refl, refl, refl)
texts p (Some h) None None None None true = (refl, refl, refl, refl, refl, refl, refl, refl, refl)
texts p (Some h) None None None (Some m) false = (refl, refl, refl, refl, refl, refl, refl, refl, refl)
texts p (Some h) None None None (Some m) true = (refl, refl, refl, refl, refl, refl, refl, refl, refl)
texts p (Some h) None None (Some s) None false = (refl, refl, refl, refl, refl, refl, refl, refl, refl)
texts p (Some h) None None (Some s) None true = (refl, refl, refl, refl, refl, refl, refl, refl, refl)
texts p (Some h) None None (Some s) (Some m) false = (refl, refl, refl, refl, refl, refl, refl, refl, refl)
texts p (Some h) None None (Some s) (Some m) true = (refl, refl, refl, refl, refl, refl, refl, refl, refl)
texts p (Some h) None (Some f) None None false = (refl, refl, refl, refl, refl, refl, refl, refl, refl)
texts p (Some h) None (Some f) None None true = (refl, refl, refl, refl, refl, refl, refl, refl, refl)
texts p (Some h) None (Some f) None (Some m) false = (refl, refl, refl, refl, refl, refl, refl, refl, refl)
texts p (Some h) None (Some f) None (Some m) true = (refl, refl, refl, refl, refl, refl, refl, refl, refl)
texts p (Some h) None (Some f) (Some s) None false = (refl, refl, refl, refl, refl, refl, refl, refl, refl)
texts p (Some h) None (Some f) (Some s) None true = (refl, refl, refl, refl, refl, refl, refl, refl, refl)
texts p (Some h) None (Some f) (Some s) (Some m) false = (refl, refl, refl, refl, refl, refl, refl, refl, refl)
texts p (Some h) None (Some f) (Some s) (Some m) true = (refl, refl, refl, refl, refl, refl, refl, refl, refl)
texts p (Some h) (Some r) None None None false = (refl, refl, refl, refl, refl, refl, refl, refl, refl)
texts p (Some h) (Some r) None None None true = (refl, refl, refl, refl, refl, refl, refl, refl, refl)
texts p (Some h) (Some r) None None (Some m) false = (refl, refl, refl, refl, refl, refl, refl, refl, refl)
texts p (Some h) (Some r) None None (Some m) true = (refl, refl, refl, refl, refl, refl, refl, refl, refl)
texts p (Some h) (Some r) None (Some s) None false = (refl, refl, refl, refl, refl, refl, refl, refl, refl)
texts p (Some h) (Some r) None (Some s) None true = (refl, refl, refl, refl, refl, refl, refl, refl, refl)
texts p (Some h) (Some r) None (Some s) (Some m) false = (refl, refl, refl, refl, refl, refl, refl, refl, refl)
texts p (Some h) (Some r) None (Some s) (Some m) true = (refl, refl, refl, refl, refl, refl, refl, refl, refl)
texts p (Some h) (Some r) (Some f) None None false = (refl, refl, refl, refl, refl, refl, refl, refl, refl)
texts p (Some h) (Some r) (Some f) None None true = (refl, refl, refl, refl, refl, refl, refl, refl, refl)
texts p (Some h) (Some r) (Some f) None (Some m) false = (refl, refl, refl, refl, refl, refl, refl, refl, refl)
texts p (Some h) (Some r) (Some f) None (Some m) true = (refl, refl, refl, refl, refl, refl, refl, refl, refl)
texts p (Some h) (Some r) (Some f) (Some s) None false = (refl, refl, refl, refl, refl, refl, refl, refl, refl)
texts p (Some h) (Some r) (Some f) (Some s) None true = (refl, refl, refl, refl, refl, refl, refl, refl, refl)
texts p (Some h) (Some r) (Some f) (Some s) (Some m) false = (refl, refl, refl, refl, refl, refl, refl, refl, refl)
texts p (Some h) (Some r) (Some f) (Some s) (Some m) true = (refl, refl, refl, refl, refl, refl, refl, refl, refl)

good_end : (p : Text) (h r f s m : Option Text) (o : Bool) → end_fault shape (rows_said p h r f s m o) ≡ []
unfolding clap_on_literals
good_end p None None None None None false = refl
good_end p None None None None None true = refl
good_end p None None None None (Some m) false = refl
good_end p None None None None (Some m) true = refl
good_end p None None None (Some s) None false = refl
good_end p None None None (Some s) None true = refl
good_end p None None None (Some s) (Some m) false = refl
good_end p None None None (Some s) (Some m) true = refl
good_end p None None (Some f) None None false = refl
good_end p None None (Some f) None None true = refl
good_end p None None (Some f) None (Some m) false = refl
good_end p None None (Some f) None (Some m) true = refl
good_end p None None (Some f) (Some s) None false = refl
good_end p None None (Some f) (Some s) None true = refl
good_end p None None (Some f) (Some s) (Some m) false = refl
good_end p None None (Some f) (Some s) (Some m) true = refl
good_end p None (Some r) None None None false = refl
good_end p None (Some r) None None None true = refl
good_end p None (Some r) None None (Some m) false = refl
good_end p None (Some r) None None (Some m) true = refl
good_end p None (Some r) None (Some s) None false = refl
good_end p None (Some r) None (Some s) None true = refl
good_end p None (Some r) None (Some s) (Some m) false = refl
good_end p None (Some r) None (Some s) (Some m) true = refl
good_end p None (Some r) (Some f) None None false = refl
good_end p None (Some r) (Some f) None None true = refl
good_end p None (Some r) (Some f) None (Some m) false = refl
good_end p None (Some r) (Some f) None (Some m) true = refl
good_end p None (Some r) (Some f) (Some s) None false = refl
good_end p None (Some r) (Some f) (Some s) None true = refl
good_end p None (Some r) (Some f) (Some s) (Some m) false = refl
good_end p None (Some r) (Some f) (Some s) (Some m) true = refl
good_end p (Some h) None None None None false = refl
good_end p (Some h) None None None None true = refl
good_end p (Some h) None None None (Some m) false = refl
good_end p (Some h) None None None (Some m) true = refl
good_end p (Some h) None None (Some s) None false = refl
good_end p (Some h) None None (Some s) None true = refl
good_end p (Some h) None None (Some s) (Some m) false = refl
good_end p (Some h) None None (Some s) (Some m) true = refl
good_end p (Some h) None (Some f) None None false = refl
good_end p (Some h) None (Some f) None None true = refl
good_end p (Some h) None (Some f) None (Some m) false = refl
good_end p (Some h) None (Some f) None (Some m) true = refl
good_end p (Some h) None (Some f) (Some s) None false = refl
good_end p (Some h) None (Some f) (Some s) None true = refl
good_end p (Some h) None (Some f) (Some s) (Some m) false = refl
good_end p (Some h) None (Some f) (Some s) (Some m) true = refl
good_end p (Some h) (Some r) None None None false = refl
good_end p (Some h) (Some r) None None None true = refl
good_end p (Some h) (Some r) None None (Some m) false = refl
good_end p (Some h) (Some r) None None (Some m) true = refl
good_end p (Some h) (Some r) None (Some s) None false = refl
good_end p (Some h) (Some r) None (Some s) None true = refl
good_end p (Some h) (Some r) None (Some s) (Some m) false = refl
good_end p (Some h) (Some r) None (Some s) (Some m) true = refl
good_end p (Some h) (Some r) (Some f) None None false = refl
good_end p (Some h) (Some r) (Some f) None None true = refl
good_end p (Some h) (Some r) (Some f) None (Some m) false = refl
good_end p (Some h) (Some r) (Some f) None (Some m) true = refl
good_end p (Some h) (Some r) (Some f) (Some s) None false = refl
good_end p (Some h) (Some r) (Some f) (Some s) None true = refl
good_end p (Some h) (Some r) (Some f) (Some s) (Some m) false = refl
good_end p (Some h) (Some r) (Some f) (Some s) (Some m) true = refl

-- ---- `--once`

abbrev flag_words : Bool → List Text
flag_words false = []
flag_words true = codes "--once" ∷ []

flag_is : (o : Bool) (words : List Text) → SayFlag (codes "--once") words o → words ≡ flag_words o
flag_is false words is = is
flag_is true words is = is

reaches_once : (words : List Text) (p : Text) (h r f s m : Option Text) (o : Bool) → Reaches shape words (rows_most p h r f s m)
    → Reaches shape (words ++ flag_words o) (rows_said p h r f s m o)
reaches_once words p h r f s m false reaches = subst (λ (w : List Text). Reaches shape w (rows_most p h r f s m)) (sym (append-nil words)) reaches
reaches_once words p h r f s m true reaches =
    reaches_flag shape (filled once_rule) (codes "--once") (codes "once") once_is words (rows_most p h r f s m) reaches (once_usable p h r f s m)

-- clap accepts the arguments, and the matches have these values
pub record SaidMaster (words : List Text) (port heartbeat resend : ℕ) (finish_after seconds : Option ℕ) (most : ℕ) (once : Bool) : Type 0 where
  pub rows : List Row
  pub takes : Takes words (codes "master") rows
  pub port_has : HasNumber (codes "port") rows port
  pub heartbeat_has : HasNumber (codes "heartbeat") rows heartbeat
  pub resend_has : HasNumber (codes "resend") rows resend
  pub finish_after_has : HasOptional (codes "finish-after") rows finish_after
  pub seconds_has : HasOptional (codes "seconds") rows seconds
  pub most_has : HasNumber (codes "most") rows most
  pub once_has : HasFlag (codes "once") rows once
  pub faults_has : HasFaults rows []
  pub random_has : HasRandom rows None

pub said_master : (words : List Text) (port heartbeat resend : ℕ) (finish_after seconds : Option ℕ) (most : ℕ) (once : Bool) (plan : Plan)
    → SayMaster words port heartbeat resend finish_after seconds most once → IsInRange (Master port heartbeat resend finish_after seconds most once plan)
    → SaidMaster words port heartbeat resend finish_after seconds most once
said_master words port heartbeat resend finish_after seconds most once plan
    (program, ports, heartbeats, resends, finishes, times, sizes, flags, says_port, says_heartbeat, says_resend, says_finish, says_time, says_size, says_once, spelt) range =
    let p : Says (codes "--port") None port_parser ports port = says_number MIN_MASTER_PORT MAX_PORT (omega arith) (codes "--port") None ports port says_port range.0 in
    let h : Says (codes "--heartbeat") usual_heartbeat heartbeat_parser heartbeats heartbeat =
    says_usually MIN_HEARTBEAT MAX_SECONDS (omega arith) (codes "--heartbeat") DEFAULT_HEARTBEAT.now heartbeats heartbeat says_heartbeat range.1 in
    let r : Says (codes "--resend") usual_resend resend_parser resends resend =
    says_usually MIN_RESEND MAX_SECONDS (omega arith) (codes "--resend") DEFAULT_RESEND.now resends resend says_resend range.2 in
    let f : SaysOptional (codes "--finish-after") finish_after_parser finishes finish_after =
    says_optional MIN_FINISH_AFTER MAX_SECONDS (omega arith) (codes "--finish-after") finishes finish_after says_finish range.3 in
    let s : SaysOptional (codes "--seconds") seconds_parser times seconds =
    says_optional MIN_SECONDS MAX_SECONDS (omega arith) (codes "--seconds") times seconds says_time range.4 in
    let m : Says (codes "--most") usual_size most_parser sizes most =
    says_usually MIN_CHUNK MAX_CHUNK (omega arith) (codes "--most") DEFAULT_MASTER_CHUNK.now sizes most says_size range.5 in
    let gp = gives_number (codes "--port") port_parser ports port p in
    let vh = given_value h.given in
    let vr = given_value r.given in
    let vf = given_value f.given in
    let vs = given_value s.given in
    let vm = given_value m.given in
    let rows = rows_end p.text vh vr vf vs vm once in
    let t = texts p.text vh vr vf vs vm once in
    let wp = given_words (codes "--port") gp.given in
    let wh = given_words (codes "--heartbeat") h.given in
    let wr = given_words (codes "--resend") r.given in
    let wf = given_words (codes "--finish-after") f.given in
    let ws = given_words (codes "--seconds") s.given in
    let wm = given_words (codes "--most") m.given in
    let wo = flag_words once in
    let all = (((((wp ++ wh) ++ wr) ++ wf) ++ ws) ++ wm) ++ wo in
    let reaches : Reaches shape all (rows_said p.text vh vr vf vs vm once) =
    reaches_once (((((wp ++ wh) ++ wr) ++ wf) ++ ws) ++ wm) p.text vh vr vf vs vm once
    (reaches_option shape (filled chunk_rule) (codes "--most") (codes "most") most_is ((((wp ++ wh) ++ wr) ++ wf) ++ ws) (rows_seconds p.text vh vr vf vs)
    (reaches_option shape (filled seconds_rule) (codes "--seconds") (codes "seconds") seconds_is (((wp ++ wh) ++ wr) ++ wf) (rows_finish_after p.text vh vr vf)
    (reaches_option shape (filled finish_after_rule) (codes "--finish-after") (codes "finish-after") finish_after_is ((wp ++ wh) ++ wr) (rows_resend p.text vh vr)
    (reaches_option shape (filled resend_rule) (codes "--resend") (codes "resend") resend_is (wp ++ wh) (rows_heartbeat p.text vh)
    (reaches_option shape (filled heartbeat_rule) (codes "--heartbeat") (codes "heartbeat") heartbeat_is wp (rows_port p.text)
    (reaches_given shape (filled master_port_rule) (codes "--port") (codes "port") port_is [] ports [] (reaches_start shape) port_parser p.text gp (port_usable p.text gp.fits))
    h.given h.plain (heartbeat_usable p.text vh h.fits))
    r.given r.plain (resend_usable p.text vh vr r.fits))
    f.given f.plain (finish_after_usable p.text vh vr vf f.fits))
    s.given s.plain (seconds_usable p.text vh vr vf vs s.fits))
    m.given m.plain (most_usable p.text vh vr vf vs vm m.fits)) in
    let nested : all ≡ wp ++ (wh ++ (wr ++ (wf ++ (ws ++ (wm ++ wo))))) =
    append_assoc ((((wp ++ wh) ++ wr) ++ wf) ++ ws) wm wo ∙ append_assoc (((wp ++ wh) ++ wr) ++ wf) ws (wm ++ wo)
    ∙ append_assoc ((wp ++ wh) ++ wr) wf (ws ++ (wm ++ wo)) ∙ append_assoc (wp ++ wh) wr (wf ++ (ws ++ (wm ++ wo)))
    ∙ append_assoc wp wh (wr ++ (wf ++ (ws ++ (wm ++ wo)))) in
    let same : words ≡ program ∷ codes "master" ∷ all =
    spelt ∙ ap (λ (l : List Text). program ∷ codes "master" ∷ (l ++ (heartbeats ++ (resends ++ (finishes ++ (times ++ (sizes ++ flags))))))) gp.is
    ∙ ap (λ (l : List Text). program ∷ codes "master" ∷ (wp ++ (l ++ (resends ++ (finishes ++ (times ++ (sizes ++ flags))))))) h.is
    ∙ ap (λ (l : List Text). program ∷ codes "master" ∷ (wp ++ (wh ++ (l ++ (finishes ++ (times ++ (sizes ++ flags))))))) r.is
    ∙ ap (λ (l : List Text). program ∷ codes "master" ∷ (wp ++ (wh ++ (wr ++ (l ++ (times ++ (sizes ++ flags))))))) f.is
    ∙ ap (λ (l : List Text). program ∷ codes "master" ∷ (wp ++ (wh ++ (wr ++ (wf ++ (l ++ (sizes ++ flags))))))) s.is
    ∙ ap (λ (l : List Text). program ∷ codes "master" ∷ (wp ++ (wh ++ (wr ++ (wf ++ (ws ++ (l ++ flags))))))) m.is
    ∙ ap (λ (l : List Text). program ∷ codes "master" ∷ (wp ++ (wh ++ (wr ++ (wf ++ (ws ++ (wm ++ l))))))) (flag_is once flags says_once)
    ∙ ap (λ (l : List Text). program ∷ codes "master" ∷ l) (sym nested) in
    record {
      rows = rows;
      takes = subst (λ (w : List Text). Takes w (codes "master") rows) (sym same)
          (takes_words program (codes "master") shape master_is all (rows_said p.text vh vr vf vs vm once) reaches (good_end p.text vh vr vf vs vm once));
      port_has = given_number (one_of (codes "port") rows) (codes "--port") port_parser ports port p t.0;
      heartbeat_has = has_number (one_of (codes "heartbeat") rows) (codes "--heartbeat") usual_heartbeat heartbeat_parser heartbeats heartbeat h
          (t.1 ∙ ap (value_or usual_heartbeat) (read_plain vh h.plain));
      resend_has = has_number (one_of (codes "resend") rows) (codes "--resend") usual_resend resend_parser resends resend r
          (t.2 ∙ ap (value_or usual_resend) (read_plain vr r.plain));
      finish_after_has = has_optional (codes "finish-after") rows vf finish_after (t.3 ∙ read_plain vf f.plain) f.number;
      seconds_has = has_optional (codes "seconds") rows vs seconds (t.4 ∙ read_plain vs s.plain) s.number;
      most_has = has_number (one_of (codes "most") rows) (codes "--most") usual_size most_parser sizes most m (t.5 ∙ ap (value_or usual_size) (read_plain vm m.plain));
      once_has = has_flag (codes "once") rows once t.6;
      faults_has = subst (λ (l : Option (List Text)). AllZip NamesFault (unwrap_or l []) []) (sym t.7) tt;
      random_has = t.8;
    }
