-- Arguments in the usual order and spelling (`SayPlainly`) are accepted, and name exactly the
-- options that they spell.
use Rattle.std.proofs.Common.{◌≡◌, List, [], Result, Ok, Err, refl, sym, subst}
use Rattle.std.specs.Prelude.{IfErr, IfOk, IsSomeAnd, MatchResult, codes}
use Rattle.clap.specs.Words.{IsAmong, Row, Text, fault_of, kind_of, subcommand_of}
use Rattle.clap.specs.Simple.{built}
use Rattle.mesosev_args.specs.CommandLine.{command_app}
use Rattle.mesosev_args.specs.NamedOptions.{IsInRange, IsReadAs, NameOptions, RefusesArgs, SayPlainly}
use Rattle.mesosev_args.specs.OptionValues.{HasFaults, HasRandom}
use Rattle.mes_double_faults.specs.Plans.{Plan}
use Rattle.mesosev_args.specs.declared.args.Options.{Options}
use Rattle.mesosev_args.specs.declared.args.Options.TheVariants.{Check, Show, Convert, Replay, Relog, Serve, Master, Subscribe, Loopback}
use Rattle.mesosev_args.specs.declared.args.WordsFault.{WordsFault}
use Rattle.mesosev_args.specs.declared.args.WordsFault.TheVariants.{Clap, BadValue, Conflict, NoMemory}
use Rattle.mesosev_args.proofs.ConvertArgs.{said_convert}
use Rattle.mesosev_args.proofs.LogArgs.{log_shape, said_log}
use Rattle.mesosev_args.proofs.LoopbackArgs.{said_loopback}
use Rattle.mesosev_args.proofs.MasterArgs.{said_master}
use Rattle.mesosev_args.proofs.NamedOnce.{named_once}
use Rattle.mesosev_args.proofs.ReadingArgs.{reading_shape, said_reading}
use Rattle.mesosev_args.proofs.ReplayArgs.{said_replay}
use Rattle.mesosev_args.proofs.ServeArgs.{said_serve}
use Rattle.mesosev_args.proofs.ShowArgs.{said_show}
use Rattle.mesosev_args.proofs.SubscribeArgs.{said_subscribe}
use Rattle.mesosev_args.proofs.Subcommands.{IsSubcommand}
use Rattle.mesosev_args.proofs.ParsedArgs.{Takes}

check_is : IsSubcommand (built command_app) (codes "check") (reading_shape (codes "check"))
check_is = record { met = refl; found = refl; other = refl }

relog_is : IsSubcommand (built command_app) (codes "relog") (log_shape (codes "relog"))
relog_is = record { met = refl; found = refl; other = refl }

-- clap accepts the arguments, and they name the options
record Names (words : List Text) (o : Options) : Type 0 where
  named : NameOptions words o
  taken : fault_of command_app words ≡ []

names : (words : List Text) (name : Text) (rows : List Row) (o : Options) → Takes words name rows → IsReadAs (name, rows) o → Names words o
names words name rows o takes read = record { named = subst (λ met. IsSomeAnd met (λ r. IsReadAs r o)) (sym takes.named) read; taken = takes.taken }

plain_names : (words : List Text) (o : Options) → SayPlainly words o → IsInRange o → Names words o
plain_names words (Check framing limit calls) says range =
    let s = said_reading (codes "check") check_is words framing limit calls says range in
    names words (codes "check") s.rows (Check framing limit calls) s.takes (refl, s.framing_has, s.limit_has, s.calls_has)
plain_names words (Show framing limit json calls) says range =
    let s = said_show words framing limit json calls says range in
    names words (codes "show") s.rows (Show framing limit json calls) s.takes (refl, s.framing_has, s.limit_has, s.json_has, s.calls_has)
plain_names words (Convert framing limit format calls) says range =
    let s = said_convert words framing limit format calls says range.0 range.1 in
    names words (codes "convert") s.rows (Convert framing limit format calls) s.takes (refl, s.framing_has, s.limit_has, s.most_has, s.json_has, s.calls_has)
plain_names words (Replay limit json) says range =
    let s = said_replay words limit json says range in names words (codes "replay") s.rows (Replay limit json) s.takes (refl, s.limit_has, s.json_has)
plain_names words (Relog limit) says range =
    let s = said_log (codes "relog") relog_is words limit says range in names words (codes "relog") s.rows (Relog limit) s.takes (refl, s.limit_has)
plain_names words (Serve port count stream) says range =
    let s = said_serve words port count stream says range.0 range.1 in
    names words (codes "serve") s.rows (Serve port count stream) s.takes (refl, s.port_has, s.count_has, s.stream_has)
plain_names words (Master port heartbeat resend finish_after seconds most once plan) (says, none) range =
    let s = said_master words port heartbeat resend finish_after seconds most once plan says range in
    let faults = subst (λ (l : Plan). HasFaults s.rows l.faults) (sym none) s.faults_has in
    let random = subst (λ (l : Plan). HasRandom s.rows l.random) (sym none) s.random_has in
    names words (codes "master") s.rows (Master port heartbeat resend finish_after seconds most once plan) s.takes
    (refl, s.port_has, s.heartbeat_has, s.resend_has, s.finish_after_has, s.seconds_has, s.most_has, s.once_has, faults, random)
plain_names words (Subscribe to user name reads json) says range =
    let s = said_subscribe words to user name reads json says range.1 in
    names words (codes "subscribe") s.rows (Subscribe to user name reads json) s.takes (refl, s.to_has, s.user_has, s.name_has, s.reads_has, s.json_has)
plain_names words (Loopback most) says range =
    let s = said_loopback words most says range in names words (codes "loopback") s.rows (Loopback most) s.takes (refl, s.most_has)

-- for arguments in the usual spelling the result is the options spelt, unless memory runs out
pub plain_answer : (words : List Text) (r : Result Options WordsFault) → IfOk r (NameOptions words) → IfErr r (RefusesArgs words)
    → (said : Options) → SayPlainly words said → IsInRange said → MatchResult r (λ o. o ≡ said) (λ fault. fault ≡ NoMemory)
plain_answer words (Ok o) named refused said plainly range =
    named_once (subcommand_of command_app words) o said named (plain_names words said plainly range).named
plain_answer words (Err (Clap error)) named refused said plainly range =
    absurd (subst (IsAmong (kind_of error)) (plain_names words said plainly range).taken refused)
plain_answer words (Err (BadValue option)) named refused said plainly range =
    absurd (refused.1 (said, (plain_names words said plainly range).named, range))
plain_answer words (Err (Conflict option other)) named refused said plainly range =
    absurd (refused.1 (said, (plain_names words said plainly range).named, range))
plain_answer words (Err NoMemory) named refused said plainly range = refl
