use Rattle.std.proofs.Common.{◌≡◌, List, [], true, map, refl, subst, Result, Ok, Err, IfErr, IfOk}
use Rattle.clap.specs.Words.{App, FailsBy, HasKind, HasMatchesOf, Kinds, Text, fault_of, is_simple, is_simple_and_free, subcommand_of, subcommand_rows_of}
use Rattle.clap.specs.declared.error.Error.{Error}
use Rattle.clap.specs.declared.parser.matches.ArgMatches.{ArgMatches}
use Rattle.mesosev_args.specs.CommandLine.{command_app}
use Rattle.mesosev_args.proofs.command.matches_of.Goals as goal

none_fails : {T : Type 0} (kinds : Kinds) (r : Result T Error) → FailsBy kinds r → IfOk r (λ x. kinds ≡ [])
none_fails kinds (Ok x) h = h
none_fails kinds (Err e) h = tt

one_fails : {T : Type 0} (kinds : Kinds) (r : Result T Error) → FailsBy kinds r → IfErr r (HasKind kinds)
one_fails kinds (Ok x) h = tt
one_fails kinds (Err e) h = h

simple : is_simple command_app ≡ true
simple = refl

simple_and_free : is_simple_and_free command_app ≡ true
simple_and_free = refl

fails_by : {T : Type 0} (a : App) (words : List Text) (r : Result T Error) → a ≡ command_app → (is_simple_and_free a ≡ true → FailsBy (fault_of a words) r)
    → FailsBy (fault_of command_app words) r
fails_by a words r is fails = subst (λ (b : App). is_simple_and_free b ≡ true → FailsBy (fault_of b words) r) is fails simple_and_free

names : (a : App) (words : List Text) (r : Result ArgMatches Error) → a ≡ command_app → IfOk r (HasMatchesOf a words)
    → IfOk r (λ m. subcommand_rows_of m ≡ subcommand_of command_app words)
names a words (Ok m) is has = (subst (λ (b : App). HasMatchesOf b words m) is has simple).1
names a words (Err e) is has = tt

pub returns-clause-ok : goal.returns-clause-ok
returns-clause-ok g c =
    none_fails (fault_of command_app (map g.S.AsStr.text c.args.words.now)) c.try_get_matches_from.result
    (fails_by _ (map g.S.AsStr.text c.args.words.now) c.try_get_matches_from.result c.in_ok-command.ensures c.try_get_matches_from.ensures.kinds)

pub returns-clause-named : goal.returns-clause-named
returns-clause-named g c =
    names _ (map g.S.AsStr.text c.args.words.now) c.try_get_matches_from.result c.in_ok-command.ensures c.try_get_matches_from.ensures.matches

pub returns-clause-err : goal.returns-clause-err
returns-clause-err g c =
    one_fails (fault_of command_app (map g.S.AsStr.text c.args.words.now)) c.try_get_matches_from.result
    (fails_by _ (map g.S.AsStr.text c.args.words.now) c.try_get_matches_from.result c.in_ok-command.ensures c.try_get_matches_from.ensures.kinds)
