use Rattle.std.proofs.Common.{ℕ, List, ◌++◌, take, subst}
use Rattle.std.proofs.lemmas.List.{take_rest}
use Rattle.std.proofs.lemmas.Result.{err_from_is_err_and}
use Rattle.mes_session_log.specs.LogStages.{StageTakes}
use Rattle.mes_session_log.proofs.LogLemmas.{takes_rest, takes_stop}
use Rattle.mes_session_log.proofs.log_reading.LogReading.feed.Goals as goal

pub returns-in_err-used-clause-takes : goal.returns-in_err-used-clause-takes
returns-in_err-used-clause-takes c = λ limit w before h.
    let p = err_from_is_err_and c.from_residual.result c.from_residual.ensures.1 in
    rw (p.1, p.2) (takes_stop c.begin.new.self.stage limit w c.args.piece.now before c.args.entries.now.items c.begin.new.entries.items c.in_err-used.field-0.0 (c.in_err-used.ensures.begins limit w before h))

pub returns-in-Some-clause-takes : goal.returns-in-Some-clause-takes
returns-in-Some-clause-takes c = λ limit w before h.
    let piece = c.args.piece.now in
    let used = c.in-Some.used in
    let begins = rw c.in-Some.is at (c.in_ok-used.ensures.begins limit w before h) in
    let fed = c.feed.ensures limit (w ++ take used piece) (before ++ begins.0) begins.2 in
    takes_rest c.begin.new.self.stage limit w piece before c.args.entries.now.items c.begin.new.entries.items c.feed.new.entries.items used c.feed.result begins c.feed.new.self
    (subst (λ (rest : List ℕ). StageTakes c.feed.new.self limit (w ++ take used piece) (before ++ begins.0) rest c.begin.new.entries.items c.feed.new.entries.items c.feed.result) (take_rest piece used) fed)
