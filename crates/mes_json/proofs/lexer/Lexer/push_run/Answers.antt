use Rattle.std.proofs.Common.{ap}
use Rattle.mes_json.specs.Lexer.{HasLexed}
use Rattle.mes_json.specs.Read.{fault_at}
use Rattle.mes_json.proofs.LexerLemmas.{state_at, reading_at, goes_on, stuck_at, gets_stuck, stays_faulty, front_begins}
use Rattle.mes_json.proofs.lexer.Lexer.push_run.Goals as goal

pub invariant_of-self : goal.invariant_of-self
invariant_of-self c = (
  _,
  goes_on _ _ _ c.take_bytes.new.self c.self.invariant.0 c.args.bytes.now (reading_at _ _ _ c.self.invariant.0 c.in-Reading.is c.self.invariant.1)
      c.saturating_add-self-inside.ensures c.in-Ok.ensures.runs c.in-Ok.ensures.fits,
)

pub returns-in-Ok-clause-lexed : goal.returns-in-Ok-clause-lexed
unfolding HasLexed
returns-in-Ok-clause-lexed c p h =
    goes_on _ _ _ c.take_bytes.new.self p c.args.bytes.now (reading_at _ _ _ p c.in-Reading.is (state_at _ _ _ p c.self.view_is h))
    c.saturating_add-self-inside.ensures c.in-Ok.ensures.runs c.in-Ok.ensures.fits

pub invariant_of-self-in-Refused : goal.invariant_of-self-in-Refused
invariant_of-self-in-Refused c = (
  _,
  gets_stuck _ _ c.in-Reading.reader c.self.invariant.0 c.args.bytes.now (record { byte = c.in-Err.field-0.place; why = c.in-Refused.why }) (reading_at _ _ _ c.self.invariant.0 c.in-Reading.is c.self.invariant.1)
      (stuck_at _ _ _ _ (ap (fault_at c.in-Err.field-0.place) c.in-Refused.is) c.in-Err.ensures.fault) c.saturating_add.ensures,
)

pub returns-in-Refused-clause-lexed : goal.returns-in-Refused-clause-lexed
unfolding HasLexed
returns-in-Refused-clause-lexed c p h =
    gets_stuck _ _ c.in-Reading.reader p c.args.bytes.now (record { byte = c.in-Err.field-0.place; why = c.in-Refused.why }) (reading_at _ _ _ p c.in-Reading.is (state_at _ _ _ p c.self.view_is h))
    (stuck_at _ _ _ _ (ap (fault_at c.in-Err.field-0.place) c.in-Refused.is) c.in-Err.ensures.fault) c.saturating_add.ensures

pub returns-in-Faulty-clause-lexed : goal.returns-in-Faulty-clause-lexed
unfolding HasLexed
returns-in-Faulty-clause-lexed c p h = stays_faulty _ _ _ p c.args.bytes.now c.in-Faulty.is (state_at _ _ _ p c.self.view_is h)

pub returns-in-NoMemory-clause-begins : goal.returns-in-NoMemory-clause-begins
returns-in-NoMemory-clause-begins c = λ p h memory.
    let read = c.in-Err.ensures.read c.in-NoMemory.is in
    front_begins _ c.in-Reading.reader p _ read.next (reading_at _ _ _ p c.in-Reading.is (state_at _ _ _ p c.self.view_is h)) read.reached
