-- Steps of the reader's fast path over expected tokens.
use Rattle.std.proofs.Common.{◌≡◌, ℕ, ◌+◌, ◌<◌, ◌⊎◌, inl, inr, List, [], ◌∷◌, ◌++◌, length, get_or, Some, Ok, refl, ap, ◌∙◌, arith}
use Rattle.mes_json.specs.Machine.{step}
use Rattle.mes_json.specs.Reader.{state_view, innermost, outer, Fits, Begins, Puts, Stays, RunsTo}
use Rattle.mes_json.specs.declared.limits.TheConstants.{MAX_NESTING}
use Rattle.mes_json.specs.declared.nesting.Open.TheVariants.{Object, Array}
use Rattle.mes_json.specs.declared.utf8.Utf8State as mid
use Rattle.mes_json.specs.declared.reader_state.Purpose as purpose
use Rattle.mes_json.specs.declared.reader_state.ReaderState as at
use Rattle.mes_json.specs.declared.reader.Reader.{Reader}
use Rattle.mes_json.specs.declared.tape.Node as node
use Rattle.mes_json.proofs.PlainLemmas.{runs_further}
use Rattle.mes_json.proofs.TakenLemmas.{nothing_taken, one_more, stays_taken}
use Rattle.mes_json.proofs.StringLemmas.{name_begins, next_name_begins}
use Rattle.mes_json.proofs.NestingLemmas.{entered}
use Rattle.mes_json.proofs.AfterLemmas.{object_ends, array_ends}

pub token_taken : (old new : Reader) (b : List ℕ) (from c : ℕ) → Fits old → from < length b → get_or b from 0 ≡ c
    → step MAX_NESTING (state_view old) c ≡ Some (state_view new) → Fits new → RunsTo old b from (from + 1) new
token_taken old new b from c fits inside byte gives fits_new =
    one_more old old new b from from (nothing_taken old b from fits (omega (arith, inside))) inside
    (ap (step MAX_NESTING (state_view old)) byte ∙ gives) fits_new

pub token_and_more : (old mid new : Reader) (b : List ℕ) (from to c : ℕ) → Fits old → from < length b → get_or b from 0 ≡ c
    → step MAX_NESTING (state_view old) c ≡ Some (state_view mid) → Fits mid → RunsTo mid b (from + 1) to new → RunsTo old b from to new
token_and_more old mid new b from to c fits inside byte gives fits_mid more =
    runs_further old mid new b from (from + 1) to (token_taken old mid b from c fits inside byte gives fits_mid) more

pub left : (old new : Reader) (b : List ℕ) (from : ℕ) → Fits old → from < length b → Stays old new → RunsTo old b from from new
left old new b from fits inside stays = stays_taken old new b from fits (omega (arith, inside)) stays

pub any_name_begins : (old new : Reader) → Fits old → (old.at ≡ at.TheVariants.FirstName) ⊎ (old.at ≡ at.TheVariants.Name)
    → Begins old [] (at.TheVariants.Quoted purpose.TheVariants.Name mid.TheVariants.Between) new → Fits new
any_name_begins old new fits (inl is_at) begins = name_begins old new fits is_at begins
any_name_begins old new fits (inr is_at) begins = next_name_begins old new fits is_at begins

-- the step from `old` to `new` is that of the state machine at the byte c, and `new` is consistent
pub record Leads (old : Reader) (c : ℕ) (new : Reader) : Type 0 where
  pub gives : step MAX_NESTING (state_view old) c ≡ Some (state_view new)
  pub fits : Fits new

pub object_opens : (old new : Reader) → Fits old → old.at ≡ at.TheVariants.Value → length old.nesting.items < MAX_NESTING
    → Puts old (old.nesting.items ++ Object ∷ []) (node.TheVariants.Map 0) at.TheVariants.FirstName new → Leads old 123 new
object_opens old new fits is_at room puts =
    let owes = entered {A = ℕ} Object old new (Ok 0) 123 fits is_at refl (room, puts) in
    record { gives = owes.0; fits = owes.1 }

pub object_closes : (old new : Reader) → Fits old → old.at ≡ at.TheVariants.After → innermost old.nesting.items ≡ Some Object
    → Puts old (outer old.nesting.items) node.TheVariants.End at.TheVariants.After new → Leads old 125 new
object_closes old new fits is_at inside puts =
    let owes = object_ends {A = ℕ} old new (Ok 0) 125 fits is_at inside refl puts tt in
    record { gives = owes.0; fits = owes.1 }

pub array_closes : (old new : Reader) → Fits old → old.at ≡ at.TheVariants.After → innermost old.nesting.items ≡ Some Array
    → Puts old (outer old.nesting.items) node.TheVariants.End at.TheVariants.After new → Leads old 93 new
array_closes old new fits is_at inside puts =
    let owes = array_ends {A = ℕ} old new (Ok 0) 93 fits is_at inside refl puts tt in
    record { gives = owes.0; fits = owes.1 }
