-- A name has no colon, so the text of a fault is split at the colon after its name.
use Rattle.std.proofs.Common.{◌≡◌, ◌≢◌, ◌++◌, ℕ, zero, suc, Bool, true, List, [], ◌∷◌, Option, Some, None, eqb, refl, subst, sym, ap, ◌∙◌, arith}
use Rattle.std.specs.Prelude.{codes, IfSome, MatchBool, not, ◌&&◌}
use Rattle.std.specs.Str.{bytes_eq}
use Rattle.std.proofs.lemmas.Str.Pattern.{IsSplitOnceResult, split_after, split_parts}
use Rattle.std.proofs.lemmas.Bool.{and_parts, eqb-false, not-true}
use Rattle.mes_frame.specs.declared.limits.TheConstants.{MIN_CHUNK, MAX_CHUNK}
use Rattle.mes_double_faults.specs.Texts.{Writes, ArePair, HasNoNumber, HasNoPair, IsPlace, IsText, IsInRange, HasNoFault}
use Rattle.mes_double_faults.specs.declared.number.TheConstants.{MAX_NUMBER, MAX_SECONDS}
use Rattle.mes_double_faults.specs.declared.fault.Fault.{Fault}
use Rattle.mes_double_faults.specs.declared.fault.Fault.TheVariants.{Event, Call, Chunk}
use Rattle.mes_double_faults.specs.declared.fault.EventFault.TheVariants.{Lost, Repeated, Cut, Late, Muted}
use Rattle.mes_double_faults.specs.declared.fault.CallFault.TheVariants.{Busy, Unanswered, Slow, Gone, Reset}
use Rattle.mes_double_faults.proofs.NumberLemmas.{HasNoColon}
use denote.Ref.{Bor}

-- the name in the text of a fault, and what follows its colon
abbrev pub name_of : Fault → List ℕ
name_of (Event k Lost) = codes "lose"
name_of (Event k Repeated) = codes "twice"
name_of (Event k (Cut bytes)) = codes "cut"
name_of (Event k (Late seconds)) = codes "late"
name_of (Event k Muted) = codes "mute"
name_of (Call k Busy) = codes "busy"
name_of (Call k Unanswered) = codes "unanswered"
name_of (Call k (Slow seconds)) = codes "slow"
name_of (Call k Gone) = codes "gone"
name_of (Call k Reset) = codes "reset"
name_of (Chunk most) = codes "chunk"

abbrev pub AreNumbers : List ℕ → Fault → Type 0
AreNumbers text (Event k Lost) = Writes text k
AreNumbers text (Event k Repeated) = Writes text k
AreNumbers text (Event k (Cut bytes)) = ArePair text k bytes
AreNumbers text (Event k (Late seconds)) = ArePair text k seconds
AreNumbers text (Event k Muted) = Writes text k
AreNumbers text (Call k Busy) = Writes text k
AreNumbers text (Call k Unanswered) = Writes text k
AreNumbers text (Call k (Slow seconds)) = ArePair text k seconds
AreNumbers text (Call k Gone) = Writes text k
AreNumbers text (Call k Reset) = Writes text k
AreNumbers text (Chunk most) = Writes text most

-- the text is the fault's name, a colon and the fault's numbers
abbrev pub IsNamed : List ℕ → Fault → Type 0
IsNamed text fault = (numbers : List ℕ) × AreNumbers numbers fault × (text ≡ name_of fault ++ 58 ∷ numbers)

named : (text : List ℕ) (fault : Fault) → IsText text fault → IsNamed text fault
named text (Event k Lost) is = is
named text (Event k Repeated) is = is
named text (Event k (Cut bytes)) (first, second, one, two, is) = (first ++ 58 ∷ second, (first, second, one, two, refl), is)
named text (Event k (Late seconds)) (first, second, one, two, is) = (first ++ 58 ∷ second, (first, second, one, two, refl), is)
named text (Event k Muted) is = is
named text (Call k Busy) is = is
named text (Call k Unanswered) is = is
named text (Call k (Slow seconds)) (first, second, one, two, is) = (first ++ 58 ∷ second, (first, second, one, two, refl), is)
named text (Call k Gone) is = is
named text (Call k Reset) is = is
named text (Chunk most) is = is

unnamed : (text : List ℕ) (fault : Fault) → IsNamed text fault → IsText text fault
unnamed text (Event k Lost) is = is
unnamed text (Event k Repeated) is = is
unnamed text (Event k (Cut bytes)) (numbers, (first, second, one, two, pair), is) = (first, second, one, two, is ∙ ap (λ t. codes "cut" ++ 58 ∷ t) pair)
unnamed text (Event k (Late seconds)) (numbers, (first, second, one, two, pair), is) = (first, second, one, two, is ∙ ap (λ t. codes "late" ++ 58 ∷ t) pair)
unnamed text (Event k Muted) is = is
unnamed text (Call k Busy) is = is
unnamed text (Call k Unanswered) is = is
unnamed text (Call k (Slow seconds)) (numbers, (first, second, one, two, pair), is) = (first, second, one, two, is ∙ ap (λ t. codes "slow" ++ 58 ∷ t) pair)
unnamed text (Call k Gone) is = is
unnamed text (Call k Reset) is = is
unnamed text (Chunk most) is = is

-- a test of a text: no colon is in it
abbrev lacks_colon : List ℕ → Bool
lacks_colon [] = true
lacks_colon (c ∷ cs) = not (eqb c 58) && lacks_colon cs

no_colon : (text : List ℕ) → lacks_colon text ≡ true → HasNoColon text
no_colon [] lacks i small is = omega arith
no_colon (c ∷ cs) lacks zero small is = eqb-false c 58 (not-true (eqb c 58) (and_parts _ _ lacks).0) is
no_colon (c ∷ cs) lacks (suc i) small is = no_colon cs (and_parts _ _ lacks).1 i (omega arith) is

name_lacks_colon : (fault : Fault) → lacks_colon (name_of fault) ≡ true
name_lacks_colon (Event k Lost) = refl
name_lacks_colon (Event k Repeated) = refl
name_lacks_colon (Event k (Cut bytes)) = refl
name_lacks_colon (Event k (Late seconds)) = refl
name_lacks_colon (Event k Muted) = refl
name_lacks_colon (Call k Busy) = refl
name_lacks_colon (Call k Unanswered) = refl
name_lacks_colon (Call k (Slow seconds)) = refl
name_lacks_colon (Call k Gone) = refl
name_lacks_colon (Call k Reset) = refl
name_lacks_colon (Chunk most) = refl

-- a text that is not split is that of no fault
pub fault_unsplit : (text : List ℕ) → IsSplitOnceResult 58 text None → HasNoFault text
fault_unsplit text split (fault, is_text, range) =
    let is = named text fault is_text in
    split_after 58 text (name_of fault) is.0 None split (omega arith) is.2 (no_colon (name_of fault) (name_lacks_colon fault))

-- the text has no numbers in the ranges of the faults of this name
abbrev pub HasNoNumbers : List ℕ → List ℕ → Type 0
HasNoNumbers name text =
    MatchBool (bytes_eq name (codes "cut")) (HasNoPair text 0 MAX_NUMBER)
    (MatchBool (bytes_eq name (codes "late")) (HasNoPair text 1 MAX_SECONDS)
    (MatchBool (bytes_eq name (codes "slow")) (HasNoPair text 1 MAX_SECONDS)
    (MatchBool (bytes_eq name (codes "chunk")) (HasNoNumber text MIN_CHUNK MAX_CHUNK) (HasNoNumber text 1 MAX_NUMBER))))

no_numbers : (text : List ℕ) (fault : Fault) → HasNoNumbers (name_of fault) text → AreNumbers text fault → IsInRange fault → ⊥
no_numbers text (Event k Lost) none is range = none (k, is, range.0, range.1)
no_numbers text (Event k Repeated) none is range = none (k, is, range.0, range.1)
no_numbers text (Event k (Cut bytes)) none is range = none (k, bytes, is, range.0, omega arith, range.1)
no_numbers text (Event k (Late seconds)) none is range = none (k, seconds, is, range.0, range.1.0, range.1.1)
no_numbers text (Event k Muted) none is range = none (k, is, range.0, range.1)
no_numbers text (Call k Busy) none is range = none (k, is, range.0, range.1)
no_numbers text (Call k Unanswered) none is range = none (k, is, range.0, range.1)
no_numbers text (Call k (Slow seconds)) none is range = none (k, seconds, is, range.0, range.1.0, range.1.1)
no_numbers text (Call k Gone) none is range = none (k, is, range.0, range.1)
no_numbers text (Call k Reset) none is range = none (k, is, range.0, range.1)
no_numbers text (Chunk most) none is range = none (most, is, range.0, range.1)

-- the name is that of no fault
abbrev pub IsNoName : List ℕ → Type 0
IsNoName name = (fault : Fault) → name ≢ name_of fault

pub no_name : (name : List ℕ) → name ≢ codes "lose" → name ≢ codes "twice" → name ≢ codes "cut" → name ≢ codes "late" → name ≢ codes "mute" → name ≢ codes "busy" → name ≢ codes "unanswered" → name ≢ codes "slow" → name ≢ codes "gone" → name ≢ codes "reset" → name ≢ codes "chunk" → IsNoName name
no_name name lose twice cut late mute busy unanswered slow gone reset chunk (Event k Lost) is = lose is
no_name name lose twice cut late mute busy unanswered slow gone reset chunk (Event k Repeated) is = twice is
no_name name lose twice cut late mute busy unanswered slow gone reset chunk (Event k (Cut bytes)) is = cut is
no_name name lose twice cut late mute busy unanswered slow gone reset chunk (Event k (Late seconds)) is = late is
no_name name lose twice cut late mute busy unanswered slow gone reset chunk (Event k Muted) is = mute is
no_name name lose twice cut late mute busy unanswered slow gone reset chunk (Call k Busy) is = busy is
no_name name lose twice cut late mute busy unanswered slow gone reset chunk (Call k Unanswered) is = unanswered is
no_name name lose twice cut late mute busy unanswered slow gone reset chunk (Call k (Slow seconds)) is = slow is
no_name name lose twice cut late mute busy unanswered slow gone reset chunk (Call k Gone) is = gone is
no_name name lose twice cut late mute busy unanswered slow gone reset chunk (Call k Reset) is = reset is
no_name name lose twice cut late mute busy unanswered slow gone reset chunk (Chunk most) is = chunk is

-- the text is split at its first colon into a name and what follows
pub record IsSplit (text name numbers : List ℕ) : Type 0 where
  pub whole : text ≡ name ++ 58 ∷ numbers
  -- the parts of a fault's text are its name and its numbers
  pub parts : (fault : Fault) → IsText text fault → (name ≡ name_of fault) × AreNumbers numbers fault

pub split_of : {text : List ℕ} (x y : Bor (List ℕ)) → IsSplitOnceResult 58 text (Some (x, y)) → IsSplit text x.now y.now
split_of {text} x y split = record {
  whole = (split_parts 58 text (Some (x, y)) split (omega arith)).0;
  parts = λ fault is_text.
      let is = named text fault is_text in
      let same = split_after 58 text (name_of fault) is.0 (Some (x, y)) split (omega arith) is.2 (no_colon (name_of fault) (name_lacks_colon fault)) in
      (same.0, subst (λ t. AreNumbers t fault) (sym same.1) is.1);
}

module _ {text name numbers : List ℕ} (split : IsSplit text name numbers) where
  pub unknown : IsNoName name → HasNoFault text
  unknown none (fault, is_text, range) = none fault (split.parts fault is_text).0

  pub unnumbered : (a : List ℕ) → name ≡ a → HasNoNumbers a numbers → HasNoFault text
  unnumbered a is none (fault, is_text, range) =
      let has = split.parts fault is_text in
      no_numbers numbers fault (subst (λ t. HasNoNumbers t numbers) (sym is ∙ has.0) none) has.1 range

  pub numbered : (fault : Fault) → name ≡ name_of fault → AreNumbers numbers fault → IsText text fault
  numbered fault is has = unnamed text fault (numbers, has, split.whole ∙ ap (λ a. a ++ 58 ∷ numbers) is)

  -- a fault with one number, that of an event or of a call
  pub placed : (make : ℕ → Fault) (r : Option Fault) → ((k : ℕ) → name ≡ name_of (make k))
      → ((k : ℕ) → Writes numbers k → IsPlace k → AreNumbers numbers (make k) × IsInRange (make k))
      → IfSome r (λ fault. (k : ℕ) × (fault ≡ make k) × Writes numbers k × IsPlace k)
      → IfSome r (λ fault. IsText text fault × IsInRange fault)
  placed make None is good some = tt
  placed make (Some fault) is good (k, same, writes, place) =
      let has = good k writes place in
      subst (λ made. IsText text made × IsInRange made) (sym same) (numbered (make k) (is k) has.0, has.1)
