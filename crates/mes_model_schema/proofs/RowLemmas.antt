-- Lemmas: the value or the fault of a row, from the value that was found of its member.
--     looked_value, looked_none                            the result of looking up the member
--     required_at, optional_at, repeated_at, flagged_at    the result of a row with a value
--     gives_bound, gives_same                              an error that `?` returns is allowed
--     refused_bound, refused_same                          the same for an error made for a fault
use Rattle.std.proofs.Common.{◌≡◌, ℕ, true, List, Some, refl, sym, ◌∙◌, ap, subst}
use Rattle.std.specs.Prelude.{Result, Ok, Err}
use Rattle.std.specs.Result.{IsErrAnd}
use Rattle.mes_json.specs.Tree.{Tree, Members}
use Rattle.mes_json.specs.Tokens.{Token, BeginsWith}
use Rattle.mes_model_schema.specs.Paths.{Place}
use Rattle.mes_model_schema.specs.Fields.{values_named, below, single, lookup}
use Rattle.mes_model_schema.specs.Kinds.{Kind, ◌>>=◌}
use Rattle.mes_model_schema.specs.Leaves.{members_at}
use Rattle.mes_model_schema.specs.Lists.{list_of}
use Rattle.mes_model_schema.specs.Rows.{must, required, likewise, optional, listed, repeated, is_there, flagged}
use Rattle.mes_model_schema.specs.FieldLaws.{after, bound_ok}
use Rattle.mes_model_schema.specs.FoundRows.{IsFound, IsSole}
use Rattle.mes_model_schema.specs.Parts.{Gives, Refuses}
use Rattle.mes_model_schema.proofs.PartLemmas.{gives_refused}
use Rattle.mes_model_schema.specs.declared.field.FieldFault.{FieldFault}
use Rattle.mes_model_schema.specs.declared.found_rows.Found.{Found}
use Rattle.mes_model_schema.specs.declared.read_row.Unique.{Unique}
use Rattle.mes_model_schema.specs.declared.read_row.Unique.TheVariants.{Present}
use Rattle.mes_model_schema.specs.declared.part.PartFault.{PartFault}
use Rattle.mes_model_schema.specs.declared.part.PartFault.TheVariants.{Field, NoMemory}

-- if the entry of a name is a value, looking up the name returns that value
pub looked_value : (f : Found) (at : List Place) (n : List ℕ) (ms : Members) (s : Unique) (e : List Token)
    → ((at : List Place) (ts : List Tree) → IsFound f ts → IsSole at (single at ts) s) → s ≡ Present e → IsFound f (values_named n ms)
    → (t : Tree) × (lookup at n ms ≡ Ok (Some t)) × BeginsWith e t
unfolding lookup
looked_value f at n ms s e shows is found =
    subst (λ (x : Unique). IsSole (below at n) (single (below at n) (values_named n ms)) x) is (shows (below at n) (values_named n ms) found)

-- ---- the result of a row, if a value was found

pub required_at : {A : Type 0} (k : Kind A) (at inner : List Place) (n : List ℕ) (ms : Members) (t : Tree)
    → inner ≡ below at n → lookup at n ms ≡ Ok (Some t) → required n k at ms ≡ k.read inner t
unfolding required
required_at k at inner n ms t place is = after (lookup at n ms) (must k (below at n)) (Some t) is ∙ ap (λ (p : List Place). k.read p t) (sym place)

pub optional_at : {A : Type 0} (k : Kind A) (at inner : List Place) (n : List ℕ) (ms : Members) (t : Tree)
    → inner ≡ below at n → lookup at n ms ≡ Ok (Some t) → optional n k at ms ≡ (k.read inner t >>= λ v. Ok (Some v))
unfolding optional
optional_at k at inner n ms t place is =
    after (lookup at n ms) (likewise k (below at n)) (Some t) is ∙ ap (λ (p : List Place). k.read p t >>= λ v. Ok (Some v)) (sym place)

pub repeated_at : {A : Type 0} (k : Kind A) (at inner : List Place) (n : List ℕ) (ms : Members) (t : Tree)
    → inner ≡ below at n → lookup at n ms ≡ Ok (Some t) → repeated n k at ms ≡ (list_of k).read inner t
unfolding repeated
repeated_at k at inner n ms t place is =
    after (lookup at n ms) (listed k (below at n)) (Some t) is ∙ ap (λ (p : List Place). (list_of k).read p t) (sym place)

pub flagged_at : (at inner : List Place) (n : List ℕ) (ms : Members) (t : Tree)
    → inner ≡ below at n → lookup at n ms ≡ Ok (Some t) → flagged n at ms ≡ (members_at inner t >>= λ os. Ok true)
unfolding flagged
flagged_at at inner n ms t place is =
    after (lookup at n ms) (is_there (below at n)) (Some t) is ∙ ap (λ (p : List Place). members_at p t >>= λ os. Ok true) (sym place)

-- ---- an error that `?` returns is an allowed result

pub gives_bound : {V W : Type 0} (read : Result V FieldFault) (go : V → Result W FieldFault) (e : PartFault) (r : Result W PartFault)
    → IsErrAnd r (λ x. x ≡ e) → Gives {V = V} read (Err e) → Gives (read >>= go) r
gives_bound read go e (Ok v) is fails = absurd is
gives_bound {V} read go e (Err x) is fails = by_fault x (subst (λ (y : PartFault). Gives {V = V} read (Err y)) (sym is) fails) where
  by_fault : (x : PartFault) → Gives {V = V} read (Err x) → Gives (read >>= go) (Err x)
  by_fault (Field f) fails = rw fails refl
  by_fault NoMemory fails = tt

-- like `gives_bound`, if nothing else is read
pub gives_same : {V : Type 0} (read : Result V FieldFault) (e : PartFault) (r : Result V PartFault) → IsErrAnd r (λ x. x ≡ e) → Gives {V = V} read (Err e) → Gives read r
gives_same {V} read e r is fails =
    subst (λ (x : Result V FieldFault). Gives x r) (bound_ok read) (gives_bound read (λ x. Ok x) e r is fails)

-- like `gives_bound`, for an error that was made for a fault
pub refused_bound : {V W : Type 0} (read : Result V FieldFault) (go : V → Result W FieldFault) (e : PartFault) (r : Result W PartFault)
    → IsErrAnd r (λ x. x ≡ e) → Refuses read e → Gives (read >>= go) r
refused_bound read go e r is refused = gives_bound read go e r is (gives_refused read e refused)

pub refused_same : {V : Type 0} (read : Result V FieldFault) (e : PartFault) (r : Result V PartFault) → IsErrAnd r (λ x. x ≡ e) → Refuses read e → Gives read r
refused_same read e r is refused = gives_same read e r is (gives_refused read e refused)

-- ---- a row that was read, and the rows after it

-- equal entries represent the same values
pub found_as : (f g : Found) (ts : List Tree) → f ≡ g → IsFound g ts → IsFound f ts
found_as f g ts same found = subst (λ (x : Found). IsFound x ts) (sym same) found

-- if a row has a value, an allowed result of the later rows is an allowed result of the chain
pub gives_then : {V W : Type 0} (read : Result V FieldFault) (go : V → Result W FieldFault) (v : V) (r : Result W PartFault)
    → read ≡ Ok v → Gives (go v) r → Gives (read >>= go) r
gives_then {W = W} read go v r is gives = subst (λ (x : Result W FieldFault). Gives x r) (sym (after read go v is)) gives
