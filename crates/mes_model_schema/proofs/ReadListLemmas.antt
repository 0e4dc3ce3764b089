-- Lemmas: a list is read item by item.
use Rattle.std.proofs.Common.{◌≡◌, ℕ, ◌+◌, List, [], ◌∷◌, ◌++◌, length, Some, None, refl, sym, ◌∙◌, ap, subst, append_assoc, append-nil, length-append}
use Rattle.std.specs.Prelude.{Result, Ok, Err}
use Rattle.std.specs.Result.{IsErrAnd}
use Rattle.mes_json.specs.Tree.{Tree, Items}
use Rattle.mes_json.specs.Tree.Tree.{null, boolean, number, string, array, object}
use Rattle.mes_json.specs.Tree.Items.{no_items, item}
use Rattle.mes_json.specs.Tokens.{Token, BeginsWith, BeginsItems}
use Rattle.mes_json.specs.Cursor.{as_items, FindsItems, NextItem}
use Rattle.mes_model_schema.specs.Paths.{Place}
use Rattle.mes_model_schema.specs.Paths.Place.{index}
use Rattle.mes_model_schema.specs.Fields.{fault}
use Rattle.mes_model_schema.specs.Kinds.{Kind, ◌>>=◌}
use Rattle.mes_model_schema.specs.Lists.{read_each, items_at, list_of}
use Rattle.mes_model_schema.specs.FieldLaws.{bound_ok}
use Rattle.mes_model_schema.specs.Parts.{Gives}
use Rattle.mes_model_schema.specs.declared.field.FieldFault.{FieldFault}
use Rattle.mes_model_schema.specs.declared.field.FieldFaultKind.TheVariants.{WrongKind}
use Rattle.mes_model_schema.specs.declared.part.PartFault.{PartFault}
use Rattle.mes_model_schema.proofs.RowLemmas.{gives_bound}

-- The expected values are the values read so far, followed by the values of the remaining items.
pub record ReadsOn {V : Type 0} (k : Kind V) (expected : Result (List V) FieldFault) (at : List Place) (xs : List V) (following : List Token) : Type 0 where
  pub rest : Items
  pub begins : BeginsItems following rest
  pub is : expected ≡ (read_each k at (length xs) rest >>= λ vs. Ok (xs ++ vs))

-- ---- a tree that is no array

pub no_items_found : (at : List Place) (t : Tree) → FindsItems None (as_items t) → items_at at t ≡ fault at WrongKind
no_items_found at null h = refl
no_items_found at (boolean x) h = refl
no_items_found at (number n) h = refl
no_items_found at (string s) h = refl
no_items_found at (array ts) h = absurd h
no_items_found at (object ms) h = refl

items_found : (at : List Place) (xs : List Token) (t : Tree) → FindsItems (Some xs) (as_items t) → (ts : Items) × (items_at at t ≡ Ok ts) × BeginsItems xs ts
items_found at xs null h = absurd h
items_found at xs (boolean x) h = absurd h
items_found at xs (number n) h = absurd h
items_found at xs (string s) h = absurd h
items_found at xs (array ts) h = (ts, refl, h)
items_found at xs (object ms) h = absurd h

pub no_list : {V : Type 0} (k : Kind V) (at : List Place) (t : Tree) → FindsItems None (as_items t) → (list_of k).read at t ≡ fault at WrongKind
no_list k at t h = rw (no_items_found at t h) refl

-- ---- the first item, the next item, and the end

pub reads_first : {V : Type 0} (k : Kind V) (at : List Place) (t : Tree) (xs : List V) (following : List Token)
    → FindsItems (Some following) (as_items t) → xs ≡ [] → ReadsOn k ((list_of k).read at t) at xs following
reads_first {V} k at t xs following h none = subst (λ (ys : List V). ReadsOn k ((list_of k).read at t) at ys following) (sym none) (record {
  rest = found.0;
  begins = found.2;
  is = rw (found.1) (sym (bound_ok (read_each k at 0 found.0)));
}) where
  found : (ts : Items) × (items_at at t ≡ Ok ts) × BeginsItems following ts
  found = items_found at following t h

module _ {V : Type 0} (k : Kind V) (at : List Place) where
  each_next : (xs : List V) (v : V) (t : Tree) (ts : Items) → k.read (at ++ index (length xs) ∷ []) t ≡ Ok v
      → (read_each k at (length xs) (item t ts) >>= λ vs. Ok (xs ++ vs)) ≡ (read_each k at (length (xs ++ v ∷ [])) ts >>= λ vs. Ok ((xs ++ v ∷ []) ++ vs))
  each_next xs v t ts is = rw is (ap (λ (i : ℕ). read_each k at i ts >>= (λ vs. Ok (v ∷ vs)) >>= (λ vs. Ok (xs ++ vs))) lengths ∙ by_rest (read_each k at (length (xs ++ v ∷ [])) ts)) where
    lengths : length xs + 1 ≡ length (xs ++ v ∷ [])
    lengths = sym (length-append xs (v ∷ []))

    by_rest : (r : Result (List V) FieldFault) → (r >>= (λ vs. Ok (v ∷ vs)) >>= (λ vs. Ok (xs ++ vs))) ≡ (r >>= λ vs. Ok ((xs ++ v ∷ []) ++ vs))
    by_rest (Ok vs) = ap (λ (ys : List V). Ok ys) (sym (append_assoc xs (v ∷ []) vs))
    by_rest (Err f) = refl

  pub reads_next : (expected : Result (List V) FieldFault) (inner : List Place) (xs ys : List V) (v : V) (x following others : List Token)
      → ReadsOn k expected at xs following → inner ≡ at ++ index (length xs) ∷ []
      → ((ts : Items) → BeginsItems following ts → NextItem ts (Some x) others)
      → ((t : Tree) → BeginsWith x t → k.read inner t ≡ Ok v) → ys ≡ xs ++ v ∷ [] → ReadsOn k expected at ys others
  reads_next expected inner xs ys v x following others so place next reads more =
      by_rest so.rest so.is (next so.rest so.begins) where
        by_rest : (ts : Items) → expected ≡ (read_each k at (length xs) ts >>= λ vs. Ok (xs ++ vs)) → NextItem ts (Some x) others → ReadsOn k expected at ys others
        by_rest no_items is there = absurd there
        by_rest (item t ts) is there = subst (λ (zs : List V). ReadsOn k expected at zs others) (sym more) (record {
          rest = ts;
          begins = there.1;
          is = is ∙ each_next xs v t ts (subst (λ (p : List Place). k.read p t ≡ Ok v) place (reads t there.0));
        })

  pub reads_fault : (expected : Result (List V) FieldFault) (inner : List Place) (xs : List V) (x following others : List Token) (e : PartFault) (r : Result (List V) PartFault)
      → ReadsOn k expected at xs following → inner ≡ at ++ index (length xs) ∷ []
      → ((ts : Items) → BeginsItems following ts → NextItem ts (Some x) others)
      → ((t : Tree) → BeginsWith x t → Gives {V = V} (k.read inner t) (Err e)) → IsErrAnd r (λ y. y ≡ e) → Gives expected r
  reads_fault expected inner xs x following others e r so place next fails is_err =
      by_rest so.rest so.is (next so.rest so.begins) where
        by_rest : (ts : Items) → expected ≡ (read_each k at (length xs) ts >>= λ vs. Ok (xs ++ vs)) → NextItem ts (Some x) others → Gives expected r
        by_rest no_items is there = absurd there
        by_rest (item t ts) is there =
            let here = subst (λ (p : List Place). Gives {V = V} (k.read p t) (Err e)) place (fails t there.0) in
            subst (λ (z : Result (List V) FieldFault). Gives z r) (sym (is ∙ together (k.read (at ++ index (length xs) ∷ []) t) ts))
            (gives_bound (k.read (at ++ index (length xs) ∷ []) t) _ e r is_err here) where
              together : (z : Result V FieldFault) (ts : Items)
                  → (z >>= (λ v. read_each k at (length xs + 1) ts >>= λ vs. Ok (v ∷ vs)) >>= (λ vs. Ok (xs ++ vs)))
                  ≡ (z >>= (λ v. read_each k at (length xs + 1) ts >>= (λ vs. Ok (v ∷ vs)) >>= (λ vs. Ok (xs ++ vs))))
              together (Ok v) ts = refl
              together (Err f) ts = refl

  pub reads_last : (expected : Result (List V) FieldFault) (xs : List V) (following others : List Token)
      → ReadsOn k expected at xs following → ((ts : Items) → BeginsItems following ts → NextItem ts None others) → expected ≡ Ok xs
  reads_last expected xs following others so next = by_rest so.rest so.is (next so.rest so.begins) where
    by_rest : (ts : Items) → expected ≡ (read_each k at (length xs) ts >>= λ vs. Ok (xs ++ vs)) → NextItem ts None others → expected ≡ Ok xs
    by_rest no_items is there = is ∙ ap (λ (ys : List V). Ok ys) (append-nil xs)
    by_rest (item t ts) is there = absurd there
