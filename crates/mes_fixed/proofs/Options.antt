-- Lemmas about `Option`: from `SomeIff`, `IfSome` and `IfNone` to their consequences.
use Rattle.std.proofs.Common.{◌≡◌, Bool, false, ◌↔◌, IsTrue, Option, Some, None, sym, subst}
use Rattle.std.specs.Prelude.{SomeIff, IfSome, IfNone}

pub some_if : {X : Type 0} (o : Option X) (P : Type 0) (v : X) (Q : X → Type 0) → SomeIff o P v → (P → Q v) → IfSome o Q
some_if None P v Q h q = tt
some_if (Some x) P v Q h q = subst Q (sym h.1) (q h.0)

pub none_if : {X : Type 0} (o : Option X) (P : Type 0) (v : X) (Q : Type 0) → SomeIff o P v → ((P → ⊥) → Q) → IfNone o Q
none_if None P v Q h q = q h
none_if (Some x) P v Q h q = tt

pub if_some_both : {X : Type 0} (o : Option X) (P Q R : X → Type 0) → IfSome o P → IfSome o Q → ((x : X) → P x → Q x → R x) → IfSome o R
if_some_both None P Q R p q f = tt
if_some_both (Some x) P Q R p q f = f x p q

pub if_none_map : {X : Type 0} (o : Option X) (P Q : Type 0) → (P → Q) → IfNone o P → IfNone o Q
if_none_map None P Q f h = f h
if_none_map (Some x) P Q f h = tt

-- if a test decides P and is false, P does not hold
pub refuted : (b : Bool) (P : Type 0) → (IsTrue b ↔ P) → b ≡ false → P → ⊥
refuted b P h e p = let t = h.1 p in cc

pub if_some_so : {X : Type 0} (o : Option X) (P Q : X → Type 0) → IfSome o P → ((x : X) → P x → Q x) → IfSome o Q
if_some_so None P Q p f = tt
if_some_so (Some x) P Q p f = f x p
