-- The effect of several bytes on a state of the state machine.
use Rattle.std.proofs.Common.{◌≡◌, ℕ, ◌⊎◌, inl, inr, List, [], ◌∷◌, ◌++◌, Some, option_and_then, refl, ap, ◌∙◌, append_assoc}
use Rattle.mes_json.specs.Grammar.{IsSpace, IsSpaces}
use Rattle.mes_json.specs.Machine.{State, kind_of, step, run, finish, ends}
use Rattle.mes_json.specs.Machine.ByteClass.{blank}

-- bytes that may follow a value: none, white space, a comma, or the end of an array or object
abbrev pub Follows : List ℕ → Type 0
Follows [] = Unit {0}
Follows (c ∷ q) = IsSpace c ⊎ (c ≡ 44) ⊎ (c ≡ 93) ⊎ (c ≡ 125)

abbrev pub Reaches : ℕ → State → List ℕ → State → Type 0
Reaches d s b last = (q : List ℕ) → run d s (b ++ q) ≡ run d last q

abbrev pub Leads : ℕ → State → List ℕ → State → Type 0
Leads d s b last = (q : List ℕ) → Follows q → ends d s (b ++ q) ≡ ends d last q

pub leads : (d : ℕ) (s last : State) (b : List ℕ) → Reaches d s b last → Leads d s b last
leads d s last b f = λ q _. ap (option_and_then finish) (f q)

pub reach_none : (d : ℕ) (s : State) → Reaches d s [] s
reach_none d s = λ q. refl

pub by_byte : (d : ℕ) (s next : State) (c : ℕ) → step d s c ≡ Some next → Reaches d s (c ∷ []) next
unfolding run
by_byte d s next c e = λ q. ap (option_and_then (λ last. run d last q)) e

pub then_to : (d : ℕ) (s next last : State) (a b : List ℕ) → Reaches d s a next → Reaches d next b last → Reaches d s (a ++ b) last
then_to d s next last a b f g = λ q. ap (run d s) (append_assoc a b q) ∙ f (b ++ q) ∙ g q

pub reach_then : (d : ℕ) (s next last : State) (a b : List ℕ) → Reaches d s a next → Leads d next b last → Leads d s (a ++ b) last
reach_then d s next last a b f g = λ q h. ap (ends d s) (append_assoc a b q) ∙ ap (option_and_then finish) (f (b ++ q)) ∙ g q h

pub lead_then : (d : ℕ) (s next last : State) (a b : List ℕ) → ((q : List ℕ) → Follows q → Follows (b ++ q)) → Leads d s a next → Leads d next b last → Leads d s (a ++ b) last
lead_then d s next last a b follow f g = λ q h. ap (ends d s) (append_assoc a b q) ∙ f (b ++ q) (follow q h) ∙ g q h

pub space_kind : (c : ℕ) → IsSpace c → kind_of c ≡ blank
space_kind c (inl e) = ap kind_of e
space_kind c (inr (inl e)) = ap kind_of e
space_kind c (inr (inr (inl e))) = ap kind_of e
space_kind c (inr (inr (inr e))) = ap kind_of e

-- several bytes of white space leave a state unchanged, if each of them does
pub over_spaces : (d : ℕ) (s : State) → ((c : ℕ) → kind_of c ≡ blank → step d s c ≡ Some s) → (b : List ℕ) → IsSpaces b → Reaches d s b s
over_spaces d s same [] h = reach_none d s
over_spaces d s same (c ∷ b) h = then_to d s s s (c ∷ []) b (by_byte d s s c (same c (space_kind c h.0))) (over_spaces d s same b h.1)

pub follows_spaces : (b : List ℕ) → IsSpaces b → (q : List ℕ) → Follows q → Follows (b ++ q)
follows_spaces [] h q f = f
follows_spaces (c ∷ b) h q f = inl h.0
