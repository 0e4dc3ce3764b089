-- Every list of bytes is a JSON text of exactly one tree, or has exactly one fault.
use Rattle.std.proofs.Common.{◌≡◌, ℕ, ◌+◌, ◌<◌, ◌⊎◌, inl, inr, List, [], ◌∷◌, ◌++◌, length, take, Option, Some, None, refl, ap, sym, ◌∙◌, subst, arith, append_assoc, append-nil, length-append}
use Rattle.std.proofs.Math.Seq.{take-append_seam, get_or-append_seam}
use Rattle.mes_json.specs.Tree.{Tree}
use Rattle.mes_json.specs.Grammar.{IsText}
use Rattle.mes_json.specs.Place.{IsFault}
use Rattle.mes_json.specs.Refusal.{Refuses}
use Rattle.mes_json.specs.Machine.{State, start, step, run, finish}
use Rattle.mes_json.specs.declared.fault.TextFault.{TextFault}
use Rattle.mes_json.specs.declared.fault.TextFaultKind.{TextFaultKind}
use Rattle.mes_json.specs.declared.fault.TextFaultKind.TheVariants.{Depth, Byte}
use Rattle.mes_json.proofs.RunLemmas.{run_more}
use Rattle.mes_json.proofs.StepLemmas.{finished}
use Rattle.mes_json.proofs.PlaceLemmas.{refused, ended}

abbrev pub Reading : ℕ → List ℕ → Type 0
Reading d b = ((t : Tree) × IsText d b t) ⊎ ((f : TextFault) × IsFault d b f)

at_end : (d : ℕ) (b : List ℕ) (s : State) → run d start b ≡ Some s → Reading d b
at_end d b s e = by (finish s) refl
  where
    by : (o : Option Tree) → finish s ≡ o → Reading d b
    by (Some t) f = inl (t, finished d b s t e f)
    by None f = inr (_, ended d b s e f)

why_not : (d : ℕ) (s : State) (c : ℕ) → step d s c ≡ None → (why : TextFaultKind) × Refuses d why s c
why_not d s c stuck = by (step (d + 1) s c) refl
  where
    by : (o : Option State) → step (d + 1) s c ≡ o → (why : TextFaultKind) × Refuses d why s c
    by (Some next) e = (Depth, record { stuck = stuck; reason = (next, e) })
    by None e = (Byte, record { stuck = stuck; reason = e })

at_byte : (d : ℕ) (p q : List ℕ) (c : ℕ) (s : State) → run d start p ≡ Some s → step d s c ≡ None → Reading d (p ++ c ∷ q)
at_byte d p q c s e stuck =
    let r = why_not d s c stuck in
    let len = length-append p (c ∷ q) in
    let inside : length p < length (p ++ c ∷ q) = omega (arith, len) in
    let front : run d start (take (length p) (p ++ c ∷ q)) ≡ Some s = ap (run d start) (take-append_seam p (c ∷ q)) ∙ e in
    inr (_, refused d (p ++ c ∷ q) (length p) s r.0 inside front (subst (Refuses d r.0 s) (sym (get_or-append_seam p c q 0)) r.1))

from_front : (d : ℕ) (q p : List ℕ) (s : State) → run d start p ≡ Some s → Reading d (p ++ q)
from_front d [] p s e = subst (Reading d) (sym (append-nil p)) (at_end d p s e)
from_front d (c ∷ q) p s e = by (step d s c) refl (λ next f. from_front d q (p ++ c ∷ []) next f)
  where
    by : (o : Option State) → step d s c ≡ o → ((next : State) → run d start (p ++ c ∷ []) ≡ Some next → Reading d ((p ++ c ∷ []) ++ q)) → Reading d (p ++ c ∷ q)
    by (Some next) f go = subst (Reading d) (append_assoc p (c ∷ []) q) (go next (run_more d start s p c e ∙ f))
    by None f go = at_byte d p q c s e f

pub some_reading : (d : ℕ) (b : List ℕ) → Reading d b
unfolding run
some_reading d b = from_front d b [] start refl
