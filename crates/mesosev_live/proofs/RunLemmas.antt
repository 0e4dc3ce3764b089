-- What came on a connection are the requests that were served, and what was written their responses.
use Rattle.std.proofs.Common.{◌≡◌, ◌∙◌, ap, ℕ, List, [], ◌∷◌, ◌++◌, sym, append_assoc, append-nil}
use Rattle.std.proofs.lemmas.Grind.{flat_map-append}
use Rattle.mesosev_live.specs.Runs.{Exchange, Bytes, Step, Runs, requests_of, responses_of, came, served, responded, written}
use Rattle.mesosev_live.specs.Runs.Step.{comes, serves, writes, ends}

-- bytes that are appended, before later ones
behind : (a b c d : List ℕ) → d ≡ a ++ b → a ++ (b ++ c) ≡ d ++ c
behind a b c d is = sym (append_assoc a b c) ∙ ap (λ (t : List ℕ). t ++ c) (sym is)

-- bytes that are taken from the front
in_front : (a b c r s n : List ℕ) → a ≡ r ++ b → b ++ c ≡ s ++ n → a ++ c ≡ (r ++ s) ++ n
in_front a b c r s n is rest =
    ap (λ (t : List ℕ). t ++ c) is ∙ append_assoc r b c ∙ ap (λ (t : List ℕ). r ++ t) rest ∙ sym (append_assoc r s n)

-- the same bytes, before later ones
same_front : (a b c n : List ℕ) → b ≡ a → b ++ c ≡ n → a ++ c ≡ n
same_front a b c n is rest = ap (λ (t : List ℕ). t ++ c) (sym is) ∙ rest

pub all_taken : (old : Bytes) (steps : List Step) (new : Bytes) → Runs old steps new → old.left ++ came steps ≡ requests_of (served steps) ++ new.left
all_taken old [] new is = append-nil old.left ∙ ap (λ (b : Bytes). b.left) (sym is)
all_taken old (comes piece ∷ rest) new (next, step, runs) =
    behind old.left piece (came rest) next.left step.0 ∙ all_taken next rest new runs
all_taken old (serves exchanges ∷ rest) new (next, step, runs) =
    in_front old.left next.left (came rest) (requests_of exchanges) (requests_of (served rest)) new.left step.0 (all_taken next rest new runs)
    ∙ ap (λ (t : List ℕ). t ++ new.left) (sym (flat_map-append (λ (e : Exchange). e.request) exchanges (served rest)))
all_taken old (writes piece ∷ rest) new (next, step, runs) =
    same_front old.left next.left (came rest) _ step.0 (all_taken next rest new runs)
all_taken old (ends last ∷ rest) new (next, step, runs) =
    same_front old.left next.left (came rest) _ step.0 (all_taken next rest new runs)

pub all_written : (old : Bytes) (steps : List Step) (new : Bytes) → Runs old steps new → old.pending ++ responded steps ≡ written steps ++ new.pending
all_written old [] new is = append-nil old.pending ∙ ap (λ (b : Bytes). b.pending) (sym is)
all_written old (comes piece ∷ rest) new (next, step, runs) =
    same_front old.pending next.pending (responded rest) _ step.1 (all_written next rest new runs)
all_written old (serves exchanges ∷ rest) new (next, step, runs) =
    behind old.pending (responses_of exchanges) (responded rest) next.pending step.1 ∙ all_written next rest new runs
all_written old (writes piece ∷ rest) new (next, step, runs) =
    in_front old.pending next.pending (responded rest) piece (written rest) new.pending step.1 (all_written next rest new runs)
all_written old (ends last ∷ rest) new (next, step, runs) =
    behind old.pending last (responded rest) next.pending step.1 ∙ all_written next rest new runs
