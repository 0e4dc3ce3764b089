-- The tree that is built from a value on a tape is the tree of the value's tokens.
use Rattle.std.proofs.Common.{◌≡◌, ℕ, List, [], take, drop, Option, Some, None, option_map, ap, sym, ◌∙◌, subst, append-nil}
use Rattle.std.proofs.lemmas.List.{map-append, take-append-drop}
use Rattle.mes_json.specs.Tree.{Tree}
use Rattle.mes_json.specs.Grammar.{IsText}
use Rattle.mes_json.specs.Machine.{State, start, finish}
use Rattle.mes_json.specs.Machine.ReaderState.{after}
use Rattle.mes_json.specs.Machine.State.{state}
use Rattle.mes_json.specs.Tape.{spelled}
use Rattle.mes_json.specs.Tokens.{Token, tokens, BeginsWith}
use Rattle.mes_json.specs.Cursor.{token_of, tokens_held}
use Rattle.mes_json.specs.View.{view}
use Rattle.mes_json.specs.declared.limits.TheConstants.{MAX_NESTING}
use Rattle.mes_json.specs.declared.tape.Node.{Node}
use Rattle.mes_json.specs.declared.value.Json.{Json}
use Rattle.mes_json.proofs.TokensHeld.{fold_tokens, spelled_tokens}
use Rattle.mes_json.proofs.TokensTaken.{folded_on, whole_stays, finish_begun}

pub whole_behind : (texts : List ℕ) (xs : List Node) (n : ℕ) (t : Tree) → spelled texts (take n xs) ≡ state [] (after t) → spelled texts xs ≡ state [] (after t)
whole_behind texts xs n t is =
    spelled_tokens texts xs
    ∙ ap (λ (ys : List Node). fold_tokens start (tokens_held texts ys)) (sym (take-append-drop n xs))
    ∙ ap (fold_tokens start) (map-append (token_of texts) (take n xs) (drop n xs))
    ∙ folded_on start (tokens_held texts (take n xs)) (tokens_held texts (drop n xs))
    ∙ ap (λ (s : State). fold_tokens s (tokens_held texts (drop n xs))) (sym (spelled_tokens texts (take n xs)) ∙ is)
    ∙ whole_stays t (tokens_held texts (drop n xs))

pub found_early : (texts : List ℕ) (xs : List Node) (n : ℕ) (s : State) (found : Option Json) → s ≡ spelled texts (take n xs)
    → (t : Tree) × (s ≡ state [] (after t)) → option_map view found ≡ finish s → option_map view found ≡ finish (spelled texts xs)
found_early texts xs n s found reached (t, whole) is = is ∙ ap finish (whole ∙ sym (whole_behind texts xs n t (sym reached ∙ whole)))

found_is : (texts : List ℕ) (xs : List Node) (seen : List Token) (found : Option Json) (t : Tree) → tokens_held texts xs ≡ seen
    → option_map view found ≡ finish (spelled texts xs) → BeginsWith seen t → option_map view found ≡ Some t
found_is texts xs seen found t held is begins = is ∙ finish_begun texts xs t (subst (λ (ys : List Token). BeginsWith ys t) (sym held) begins)

pub tree_begun : (texts : List ℕ) (xs : List Node) (seen : List Token) (found : Option Json) (json : Json) → tokens_held texts xs ≡ seen
    → option_map view found ≡ finish (spelled texts xs) → found ≡ Some json → (t : Tree) → BeginsWith seen t → view json ≡ t
tree_begun texts xs seen found json held is some t begins =
    let both : Some (view json) ≡ Some t = ap (option_map view) (sym some) ∙ found_is texts xs seen found t held is begins in cc

pub never_none : (texts : List ℕ) (xs : List Node) (seen : List Token) (found : Option Json) → tokens_held texts xs ≡ seen
    → option_map view found ≡ finish (spelled texts xs) → (let none : Option Json = None in found ≡ none) → (t : Tree) → BeginsWith seen t → ⊥
never_none texts xs seen found held is none t begins =
    let both : option_map view None ≡ Some t = ap (option_map view) (sym none) ∙ found_is texts xs seen found t held is begins in cc

abbrev IsTreeOf : List Token → Json → Type 0
IsTreeOf seen json = (t : Tree) → BeginsWith seen t → view json ≡ t

pub tree_only : (tape seen : List Token) (json : Json) (t : Tree) → tape ≡ tokens t → seen ≡ tape → IsTreeOf seen json → view json ≡ t
tree_only tape seen json t is same tree = tree t ([], same ∙ is ∙ sym (append-nil (tokens t)))

pub tree_read : (b : List ℕ) (tape seen : List Token) (json : Json) → (t : Tree) × IsText MAX_NESTING b t × (tape ≡ tokens t) → seen ≡ tape → IsTreeOf seen json
    → IsText MAX_NESTING b (view json)
tree_read b tape seen json (t, text, is) same tree = subst (λ (u : Tree). IsText MAX_NESTING b u) (sym (tree_only tape seen json t is same tree)) text
