-- In a state that expects a value, the tokens of a value lead to the state after that value.
use Rattle.std.proofs.Common.{◌≡◌, ℕ, List, [], ◌∷◌, ◌++◌, Some, refl, ap, sym, ◌∙◌, append_assoc}
use Rattle.mes_json.specs.Tree.{Tree, Items, Members}
use Rattle.mes_json.specs.Tree.{Tree as tree}
use Rattle.mes_json.specs.Tree.Items.{no_items, item}
use Rattle.mes_json.specs.Tree.Members.{no_members, member}
use Rattle.mes_json.specs.Machine.{Frame, State, with_item, with_member, start, finish}
use Rattle.mes_json.specs.Machine.Frame.{frame, array_frame}
use Rattle.mes_json.specs.Machine.{ReaderState as at}
use Rattle.mes_json.specs.Machine.State.{state}
use Rattle.mes_json.specs.Tape.{value_due, name_due, valued, in_object, ended, spelled}
use Rattle.mes_json.specs.Tokens.{Token, tokens, tokens_of_items, tokens_of_members, BeginsWith}
use Rattle.mes_json.specs.Tokens.Token.{null, boolean, number, string, name, begin_array, begin_object, ends}
use Rattle.mes_json.specs.Cursor.{tokens_held}
use Rattle.mes_json.specs.declared.tape.Node.{Node}
use Rattle.mes_json.proofs.ArrayReads.{joined_items, joined_items_next, joined_items_none}
use Rattle.mes_json.proofs.CompleteLemmas.{joined, joined_next, joined_none}
use Rattle.mes_json.proofs.TokensHeld.{apply_token, fold_tokens, spelled_tokens}

pub folded_on : (s : State) (xs ys : List Token) → fold_tokens s (xs ++ ys) ≡ fold_tokens (fold_tokens s xs) ys
folded_on s [] ys = refl
folded_on s (x ∷ xs) ys = folded_on (apply_token x s) xs ys

abbrev IsArrayEnd : State → List Frame → Items → Type 0
IsArrayEnd s fs ts = ended s ≡ state fs (at.after (tree.array ts))

mutual
  pub over_value : (t : Tree) (s : State) (fs : List Frame) → value_due s ≡ state fs at.value → fold_tokens s (tokens t) ≡ state fs (at.after t)
  over_value tree.null s fs is = ap (valued (at.after tree.null)) is
  over_value (tree.boolean x) s fs is = ap (valued (at.after (tree.boolean x))) is
  over_value (tree.number n) s fs is = ap (valued (at.after (tree.number n))) is
  over_value (tree.string x) s fs is = ap (valued (at.after (tree.string x))) is
  over_value (tree.array ts) s fs is =
      ap (λ (u : State). fold_tokens (valued at.first_item u) (tokens_of_items ts ++ ends ∷ [])) is
      ∙ over_items ts (state fs at.first_item) fs no_items refl refl
  over_value (tree.object ms) s fs is =
      ap (λ (u : State). fold_tokens (valued (at.name no_members) u) (tokens_of_members ms ++ ends ∷ [])) is
      ∙ over_members ms (state fs (at.name no_members)) fs no_members refl refl

  over_items : (ts : Items) (s : State) (fs : List Frame) (before : Items) → value_due s ≡ state (array_frame before ∷ fs) at.value → IsArrayEnd s fs before
      → fold_tokens s (tokens_of_items ts ++ ends ∷ []) ≡ state fs (at.after (tree.array (joined_items before ts)))
  over_items no_items s fs before due end = end ∙ ap (λ (ts : Items). state fs (at.after (tree.array ts))) (sym (joined_items_none before))
  over_items (item t ts) s fs before due end =
      ap (fold_tokens s) (append_assoc (tokens t) (tokens_of_items ts) (ends ∷ []))
      ∙ folded_on s (tokens t) (tokens_of_items ts ++ ends ∷ [])
      ∙ ap (λ (u : State). fold_tokens u (tokens_of_items ts ++ ends ∷ [])) (over_value t s (array_frame before ∷ fs) due)
      ∙ over_items ts (state (array_frame before ∷ fs) (at.after t)) fs (with_item before t) refl refl
      ∙ ap (λ (us : Items). state fs (at.after (tree.array us))) (joined_items_next before t ts)

  over_members : (ms : Members) (s : State) (fs : List Frame) (before : Members) → name_due s ≡ state fs (at.name before)
      → ended s ≡ state fs (at.after (tree.object before))
      → fold_tokens s (tokens_of_members ms ++ ends ∷ []) ≡ state fs (at.after (tree.object (joined before ms)))
  over_members no_members s fs before due end = end ∙ ap (λ (ms : Members). state fs (at.after (tree.object ms))) (sym (joined_none before))
  over_members (member k t ms) s fs before due end =
      ap (λ (u : State). fold_tokens (in_object (λ ms. at.named ms k) u) ((tokens t ++ tokens_of_members ms) ++ ends ∷ [])) due
      ∙ ap (fold_tokens (state fs (at.named before k))) (append_assoc (tokens t) (tokens_of_members ms) (ends ∷ []))
      ∙ folded_on (state fs (at.named before k)) (tokens t) (tokens_of_members ms ++ ends ∷ [])
      ∙ ap (λ (u : State). fold_tokens u (tokens_of_members ms ++ ends ∷ [])) (over_value t (state fs (at.named before k)) (frame before k ∷ fs) refl)
      ∙ over_members ms (state (frame before k ∷ fs) (at.after t)) fs (with_member before k t) refl refl
      ∙ ap (λ (ns : Members). state fs (at.after (tree.object ns))) (joined_next before k t ms)

whole_stays_one : (t : Tree) (x : Token) → apply_token x (state [] (at.after t)) ≡ state [] (at.after t)
whole_stays_one t null = refl
whole_stays_one t (boolean x) = refl
whole_stays_one t (number n) = refl
whole_stays_one t (string x) = refl
whole_stays_one t (name k) = refl
whole_stays_one t begin_array = refl
whole_stays_one t begin_object = refl
whole_stays_one t ends = refl

pub whole_stays : (t : Tree) (xs : List Token) → fold_tokens (state [] (at.after t)) xs ≡ state [] (at.after t)
whole_stays t [] = refl
whole_stays t (x ∷ xs) = ap (λ (s : State). fold_tokens s xs) (whole_stays_one t x) ∙ whole_stays t xs

pub finish_begun : (texts : List ℕ) (xs : List Node) (t : Tree) → BeginsWith (tokens_held texts xs) t → finish (spelled texts xs) ≡ Some t
finish_begun texts xs t (rest, is) =
    ap finish (spelled_tokens texts xs ∙ ap (fold_tokens start) is ∙ folded_on start (tokens t) rest
    ∙ ap (λ (s : State). fold_tokens s rest) (over_value t start [] refl) ∙ whole_stays t rest)
