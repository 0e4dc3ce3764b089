-- The tokens of a state of the state machine, and the tokens of a tape whose nodes are all allowed.
use Rattle.std.proofs.Common.{◌≡◌, ℕ, List, [], ◌∷◌, ◌++◌, refl, ap, sym, ◌∙◌, inl, inr, append_assoc, append-nil}
use Rattle.mes_json.specs.Tree.{Tree, Items, Members}
use Rattle.mes_json.specs.Tree.{Tree as tree}
use Rattle.mes_json.specs.Tree.Items.{no_items, item}
use Rattle.mes_json.specs.Tree.Members.{no_members, member}
use Rattle.mes_json.specs.Machine.{Frame, ReaderState, State, with_item, with_member, start}
use Rattle.mes_json.specs.Machine.Frame.{frame, array_frame}
use Rattle.mes_json.specs.Machine.{ReaderState as at}
use Rattle.mes_json.specs.Machine.State.{state}
use Rattle.mes_json.specs.Tape.{value_due, name_due, valued, in_object, ended, apply, spelled_from, spelled, EndsItems, Takes, ArePlaced}
use Rattle.mes_json.specs.Tokens.{Token, tokens, tokens_of_items, tokens_of_members}
use Rattle.mes_json.specs.Tokens.Token.{null, boolean, number, string, name, begin_array, begin_object, ends}
use Rattle.mes_json.specs.Cursor.{token_of, tokens_held}
use Rattle.mes_json.specs.declared.tape.Node.{Node}
use Rattle.mes_json.specs.declared.tape.Node.TheVariants as node

abbrev pub apply_token : Token → State → State
apply_token null s = valued (at.after tree.null) (value_due s)
apply_token (boolean x) s = valued (at.after (tree.boolean x)) (value_due s)
apply_token (number n) s = valued (at.after (tree.number n)) (value_due s)
apply_token (string x) s = valued (at.after (tree.string x)) (value_due s)
apply_token (name k) s = in_object (λ ms. at.named ms k) (name_due s)
apply_token begin_array s = valued at.first_item (value_due s)
apply_token begin_object s = valued (at.name no_members) (value_due s)
apply_token ends s = ended s

abbrev pub fold_tokens : State → List Token → State
fold_tokens s [] = s
fold_tokens s (x ∷ xs) = fold_tokens (apply_token x s) xs

apply_as : (texts : List ℕ) (x : Node) (s : State) → apply texts x s ≡ apply_token (token_of texts x) s
apply_as texts node.Null s = refl
apply_as texts (node.Bool x) s = refl
apply_as texts (node.Number from to) s = refl
apply_as texts (node.Text from to) s = refl
apply_as texts (node.Name from to) s = refl
apply_as texts (node.List n) s = refl
apply_as texts (node.Map n) s = refl
apply_as texts node.End s = refl

spelled_from_tokens : (texts : List ℕ) (s : State) (xs : List Node) → spelled_from texts s xs ≡ fold_tokens s (tokens_held texts xs)
spelled_from_tokens texts s [] = refl
spelled_from_tokens texts s (x ∷ xs) =
    ap (λ (t : State). spelled_from texts t xs) (apply_as texts x s) ∙ spelled_from_tokens texts (apply_token (token_of texts x) s) xs

pub spelled_tokens : (texts : List ℕ) (xs : List Node) → spelled texts xs ≡ fold_tokens start (tokens_held texts xs)
spelled_tokens texts xs = spelled_from_tokens texts start xs

-- the tokens of the open objects and arrays, which are given with the innermost first
abbrev tokens_of_frames : List Frame → List Token
tokens_of_frames [] = []
tokens_of_frames (frame ms k ∷ fs) = tokens_of_frames fs ++ (begin_object ∷ tokens_of_members ms ++ name k ∷ [])
tokens_of_frames (array_frame ts ∷ fs) = tokens_of_frames fs ++ begin_array ∷ tokens_of_items ts

-- the tokens of the part that is read; a string, number or literal in progress has none
abbrev tokens_at : ReaderState → List Token
tokens_at at.value = []
tokens_at at.first_item = begin_array ∷ []
tokens_at (at.name ms) = begin_object ∷ tokens_of_members ms
tokens_at (at.quoted p m s) = []
tokens_at (at.named ms k) = begin_object ∷ tokens_of_members ms ++ name k ∷ []
tokens_at (at.token x) = []
tokens_at (at.after t) = tokens t

abbrev pub held : State → List Token
held (state fs a) = tokens_of_frames fs ++ tokens_at a

tokens_with_item : (ts : Items) (t : Tree) → tokens_of_items (with_item ts t) ≡ tokens_of_items ts ++ tokens t
tokens_with_item no_items t = append-nil (tokens t)
tokens_with_item (item u ts) t = ap (λ (x : List Token). tokens u ++ x) (tokens_with_item ts t) ∙ sym (append_assoc (tokens u) (tokens_of_items ts) (tokens t))

tokens_with_member : (ms : Members) (k : List ℕ) (t : Tree) → tokens_of_members (with_member ms k t) ≡ tokens_of_members ms ++ name k ∷ tokens t
tokens_with_member no_members k t = ap (λ (x : List Token). name k ∷ x) (append-nil (tokens t))
tokens_with_member (member j u ms) k t =
    ap (λ (x : List Token). name j ∷ (tokens u ++ x)) (tokens_with_member ms k t)
    ∙ ap (λ (x : List Token). name j ∷ x) (sym (append_assoc (tokens u) (tokens_of_members ms) (name k ∷ tokens t)))

behind_item : (fs : List Frame) (ts : Items) (t : Tree)
    → tokens_of_frames fs ++ begin_array ∷ tokens_of_items (with_item ts t) ≡ (tokens_of_frames fs ++ begin_array ∷ tokens_of_items ts) ++ tokens t
behind_item fs ts t =
    ap (λ (x : List Token). tokens_of_frames fs ++ begin_array ∷ x) (tokens_with_item ts t)
    ∙ sym (append_assoc (tokens_of_frames fs) (begin_array ∷ tokens_of_items ts) (tokens t))

behind_member : (fs : List Frame) (ms : Members) (k : List ℕ) (t : Tree)
    → tokens_of_frames fs ++ begin_object ∷ tokens_of_members (with_member ms k t)
    ≡ (tokens_of_frames fs ++ (begin_object ∷ tokens_of_members ms ++ name k ∷ [])) ++ tokens t
behind_member fs ms k t =
    ap (λ (x : List Token). tokens_of_frames fs ++ begin_object ∷ x)
    (tokens_with_member ms k t ∙ sym (append_assoc (tokens_of_members ms) (name k ∷ []) (tokens t)))
    ∙ sym (append_assoc (tokens_of_frames fs) (begin_object ∷ tokens_of_members ms ++ name k ∷ []) (tokens t))

-- a comma or a colon leaves the tokens of a state unchanged
held_value_due : (s : State) → held (value_due s) ≡ held s
held_value_due (state fs at.value) = refl
held_value_due (state fs at.first_item) = append-nil (tokens_of_frames fs ++ begin_array ∷ [])
held_value_due (state fs (at.name ms)) = refl
held_value_due (state fs (at.quoted p m s)) = refl
held_value_due (state fs (at.named ms k)) = append-nil (tokens_of_frames fs ++ (begin_object ∷ tokens_of_members ms ++ name k ∷ []))
held_value_due (state fs (at.token x)) = refl
held_value_due (state [] (at.after t)) = refl
held_value_due (state (frame ms k ∷ fs) (at.after t)) = refl
held_value_due (state (array_frame ts ∷ fs) (at.after t)) = append-nil (tokens_of_frames fs ++ begin_array ∷ tokens_of_items (with_item ts t)) ∙ behind_item fs ts t

held_name_due : (s : State) → held (name_due s) ≡ held s
held_name_due (state fs at.value) = refl
held_name_due (state fs at.first_item) = refl
held_name_due (state fs (at.name ms)) = refl
held_name_due (state fs (at.quoted p m s)) = refl
held_name_due (state fs (at.named ms k)) = refl
held_name_due (state fs (at.token x)) = refl
held_name_due (state [] (at.after t)) = refl
held_name_due (state (frame ms k ∷ fs) (at.after t)) = behind_member fs ms k t
held_name_due (state (array_frame ts ∷ fs) (at.after t)) = refl

held_valued : (s : State) (fs : List Frame) (a : ReaderState) → value_due s ≡ state fs at.value → held (valued a (value_due s)) ≡ held s ++ tokens_at a
held_valued s fs a is =
    ap (λ (x : State). held (valued a x)) is
    ∙ ap (λ (x : List Token). x ++ tokens_at a) (sym (append-nil (tokens_of_frames fs)) ∙ ap held (sym is) ∙ held_value_due s)

held_named : (s : State) (fs : List Frame) (ms : Members) (k : List ℕ) → name_due s ≡ state fs (at.name ms)
    → held (in_object (λ ms. at.named ms k) (name_due s)) ≡ held s ++ name k ∷ []
held_named s fs ms k is =
    ap (λ (x : State). held (in_object (λ ms. at.named ms k) x)) is
    ∙ sym (append_assoc (tokens_of_frames fs) (begin_object ∷ tokens_of_members ms) (name k ∷ []))
    ∙ ap (λ (x : List Token). x ++ name k ∷ []) (ap held (sym is) ∙ held_name_due s)

ended_name_due : (s : State) (fs : List Frame) (ms : Members) → name_due s ≡ state fs (at.name ms) → ended s ≡ state fs (at.after (tree.object ms))
ended_name_due (state gs at.value) fs ms is = cc
ended_name_due (state gs at.first_item) fs ms is = cc
ended_name_due (state gs (at.name ns)) fs ms is = cc
ended_name_due (state gs (at.quoted p m s)) fs ms is = cc
ended_name_due (state gs (at.named ns k)) fs ms is = cc
ended_name_due (state gs (at.token x)) fs ms is = cc
ended_name_due (state [] (at.after t)) fs ms is = cc
ended_name_due (state (frame ns k ∷ gs) (at.after t)) fs ms is = cc
ended_name_due (state (array_frame ts ∷ gs) (at.after t)) fs ms is = cc

held_ended_object : (s : State) (fs : List Frame) (ms : Members) → name_due s ≡ state fs (at.name ms) → held (ended s) ≡ held s ++ ends ∷ []
held_ended_object s fs ms is =
    ap held (ended_name_due s fs ms is)
    ∙ sym (append_assoc (tokens_of_frames fs) (begin_object ∷ tokens_of_members ms) (ends ∷ []))
    ∙ ap (λ (x : List Token). x ++ ends ∷ []) (ap held (sym is) ∙ held_name_due s)

held_ended_array : (s : State) → EndsItems s → held (ended s) ≡ held s ++ ends ∷ []
held_ended_array s (inl (fs, is)) =
    ap (λ (x : State). held (ended x)) is ∙ sym (append_assoc (tokens_of_frames fs) (begin_array ∷ []) (ends ∷ []))
    ∙ ap (λ (x : State). held x ++ ends ∷ []) (sym is)
held_ended_array s (inr (ts, fs, t, is)) =
    ap (λ (x : State). held (ended x)) is
    ∙ sym (append_assoc (tokens_of_frames fs) (begin_array ∷ tokens_of_items (with_item ts t)) (ends ∷ []))
    ∙ ap (λ (x : List Token). x ++ ends ∷ []) (behind_item fs ts t) ∙ ap (λ (x : State). held x ++ ends ∷ []) (sym is)

pub held_one_more : (texts : List ℕ) (s : State) (x : Node) → Takes s x → held (apply texts x s) ≡ held s ++ token_of texts x ∷ []
held_one_more texts s node.Null (fs, is) = held_valued s fs (at.after tree.null) is
held_one_more texts s (node.Bool x) (fs, is) = held_valued s fs (at.after (tree.boolean x)) is
held_one_more texts s (node.Number from to) (fs, is) = held_valued s fs _ is
held_one_more texts s (node.Text from to) (fs, is) = held_valued s fs _ is
held_one_more texts s (node.Name from to) (fs, ms, is) = held_named s fs ms _ is
held_one_more texts s (node.List n) (fs, is) = held_valued s fs at.first_item is
held_one_more texts s (node.Map n) (fs, is) = held_valued s fs (at.name no_members) is
held_one_more texts s node.End (inl (fs, ms, is)) = held_ended_object s fs ms is
held_one_more texts s node.End (inr h) = held_ended_array s h

pub held_all : (texts : List ℕ) (s : State) (xs : List Node) → ArePlaced texts s xs → held (spelled_from texts s xs) ≡ held s ++ tokens_held texts xs
held_all texts s [] h = sym (append-nil (held s))
held_all texts s (x ∷ xs) h =
    held_all texts (apply texts x s) xs h.1 ∙ ap (λ (y : List Token). y ++ tokens_held texts xs) (held_one_more texts s x h.0)
    ∙ append_assoc (held s) (token_of texts x ∷ []) (tokens_held texts xs)

pub tokens_spelled : (texts : List ℕ) (xs : List Node) (t : Tree) → ArePlaced texts start xs → spelled texts xs ≡ state [] (at.after t) → tokens_held texts xs ≡ tokens t
tokens_spelled texts xs t h is = sym (held_all texts start xs h) ∙ ap held is
