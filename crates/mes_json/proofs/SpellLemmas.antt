-- The tokens of a tape after one more node, and of a value after one more item or member.
use Rattle.std.proofs.Common.{◌≡◌, ℕ, ◌+◌, ◌<◌, List, [], ◌∷◌, ◌++◌, length, drop, take, get_or, refl, ap, sym, ◌∙◌, subst, arith, length-append, append_assoc, append-nil}
use Rattle.std.proofs.lemmas.List.{map-append}
use Rattle.std.proofs.lemmas.Grind.{common_steps}
use Rattle.std.specs.List.{AllByRecursion}
use Rattle.std.specs.Str.{IsUtf8}
use Rattle.mes_json.specs.Tokens.{Token, tokens, tokens_of_items, tokens_of_members}
use Rattle.mes_json.specs.Tokens.Token.{number, string, name}
use Rattle.mes_json.specs.Tape.{span, IsSpan, HasSpan}
use Rattle.mes_json.specs.Cursor.{token_of, tokens_held}
use Rattle.mes_json.specs.Spell.{HasNoText, text_token, IsTextOf}
use Rattle.mes_json.specs.View.{view, items_view, members_view}
use Rattle.mes_json.specs.declared.tape.Node.{Node}
use Rattle.mes_json.specs.declared.tape.Node.TheVariants as node
use Rattle.mes_json.specs.declared.tape.spell.Form.{Form}
use Rattle.mes_json.specs.declared.value.Json.{Json}
use Rattle.mes_json.proofs.TapeLemmas.{span_grows, spans_grow, spans_last}
use Rattle.mes_json.proofs.StringLemmas.{part_is_span}
use Rattle.mes_json.proofs.GrownLemmas.{items_grown, members_grown}

held_last : (texts : List ℕ) (xs : List Node) (x : Node) → tokens_held texts (xs ++ x ∷ []) ≡ tokens_held texts xs ++ token_of texts x ∷ []
held_last texts xs x = map-append (token_of texts) xs (x ∷ [])

same_token : (texts : List ℕ) (x : Node) → HasNoText x → token_of texts x ≡ token_of [] x
same_token texts node.Null h = refl
same_token texts (node.Bool x) h = refl
same_token texts (node.Number from to) h = absurd h
same_token texts (node.Text from to) h = absurd h
same_token texts (node.Name from to) h = absurd h
same_token texts (node.List n) h = refl
same_token texts (node.Map n) h = refl
same_token texts node.End h = refl

no_span : (texts : List ℕ) (x : Node) → HasNoText x → HasSpan texts x
no_span texts node.Null h = tt
no_span texts (node.Bool x) h = tt
no_span texts (node.Number from to) h = absurd h
no_span texts (node.Text from to) h = absurd h
no_span texts (node.Name from to) h = absurd h
no_span texts (node.List n) h = tt
no_span texts (node.Map n) h = tt
no_span texts node.End h = tt

pub node_held : (texts : List ℕ) (xs longer : List Node) (x : Node) (seen : List Token) → longer ≡ xs ++ x ∷ [] → HasNoText x → tokens_held texts xs ≡ seen
    → tokens_held texts longer ≡ seen ++ token_of [] x ∷ []
node_held texts xs longer x seen is none held =
    ap (λ (ys : List Node). tokens_held texts ys) is ∙ held_last texts xs x ∙ ap (λ (y : Token). tokens_held texts xs ++ y ∷ []) (same_token texts x none)
    ∙ ap (λ (ys : List Token). ys ++ token_of [] x ∷ []) held

pub node_spans : (texts : List ℕ) (xs longer : List Node) (x : Node) → longer ≡ xs ++ x ∷ [] → HasNoText x → AllByRecursion (HasSpan texts) xs → AllByRecursion (HasSpan texts) longer
node_spans texts xs longer x is none spans =
    subst (λ (ys : List Node). AllByRecursion (HasSpan texts) ys) (sym is) (spans_last texts xs x spans (no_span texts x none))

pub more_spans : (texts b grown : List ℕ) (xs : List Node) → grown ≡ texts ++ b → AllByRecursion (HasSpan texts) xs → AllByRecursion (HasSpan grown) xs
more_spans texts b grown xs is spans = subst (λ (t : List ℕ). AllByRecursion (HasSpan t) xs) (sym is) (spans_grow texts b xs spans)

token_grows : (texts more : List ℕ) (x : Node) → HasSpan texts x → token_of (texts ++ more) x ≡ token_of texts x
token_grows texts more node.Null h = refl
token_grows texts more (node.Bool x) h = refl
token_grows texts more (node.Number from to) h = ap (λ (b : List ℕ). number b) (span_grows texts more from to h.span_is.forward h.span_is.inside)
token_grows texts more (node.Text from to) h = ap (λ (b : List ℕ). string b) (span_grows texts more from to h.forward h.inside)
token_grows texts more (node.Name from to) h = ap (λ (b : List ℕ). name b) (span_grows texts more from to h.forward h.inside)
token_grows texts more (node.List n) h = refl
token_grows texts more (node.Map n) h = refl
token_grows texts more node.End h = refl

held_grows : (texts more : List ℕ) (xs : List Node) → AllByRecursion (HasSpan texts) xs → tokens_held (texts ++ more) xs ≡ tokens_held texts xs
held_grows texts more [] h = refl
held_grows texts more (x ∷ xs) h =
    ap (λ (y : Token). y ∷ tokens_held (texts ++ more) xs) (token_grows texts more x h.0) ∙ ap (λ (ys : List Token). token_of texts x ∷ ys) (held_grows texts more xs h.1)

behind_all : (a b : List ℕ) → drop (length a) (a ++ b) ≡ b
behind_all a b = grind (arith, common_steps)

new_span : (texts b grown : List ℕ) (from to : ℕ) → grown ≡ texts ++ b → from ≡ length texts → to ≡ length grown → span grown from to ≡ b
new_span texts b grown from to is begins ends_ =
    ap (λ (n : ℕ). span grown from n) ends_
    ∙ part_is_span grown from (omega (arith, ap length is, length-append texts b, begins))
    ∙ ap (λ (n : ℕ). drop n grown) begins ∙ ap (λ (t : List ℕ). drop (length texts) t) is ∙ behind_all texts b

is_new_span : (texts b grown : List ℕ) (from to : ℕ) → grown ≡ texts ++ b → from ≡ length texts → to ≡ length grown → IsUtf8 b → IsSpan grown from to
is_new_span texts b grown from to is begins ends_ utf8 = record {
  forward = omega (arith, ap length is, length-append texts b, begins, ends_);
  inside = omega (arith, ends_);
  utf8 = subst IsUtf8 (sym (new_span texts b grown from to is begins ends_)) utf8;
}

pub record PutsText (texts b grown : List ℕ) (xs longer : List Node) (form : Form) (from to : ℕ) (x : Node) : Type 0 where
  pub text : grown ≡ texts ++ b
  pub nodes : longer ≡ xs ++ x ∷ []
  pub begins : from ≡ length texts
  pub following : to ≡ length grown
  pub spans : AllByRecursion (HasSpan texts) xs
  pub token : (t : List ℕ) → token_of t x ≡ text_token form (span t from to)
  pub span_is : (t : List ℕ) → IsSpan t from to → IsTextOf form (span t from to) → HasSpan t x

pub text_held : (texts b grown : List ℕ) (xs longer : List Node) (form : Form) (from to : ℕ) (x : Node) (seen : List Token) → PutsText texts b grown xs longer form from to x
    → tokens_held texts xs ≡ seen → tokens_held grown longer ≡ seen ++ text_token form b ∷ []
text_held texts b grown xs longer form from to x seen h held =
    ap (λ (ys : List Node). tokens_held grown ys) h.nodes ∙ held_last grown xs x
    ∙ ap (λ (y : Token). tokens_held grown xs ++ y ∷ []) (h.token grown ∙ ap (text_token form) (new_span texts b grown from to h.text h.begins h.following))
    ∙ ap (λ (t : List ℕ). tokens_held t xs ++ text_token form b ∷ []) h.text
    ∙ ap (λ (ys : List Token). ys ++ text_token form b ∷ []) (held_grows texts b xs h.spans ∙ held)

pub text_spans : (texts b grown : List ℕ) (xs longer : List Node) (form : Form) (from to : ℕ) (x : Node) → PutsText texts b grown xs longer form from to x
    → IsUtf8 b → IsTextOf form b → AllByRecursion (HasSpan grown) longer
text_spans texts b grown xs longer form from to x h utf8 allowed =
    subst (λ (ys : List Node). AllByRecursion (HasSpan grown) ys) (sym h.nodes)
    (spans_last grown xs x (more_spans texts b grown xs h.text h.spans)
    (h.span_is grown (is_new_span texts b grown from to h.text h.begins h.following utf8)
    (subst (λ (t : List ℕ). IsTextOf form t) (sym (new_span texts b grown from to h.text h.begins h.following)) allowed)))

tokens_last_item : (xs : List Json) (x : Json) → tokens_of_items (items_view (xs ++ x ∷ [])) ≡ tokens_of_items (items_view xs) ++ tokens (view x)
tokens_last_item [] x = append-nil (tokens (view x))
tokens_last_item (y ∷ ys) x =
    ap (λ (ts : List Token). tokens (view y) ++ ts) (tokens_last_item ys x) ∙ sym (append_assoc (tokens (view y)) (tokens_of_items (items_view ys)) (tokens (view x)))

tokens_last_member : (xs : List (List ℕ × Json)) (x : List ℕ × Json)
    → tokens_of_members (members_view (xs ++ x ∷ [])) ≡ tokens_of_members (members_view xs) ++ name x.0 ∷ tokens (view x.1)
tokens_last_member [] x = ap (λ (ts : List Token). name x.0 ∷ ts) (append-nil (tokens (view x.1)))
tokens_last_member (y ∷ ys) x =
    ap (λ (ts : List Token). name y.0 ∷ (tokens (view y.1) ++ ts)) (tokens_last_member ys x)
    ∙ ap (λ (ts : List Token). name y.0 ∷ ts) (sym (append_assoc (tokens (view y.1)) (tokens_of_members (members_view ys)) (name x.0 ∷ tokens (view x.1))))

pub item_put : (xs : List Json) (x : Json) (n : ℕ) (first before now : List Token) → n < length xs → x ≡ get_or xs n x
    → before ≡ first ++ tokens_of_items (items_view (take n xs)) → now ≡ before ++ tokens (view x) → now ≡ first ++ tokens_of_items (items_view (take (n + 1) xs))
item_put xs x n first before now inside is was put =
    put ∙ ap (λ (ts : List Token). ts ++ tokens (view x)) was ∙ append_assoc first (tokens_of_items (items_view (take n xs))) (tokens (view x))
    ∙ ap (λ (ts : List Token). first ++ ts) (sym (tokens_last_item (take n xs) x))
    ∙ ap (λ (ys : List Json). first ++ tokens_of_items (items_view ys)) (sym (items_grown xs x n inside is))

pub member_put : (xs : List (List ℕ × Json)) (x : List ℕ × Json) (n : ℕ) (first before named now : List Token) → n < length xs → x ≡ get_or xs n x
    → before ≡ first ++ tokens_of_members (members_view (take n xs)) → named ≡ before ++ name x.0 ∷ [] → now ≡ named ++ tokens (view x.1)
    → now ≡ first ++ tokens_of_members (members_view (take (n + 1) xs))
member_put xs x n first before named now inside is was name_put put =
    put ∙ ap (λ (ts : List Token). ts ++ tokens (view x.1)) name_put ∙ append_assoc before (name x.0 ∷ []) (tokens (view x.1))
    ∙ ap (λ (ts : List Token). ts ++ name x.0 ∷ tokens (view x.1)) was
    ∙ append_assoc first (tokens_of_members (members_view (take n xs))) (name x.0 ∷ tokens (view x.1))
    ∙ ap (λ (ts : List Token). first ++ ts) (sym (tokens_last_member (take n xs) x))
    ∙ ap (λ (ys : List (List ℕ × Json)). first ++ tokens_of_members (members_view ys)) (sym (members_grown xs x n inside is))
