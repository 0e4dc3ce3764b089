-- Lemmas about append.rt: the canonical text of a value is appended.
--     a_string, a_number, a_tree             the text of a string, of a number, of any tree
--     appended_is_text                       the appended text is a JSON text of the tree
--     no_members, one_member, both_members   the texts of consecutive members
--     whole_object                           the text of an object, from the texts of its members
--     no_items, next_item, whole_array       the same for the items of an array
use Rattle.std.proofs.Common.{◌≡◌, ℕ, ◌+◌, ◌-◌, ◌^◌, ◌<◌, ◌≤◌, List, [], ◌∷◌, ◌++◌, length, map, take, get_or, refl, sym, ◌∙◌, ap, subst, append_assoc, append-nil, arith}
use Rattle.std.specs.Prelude.{max}
use Rattle.std.specs.Str.{IsUtf8}
use Rattle.std.proofs.lemmas.List.{map-append}
use Rattle.mes_json.specs.Tree.{Tree, depth, depth_of_items, depth_of_members}
use Rattle.mes_json.specs.Tree.Tree.{number, string, array, object}
use Rattle.mes_fixed.specs.Number.{IsNumber}
use Rattle.mes_json.specs.Grammar.{IsText}
use Rattle.mes_json.specs.Canonical.{quoted_text, canonical, canonical_items, canonical_members, more_items, more_members}
use Rattle.mes_json.specs.View.{items_of, members_of}
use Rattle.mes_json.specs.Writable.{IsWritable, AreWritable, AreWritableMembers}
use Rattle.mes_json.proofs.CanonicalLemmas.{canonical_is_text}
use Rattle.mes_model_schema.specs.Appended.{counted, Appends, AppendsItems, AppendsMembers, Closes}
use Rattle.mes_model_schema.proofs.ListLemmas.{take_next}

abbrev pub Pairs : Type 0
Pairs = List (List ℕ × Tree)

-- ---- the text of a string, of a number, of any tree

pub a_string : (old s new : List ℕ) → new ≡ old ++ quoted_text s → IsUtf8 s → Appends old (string s) new 0
a_string old s new is utf8 = record { text = is; writable = utf8; nests = omega arith }

pub a_number : (old n new : List ℕ) → new ≡ old ++ n → IsNumber n → Appends old (number n) new 0
a_number old n new is spelt = record { text = is; writable = spelt; nests = omega arith }

pub a_tree : (old : List ℕ) (t : Tree) (new : List ℕ) (deep : ℕ) → new ≡ old ++ canonical t → IsWritable t → deep ≡ counted (depth t) → Appends old t new deep
a_tree old t new deep is writable nests = record { text = is; writable = writable; nests = nests }

-- the appended text is a JSON text of the tree, for any nesting limit that is at least its depth
pub appended_is_text : (t : Tree) (new : List ℕ) (deep most : ℕ) → Appends [] t new deep → deep ≤ most → most < 2 ^ 64 - 1 → IsText most new t
appended_is_text t new deep most is within few =
    subst (λ (b : List ℕ). IsText most b t) (sym is.text) (canonical_is_text t most is.writable (omega (arith, is.nests, within, few)))

-- ---- the texts of consecutive members

members_text : (xs ys : Pairs) → more_members (members_of (xs ++ ys)) ≡ more_members (members_of xs) ++ more_members (members_of ys)
members_text [] ys = refl
members_text (x ∷ xs) ys =
    let one = quoted_text x.0 ++ 58 ∷ canonical x.1 in
    ap (λ (b : List ℕ). 44 ∷ (one ++ b)) (members_text xs ys)
    ∙ ap (λ (b : List ℕ). 44 ∷ b) (sym (append_assoc one (more_members (members_of xs)) (more_members (members_of ys))))

members_writable : (xs ys : Pairs) → AreWritableMembers (members_of xs) → AreWritableMembers (members_of ys) → AreWritableMembers (members_of (xs ++ ys))
members_writable [] ys are others = others
members_writable (x ∷ xs) ys are others = (are.0, are.1, members_writable xs ys are.2 others)

members_depth : (xs ys : Pairs) → depth_of_members (members_of (xs ++ ys)) ≡ max (depth_of_members (members_of xs)) (depth_of_members (members_of ys))
members_depth [] ys = omega arith
members_depth (x ∷ xs) ys = omega (arith, members_depth xs ys)

pub no_members : (old : List ℕ) → AppendsMembers old [] old 0
no_members old = record { text = sym (append-nil old); writable = tt; nests = omega arith }

pub one_member : (old : List ℕ) (name : List ℕ) (t : Tree) (named new : List ℕ) (deep : ℕ) → named ≡ old ++ 44 ∷ (quoted_text name ++ 58 ∷ [])
    → IsUtf8 name → Appends named t new deep → AppendsMembers old ((name, t) ∷ []) new deep
one_member old name t named new deep is utf8 value = record {
  text = value.text
      ∙ ap (λ (x : List ℕ). x ++ canonical t) is
      ∙ append_assoc old (44 ∷ (quoted_text name ++ 58 ∷ [])) (canonical t)
      ∙ ap (λ (x : List ℕ). old ++ 44 ∷ x)
      (append_assoc (quoted_text name) (58 ∷ []) (canonical t) ∙ sym (append-nil (quoted_text name ++ 58 ∷ canonical t)));
  writable = (utf8, value.writable, tt);
  nests = omega (arith, value.nests);
}

pub both_members : (old : List ℕ) (xs ys : Pairs) (mid new : List ℕ) (a b most : ℕ)
    → AppendsMembers old xs mid a → AppendsMembers mid ys new b → most ≡ max a b → AppendsMembers old (xs ++ ys) new most
both_members old xs ys mid new a b most first second is = record {
  text = second.text ∙ ap (λ (x : List ℕ). x ++ more_members (members_of ys)) first.text
      ∙ append_assoc old (more_members (members_of xs)) (more_members (members_of ys))
      ∙ ap (λ (x : List ℕ). old ++ x) (sym (members_text xs ys));
  writable = members_writable xs ys first.writable second.writable;
  nests = omega (arith, is, first.nests, second.nests, members_depth xs ys);
}

-- ---- the brackets of an object and of an array

object_text : (old : List ℕ) (ms : Pairs) (mid new : List ℕ) → mid ≡ old ++ more_members (members_of ms) → Closes 123 (length old) 125 mid new
    → new ≡ old ++ canonical (object (members_of ms))
object_text old [] mid new so_far closed =
    let same : mid ≡ old = so_far ∙ append-nil old in
    closed.none (ap length same) ∙ ap (λ (x : List ℕ). x ++ 123 ∷ 125 ∷ []) same
object_text old (m ∷ ms) mid new so_far closed = closed.some old (canonical_members (members_of (m ∷ ms))) refl so_far

pub whole_object : (old : List ℕ) (ms : Pairs) (mid new : List ℕ) (deep deeper : ℕ) → AppendsMembers old ms mid deep → Closes 123 (length old) 125 mid new
    → deeper ≡ counted (deep + 1) → Appends old (object (members_of ms)) new deeper
whole_object old ms mid new deep deeper members closed is = record {
  text = object_text old ms mid new members.text closed;
  writable = members.writable;
  nests = omega (arith, is, members.nests);
}

array_text : (old : List ℕ) (ts : List Tree) (mid new : List ℕ) → mid ≡ old ++ more_items (items_of ts) → Closes 91 (length old) 93 mid new
    → new ≡ old ++ canonical (array (items_of ts))
array_text old [] mid new so_far closed =
    let same : mid ≡ old = so_far ∙ append-nil old in
    closed.none (ap length same) ∙ ap (λ (x : List ℕ). x ++ 91 ∷ 93 ∷ []) same
array_text old (t ∷ ts) mid new so_far closed = closed.some old (canonical_items (items_of (t ∷ ts))) refl so_far

pub whole_array : (old : List ℕ) (ts : List Tree) (mid new : List ℕ) (deep deeper : ℕ) → AppendsItems old ts mid deep → Closes 91 (length old) 93 mid new
    → deeper ≡ counted (deep + 1) → Appends old (array (items_of ts)) new deeper
whole_array old ts mid new deep deeper items closed is = record {
  text = array_text old ts mid new items.text closed;
  writable = items.writable;
  nests = omega (arith, is, items.nests);
}

-- ---- the texts of consecutive items

items_text : (ts : List Tree) (t : Tree) → more_items (items_of (ts ++ t ∷ [])) ≡ more_items (items_of ts) ++ 44 ∷ canonical t
items_text [] t = ap (λ (b : List ℕ). 44 ∷ b) (append-nil (canonical t))
items_text (u ∷ ts) t =
    ap (λ (b : List ℕ). 44 ∷ (canonical u ++ b)) (items_text ts t)
    ∙ ap (λ (b : List ℕ). 44 ∷ b) (sym (append_assoc (canonical u) (more_items (items_of ts)) (44 ∷ canonical t)))

items_writable : (ts : List Tree) (t : Tree) → AreWritable (items_of ts) → IsWritable t → AreWritable (items_of (ts ++ t ∷ []))
items_writable [] t are is = (is, tt)
items_writable (u ∷ ts) t are is = (are.0, items_writable ts t are.1 is)

items_depth : (ts : List Tree) (t : Tree) → depth_of_items (items_of (ts ++ t ∷ [])) ≡ max (depth_of_items (items_of ts)) (depth t)
items_depth [] t = omega arith
items_depth (u ∷ ts) t = omega (arith, items_depth ts t)

pub no_items : (old : List ℕ) → AppendsItems old [] old 0
no_items old = record { text = sym (append-nil old); writable = tt; nests = omega arith }

one_item : (old : List ℕ) (ts : List Tree) (t : Tree) (out comma new : List ℕ) (a b : ℕ) → AppendsItems old ts out a → comma ≡ out ++ 44 ∷ [] → Appends comma t new b
    → AppendsItems old (ts ++ t ∷ []) new (max a b)
one_item old ts t out comma new a b so_far then next = record {
  text = next.text ∙ ap (λ (x : List ℕ). x ++ canonical t) (then ∙ ap (λ (x : List ℕ). x ++ 44 ∷ []) so_far.text)
      ∙ simp append_assoc (ap (λ (x : List ℕ). old ++ x) (sym (items_text ts t)));
  writable = items_writable ts t so_far.writable next.writable;
  nests = omega (arith, so_far.nests, next.nests, items_depth ts t);
}

pub next_item : {A : Type 0} (tree : A → Tree) (old : List ℕ) (xs : List A) (i : ℕ) (x : A) (out comma new : List ℕ) (a b most : ℕ) → i < length xs → x ≡ get_or xs i x
    → AppendsItems old (map tree (take i xs)) out a → comma ≡ out ++ 44 ∷ [] → Appends comma (tree x) new b → most ≡ max a b
    → AppendsItems old (map tree (take (i + 1) xs)) new most
next_item tree old xs i x out comma new a b most inside is so_far then next greater =
    let trees = sym (map-append tree (take i xs) (x ∷ [])) ∙ ap (map tree) (sym (take_next xs i x inside is)) in
    subst (λ (m : ℕ). AppendsItems old (map tree (take (i + 1) xs)) new m) (sym greater)
    (subst (λ (ts : List Tree). AppendsItems old ts new (max a b)) trees (one_item old (map tree (take i xs)) (tree x) out comma new a b so_far then next))
