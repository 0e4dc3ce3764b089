-- The reader ends a number at the byte after the number.
use Rattle.std.proofs.Common.{◌≡◌, ℕ, true, length, Option, Some, None, Ok, refl, ap, sym, ◌∙◌, subst}
use Rattle.mes_fixed.specs.Automaton.{letter_of, number_next, is_final}
use Rattle.mes_fixed.specs.declared.automaton.NumberState.{NumberState}
use Rattle.mes_json.specs.Reader.{state_view, innermost, outer, with_value, Fits, Reached, Puts}
use Rattle.mes_json.specs.declared.nesting.Open.TheVariants.{Object, Array}
use Rattle.mes_json.specs.declared.reader_state.ReaderState as at
use Rattle.mes_json.specs.declared.reader.Reader.{Reader}
use Rattle.mes_json.specs.declared.tape.Node.{Node}
use Rattle.mes_json.specs.declared.tape.Node.TheVariants.{Number, End}
use Rattle.mes_json.proofs.TokenLemmas.{number_ends, number_gives}
use Rattle.mes_json.proofs.AfterLemmas.{name_follows, name_led, item_follows}
use Rattle.mes_json.proofs.MemberLemmas.{Leads, object_closes, array_closes}

-- the reader is in a number that may end, and the byte c does not continue the number
pub record MayEnd (old : Reader) (x : NumberState) (c : ℕ) : Type 0 where
  pub fits : Fits old
  pub reached : Reached old
  pub is_at : old.at ≡ at.TheVariants.Digits x
  pub final : is_final x ≡ true
  pub foreign : let none : Option NumberState = None in number_next x (letter_of c) ≡ none

pub may_end : (old : Reader) (x : NumberState) (c d : ℕ) → Fits old → Reached old → old.at ≡ at.TheVariants.Digits x → is_final x ≡ true
    → (let none : Option NumberState = None in number_next x (letter_of c) ≡ none) → c ≡ d → MayEnd old x d
may_end old x c d fits reached is_at final foreign is =
    subst (MayEnd old x) is (record { fits = fits; reached = reached; is_at = is_at; final = final; foreign = foreign })

abbrev pub number_node : Reader → Node
number_node old = Number old.start (length old.text.items)

pub node_is : (old : Reader) (from to : ℕ) → from ≡ old.start → to ≡ length old.text.items → Number from to ≡ number_node old
node_is old from to begins ends = ap (λ (n : ℕ). Number n to) begins ∙ ap (λ (n : ℕ). Number old.start n) ends

-- the byte after a number has the same effect as after the value of the number
following_value : (old mid new : Reader) (x : NumberState) (c : ℕ) → MayEnd old x c → Puts old old.nesting.items (number_node old) at.TheVariants.After mid
    → (Fits mid → Leads mid c new) → Leads old c new
following_value old mid new x c h puts leads =
    let ends = number_ends old mid x h.fits h.reached h.is_at h.final puts in
    let led = leads ends.fits in
    record { gives = number_gives {A = ℕ} old mid (Ok 0) c x (state_view new) ends h.foreign h.final led.gives; fits = led.fits }

abbrev in_place : at.ReaderState → Reader → Reader
in_place a r = record { at = a; nesting = r.nesting; start = r.start; text = r.text; nodes = r.nodes }

is_in_place : (a : at.ReaderState) (r : Reader) → r.at ≡ a → r ≡ in_place a r
is_in_place a r is_at = ap (λ (b : at.ReaderState). in_place b r) is_at

value_put : (old new : Reader) (n : Node) (a : at.ReaderState) → Puts old old.nesting.items n a new → Puts old old.nesting.items n at.TheVariants.After (in_place at.TheVariants.After new)
value_put old new n a puts = record { at = refl; nodes = puts.nodes; text = puts.text; nesting_is = puts.nesting_is; start = puts.start }

pub number_before_name : (old new : Reader) (x : NumberState) → MayEnd old x 44 → innermost old.nesting.items ≡ Some Object
    → Puts old old.nesting.items (number_node old) at.TheVariants.Name new → Leads old 44 new
number_before_name old new x h inside puts =
    let mid = in_place at.TheVariants.After new in
    let same = ap innermost puts.nesting_is ∙ inside in
    following_value old mid new x 44 h (value_put old new (number_node old) at.TheVariants.Name puts)
    (λ fits. subst (Leads mid 44) (sym (is_in_place at.TheVariants.Name new puts.at))
    (record { gives = name_led mid 44 fits refl same refl; fits = name_follows mid fits refl same }))

pub number_before_item : (old new : Reader) (x : NumberState) → MayEnd old x 44 → innermost old.nesting.items ≡ Some Array
    → Puts old old.nesting.items (number_node old) at.TheVariants.Value new → Leads old 44 new
number_before_item old new x h inside puts =
    let mid = in_place at.TheVariants.After new in
    following_value old mid new x 44 h (value_put old new (number_node old) at.TheVariants.Value puts)
    (λ fits. let follows = item_follows mid 44 fits refl (ap innermost puts.nesting_is ∙ inside) refl in
    subst (Leads mid 44) (sym (is_in_place at.TheVariants.Value new puts.at)) (record { gives = follows.0; fits = follows.1 }))

put_at_once : (old : Reader) (n : Node) → Puts old old.nesting.items n at.TheVariants.After (with_value n old)
put_at_once old n = record { at = refl; nodes = refl; text = refl; nesting_is = refl; start = refl }

pub number_ends_object : (old new : Reader) (x : NumberState) → MayEnd old x 125 → innermost old.nesting.items ≡ Some Object
    → Puts (with_value (number_node old) old) (outer old.nesting.items) End at.TheVariants.After new → Leads old 125 new
number_ends_object old new x h inside puts =
    let mid = with_value (number_node old) old in
    following_value old mid new x 125 h (put_at_once old (number_node old)) (λ fits. object_closes mid new fits refl inside puts)

pub number_ends_array : (old new : Reader) (x : NumberState) → MayEnd old x 93 → innermost old.nesting.items ≡ Some Array
    → Puts (with_value (number_node old) old) (outer old.nesting.items) End at.TheVariants.After new → Leads old 93 new
number_ends_array old new x h inside puts =
    let mid = with_value (number_node old) old in
    following_value old mid new x 93 h (put_at_once old (number_node old)) (λ fits. array_closes mid new fits refl inside puts)
