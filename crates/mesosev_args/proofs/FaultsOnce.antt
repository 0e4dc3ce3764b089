-- A text is that of at most one fault. The word before its first colon decides how the fault is made
-- of the numbers after it.
use Rattle.std.proofs.Common.{◌≡◌, ◌++◌, ◌==◌, ◌∙◌, ap, ℕ, List, [], ◌∷◌, Bool, true, false, Option, Some, None, refl, sym, subst, arith}
use Rattle.std.specs.Prelude.{codes, find, option_map, if◌then◌else◌}
use Rattle.std.specs.List.{AllZip}
use Rattle.std.specs.Str.{bytes_eq}
use Rattle.std.specs.Str.Parse.{AllDigits, IsNumeral, digits_value, without_leading_plus}
use Rattle.std.proofs.lemmas.Bool.{eqb-true, ne_eqb}
use Rattle.std.proofs.lemmas.Str.Parse.{digit_from_value}
use Rattle.clap.specs.Words.{Text}
use Rattle.mes_double_faults.specs.Texts.{IsText, Writes}
use Rattle.mes_double_faults.specs.declared.fault.Fault.{Fault}
use Rattle.mes_double_faults.specs.declared.fault.Fault.TheVariants.{Event, Call, Chunk}
use Rattle.mes_double_faults.specs.declared.fault.EventFault.TheVariants.{Lost, Repeated, Cut, Late, Muted}
use Rattle.mes_double_faults.specs.declared.fault.CallFault.TheVariants.{Busy, Unanswered, Slow, Gone, Reset}
use Rattle.mesosev_args.specs.OptionValues.{NamesFault}

-- ---- the first colon of a text

abbrev before_colon : Text → Text
before_colon [] = []
before_colon (x ∷ xs) = if x == 58 then [] else x ∷ before_colon xs

abbrev after_colon : Text → Text
after_colon [] = []
after_colon (x ∷ xs) = if x == 58 then xs else after_colon xs

abbrev HasNoColon : Text → Type 0
HasNoColon [] = Unit {0}
HasNoColon (x ∷ xs) = ((x == 58) ≡ false) × HasNoColon xs

before_is : (a b : Text) → HasNoColon a → before_colon (a ++ 58 ∷ b) ≡ a
before_is [] b none = refl
before_is (x ∷ xs) b none = simp (none.0) (ap (λ (t : Text). x ∷ t) (before_is xs b none.1))

after_is : (a b : Text) → HasNoColon a → after_colon (a ++ 58 ∷ b) ≡ b
after_is [] b none = refl
after_is (x ∷ xs) b none = simp (none.0) (after_is xs b none.1)

digits_have_none : (ds : List ℕ) → AllDigits 10 ds → HasNoColon ds
digits_have_none [] all = tt
digits_have_none (d ∷ ds) all = (ne_eqb _ _ (λ e. omega (arith, digit_from_value d all.0, e)), digits_have_none ds all.1)

-- a number in decimal digits, with or without a leading `+`, has no colon
number_has_none : (text : Text) → IsNumeral 10 (without_leading_plus text) → HasNoColon text
number_has_none [] h = tt
number_has_none (x ∷ xs) h = go (x == 43) refl
  where
    go : (b : Bool) → (x == 43) ≡ b → HasNoColon (x ∷ xs)
    go true is =
        let plus : x ≡ 43 = eqb-true x 43 is in
        let rest : IsNumeral 10 xs = rw is at h in
        (ne_eqb _ _ (λ e. omega (arith, plus, e)), digits_have_none xs rest.1)
    go false is = let whole : IsNumeral 10 (x ∷ xs) = rw is at h in digits_have_none (x ∷ xs) whole.1

-- ---- how a fault is made

-- a fault is made of one number or of two
data Making : Type 0 where
  of_one : (ℕ → Fault) → Making
  of_two : (ℕ → ℕ → Fault) → Making

abbrev makings : List (Text × Making)
makings = (codes "lose", of_one (λ k. Event k Lost)) ∷ (codes "twice", of_one (λ k. Event k Repeated)) ∷ (codes "cut", of_two (λ k b. Event k (Cut b)))
    ∷ (codes "late", of_two (λ k s. Event k (Late s))) ∷ (codes "mute", of_one (λ k. Event k Muted)) ∷ (codes "busy", of_one (λ k. Call k Busy))
    ∷ (codes "unanswered", of_one (λ k. Call k Unanswered)) ∷ (codes "slow", of_two (λ k s. Call k (Slow s))) ∷ (codes "gone", of_one (λ k. Call k Gone))
    ∷ (codes "reset", of_one (λ k. Call k Reset)) ∷ (codes "chunk", of_one Chunk) ∷ []

-- how the fault of this name is made
abbrev making_of : Text → Option Making
making_of name = option_map (λ m. m.1) (find (λ m. bytes_eq m.0 name) makings)

-- The fault is made of the numbers that this text writes. The definition splits on how it is made,
-- so that proofs need no case for two different names.
abbrev IsMade : Option Making → Text → Fault → Type 0
IsMade None text fault = ⊥
IsMade (Some (of_one make)) text fault = (n : ℕ) × (fault ≡ make n) × Writes text n
IsMade (Some (of_two make)) text fault =
    (m : ℕ) × (n : ℕ) × (first : Text) × (second : Text) × (fault ≡ make m n) × Writes first m × Writes second n × (text ≡ first ++ 58 ∷ second)

abbrev IsMadeBy : Fault → Text → Type 0
IsMadeBy fault text = IsMade (making_of (before_colon text)) (after_colon text) fault

made_of_text : (text : Text) (fault : Fault) → IsText text fault → IsMadeBy fault text
made_of_text text (Event k Lost) (number, writes, is) = subst (IsMadeBy (Event k Lost)) (sym is) (k, refl, writes)
made_of_text text (Event k Repeated) (number, writes, is) = subst (IsMadeBy (Event k Repeated)) (sym is) (k, refl, writes)
made_of_text text (Event k (Cut b)) (x, y, wx, wy, is) = subst (IsMadeBy (Event k (Cut b))) (sym is) (k, b, x, y, refl, wx, wy, refl)
made_of_text text (Event k (Late s)) (x, y, wx, wy, is) = subst (IsMadeBy (Event k (Late s))) (sym is) (k, s, x, y, refl, wx, wy, refl)
made_of_text text (Event k Muted) (number, writes, is) = subst (IsMadeBy (Event k Muted)) (sym is) (k, refl, writes)
made_of_text text (Call k Busy) (number, writes, is) = subst (IsMadeBy (Call k Busy)) (sym is) (k, refl, writes)
made_of_text text (Call k Unanswered) (number, writes, is) = subst (IsMadeBy (Call k Unanswered)) (sym is) (k, refl, writes)
made_of_text text (Call k (Slow s)) (x, y, wx, wy, is) = subst (IsMadeBy (Call k (Slow s))) (sym is) (k, s, x, y, refl, wx, wy, refl)
made_of_text text (Call k Gone) (number, writes, is) = subst (IsMadeBy (Call k Gone)) (sym is) (k, refl, writes)
made_of_text text (Call k Reset) (number, writes, is) = subst (IsMadeBy (Call k Reset)) (sym is) (k, refl, writes)
made_of_text text (Chunk most) (number, writes, is) = subst (IsMadeBy (Chunk most)) (sym is) (most, refl, writes)

written_once : (a b : Text) (m n : ℕ) → a ≡ b → Writes a m → Writes b n → m ≡ n
written_once a b m n same h k = sym h.1 ∙ ap (λ (t : Text). digits_value 10 (without_leading_plus t)) same ∙ k.1

made_once : (making : Option Making) (text : Text) (f g : Fault) → IsMade making text f → IsMade making text g → f ≡ g
made_once None text f g h k = absurd h
made_once (Some (of_one make)) text f g (m, is, hm) (n, also, kn) = is ∙ ap make (written_once text text m n refl hm kn) ∙ sym also
made_once (Some (of_two make)) text f g (a, b, x, y, is, ha, hb, parts) (c, d, v, w, also, kc, kd, others) =
    let same : x ++ 58 ∷ y ≡ v ++ 58 ∷ w = sym parts ∙ others in
    let hx = number_has_none x ha.0 in
    let hv = number_has_none v kc.0 in
    let first : x ≡ v = sym (before_is x y hx) ∙ ap before_colon same ∙ before_is v w hv in
    let second : y ≡ w = sym (after_is x y hx) ∙ ap after_colon same ∙ after_is v w hv in
    is ∙ ap (λ (m : ℕ). make m b) (written_once x v a c first ha kc) ∙ ap (make c) (written_once y w b d second hb kd) ∙ sym also

fault_once : (text : Text) (f g : Fault) → IsText text f → IsText text g → f ≡ g
fault_once text f g h k = made_once (making_of (before_colon text)) (after_colon text) f g (made_of_text text f h) (made_of_text text g k)

pub faults_once : (texts : List Text) (a b : List Fault) → AllZip NamesFault texts a → AllZip NamesFault texts b → a ≡ b
faults_once [] [] [] h k = refl
faults_once [] [] (g ∷ b) h k = absurd k
faults_once [] (f ∷ a) b h k = absurd h
faults_once (t ∷ ts) [] b h k = absurd h
faults_once (t ∷ ts) (f ∷ a) [] h k = absurd k
faults_once (t ∷ ts) (f ∷ a) (g ∷ b) h k =
    ap (λ (x : Fault). x ∷ a) (fault_once t f g h.0.0 k.0.0) ∙ ap (λ (l : List Fault). g ∷ l) (faults_once ts a b h.1 k.1)
