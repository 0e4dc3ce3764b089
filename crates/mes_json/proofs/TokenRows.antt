-- Examples of numbers and literals, each run through the state machine by computation.
use Rattle.std.proofs.Common.{◌≡◌, true, false, [], ◌∷◌, Some, None, refl}
use Rattle.mes_fixed.specs.declared.automaton.NumberState.TheVariants.{InWhole, AfterExponent}
use Rattle.mes_json.specs.Tree.Tree.{null, boolean, number}
use Rattle.mes_json.specs.Tree.Members.{no_members}
use Rattle.mes_json.specs.Machine.{start, run, ends}
use Rattle.mes_json.specs.Machine.State.{state}
use Rattle.mes_json.specs.Machine.Frame.{frame}
use Rattle.mes_json.specs.Machine.ReaderState.{token}
use Rattle.mes_json.specs.Machine.Token.{digits}

-- after {"a":1 the state is that of a number, which may end or continue
in_number : run 64 start (123 ∷ 34 ∷ 97 ∷ 34 ∷ 58 ∷ 49 ∷ []) ≡ Some (state (frame no_members (97 ∷ []) ∷ []) (token (digits InWhole (49 ∷ []))))
unfolding run
in_number = refl

-- 01 is refused at the 1, and .5 and +1 at their first byte
leading_zero : run 64 start (48 ∷ 49 ∷ []) ≡ None
unfolding run
leading_zero = refl

leading_point : run 64 start (46 ∷ []) ≡ None
unfolding run
leading_point = refl

leading_plus : run 64 start (43 ∷ []) ≡ None
unfolding run
leading_plus = refl

-- 1e, - and 1. are no whole text, but are not refused: they may continue
no_power : ends 64 start (49 ∷ 101 ∷ []) ≡ None
unfolding run
no_power = refl

no_power_yet : run 64 start (49 ∷ 101 ∷ []) ≡ Some (state [] (token (digits AfterExponent (49 ∷ 101 ∷ []))))
unfolding run
no_power_yet = refl

minus_alone : ends 64 start (45 ∷ []) ≡ None
unfolding run
minus_alone = refl

point_last : ends 64 start (49 ∷ 46 ∷ []) ≡ None
unfolding run
point_last = refl

-- 1 is a whole text, also before white space; 1x is refused at the x
one_digit : ends 64 start (49 ∷ []) ≡ Some (number (49 ∷ []))
unfolding run
one_digit = refl

one_digit_blank : ends 64 start (49 ∷ 32 ∷ []) ≡ Some (number (49 ∷ []))
unfolding run
one_digit_blank = refl

letter_behind : run 64 start (49 ∷ 120 ∷ []) ≡ None
unfolding run
letter_behind = refl

-- 1 2 is refused at the 2
two_numbers : run 64 start (49 ∷ 32 ∷ 50 ∷ []) ≡ None
unfolding run
two_numbers = refl

-- the text of -12.50E-07 is unchanged
whole_number : ends 64 start (45 ∷ 49 ∷ 50 ∷ 46 ∷ 53 ∷ 48 ∷ 69 ∷ 45 ∷ 48 ∷ 55 ∷ []) ≡ Some (number (45 ∷ 49 ∷ 50 ∷ 46 ∷ 53 ∷ 48 ∷ 69 ∷ 45 ∷ 48 ∷ 55 ∷ []))
unfolding run
whole_number = refl

-- literals need no nesting; tru is no whole text; truE, nulL and True are refused
null_whole : ends 0 start (110 ∷ 117 ∷ 108 ∷ 108 ∷ []) ≡ Some null
unfolding run
null_whole = refl

true_whole : ends 0 start (116 ∷ 114 ∷ 117 ∷ 101 ∷ []) ≡ Some (boolean true)
unfolding run
true_whole = refl

false_whole : ends 0 start (32 ∷ 102 ∷ 97 ∷ 108 ∷ 115 ∷ 101 ∷ 32 ∷ []) ≡ Some (boolean false)
unfolding run
false_whole = refl

cut_literal : ends 64 start (116 ∷ 114 ∷ 117 ∷ []) ≡ None
unfolding run
cut_literal = refl

wrong_literal : run 64 start (116 ∷ 114 ∷ 117 ∷ 69 ∷ []) ≡ None
unfolding run
wrong_literal = refl

wrong_null : run 64 start (110 ∷ 117 ∷ 108 ∷ 76 ∷ []) ≡ None
unfolding run
wrong_null = refl

capital : run 64 start (84 ∷ []) ≡ None
unfolding run
capital = refl

literal_longer : run 64 start (110 ∷ 117 ∷ 108 ∷ 108 ∷ 108 ∷ []) ≡ None
unfolding run
literal_longer = refl
