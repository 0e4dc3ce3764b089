-- Examples of strings, each run through the state machine by computation.
use Rattle.std.proofs.Common.{◌≡◌, [], ◌∷◌, Some, None, refl}
use Rattle.std.specs.Char.{encode_utf8}
use Rattle.mes_json.specs.Tree.Tree.{string}
use Rattle.mes_json.specs.Escape.Escape.{backslash, unit1, high, low1}
use Rattle.mes_json.specs.Machine.{start, run, ends}
use Rattle.mes_json.specs.Machine.State.{state}
use Rattle.mes_json.specs.Machine.ReaderState.{quoted}
use Rattle.mes_json.specs.Machine.Utf8State.{within, escape}
use Rattle.mes_json.specs.Machine.Purpose.{for_value}

-- a control character is refused; the byte 7F is not
control : run 64 start (34 ∷ 31 ∷ []) ≡ None
unfolding run
control = refl

delete : ends 64 start (34 ∷ 127 ∷ 34 ∷ []) ≡ Some (string (127 ∷ []))
unfolding run
delete = refl

-- C0 is refused at once. ED A0 (a surrogate), F4 90 (above 10FFFF), E0 9F and F0 8F (overlong) are
-- refused at their second byte, an unfinished character at the quotation mark.
overlong_two : run 64 start (34 ∷ 0xC0 ∷ []) ≡ None
unfolding run
overlong_two = refl

overlong_three : run 64 start (34 ∷ 0xE0 ∷ 0x9F ∷ []) ≡ None
unfolding run
overlong_three = refl

overlong_four : run 64 start (34 ∷ 0xF0 ∷ 0x8F ∷ []) ≡ None
unfolding run
overlong_four = refl

surrogate_begins : run 64 start (34 ∷ 0xED ∷ []) ≡ Some (state [] (quoted for_value (within 2 0x80 0x9F) (0xED ∷ [])))
unfolding run
surrogate_begins = refl

surrogate : run 64 start (34 ∷ 0xED ∷ 0xA0 ∷ []) ≡ None
unfolding run
surrogate = refl

too_large : run 64 start (34 ∷ 0xF4 ∷ 0x90 ∷ []) ≡ None
unfolding run
too_large = refl

cut_short : run 64 start (34 ∷ 0xC3 ∷ 34 ∷ []) ≡ None
unfolding run
cut_short = refl

-- U+10FFFF
largest : ends 64 start (34 ∷ 0xF4 ∷ 0x8F ∷ 0xBF ∷ 0xBF ∷ 34 ∷ []) ≡ Some (string (encode_utf8 0x10_FFFF))
unfolding run encode_utf8
largest = refl

-- ---- escapes
-- after a backslash the state is that of an escape
in_escape : run 64 start (34 ∷ 92 ∷ []) ≡ Some (state [] (quoted for_value (escape backslash) []))
unfolding run
in_escape = refl

-- "\uD may begin a surrogate pair or a character; "\uDC, a low surrogate that comes first, is
-- refused
high_or_low_digit : run 64 start (34 ∷ 92 ∷ 117 ∷ 68 ∷ []) ≡ Some (state [] (quoted for_value (escape (unit1 13)) []))
unfolding run
high_or_low_digit = refl

low_alone : run 64 start (34 ∷ 92 ∷ 117 ∷ 68 ∷ 67 ∷ []) ≡ None
unfolding run
low_alone = refl

-- after "\uD83D a low surrogate is expected: n is refused, and another \uD83D at its second digit
high_waits : run 64 start (34 ∷ 92 ∷ 117 ∷ 68 ∷ 56 ∷ 51 ∷ 68 ∷ []) ≡ Some (state [] (quoted for_value (escape (high 0xD83D)) []))
unfolding run
high_waits = refl

high_alone : run 64 start (34 ∷ 92 ∷ 117 ∷ 68 ∷ 56 ∷ 51 ∷ 68 ∷ 110 ∷ []) ≡ None
unfolding run
high_alone = refl

high_then_digit : run 64 start (34 ∷ 92 ∷ 117 ∷ 68 ∷ 56 ∷ 51 ∷ 68 ∷ 92 ∷ 117 ∷ 68 ∷ []) ≡ Some (state [] (quoted for_value (escape (low1 0xD83D)) []))
unfolding run
high_then_digit = refl

high_then_high : run 64 start (34 ∷ 92 ∷ 117 ∷ 68 ∷ 56 ∷ 51 ∷ 68 ∷ 92 ∷ 117 ∷ 68 ∷ 56 ∷ []) ≡ None
unfolding run
high_then_high = refl

-- "\uD83D\uDE00" is U+1F600
two_halves : ends 64 start (34 ∷ 92 ∷ 117 ∷ 68 ∷ 56 ∷ 51 ∷ 68 ∷ 92 ∷ 117 ∷ 68 ∷ 69 ∷ 48 ∷ 48 ∷ 34 ∷ []) ≡ Some (string (0xF0 ∷ 0x9F ∷ 0x98 ∷ 0x80 ∷ []))
unfolding run encode_utf8
two_halves = refl

-- "\u00e9\u00E9" is the character U+00E9, twice
digits_in_either_case : ends 64 start (34 ∷ 92 ∷ 117 ∷ 48 ∷ 48 ∷ 101 ∷ 57 ∷ 92 ∷ 117 ∷ 48 ∷ 48 ∷ 69 ∷ 57 ∷ 34 ∷ []) ≡ Some (string (0xC3 ∷ 0xA9 ∷ 0xC3 ∷ 0xA9 ∷ []))
unfolding run encode_utf8
digits_in_either_case = refl

-- "\u0000" is U+0000
nul : ends 64 start (34 ∷ 92 ∷ 117 ∷ 48 ∷ 48 ∷ 48 ∷ 48 ∷ 34 ∷ []) ≡ Some (string (0 ∷ []))
unfolding run encode_utf8
nul = refl

-- the eight short escapes; \v is refused
short_ones : ends 64 start (34 ∷ 92 ∷ 34 ∷ 92 ∷ 92 ∷ 92 ∷ 47 ∷ 92 ∷ 98 ∷ 92 ∷ 102 ∷ 92 ∷ 110 ∷ 92 ∷ 114 ∷ 92 ∷ 116 ∷ 34 ∷ []) ≡ Some (string (34 ∷ 92 ∷ 47 ∷ 8 ∷ 12 ∷ 10 ∷ 13 ∷ 9 ∷ []))
unfolding run encode_utf8
short_ones = refl

no_short_one : run 64 start (34 ∷ 92 ∷ 118 ∷ []) ≡ None
unfolding run
no_short_one = refl
