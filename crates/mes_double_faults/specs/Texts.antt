-- The texts of faults, such as `lose:3`.
use Rattle.std.specs.Prelude.{◌≡◌, ◌≤◌, ◌++◌, ℕ, List, ◌∷◌, codes, decimal}
use Rattle.std.specs.Str.Parse.{IsNumeral, digits_value, without_leading_plus}
use Rattle.mes_frame.specs.declared.limits.TheConstants.{MIN_CHUNK, MAX_CHUNK}
use Rattle.mes_double_faults.specs.declared.number.TheConstants.{MAX_NUMBER, MAX_SECONDS}
use Rattle.mes_double_faults.specs.declared.fault.Fault.{Fault}
use Rattle.mes_double_faults.specs.declared.fault.Fault.TheVariants.{Event, Call, Chunk}
use Rattle.mes_double_faults.specs.declared.fault.EventFault.TheVariants.{Lost, Repeated, Cut, Late, Muted}
use Rattle.mes_double_faults.specs.declared.fault.CallFault.TheVariants.{Busy, Unanswered, Slow, Gone, Reset}

-- the text is the number in decimal digits, with or without a leading `+`
abbrev pub Writes : List ℕ → ℕ → Type 0
Writes text n = IsNumeral 10 (without_leading_plus text) × (digits_value 10 (without_leading_plus text) ≡ n)

-- the text is no number from `least` to `greatest`
abbrev pub HasNoNumber : List ℕ → ℕ → ℕ → Type 0
HasNoNumber text least greatest = ¬ ((n : ℕ) × Writes text n × (least ≤ n) × (n ≤ greatest))

-- the number of an event or of a call
abbrev pub IsPlace : ℕ → Type 0
IsPlace k = (1 ≤ k) × (k ≤ MAX_NUMBER)

-- the text is two numbers with a colon between them
abbrev pub ArePair : List ℕ → ℕ → ℕ → Type 0
ArePair text m n = (first : List ℕ) × (second : List ℕ) × Writes first m × Writes second n × (text ≡ first ++ 58 ∷ second)

-- the text is no number of an event or a call with a number from `least` to `greatest`
abbrev pub HasNoPair : List ℕ → ℕ → ℕ → Type 0
HasNoPair text least greatest = ¬ ((m : ℕ) × (n : ℕ) × ArePair text m n × IsPlace m × (least ≤ n) × (n ≤ greatest))

-- the text is a name, a colon and a number
abbrev pub IsOne : List ℕ → List ℕ → ℕ → Type 0
IsOne name text n = (number : List ℕ) × Writes number n × (text ≡ name ++ 58 ∷ number)

-- the text is a name and two numbers, each after a colon
abbrev pub IsPair : List ℕ → List ℕ → ℕ → ℕ → Type 0
IsPair name text m n = (first : List ℕ) × (second : List ℕ) × Writes first m × Writes second n × (text ≡ name ++ 58 ∷ (first ++ 58 ∷ second))

-- the text is that of the fault
abbrev pub IsText : List ℕ → Fault → Type 0
IsText text (Event k Lost) = IsOne (codes "lose") text k
IsText text (Event k Repeated) = IsOne (codes "twice") text k
IsText text (Event k (Cut bytes)) = IsPair (codes "cut") text k bytes
IsText text (Event k (Late seconds)) = IsPair (codes "late") text k seconds
IsText text (Event k Muted) = IsOne (codes "mute") text k
IsText text (Call k Busy) = IsOne (codes "busy") text k
IsText text (Call k Unanswered) = IsOne (codes "unanswered") text k
IsText text (Call k (Slow seconds)) = IsPair (codes "slow") text k seconds
IsText text (Call k Gone) = IsOne (codes "gone") text k
IsText text (Call k Reset) = IsOne (codes "reset") text k
IsText text (Chunk most) = IsOne (codes "chunk") text most

abbrev pub AreSeconds : ℕ → Type 0
AreSeconds s = (1 ≤ s) × (s ≤ MAX_SECONDS)

-- the numbers of the fault are in their ranges
abbrev pub IsInRange : Fault → Type 0
IsInRange (Event k Lost) = IsPlace k
IsInRange (Event k Repeated) = IsPlace k
IsInRange (Event k (Cut bytes)) = IsPlace k × (bytes ≤ MAX_NUMBER)
IsInRange (Event k (Late seconds)) = IsPlace k × AreSeconds seconds
IsInRange (Event k Muted) = IsPlace k
IsInRange (Call k Busy) = IsPlace k
IsInRange (Call k Unanswered) = IsPlace k
IsInRange (Call k (Slow seconds)) = IsPlace k × AreSeconds seconds
IsInRange (Call k Gone) = IsPlace k
IsInRange (Call k Reset) = IsPlace k
IsInRange (Chunk most) = (MIN_CHUNK ≤ most) × (most ≤ MAX_CHUNK)

-- the text is that of no fault
abbrev pub HasNoFault : List ℕ → Type 0
HasNoFault text = ¬ ((fault : Fault) × IsText text fault × IsInRange fault)

-- ---- the text that is printed

abbrev pub one_text : List ℕ → ℕ → List ℕ
one_text name n = name ++ 58 ∷ decimal n

abbrev pub pair_text : List ℕ → ℕ → ℕ → List ℕ
pair_text name m n = name ++ 58 ∷ (decimal m ++ 58 ∷ decimal n)

abbrev pub fault_text : Fault → List ℕ
fault_text (Event k Lost) = one_text (codes "lose") k
fault_text (Event k Repeated) = one_text (codes "twice") k
fault_text (Event k (Cut bytes)) = pair_text (codes "cut") k bytes
fault_text (Event k (Late seconds)) = pair_text (codes "late") k seconds
fault_text (Event k Muted) = one_text (codes "mute") k
fault_text (Call k Busy) = one_text (codes "busy") k
fault_text (Call k Unanswered) = one_text (codes "unanswered") k
fault_text (Call k (Slow seconds)) = pair_text (codes "slow") k seconds
fault_text (Call k Gone) = one_text (codes "gone") k
fault_text (Call k Reset) = one_text (codes "reset") k
fault_text (Chunk most) = one_text (codes "chunk") most
