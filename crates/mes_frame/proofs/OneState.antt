-- The limit and the bytes read since the last record determine the state of the decoder of records.
use Rattle.std.proofs.Common.{◌≡◌, ℕ, List, [], ◌∷◌, length, ap, ap₂, sym, ◌∙◌, inl, subst, arith}
use Rattle.std.proofs.lemmas.List.{append-nil}
use Rattle.std.specs.Str.Parse.{digits_value}
use Rattle.mes_frame.specs.Record.{DataBegun, Begun}
use Rattle.mes_frame.specs.RecordReading.{Begins}
use Rattle.mes_frame.specs.RecordState.{SizeKept, PhaseRepresents, RecordStands, limit_of}
use Rattle.mes_frame.specs.declared.record.Phase.{Phase}
use Rattle.mes_frame.specs.declared.record.Phase.TheVariants.{Size, Data, Failed}
use Rattle.mes_frame.specs.declared.record.RecordState.{RecordState}
use Rattle.mes_frame.proofs.OneReading.{one_split, one_reading}
use Rattle.mes_frame.proofs.Records.{begun_of}

one_left : (x r q : List ℕ) (left other limit : ℕ) → r ≡ q → DataBegun x r left limit → DataBegun x q other limit → left ≡ other
one_left x r q left other limit same first second =
    let one = one_split 20 first.size second.size (10 ∷ r) (10 ∷ q) first.is_size.begun.digits second.is_size.begun.digits
    first.is_size.begun.few second.is_size.begun.few (inl (omega arith)) (inl (omega arith)) (sym first.spelt ∙ second.spelt) in
    let value = first.value in
    let too = second.value in
    let sizes = ap (digits_value 10) one.0 in
    let lens = ap length same in
    omega arith

not_both : (x r q : List ℕ) (digits value left limit : ℕ) → SizeKept digits value x r → DataBegun x q left limit → ⊥
not_both x r q digits value left limit kept begun =
    let one = one_split 20 x begun.size [] (10 ∷ q) kept.begun.digits begun.is_size.begun.digits
    kept.begun.few begun.is_size.begun.few tt (inl (omega arith)) (append-nil x ∙ begun.spelt) in
    let clash : [] ≡ 10 ∷ q = one.1 in
    cc

one_place : (p q : Phase) (limit : ℕ) (x r s : List ℕ) → r ≡ s → PhaseRepresents p limit x r → PhaseRepresents q limit x s → p ≡ q
one_place (Size digits value) (Size more worth) limit x r s same first second =
    let a = first.count ∙ sym second.count in
    let b = first.capped ∙ sym second.capped in
    ap₂ Size a b
one_place (Size digits value) (Data left) limit x r s same first second = absurd (not_both x r s digits value left limit first second)
one_place (Data left) (Size digits value) limit x r s same first second = absurd (not_both x s r digits value left limit second first)
one_place (Data left) (Data other) limit x r s same first second = ap Data (one_left x r s left other limit same first second)
one_place (Failed fault) q limit x r s same first second = absurd first
one_place (Size digits value) (Failed fault) limit x r s same first second = absurd second
one_place (Data left) (Failed fault) limit x r s same first second = absurd second

pub one_state : (s t : RecordState) (x r q : List ℕ) → RecordStands s x r → RecordStands t x q → limit_of s ≡ limit_of t → (s ≡ t) × (r ≡ q)
unfolding RecordStands
one_state s t x r q first second same =
    let reads : Begins r ≡ Begins q = one_reading s.limit x (Begins r) (Begins q) (begun_of s x r first)
    (subst (λ (l : ℕ). Begun x q l) (sym same) (begun_of t x q second)) in
    let datas : r ≡ q = cc in
    let phase = one_place s.phase t.phase s.limit x r q datas first (subst (λ (l : ℕ). PhaseRepresents t.phase l x q) (sym same) second) in
    let state : ℕ → Phase → RecordState = λ l p. record { limit = l; phase = p } in
    (ap₂ state same phase, datas)
