-- Lemmas about the identifiers of offers and the UUIDs of updates.
use Rattle.std.proofs.Common.{◌≡◌, ℕ, zero, suc, ◌+◌, ◌<◌, ◌≤◌, ◌^◌, if◌then◌else◌, List, ◌++◌, length, sym, ap, ◌∙◌, arith, length-append}
use Rattle.std.specs.Prelude.{◌≢◌, codes, decimal}
use Rattle.std.specs.Int.{from_be_bytes, w128}
use Rattle.std.proofs.lemmas.Bool.{le-leb}
use Rattle.std.proofs.lemmas.Fmt.{decimal_injective}
use Rattle.std.proofs.lemmas.List.{append_cancel_left}
use Rattle.uuid.proofs.OrderLemmas.{from_be_bytes-to_be_bytes_16}
use Rattle.mes_double_cluster.specs.Stock.{round_id}
use Rattle.mes_double_cluster.specs.Statuses.{update_uuid}

later_name : (name : List ℕ) (n : ℕ) → 2 ≤ n → (round_id name n).value ≡ name ++ codes "-" ++ decimal n
later_name name n h = ap (λ b. if b then name ++ codes "-" ++ decimal n else name) (le-leb 2 n h)

pub other_id : (name : List ℕ) (round other : ℕ) → 1 ≤ round → round < other → other < 2 ^ 64 → round_id name round ≢ round_id name other
other_id name zero other above below fits same = absurd (omega (arith, above))
other_id name (suc zero) other above below fits same =
    let e : name ≡ name ++ codes "-" ++ decimal other = ap (λ d. d.value) same ∙ later_name name other (omega (arith, below)) in
    let lengths : length name ≡ length (name ++ codes "-" ++ decimal other) = ap length e in
    absurd (omega (arith, lengths, length-append (name ++ codes "-") (decimal other), length-append name (codes "-")))
other_id name (suc (suc k)) other above below fits same =
    let e : name ++ codes "-" ++ decimal (suc (suc k)) ≡ name ++ codes "-" ++ decimal other =
    sym (later_name name (suc (suc k)) (omega arith)) ∙ ap (λ d. d.value) same ∙ later_name name other (omega (arith, below)) in
    let number : decimal (suc (suc k)) ≡ decimal other = append_cancel_left (name ++ codes "-") _ _ e in
    let n : suc (suc k) ≡ other = decimal_injective (suc (suc k)) other (omega (arith, below, fits)) fits number in
    absurd (omega (arith, n, below))

pub same_update : (update other : ℕ) → update < 2 ^ 64 → other < 2 ^ 64 → update_uuid update ≡ update_uuid other → update ≡ other
same_update update other fits fits_too same =
    let first = from_be_bytes-to_be_bytes_16 (0x4000_a000_0000_0000_0000 + update) (omega (arith, fits)) in
    let second = from_be_bytes-to_be_bytes_16 (0x4000_a000_0000_0000_0000 + other) (omega (arith, fits_too)) in
    let e : 0x4000_a000_0000_0000_0000 + update ≡ 0x4000_a000_0000_0000_0000 + other = sym first ∙ ap (from_be_bytes w128) same ∙ second in
    omega (arith, e)
