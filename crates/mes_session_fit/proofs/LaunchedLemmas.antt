-- Lemmas about the index of a group's task among all tasks, and about the tasks before and after
-- it.
use Rattle.std.proofs.Common.{◌≡◌, ℕ, zero, suc, ◌+◌, ◌≤◌, ◌<◌, Some, List, [], ◌∷◌, ◌++◌, length, take, drop, get_or, slice_get, refl, sym, ◌∙◌, ap, add-one, append_assoc, length-append, arith}
use Rattle.std.specs.List.{flat_map}
use Rattle.std.proofs.Math.Nat.{suc-add, zero-add}
use Rattle.std.proofs.Math.Seq.{take-append-add, drop-append-add}
use Rattle.std.proofs.lemmas.List.{take-append-le, drop-append-le}
use Rattle.mes_model.specs.TaskInfo.{TaskInfo}
use Rattle.mes_session_fit.specs.Fits.{asked}
use Rattle.mes_session_fit.specs.Launched.{launched, place}
use Rattle.mes_session_fit.proofs.ListLemmas.{flat_map-flat_map}

pub by-group : {G : Type 0} (of : G → List TaskInfo) (os : List G) → asked (launched of os) ≡ flat_map (λ o. asked (of o)) os
by-group of os = flat_map-flat_map (λ (t : TaskInfo). t.resources) of os

split-suc : {G : Type 0} (of : G → List TaskInfo) (os : List G) (at : ℕ) (o : G) → at < length os → o ≡ get_or os at o → launched of os ≡ launched of (take at os) ++ (of o ++ launched of (drop (suc at) os))
split-suc of [] at o h e = absurd (omega arith)
split-suc {G = G} of (p ∷ os) zero o h e = ap (λ (q : G). of q ++ launched of os) (sym e)
split-suc of (p ∷ os) (suc at) o h e =
    ap (λ (ts : List TaskInfo). of p ++ ts) (split-suc of os at o (omega arith) e)
    ∙ sym (append_assoc (of p) (launched of (take at os)) (of o ++ launched of (drop (suc at) os)))

pub split : {G : Type 0} (of : G → List TaskInfo) (os : List G) (at : ℕ) (o : G) → at < length os → o ≡ get_or os at o → launched of os ≡ launched of (take at os) ++ (of o ++ launched of (drop (at + 1) os))
split of os at o h e = rw add-one (split-suc of os at o h e)

append-none : (ts : List TaskInfo) → ts ++ [] ≡ ts
append-none [] = refl
append-none (t ∷ ts) = ap (λ us. t ∷ us) (append-none ts)

get-right : (xs ys : List TaskInfo) (n : ℕ) → slice_get (xs ++ ys) (length xs + n) ≡ slice_get ys n
get-right [] ys n = rw zero-add refl
get-right (x ∷ xs) ys n = rw suc-add (get-right xs ys n)

get-left : (xs ys : List TaskInfo) (n : ℕ) (x : TaskInfo) → n < length xs → x ≡ get_or xs n x → slice_get (xs ++ ys) n ≡ Some x
get-left [] ys n x h e = absurd (omega arith)
get-left (y ∷ xs) ys zero x h e = ap Some (sym e)
get-left (y ∷ xs) ys (suc n) x h e = get-left xs ys n x (omega arith) e

take-suc-launched : {G : Type 0} (of : G → List TaskInfo) (os : List G) (at : ℕ) (o : G) → at < length os → o ≡ get_or os at o → launched of (take (suc at) os) ≡ launched of (take at os) ++ of o
take-suc-launched of [] at o h e = absurd (omega arith)
take-suc-launched of (p ∷ os) zero o h e = append-none (of p) ∙ ap of (sym e)
take-suc-launched of (p ∷ os) (suc at) o h e =
    ap (λ (ts : List TaskInfo). of p ++ ts) (take-suc-launched of os at o (omega arith) e)
    ∙ sym (append_assoc (of p) (launched of (take at os)) (of o))

module _ {G : Type 0} (of : G → List TaskInfo) (os : List G) (at : ℕ) (o : G) (within : at < length os) (is : o ≡ get_or os at o) where
  pub take-place : (t : ℕ) → t ≤ length (of o) → take (place of os at t) (launched of os) ≡ launched of (take at os) ++ take t (of o)
  take-place t h =
      ap (take (place of os at t)) (split of os at o within is)
      ∙ take-append-add (launched of (take at os)) (of o ++ launched of (drop (at + 1) os)) t
      ∙ ap (λ (ts : List TaskInfo). launched of (take at os) ++ ts) (take-append-le t (of o) (launched of (drop (at + 1) os)) h)

  pub drop-from : (t : ℕ) → t ≤ length (of o) → drop (place of os at t) (launched of os) ≡ drop t (of o) ++ launched of (drop (at + 1) os)
  drop-from t h =
      ap (drop (place of os at t)) (split of os at o within is)
      ∙ drop-append-add (launched of (take at os)) (of o ++ launched of (drop (at + 1) os)) t
      ∙ drop-append-le t (of o) (launched of (drop (at + 1) os)) h

  pub drop-place : (t : ℕ) → t < length (of o) → drop (place of os at t + 1) (launched of os) ≡ drop (t + 1) (of o) ++ launched of (drop (at + 1) os)
  drop-place t h =
      let sum : place of os at t + 1 ≡ place of os at (t + 1) = omega arith in
      ap (λ n. drop n (launched of os)) sum ∙ drop-from (t + 1) (omega arith)

  pub get-place : (t : ℕ) (x : TaskInfo) → t < length (of o) → x ≡ get_or (of o) t x → slice_get (launched of os) (place of os at t) ≡ Some x
  get-place t x h e =
      ap (λ (ts : List TaskInfo). slice_get ts (place of os at t)) (split of os at o within is)
      ∙ get-right (launched of (take at os)) (of o ++ launched of (drop (at + 1) os)) t
      ∙ get-left (of o) (launched of (drop (at + 1) os)) t x h e

  pub next-place : place of os (at + 1) 0 ≡ place of os at (length (of o))
  next-place =
      let more : length (launched of (take (at + 1) os)) ≡ length (launched of (take at os)) + length (of o) =
      rw add-one (ap (length {A = TaskInfo}) (take-suc-launched of os at o within is) ∙ length-append (launched of (take at os)) (of o)) in
      omega arith
