-- A call written as a request, or the reason for which it is not.
use Rattle.std.specs.Prelude.{◌≡◌, ℕ, ◌<◌, List, ◌++◌, Option, length, take}
use Rattle.std.specs.Io.KnownBytes.{Appends}
use Rattle.mes_frame.specs.Write.{NoneFails, CallsFor, StopsWrite}
use Rattle.mes_frame.specs.Devices.{Device}
use Rattle.mes_msg.specs.Calls.{call}
use Rattle.mes_msg.specs.Texts.{canonical_of, Fits, IsRefusalOf}
use Rattle.mes_msg.specs.Call.{Call}
use Rattle.mes_msg.specs.EncodeFault.{EncodeFault}
use Rattle.mes_msg.specs.EncodeFault.TheVariants as refused
use Rattle.mes_msg.specs.declared.send_fault.EncodeFaultKind.{EncodeFaultKind}
use Rattle.mes_msg.specs.declared.send_fault.EncodeFaultKind.TheVariants.{TooDeep, TooLarge}
use Rattle.mes_msg.specs.declared.send_fault.SendFault.{SendFault}
use Rattle.mes_msg.specs.declared.send_fault.SendFault.TheVariants.{Encode, NoMemory, Write}
use Rattle.mes_double_http.specs.Texts.{call_head}
use Rattle.mes_double_http.specs.declared.limits.TheConstants.{MAX_BODY}

-- the whole request: the head, then the canonical text of the call
abbrev pub call_bytes : List ℕ → Option (List ℕ) → Call → List ℕ
call_bytes host stream c = call_head host stream (length (canonical_of call c)) ++ canonical_of call c

-- the canonical text of the call nests at most MAX_NESTING deep and has at most MAX_BODY bytes
abbrev pub IsGoodCall : Call → Type 0
IsGoodCall c = Fits call c MAX_BODY

-- the reason for which no body can contain the call: too deep or too large
abbrev pub IsBadCall : Call → EncodeFaultKind → Type 0
IsBadCall c TooDeep = IsRefusalOf call c MAX_BODY refused.TooDeep
IsBadCall c TooLarge = IsRefusalOf call c MAX_BODY refused.TooLarge

-- the fault that `write_call` reports if the call has no text; index 0 is the call
abbrev pub unmade : EncodeFault → SendFault
unmade refused.TooDeep = Encode 0 TooDeep
unmade refused.TooLarge = Encode 0 TooLarge
unmade refused.NoMemory = NoMemory

-- the fault is the reason for which the call has no request: too deep, too large, or no memory
abbrev pub IsUnmade : Call → SendFault → Type 0
IsUnmade c (Encode index why) = (index ≡ 0) × IsBadCall c why
IsUnmade c NoMemory = Unit {0}
IsUnmade c (Write fault) = ⊥

-- the text of the call fits a body, and the whole request is written
pub record WroteCall {W : Type 0} (device : W → Device) (host : List ℕ) (stream : Option (List ℕ)) (c : Call) (old new : W) : Type 0 where
  pub good : IsGoodCall c
  pub out : Appends (device old).bytes (device new).bytes (call_bytes host stream c)
  pub none_fails : NoneFails (device old).counts (device new).counts
  pub calls : CallsFor (length (call_bytes host stream c)) (device old).counts (device new).counts

-- the call does not fit a body or memory ran out, and nothing was written; or the writer stopped
abbrev pub StopsCall : {W : Type 0} → (W → Device) → List ℕ → Option (List ℕ) → Call → W → W → SendFault → Type 0
StopsCall device host stream c old new (Encode index why) = (index ≡ 0) × IsBadCall c why × (new ≡ old)
StopsCall device host stream c old new NoMemory = new ≡ old
StopsCall device host stream c old new (Write fault) = IsGoodCall c
    × (fault.sent < length (call_bytes host stream c))
    × Appends (device old).bytes (device new).bytes (take fault.sent (call_bytes host stream c))
    × StopsWrite fault.why (device old).counts (device new).counts × CallsFor (length (call_bytes host stream c)) (device old).counts (device new).counts
