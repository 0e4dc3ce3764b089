-- The content of a client's request.
use Rattle.std.specs.Prelude.{◌≡◌, ℕ, List, Option}
use Rattle.mes_frame.specs.declared.counts.Counts.{Counts}
use Rattle.mes_msg.specs.Calls.{call}
use Rattle.mes_msg.specs.Texts.{IsTextOf, IsFaultOf}
use Rattle.mes_double_http.specs.Endings.{AllGive}
use Rattle.mes_double_http.specs.Requests.{IsWholeCall, RefusesCall}
use Rattle.mesosev_serve.specs.declared.request.ParsedRequest.{ParsedRequest}
use Rattle.mesosev_serve.specs.declared.request.ParsedRequest.TheVariants.{NoRequest, NoCall, Calls}

-- the content of a request with the stream id `stream` and the given body
abbrev pub IsAskedBy : Option (List ℕ) → List ℕ → ParsedRequest → Type 0
IsAskedBy stream body (NoRequest fault) = ⊥
IsAskedBy stream body (NoCall fault) = IsFaultOf call body fault
IsAskedBy stream body (Calls named c) = (named ≡ stream) × IsTextOf call body c

-- the content of the bytes read: no request, a request without a call, or a request with a call
abbrev pub IsAsked : List ℕ → Counts → Counts → ParsedRequest → Type 0
IsAsked taken old new (NoRequest fault) = RefusesCall fault taken old new
IsAsked taken old new asked = (stream : Option (List ℕ)) × (body : List ℕ) × IsWholeCall taken stream body × AllGive old new × IsAskedBy stream body asked
