-- The outcome of `subscribe` and `loopback`, from what was sent and printed over some socket.
use Rattle.std.proofs.Common.{◌≡◌, ◌∙◌, ◌⊎◌, ap, inl, inr, refl, Bool, true, false, ℕ, List, Result, subst}
use Rattle.mes_msg.specs.Event.{Event}
use Rattle.mes_frame.specs.Devices.{Device}
use Rattle.mes_frame.specs.declared.write.WriteFault.{WriteFault}
use Rattle.mesosev_serve.specs.Masters.{MasterState}
use Rattle.mesosev_serve.specs.Runs.{new_master}
use Rattle.mes_model.specs.declared.framework_info.FrameworkInfo.{FrameworkInfo}
use Rattle.mesosev_net.specs.Given.{plain_framework, test_framework}
use Rattle.mes_msg.specs.declared.send_fault.SendFault.{SendFault}
use Rattle.mesosev_net.specs.Looped.{AnswersLoop, LoopsEvents, ServesLoop, ShowsSome, is_whole, loopback_framework, loopback_host}
use Rattle.mesosev_net.specs.StreamIds.{ids_from}
use Rattle.mesosev_net.specs.Subscribed.{SubscribesSome}
use Rattle.mesosev_net.proofs.TurnLemmas.{served_some}
use Rattle.mesosev_stream.specs.Printing.{LacksMemory, Prints}
use Rattle.mesosev_stream.specs.declared.exit_status.ExitStatus.TheVariants as exit
use Rattle.mesosev_stream.specs.declared.outcome.RunOutcome.{RunOutcome}
use Rattle.mesosev_serve.specs.Lines.{write_failed_line}
use Rattle.mesosev_serve.specs.Serving.{ServesOne}
use Rattle.mesosev_serve.specs.Subscribing.{SentSubscribe, StopsSubscribe, SubscribesOver, ReportsUnsent}
use Rattle.mesosev_serve.specs.declared.connection.Served.{Served}

pub subscribed_some : (info plain : FrameworkInfo) (host to : List ℕ) (reads most : ℕ) (input rest writer written out printed : Device) (ended : RunOutcome)
    → info ≡ plain → host ≡ to → reads ≡ most → SubscribesOver info host reads input rest writer written out printed ended
    → SubscribesSome plain to most out printed ended
subscribed_some info plain host to reads most input rest writer written out printed ended a b c s = record {
  input = input;
  rest = rest;
  writer = writer;
  written = written;
  subscribes = subst (λ (i : FrameworkInfo). SubscribesOver i to most input rest writer written out printed ended) a
      (subst (λ (h : List ℕ). SubscribesOver info h most input rest writer written out printed ended) b
      (subst (λ (n : ℕ). SubscribesOver info host n input rest writer written out printed ended) c s));
}

pub same_framework : (info : FrameworkInfo) (user name u n : List ℕ) → info ≡ plain_framework u n → u ≡ user → n ≡ name → info ≡ plain_framework user name
same_framework info user name u n is a b = is ∙ ap (λ (x : List ℕ). plain_framework x n) a ∙ ap (plain_framework user) b

looped : (first : List ℕ) (most : ℕ) (given : List Event) (before : MasterState) (input rest writer written out dropped : Device) (later : MasterState) (r : Result Served WriteFault)
    (whole : Bool) → before ≡ new_master test_framework (ids_from first 1) → is_whole r ≡ whole
    → ServesOne before given most input rest writer written out dropped later r → ServesLoop first most given whole
looped first most given before input rest writer written out dropped later r whole same is serves = record {
  out = out;
  dropped = dropped;
  later = later;
  served = r;
  serves = served_some most most (new_master test_framework (ids_from first 1)) given input rest writer written out dropped later r r refl refl
      (subst (λ (m : MasterState). ServesOne m given most input rest writer written out dropped later r) same serves);
  is = is;
}

-- the outcome of `loopback` if the whole response was written
pub answered : (first : List ℕ) (most : ℕ) (given : List Event) (before : MasterState) (input rest writer written out dropped : Device) (later : MasterState) (r : Result Served WriteFault)
    (reported printed : Device) (ended : RunOutcome) → before ≡ new_master test_framework (ids_from first 1) → is_whole r ≡ true
    → ServesOne before given most input rest writer written out dropped later r → ShowsSome reported printed ended ⊎ LacksMemory reported printed ended
    → AnswersLoop first most given reported printed ended
answered first most given before input rest writer written out dropped later r reported printed ended same is serves (inl shows) =
    inl (looped first most given before input rest writer written out dropped later r true same is serves, shows)
answered first most given before input rest writer written out dropped later r reported printed ended same is serves (inr lacks) = inr (inr lacks)

-- the outcome of `loopback` if the response was not written completely
pub unanswered : (first : List ℕ) (most : ℕ) (given : List Event) (before : MasterState) (input rest writer written out dropped : Device) (later : MasterState) (r : Result Served WriteFault)
    (reported printed : Device) (ended : RunOutcome) → before ≡ new_master test_framework (ids_from first 1) → is_whole r ≡ false
    → ServesOne before given most input rest writer written out dropped later r → Prints reported printed write_failed_line exit.Fault ended ⊎ LacksMemory reported printed ended
    → AnswersLoop first most given reported printed ended
unanswered first most given before input rest writer written out dropped later r reported printed ended same is serves (inl prints) =
    inr (inl (looped first most given before input rest writer written out dropped later r false same is serves, prints))
unanswered first most given before input rest writer written out dropped later r reported printed ended same is serves (inr lacks) = inr (inr lacks)

-- ---- the outcome of `loopback`, from that of sending SUBSCRIBE

-- the outcome of `loopback` if SUBSCRIBE was sent
pub sent_some : (info : FrameworkInfo) (host : List ℕ) (writer written : Device) (first : List ℕ) (most : ℕ) (given : List Event) (reported printed : Device) (ended : RunOutcome)
    → info ≡ loopback_framework → host ≡ loopback_host → SentSubscribe info host writer written → AnswersLoop first most given reported printed ended
    → LoopsEvents first most given reported printed ended
sent_some info host writer written first most given reported printed ended same to sent answers =
    inl (
      record {
        writer = writer;
        written = written;
        sends = subst (λ (i : FrameworkInfo). SentSubscribe i loopback_host writer written) same (subst (λ (h : List ℕ). SentSubscribe info h writer written) to sent);
      },
      answers,
    )

-- the outcome of `loopback` if SUBSCRIBE was not sent
pub stopped_some : (info : FrameworkInfo) (host : List ℕ) (writer written : Device) (first : List ℕ) (most : ℕ) (given : List Event) (fault : SendFault) (reported printed : Device) (ended : RunOutcome)
    → info ≡ loopback_framework → host ≡ loopback_host → StopsSubscribe info host writer written fault → ReportsUnsent fault reported printed ended
    → LoopsEvents first most given reported printed ended
stopped_some info host writer written first most given fault reported printed ended same to stops reports =
    inr (inl (
      fault,
      record {
        writer = writer;
        written = written;
        stops = subst (λ (i : FrameworkInfo). StopsSubscribe i loopback_host writer written fault) same (subst (λ (h : List ℕ). StopsSubscribe info h writer written fault) to stops);
      },
      reports,
    ))
