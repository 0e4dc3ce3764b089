-- Lemmas about `Turned`: connections that are served one after the other.
use Rattle.std.proofs.Common.{◌≡◌, ℕ, ◌+◌, List, Result, Ok, arith, inr, refl, suc, subst}
use Rattle.mes_msg.specs.Event.{Event}
use Rattle.mes_frame.specs.Devices.{Device}
use Rattle.mes_frame.specs.declared.write.WriteFault.{WriteFault}
use Rattle.mesosev_serve.specs.Masters.{MasterState}
use Rattle.mesosev_serve.specs.Runs.{new_master}
use Rattle.mesosev_net.specs.Given.{test_framework}
use Rattle.mesosev_net.specs.ServedTurns.{ServesEvents, ServesNext, ServesSome, ServesTurns, Turned}
use Rattle.mesosev_net.specs.StreamIds.{ids_from}
use Rattle.mesosev_stream.specs.declared.outcome.RunOutcome.{RunOutcome}
use Rattle.mesosev_serve.specs.Serving.{ServesOne}
use Rattle.mesosev_serve.specs.declared.connection.Served.{Served}
use Rattle.mes_stream.specs.Stream.{saturated}

pub served_some : (size most : ℕ) (before : MasterState) (given : List Event) (input rest writer written out printed : Device) (later : MasterState)
    (r s : Result Served WriteFault) → size ≡ most → r ≡ s → ServesOne before given size input rest writer written out printed later r
    → ServesSome most before given out printed later s
served_some size most before given input rest writer written out printed later r s same is serves = record {
  input = input;
  rest = rest;
  writer = writer;
  written = written;
  serves = subst (λ (q : Result Served WriteFault). ServesOne before given most input rest writer written out printed later q) is
      (subst (λ (k : ℕ). ServesOne before given k input rest writer written out printed later r) same serves);
}

pub none_served : (before : MasterState) (given : List Event) (out : Device) → Turned 0 before given out out before 0
unfolding Turned
none_served before given out = (refl, refl, refl)

next_of : (n : ℕ) → suc n ≡ n + 1
next_of n = omega arith

turned_next : (n : ℕ) (before between later : MasterState) (given : List Event) (out reported printed : Device) (sum more bytes : ℕ)
    → Turned n before given out reported between sum → ServesNext between given reported printed later (Ok more) → bytes ≡ saturated (sum + more)
    → Turned (suc n) before given out printed later bytes
unfolding Turned
turned_next n before between later given out reported printed sum more bytes turned next is = (between, reported, sum, more, turned, next, is)

pub one_served : (n : ℕ) (before between later : MasterState) (given : List Event) (out reported printed : Device) (sum more bytes : ℕ) (r : Result ℕ RunOutcome)
    → Turned n before given out reported between sum → r ≡ Ok more → ServesNext between given reported printed later r → bytes ≡ saturated (sum + more)
    → Turned (n + 1) before given out printed later bytes
one_served n before between later given out reported printed sum more bytes r turned is next counted =
    subst (λ (k : ℕ). Turned k before given out printed later bytes) (next_of n)
    (turned_next n before between later given out reported printed sum more bytes turned
    (subst (λ (q : Result ℕ RunOutcome). ServesNext between given reported printed later q) is next) counted)

pub events_served : (first : List ℕ) (count : ℕ) (before : MasterState) (given : List Event) (out printed : Device) (ended : RunOutcome)
    → before ≡ new_master test_framework (ids_from first count) → ServesTurns before given count out printed ended → ServesEvents first count given out printed ended
events_served first count before given out printed ended same turns =
    inr (inr (subst (λ (m : MasterState). ServesTurns m given count out printed ended) same turns))
