-- What holds between earlier states of a live test master and later ones.
use Rattle.std.proofs.Common.{◌≡◌, ◌∙◌, ap, ℕ, ◌*◌, List, Option, Some, refl, subst}
use Rattle.std.specs.Int.{to_be_bytes, w128}
use Rattle.mes_model.specs.Id.{Id}
use Rattle.mes_double_master.specs.Masters.{MasterState}
use Rattle.mes_double_master.specs.Runs.{master_with}
use Rattle.mes_double_faults.specs.Plans.{Plan}
use Rattle.mes_double_live.specs.Bodies.{empty, written}
use Rattle.mes_double_live.specs.Lives.{LiveState, faults_taken, new_live}
use Rattle.mes_double_live.specs.Moving.{Moves}
use Rattle.mes_double_live.proofs.MoveLemmas.{moves-same, moves-then}
use Rattle.mes_double_live.proofs.SafeLemmas.{safe}
use Rattle.mesosev_net.specs.Given.{test_framework}
use Rattle.mesosev_net.specs.StreamIds.{ids_from}
use Rattle.mesosev_live.specs.Desks.{Keeps}
use Rattle.mesosev_live.specs.LiveDesks.{MovesTo, KeepsPromises, finish_time, started}
use Rattle.mesosev_live.specs.declared.limits.TheConstants.{MAX_STREAMS}
use Rattle.mesosev_live.specs.declared.live_master.TheConstants.{FIRST_STREAM}

-- after more deeds
pub keeps_moves : (old new : LiveState) → Moves old.master new.master → Keeps MovesTo old new
keeps_moves old new moves = λ (first : LiveState) (before : MovesTo first old). moves-then _ _ _ before moves

-- with the same test master
pub keeps_same : (old new : LiveState) → new.master ≡ old.master → Keeps MovesTo old new
keeps_same old new is = keeps_moves old new (moves-same old.master new.master is)

-- after bytes of the stream were written
pub keeps_written : (count : ℕ) (old new : LiveState) → new ≡ record old { out = written count old.out } → Keeps MovesTo old new
keeps_written count old new is = keeps_same old new (ap (λ (live : LiveState). live.master) is)

-- after the planned faults that happened were taken
pub keeps_taken : (old new : LiveState) → new ≡ faults_taken old → Keeps MovesTo old new
keeps_taken old new is = keeps_same old new (ap (λ (live : LiveState). live.master) is)

-- from the start of a run to its end
pub promises_kept : (heartbeat : ℕ) (finish_after : Option ℕ) (most : ℕ) (plan : Plan) (first last : LiveState) → first ≡ started heartbeat finish_after most plan
    → Keeps MovesTo first last → KeepsPromises heartbeat last
promises_kept heartbeat finish_after most plan first last is keeps =
    safe _ _ _ last.master (subst (λ (live : LiveState). Moves live.master last.master) is (keeps first (moves-same first.master first.master refl)))

-- the test master that is made of the options
pub started_is : (heartbeat : ℕ) (finish_after : Option ℕ) (most : ℕ) (plan : Plan) (live : LiveState) (master : MasterState) (copied : Plan) (framework : Id) (ids : List (List ℕ)) (first : List ℕ) (interval : Option ℕ) (greatest : ℕ) (finishes : Option ℕ)
    → live ≡ new_live master finishes (empty greatest copied) → master ≡ master_with framework ids interval → copied ≡ plan → framework ≡ test_framework → ids ≡ ids_from first MAX_STREAMS
    → first ≡ to_be_bytes w128 FIRST_STREAM → interval ≡ Some (heartbeat * 1000000) → greatest ≡ most → finishes ≡ finish_time finish_after → live ≡ started heartbeat finish_after most plan
started_is heartbeat finish_after most plan live master copied framework ids first interval greatest finishes is made same f i from n g t =
    is ∙ rw made (rw same (rw f (rw i (rw from (rw n (rw g (rw t refl)))))))
