-- The printed line of a call: identifiers as canonical JSON, whole numbers in decimal.
use Rattle.std.specs.Prelude.{ℕ, List, [], ◌∷◌, ◌++◌, length, codes, decimal}
use Rattle.mes_msg.specs.Acknowledge.{Acknowledge as AcknowledgeBody}
use Rattle.mes_msg.specs.Call.{Call}
use Rattle.mes_msg.specs.Call.TheVariants.{Subscribe, Accept, Decline, Revive, Kill, Acknowledge, Reconcile, Teardown, Suppress, Shutdown, Message}
use Rattle.mes_msg_call_body.specs.declared.reconcile.Reconcile.{Reconcile as ReconcileBody}
use Rattle.mes_msg.specs.ShowLines.{spaced, or_dash, id_text, uuid_text}

-- the words of the line of an ACKNOWLEDGE, and of a RECONCILE
abbrev pub acknowledge_words : AcknowledgeBody → List (List ℕ)
acknowledge_words body = codes "ACKNOWLEDGE" ∷ id_text body.task_id ∷ uuid_text body.uuid ∷ []

abbrev pub reconcile_words : ReconcileBody → List (List ℕ)
reconcile_words body = codes "RECONCILE" ∷ decimal (length body.tasks) ∷ []

-- the words of the line of a call, its type first
abbrev pub call_words : Call → List (List ℕ)
call_words (Subscribe framework body) = codes "SUBSCRIBE" ∷ or_dash id_text framework ∷ []
call_words (Accept framework body) = codes "ACCEPT" ∷ decimal (length body.offer_ids) ∷ decimal (length body.operations) ∷ []
call_words (Decline framework body) = codes "DECLINE" ∷ decimal (length body.offer_ids) ∷ []
call_words (Revive framework) = codes "REVIVE" ∷ []
call_words (Kill framework body) = codes "KILL" ∷ id_text body.task_id ∷ []
call_words (Acknowledge framework body) = acknowledge_words body
call_words (Reconcile framework body) = reconcile_words body
call_words (Teardown framework) = codes "TEARDOWN" ∷ []
call_words (Suppress framework) = codes "SUPPRESS" ∷ []
call_words (Shutdown framework body) = codes "SHUTDOWN" ∷ id_text body.executor_id ∷ id_text body.agent_id ∷ []
call_words (Message framework body) = codes "MESSAGE" ∷ id_text body.agent_id ∷ id_text body.executor_id ∷ decimal (length body.payload) ∷ []

-- the line of the call with this number, such as `1 SUBSCRIBE -`, `2 ACCEPT 1 1` or `3 KILL "T1"`
abbrev pub call_line : ℕ → Call → List ℕ
call_line number call = decimal number ++ spaced (call_words call) ++ codes "\n"
