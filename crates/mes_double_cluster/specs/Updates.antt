-- The unacknowledged updates, each with the time at which it was sent last.
use Rattle.std.specs.Prelude.{ℕ, ◌&&◌, Bool, not, List, filter, slice_get, slice_set, Option, Some, None}
use Rattle.std.specs.Str.{bytes_eq}
use Rattle.mes_model.specs.OwedKey.{OwedKey}
use Rattle.mes_double_cluster.specs.declared.sent_updates.SentUpdate.{SentUpdate}
use Rattle.mes_double_cluster.specs.Times.{saturated_sum}

abbrev pub same_key : OwedKey → OwedKey → Bool
same_key k l = bytes_eq k.agent.value l.agent.value && (bytes_eq k.task.value l.task.value && bytes_eq k.uuid l.uuid)

-- the updates except that with this key
abbrev pub without_update : OwedKey → List SentUpdate → List SentUpdate
without_update key sent = filter (λ u. not (same_key u.key key)) sent

abbrev pub sent_at : ℕ → SentUpdate → SentUpdate
sent_at now u = record u { at = now }

-- the updates after the one at the index was sent at the time `now`
abbrev pub sent_again_of : List SentUpdate → ℕ → ℕ → Option SentUpdate → List SentUpdate
sent_again_of sent index now None = sent
sent_again_of sent index now (Some u) = slice_set sent index (sent_at now u)

abbrev pub sent_again : List SentUpdate → ℕ → ℕ → List SentUpdate
sent_again sent index now = sent_again_of sent index now (slice_get sent index)

-- the time at which an update is sent again
abbrev pub due_from : ℕ → SentUpdate → ℕ
due_from every u = saturated_sum u.at every
