-- A session as one JSON object, in canonical form.
use Rattle.std.specs.Prelude.{ℕ, List, [], ◌∷◌, ◌++◌, Option, None, Some, codes, decimal, map}
use Rattle.mes_json.specs.Canonical.{canonical}
use Rattle.mes_json.specs.Tree.{Tree}
use Rattle.mes_json.specs.Tree.Tree.{null, boolean, number, string, array, object}
use Rattle.mes_json.specs.View.{items_of, members_of}
use Rattle.mes_model.specs.Id.{Id}
use Rattle.mes_model.specs.Offer.{Offer}
use Rattle.mes_model_offer.specs.Offers.{offer}
use Rattle.mes_model.specs.OwedKey.{OwedKey}
use Rattle.mes_model_schema.specs.Binary.{base64_bytes}
use Rattle.mes_session.specs.Held.{Held}

-- the identifier of the framework as a string, or null
abbrev pub framework_tree : Option Id → Tree
framework_tree None = null
framework_tree (Some id) = string id.value

-- the outstanding offers
abbrev pub offers_tree : List Offer → Tree
offers_tree offers = array (items_of (map (λ o. offer.tree o) offers))

-- the key of an unacknowledged update; the UUID is in base64
abbrev pub key_tree : OwedKey → Tree
key_tree key =
    object (members_of ((codes "agent_id", string key.agent.value) ∷ (codes "task_id", string key.task.value) ∷ (codes "uuid", base64_bytes.tree key.uuid) ∷ []))

abbrev pub keys_tree : List OwedKey → Tree
keys_tree keys = array (items_of (map key_tree keys))

-- the session after this number of entries
abbrev pub session_tree : ℕ → Held → Tree
session_tree entries held =
    object (members_of (
    (codes "entries", number (decimal entries)) ∷ (codes "framework", framework_tree held.framework) ∷ (codes "connected", boolean held.connected)
    ∷ (codes "offers", offers_tree held.hand) ∷ (codes "unacknowledged", keys_tree held.owed) ∷ []))

-- the canonical text of the session, and LF
abbrev pub session_line : ℕ → Held → List ℕ
session_line entries held = canonical (session_tree entries held) ++ 10 ∷ []
