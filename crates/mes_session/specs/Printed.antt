-- The printed report of a session, and the printed refusal that stops a replay.
use Rattle.std.specs.Prelude.{ℕ, ◌+◌, ◌-◌, ◌^◌, min, List, [], ◌∷◌, ◌++◌, codes, decimal}
use Rattle.std.specs.List.{flat_map}
use Rattle.mes_model.specs.Offer.{Offer}
use Rattle.mes_model.specs.OwedKey.{OwedKey}
use Rattle.mes_msg.specs.ShowLines.{spaced, or_dash, id_text, uuid_text}
use Rattle.mes_session_state.specs.declared.refusal.Refusal.{Refusal}
use Rattle.mes_session_state.specs.declared.refusal.Refusal.TheVariants.{NotSubscribed, NamedTwice, NoSuchOffer, TwoAgents, WrongAgent, Exceeds, NotOwed, NoMemory}
use Rattle.mes_session_state.specs.Held.{Held}

-- ---- the report of a session

-- a line of a report, such as `entries 3`, with its LF
abbrev pub report_line : List ℕ → List (List ℕ) → List ℕ
report_line first words = first ++ spaced words ++ codes "\n"

-- the line of an outstanding offer, such as `hand "O1"`
abbrev pub hand_line : Offer → List ℕ
hand_line offer = report_line (codes "hand") (id_text offer.id ∷ [])

-- the line of an unacknowledged update, with its agent, its task and its UUID, such as
-- `owed "A1" "T1" 00010203-0405-0607-0809-0a0b0c0d0e0f`
abbrev pub owed_line : OwedKey → List ℕ
owed_line key = report_line (codes "owed") (id_text key.agent ∷ id_text key.task ∷ uuid_text key.uuid ∷ [])

-- the report: the number of entries, the framework or `-`, each outstanding offer, each
-- unacknowledged update
abbrev pub report_text : ℕ → Held → List ℕ
report_text entries held =
    report_line (codes "entries") (decimal entries ∷ []) ++ report_line (codes "framework") (or_dash id_text held.framework ∷ [])
    ++ flat_map hand_line held.hand ++ flat_map owed_line held.owed

-- ---- the line of a refusal

-- the number and the name of a refusal
abbrev pub refusal_title : Refusal → List ℕ
refusal_title NotSubscribed = codes "S1 NotSubscribed"
refusal_title NamedTwice = codes "S2 NamedTwice"
refusal_title (NoSuchOffer index) = codes "S3 NoSuchOffer"
refusal_title TwoAgents = codes "S4 TwoAgents"
refusal_title (WrongAgent task) = codes "S5 WrongAgent"
refusal_title (Exceeds task resource) = codes "S6 Exceeds"
refusal_title NotOwed = codes "S7 NotOwed"
refusal_title NoMemory = codes "S8 NoMemory"

-- the words for the indices in the call to which the refusal refers
abbrev pub refusal_place : Refusal → List (List ℕ)
refusal_place NotSubscribed = []
refusal_place NamedTwice = []
refusal_place (NoSuchOffer index) = codes "index" ∷ decimal index ∷ []
refusal_place TwoAgents = []
refusal_place (WrongAgent task) = codes "task" ∷ decimal task ∷ []
refusal_place (Exceeds task resource) = codes "task" ∷ decimal task ∷ codes "resource" ∷ decimal resource ∷ []
refusal_place NotOwed = []
refusal_place NoMemory = []

-- the line of a refusal after `before` entries, with a record number of at most 2^64 - 1;
-- after 3 entries, for example:
-- `refused S6 Exceeds record 4 task 0 resource 0`
abbrev pub refusal_text : Refusal → ℕ → List ℕ
refusal_text refusal before =
    codes "refused" ++ spaced (refusal_title refusal ∷ codes "record" ∷ decimal (min (before + 1) (2 ^ 64 - 1)) ∷ refusal_place refusal)
