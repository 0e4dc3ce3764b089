-- The printed lines of an event: texts as canonical JSON, whole numbers in decimal.
use Rattle.std.specs.Prelude.{ℕ, ◌/◌, ◌%◌, Option, Some, None, List, [], ◌∷◌, ◌++◌, if◌then◌else◌, ◌==◌, length, codes, decimal}
use Rattle.std.specs.List.{flat_map}
use Rattle.std.specs.Fmt.{signed_decimal}
use Rattle.uuid.specs.Text.{hyphenated_text, lower}
use Rattle.mes_model_schema.specs.NumberText.{text_of}
use Rattle.mes_model_schema.specs.Canonical.{hex_digit, quoted_text}
use Rattle.mes_msg_event_body.specs.TaskStates.{state_name}
use Rattle.mes_msg_event_body.specs.Id.{Id}
use Rattle.mes_msg_event_body.specs.Offer.{Offer}
use Rattle.mes_msg_event_body.specs.TaskStatus.{TaskStatus}
use Rattle.mes_msg_event.specs.declared.event.Event.{Event}
use Rattle.mes_msg_event.specs.declared.event.Event.TheVariants.{Subscribed, Offers, Rescind, Update, Message, Failure, Error, Heartbeat, Other}

-- the text of words, each after a space
abbrev pub spaced : List (List ℕ) → List ℕ
spaced words = flat_map (λ word. codes " " ++ word) words

-- two lower-case hexadecimal digits for each byte
abbrev pub hex_pairs : List ℕ → List ℕ
hex_pairs bytes = flat_map (λ byte. hex_digit (byte / 16) ∷ hex_digit (byte % 16) ∷ []) bytes

-- the text of a UUID: the hyphenated lower-case form for 16 bytes, else hexadecimal after `hex:`
abbrev pub uuid_text : List ℕ → List ℕ
uuid_text bytes = if length bytes == 16 then hyphenated_text lower bytes else codes "hex:" ++ hex_pairs bytes

-- the text of the value in an `Option`, or `-` for `None`
abbrev pub or_dash : {T : Type 0} → (T → List ℕ) → Option T → List ℕ
or_dash text None = codes "-"
or_dash text (Some value) = text value

-- the text of a number of seconds, given in millionths
unfoldable pub seconds_text : ℕ → List ℕ
seconds_text units = text_of 6 units

abbrev pub id_text : Id → List ℕ
id_text id = quoted_text id.value

-- the words of the line of an UPDATE, its type first
abbrev pub update_words : TaskStatus → List (List ℕ)
update_words status =
    codes "UPDATE" ∷ id_text status.task_id ∷ state_name status.state ∷ or_dash uuid_text status.uuid ∷ []

-- the words of the line of an event, its type first
abbrev pub event_words : Event → List (List ℕ)
event_words (Subscribed body) =
    codes "SUBSCRIBED" ∷ id_text body.framework_id ∷ or_dash seconds_text body.heartbeat_interval_seconds ∷ []
event_words (Offers offers) = codes "OFFERS" ∷ decimal (length offers) ∷ []
event_words (Rescind body) = codes "RESCIND" ∷ id_text body.offer_id ∷ []
event_words (Update body) = update_words body.status
event_words (Message body) =
    codes "MESSAGE" ∷ id_text body.agent_id ∷ id_text body.executor_id ∷ decimal (length body.payload) ∷ []
event_words (Failure body) =
    codes "FAILURE" ∷ or_dash id_text body.agent_id ∷ or_dash id_text body.executor_id ∷ or_dash signed_decimal body.status ∷ []
event_words (Error body) = codes "ERROR" ∷ quoted_text body.message ∷ []
event_words Heartbeat = codes "HEARTBEAT" ∷ []
event_words (Other name) = codes "OTHER" ∷ quoted_text name ∷ []

-- the line of an offer, such as `  "O1" "A1" "h" 0`: the offer, the agent, the hostname and the
-- number of resources
abbrev pub offer_line : Offer → List ℕ
offer_line offer =
    codes " " ++ spaced (id_text offer.id ∷ id_text offer.agent_id ∷ quoted_text offer.hostname ∷ decimal (length offer.resources) ∷ [])
    ++ codes "\n"

-- the lines after the first line of an event: one line for each offer of an OFFERS, else none
abbrev pub more_lines : Event → List ℕ
more_lines (Subscribed body) = []
more_lines (Offers offers) = flat_map offer_line offers
more_lines (Rescind body) = []
more_lines (Update body) = []
more_lines (Message body) = []
more_lines (Failure body) = []
more_lines (Error body) = []
more_lines Heartbeat = []
more_lines (Other name) = []

-- the lines of the event with this number, such as `1 SUBSCRIBED "F1" 15.0`, `2 HEARTBEAT` or
-- `3 FAILURE - - -`
abbrev pub event_lines : ℕ → Event → List ℕ
event_lines number event = decimal number ++ spaced (event_words event) ++ codes "\n" ++ more_lines event
