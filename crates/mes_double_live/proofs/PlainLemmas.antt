-- A stream without faults: its bytes are chunks of the records that were sent.
use Rattle.std.proofs.Common.{◌≡◌, ℕ, ◌^◌, ◌<◌, List, [], ◌∷◌, ◌++◌, Option, None, refl, ap, sym, subst, ◌∙◌}
use Rattle.std.proofs.lemmas.Grind.{flat_map-append}
use Rattle.std.proofs.lemmas.List.{append-nil, append_assoc}
use Rattle.std.specs.List.{AllByRecursion, flat_map}
use Rattle.mes_frame.specs.Chunk.{IsChunked}
use Rattle.mes_double_faults.specs.Plans.{event_fault}
use Rattle.mes_double_faults.specs.declared.fault.EventFault.{EventFault}
use Rattle.mes_msg.specs.Event.{Event}
use Rattle.mes_msg.specs.Event.TheVariants.{Heartbeat}
use Rattle.mes_msg.specs.Events as kinds
use Rattle.mes_stream.specs.Sending.{records_of}
use Rattle.mes_double_master.specs.Masters.{update_event}
use Rattle.mes_double_live.specs.Bodies.{BodyState, cleared, released_by, appended_by, Appends, next_fault, next_number, fault_by, counted, SendsIf, SendsBy, Sends, BeatsIf, Beats, last_chunk}
use Rattle.mes_double_live.specs.Lives.{record_of}
use Rattle.mes_double_live.specs.Steps.{Step, StepsBody, LeadsBody, IsFaultless, IsFresh, IsPlain, events_by, bytes_by, sent_records, bytes_written}
use Rattle.mes_double_live.specs.Steps.Step.{handles, breaks, sends, resends, relays, reports, beats, obeys, waits, drops, releases, goes, clears, notes, takes, launches, acknowledges, kills}
use Rattle.mes_double_live.specs.declared.stream_body.Delivery.{Delivery}
use Rattle.mes_double_live.specs.declared.stream_body.Delivery.TheVariants.{Flowing}
use Rattle.mes_double_live.proofs.KeepLemmas.{leads-split}
use Rattle.mes_double_live.proofs.ChunkLemmas.{AreChunks, no-chunks, chunks-then, chunks-end, frames-are}

-- no fault is demanded or planned, and nothing is held
record IsQuiet (body : BodyState) : Type 0 where
  most : body.most < 2 ^ 64
  plan : IsFaultless body.plan
  held : body.held ≡ []
  until : body.until ≡ None
  fault : body.fault ≡ None
  delivery : body.delivery ≡ Flowing

-- chunks of the records are appended, and bytes written
record Sent (old new : BodyState) (content written : List ℕ) : Type 0 where
  quiet : IsQuiet new
  bytes : List ℕ
  are : AreChunks bytes content
  is : old.pending ++ bytes ≡ written ++ new.pending

-- nothing is appended or written, and the body stays quiet
sent-nothing : (old new : BodyState) → new.pending ≡ old.pending → IsQuiet new → Sent old new [] []
sent-nothing old new same quiet = record { quiet = quiet; bytes = []; are = no-chunks; is = append-nil old.pending ∙ sym same }

sent-same : (old new : BodyState) → new ≡ old → IsQuiet old → Sent old new [] []
sent-same old new is quiet = sent-nothing old new (ap (λ (x : BodyState). x.pending) is) (subst IsQuiet (sym is) quiet)

appends : (old new : BodyState) (content : List ℕ) → IsQuiet old → Appends old content new → Sent old new content []
appends old new content quiet by =
    let is : new ≡ record old { pending = old.pending ++ by.chunks } = by.new_is ∙ ap (λ (u : Option ℕ). appended_by u by.chunks old) quiet.until in
    subst (λ (x : BodyState). Sent old x content []) (sym is) (record {
      quiet = record { most = quiet.most; plan = quiet.plan; held = quiet.held; until = quiet.until; fault = quiet.fault; delivery = quiet.delivery };
      bytes = by.chunks;
      are = frames-are old.most by.chunks content quiet.most by.are;
      is = refl;
    })

counts : (old : BodyState) → IsQuiet old → IsQuiet (counted old)
counts old quiet = record { most = quiet.most; plan = quiet.plan; held = quiet.held; until = quiet.until; fault = refl; delivery = quiet.delivery }

sends-plain : (old new : BodyState) (now : ℕ) (content : List ℕ) → IsQuiet old → Sends now old content new → Sent old new content []
sends-plain old new now content quiet by =
    let flowing : SendsIf Flowing now old content new = subst (λ (d : Delivery). SendsIf d now old content new) quiet.delivery by in
    let none : next_fault old ≡ None = ap (λ (f : Option EventFault). fault_by f (event_fault old.plan (next_number old))) quiet.fault ∙ quiet.plan (next_number old) in
    let one : Appends (counted old) content new = subst (λ (f : Option EventFault). SendsBy f now (counted old) content new) none flowing in
    let sent = appends (counted old) new content (counts old quiet) one in
    record { quiet = sent.quiet; bytes = sent.bytes; are = sent.are; is = sent.is }

beats-plain : (old new : BodyState) (content : List ℕ) → IsQuiet old → Beats old content new → Sent old new content []
beats-plain old new content quiet by = appends old new content quiet (subst (λ (d : Delivery). BeatsIf d old content new) quiet.delivery by)

-- the records of one event are its record
one-sent : (old new : BodyState) (event : Event) → Sent old new (record_of event) [] → Sent old new (records_of kinds.event (event ∷ [])) []
one-sent old new event sent = subst (λ (content : List ℕ). Sent old new content []) (sym (append-nil (record_of event))) sent

step-plain : (step : Step) (old new : BodyState) → IsPlain step → IsQuiet old → StepsBody step old new → Sent old new (records_of kinds.event (events_by step)) (bytes_by step)
step-plain breaks old new plain quiet is = sent-same old new is quiet
step-plain (sends now event) old new plain quiet is = one-sent old new event (sends-plain old new now _ quiet is)
step-plain (resends now event) old new plain quiet is = one-sent old new event (sends-plain old new now _ quiet is)
step-plain (relays now event) old new plain quiet is = one-sent old new event (sends-plain old new now _ quiet is)
step-plain (reports now index update finishes status) old new plain quiet is = one-sent old new (update_event status) (sends-plain old new now _ quiet is)
step-plain beats old new plain quiet is = one-sent old new Heartbeat (beats-plain old new _ quiet is)
step-plain (obeys name) old new plain quiet is = absurd plain
step-plain (waits event) old new plain quiet is = sent-same old new is quiet
step-plain (drops event) old new plain quiet is = sent-same old new is quiet
step-plain (releases now) old new plain quiet is =
    let same : new ≡ old = is ∙ ap (λ (u : Option ℕ). released_by u now old) quiet.until in
    sent-nothing old new (ap (λ (x : BodyState). x.pending) same) (subst IsQuiet (sym same) quiet)
step-plain (goes bytes) old new plain quiet is =
    let next : IsQuiet (record old { pending = new.pending }) =
    record { most = quiet.most; plan = quiet.plan; held = quiet.held; until = quiet.until; fault = quiet.fault; delivery = quiet.delivery } in
    record { quiet = subst IsQuiet (sym is.1) next; bytes = []; are = no-chunks; is = append-nil old.pending ∙ is.0 }
step-plain clears old new plain quiet is = absurd plain
step-plain (notes fault) old new plain quiet is =
    subst (λ (x : BodyState). Sent old x [] []) (sym is)
    (sent-nothing old _ refl (record { most = quiet.most; plan = quiet.plan; held = quiet.held; until = quiet.until; fault = quiet.fault; delivery = quiet.delivery }))
step-plain takes old new plain quiet is =
    subst (λ (x : BodyState). Sent old x [] []) (sym is)
    (sent-nothing old _ refl (record { most = quiet.most; plan = quiet.plan; held = quiet.held; until = quiet.until; fault = quiet.fault; delivery = quiet.delivery }))
step-plain (launches launch tasks) old new plain quiet is = sent-same old new is quiet
step-plain (acknowledges body) old new plain quiet is = sent-same old new is quiet
step-plain (kills id) old new plain quiet is = sent-same old new is quiet
step-plain (handles call given) old new plain quiet is = sent-same old new is quiet

sent-then : (a b c : BodyState) (x y v w : List ℕ) → Sent a b x v → Sent b c y w → Sent a c (x ++ y) (v ++ w)
sent-then a b c x y v w first next = record {
  quiet = next.quiet;
  bytes = first.bytes ++ next.bytes;
  are = chunks-then _ _ _ _ first.are next.are;
  is =
      sym (append_assoc a.pending first.bytes next.bytes)
      ∙ ap (λ (l : List ℕ). l ++ next.bytes) first.is
      ∙ append_assoc v b.pending next.bytes
      ∙ ap (λ (l : List ℕ). v ++ l) next.is
      ∙ sym (append_assoc v w c.pending);
}

steps-plain : (steps : List Step) (old new : BodyState) → AllByRecursion IsPlain steps → IsQuiet old → LeadsBody old steps new → Sent old new (sent_records steps) (bytes_written steps)
steps-plain [] old new plain quiet leads = sent-nothing old new (ap (λ (x : BodyState). x.pending) leads) (subst IsQuiet (sym leads) quiet)
steps-plain (step ∷ steps) old new plain quiet (next, is, rest) =
    let first = step-plain step old next plain.0 quiet is in
    let all = sent-then old next new _ _ _ _ first (steps-plain steps next new plain.1 first.quiet rest) in
    let joined = flat_map-append (λ (event : Event). record_of event) (events_by step) (flat_map events_by steps) in
    subst (λ (content : List ℕ). Sent old new content (bytes_written (step ∷ steps))) (sym joined) all

pub stream-plain : (old new : BodyState) (steps : List Step) → IsFresh old → old.most < 2 ^ 64 → IsFaultless old.plan → AllByRecursion IsPlain steps
    → LeadsBody old steps new → IsChunked (bytes_written steps ++ new.pending ++ last_chunk) (sent_records steps)
stream-plain old new steps fresh small none plain leads =
    let quiet : IsQuiet old = record {
      most = small;
      plan = none;
      held = sym (ap (λ (x : BodyState). x.held) fresh);
      until = sym (ap (λ (x : BodyState). x.until) fresh);
      fault = sym (ap (λ (x : BodyState). x.fault) fresh);
      delivery = sym (ap (λ (x : BodyState). x.delivery) fresh);
    } in
    let sent = steps-plain steps old new plain quiet leads in
    let all : sent.bytes ≡ bytes_written steps ++ new.pending = ap (λ (l : List ℕ). l ++ sent.bytes) (ap (λ (x : BodyState). x.pending) fresh) ∙ sent.is in
    subst (λ (l : List ℕ). IsChunked (l ++ last_chunk) (sent_records steps)) all (chunks-end sent.bytes (sent_records steps) sent.are)

-- a stream begins with an empty body, whatever was before
pub next-plain : (old new : BodyState) (before steps : List Step) → old.most < 2 ^ 64 → IsFaultless old.plan → AllByRecursion IsPlain steps
    → LeadsBody old (before ++ clears ∷ steps) new → IsChunked (bytes_written steps ++ new.pending ++ last_chunk) (sent_records steps)
next-plain old new before steps small none plain leads =
    let split = leads-split before (clears ∷ steps) old new leads in
    let less : split.mid.most < 2 ^ 64 = subst (λ (n : ℕ). n < 2 ^ 64) (sym split.keeps.most) small in
    let faultless : IsFaultless split.mid.plan = subst IsFaultless (sym split.keeps.plan) none in
    let from : LeadsBody (cleared split.mid) steps new = subst (λ (x : BodyState). LeadsBody x steps new) split.leads.1 split.leads.2 in
    stream-plain (cleared split.mid) new steps refl less faultless plain from
