-- Lemmas about short chunks whose data are joined: the states, and a failed allocation.
use Rattle.std.proofs.Common.{◌≡◌, ℕ, ◌+◌, ◌-◌, ◌<◌, ◌≤◌, List, [], ◌∷◌, ◌++◌, length, take, drop, get_or, refl, sym, ◌∙◌, ap, subst, append-nil, append_assoc, arith, inl, inr, length-append, length-drop, length-take-le}
use Rattle.std.specs.Prelude.{slice_index, Bool, true, false, Result, Ok, Err, OnOk}
use Rattle.std.proofs.lemmas.List.{take_more, take-append-le, get_or_push, get_or_append_left}
use Rattle.std.proofs.lemmas.Bool.{cases_lt}
use Rattle.mes_frame.proofs.ChunkParts.{open_of}
use Rattle.mes_frame.proofs.Records.{begun_room}
use Rattle.mes_frame.specs.ChunkFront.{IsOpen}
use Rattle.mes_frame.specs.ChunkState.{ChunkRepresents, PassesFraming}
use Rattle.mes_frame.specs.RecordState.{RecordStands, RecordPasses, limit_of, remaining_of}
use Rattle.mes_frame.specs.declared.chunk.ChunkState.{ChunkState}
use Rattle.mes_frame.specs.declared.record.RecordState.{RecordState}
use Rattle.mes_stream.specs.Chunked.{ChunkedStops}
use Rattle.mes_stream.specs.Decoding.{ChunkedRepresents, IsDataAt, Gathers, LiveBefore}
use Rattle.mes_stream.specs.Stream.{BodyLive, InRecordData}
use Rattle.mes_stream.specs.Taking.{BodyRepresents}
use Rattle.mes_stream.specs.declared.record_body.Body.{Body}
use Rattle.mes_stream.specs.declared.chunked_body.ChunkedBody.{ChunkedBody}
use Rattle.mes_stream.specs.declared.fault.Fault.TheVariants.{NoMemory}
use Rattle.mes_stream.specs.declared.record_error.RecordError.{RecordError}
use Rattle.mes_stream.specs.declared.record_error.RecordError.TheVariants as refusal
use Rattle.mes_stream.proofs.BodyLemmas.{live_of, stands_on, one_more, data_live, data_next, piece_on}
use Rattle.mes_stream.proofs.ChunkLemmas.{take_whole}

pub gathers_none : (s : ChunkState) (w body piece : List ℕ) → ChunkRepresents s w body → Gathers s w body piece 0 [] []
gathers_none s w body piece represents =
    let same : ChunkRepresents s (w ++ []) (body ++ []) = rw (append-nil w, append-nil body) represents in
    record {
      represents = same;
      fronts = λ n none.
          let zero : 0 ≡ n = omega (arith, none) in
          ([], omega arith, subst (λ (m : ℕ). IsOpen (w ++ take m piece) (body ++ [])) zero (open_of s (w ++ []) (body ++ []) same));
      each = λ k none. absurd (omega (arith, none));
      same = λ k none. absurd (omega (arith, none));
    }

pub gathers_framing : (old new : ChunkState) (w body piece run places : List ℕ) (used count : ℕ) → Gathers old w body piece used run places
    → PassesFraming new (w ++ take used piece) (body ++ run) (drop used piece) count → Gathers new w body piece (used + count) run places
gathers_framing old new w body piece run places used count before (represents, opens) = record {
  represents = subst (λ (y : List ℕ). ChunkRepresents new y (body ++ run)) (piece_on w piece used count) represents;
  fronts = λ n within.
      elim (cases_lt n used) [
        | inl early ↦ before.fronts n (omega (arith, early))
        | inr late ↦
            let sum : used + (n - used) ≡ n = omega (arith, late) in
            (run, omega arith, subst (λ (y : List ℕ). IsOpen y (body ++ run)) (piece_on w piece used (n - used) ∙ ap (λ (m : ℕ). w ++ take m piece) sum) (opens (n - used) (omega (arith, within, late))))
      ];
  each = before.each;
  same = before.same;
}

pub gathers_byte : (old new : ChunkState) (w body piece run places : List ℕ) (used : ℕ) → Gathers old w body piece used run places → used < length piece → length places ≡ length run
    → ChunkRepresents new ((w ++ take used piece) ++ slice_index piece used ∷ []) ((body ++ run) ++ slice_index piece used ∷ [])
    → Gathers new w body piece (used + 1) (run ++ slice_index piece used ∷ []) (places ++ used ∷ [])
gathers_byte old new w body piece run places used before inside lengths represents =
    let b : ℕ = slice_index piece used in
    let len = length-append run (b ∷ []) in
    let whole : (w ++ take used piece) ++ b ∷ [] ≡ w ++ take (used + 1) piece =
    append_assoc w (take used piece) (b ∷ []) ∙ ap (λ (y : List ℕ). w ++ y) (sym (take_more piece used 0 inside)) in
    let joined : (body ++ run) ++ b ∷ [] ≡ body ++ (run ++ b ∷ []) = append_assoc body run (b ∷ []) in
    let on : ChunkRepresents new (w ++ take (used + 1) piece) (body ++ (run ++ b ∷ [])) =
    subst (λ (y : List ℕ). ChunkRepresents new y (body ++ (run ++ b ∷ []))) whole (subst (λ (y : List ℕ). ChunkRepresents new ((w ++ take used piece) ++ b ∷ []) y) joined represents) in
    record {
      represents = on;
      fronts = λ n within.
          elim (cases_lt n (used + 1)) [
            | inl early ↦
                let h = before.fronts n (omega (arith, early)) in
                (h.0, omega (arith, h.1, len), h.2)
            | inr late ↦
                let last : used + 1 ≡ n = omega (arith, within, late) in
                (run ++ b ∷ [], omega arith, subst (λ (m : ℕ). IsOpen (w ++ take m piece) (body ++ (run ++ b ∷ []))) last (open_of new (w ++ take (used + 1) piece) (body ++ (run ++ b ∷ [])) on))
          ];
      each = λ k within.
          elim (cases_lt k (length run)) [
            | inl early ↦
                let phase : get_or places k 0 ≡ get_or (places ++ used ∷ []) k 0 = sym (get_or_append_left places (used ∷ []) 0 k (omega (arith, early, lengths))) in
                let front : take k run ≡ take k (run ++ b ∷ []) = sym (take-append-le k run (b ∷ []) (omega (arith, early))) in
                subst (λ (p : List ℕ). IsDataAt w body piece p (get_or (places ++ used ∷ []) k 0)) front (subst (λ (at : ℕ). IsDataAt w body piece (take k run) at) phase (before.each k early))
            | inr late ↦
                let last : length run ≡ k = omega (arith, within, late, len) in
                let phase : used ≡ get_or (places ++ used ∷ []) k 0 = sym (get_or_push places used 0 k (omega (arith, last, lengths))) in
                let all : run ≡ take k (run ++ b ∷ []) =
                sym (take_whole run (length run) refl) ∙ sym (take-append-le (length run) run (b ∷ []) (omega arith)) ∙ ap (λ (n : ℕ). take n (run ++ b ∷ [])) last in
                let at : IsDataAt w body piece run used = record {
                  front = open_of old (w ++ take used piece) (body ++ run) before.represents;
                  next = open_of new ((w ++ take used piece) ++ b ∷ []) ((body ++ run) ++ b ∷ []) represents;
                } in
                subst (λ (y : List ℕ). IsDataAt w body piece y (get_or (places ++ used ∷ []) k 0)) all (subst (λ (p : ℕ). IsDataAt w body piece run p) phase at)
          ];
      same = λ k within.
          elim (cases_lt k (length run)) [
            | inl early ↦
                let phase : get_or (places ++ used ∷ []) k 0 ≡ get_or places k 0 = get_or_append_left places (used ∷ []) 0 k (omega (arith, early, lengths)) in
                ap (slice_index piece) phase ∙ before.same k early ∙ sym (get_or_append_left run (b ∷ []) 0 k early)
            | inr late ↦
                let last : length run ≡ k = omega (arith, within, late, len) in
                let phase : get_or (places ++ used ∷ []) k 0 ≡ used = get_or_push places used 0 k (omega (arith, last, lengths)) in
                ap (slice_index piece) phase ∙ sym (get_or_push run b 0 k (omega (arith, last)))
          ];
    }

-- the index of each byte of data is less than the number of consumed bytes
places_inside : (places : List ℕ) (used : ℕ) → ((k : ℕ) → k < length places → get_or places k 0 < used)
    → (k : ℕ) → k < length (places ++ used ∷ []) → get_or (places ++ used ∷ []) k 0 < used + 1
places_inside places used each k within =
    let len = length-append places (used ∷ []) in
    elim (cases_lt k (length places)) [
      | inl early ↦ rw (get_or_append_left places (used ∷ []) 0 k early) (let h = each k early in omega (arith, h))
      | inr late ↦ rw (get_or_push places used 0 k (omega (arith, within, late, len))) (omega arith)
    ]

-- the short chunks consumed since the state `old`
pub record GatheredSoFar (old new : ChunkState) (piece : List ℕ) (most used : ℕ) (run places : List ℕ) : Type 0 where
  pub inside : used ≤ length piece
  pub few : 0 < length run → length run < most
  pub short : length run ≤ used
  pub same : length places ≡ length run
  pub each : (k : ℕ) → k < length places → get_or places k 0 < used
  pub none : used ≡ 0 → new ≡ old
  pub gathers : (w body : List ℕ) → ChunkRepresents old w body → Gathers new w body piece used run places

pub so_far_none : (s : ChunkState) (piece : List ℕ) (most : ℕ) → GatheredSoFar s s piece most 0 [] []
so_far_none s piece most = record {
  inside = omega arith;
  few = λ some. absurd (omega (arith, some));
  short = omega arith;
  same = refl;
  each = λ k within. absurd (omega (arith, within));
  none = λ zero. refl;
  gathers = λ w body represents. gathers_none s w body piece represents;
}

pub so_far_framing : (old mid new : ChunkState) (piece run places : List ℕ) (most used count : ℕ) → GatheredSoFar old mid piece most used run places → count ≤ length (drop used piece)
    → ((w body : List ℕ) → ChunkRepresents mid w body → PassesFraming new w body (drop used piece) count) → (count ≡ 0 → new ≡ mid) → GatheredSoFar old new piece most (used + count) run places
so_far_framing old mid new piece run places most used count before within passes none =
    let inside = before.inside in
    let short = before.short in
    record {
      inside = omega (arith, inside, within, length-drop used piece);
      few = before.few;
      short = omega (arith, short);
      same = before.same;
      each = λ k within. let h = before.each k within in omega (arith, h);
      none = λ zero. none (omega (arith, zero)) ∙ before.none (omega (arith, zero));
      gathers = λ w body represents.
          let gathered = before.gathers w body represents in
          gathers_framing mid new w body piece run places used count gathered (passes (w ++ take used piece) (body ++ run) gathered.represents);
    }

pub so_far_byte : (old mid new : ChunkState) (piece run places : List ℕ) (most used : ℕ) → GatheredSoFar old mid piece most used run places → used < length piece → length run + 1 < most
    → ((w body p : List ℕ) → length p ≡ 1 → ChunkRepresents mid w body → ChunkRepresents new (w ++ p) (body ++ p))
    → GatheredSoFar old new piece most (used + 1) (run ++ slice_index piece used ∷ []) (places ++ used ∷ [])
so_far_byte old mid new piece run places most used before inside remaining passes =
    let b : ℕ = slice_index piece used in
    let len = length-append run (b ∷ []) in
    let more = length-append places (used ∷ []) in
    let same = before.same in
    let short = before.short in
    record {
      inside = omega (arith, inside);
      few = λ some. omega (arith, remaining, len);
      short = omega (arith, short, len);
      same = omega (arith, same, len, more);
      each = places_inside places used before.each;
      none = λ zero. absurd (omega (arith, zero));
      gathers = λ w body represents.
          let gathered = before.gathers w body represents in
          gathers_byte mid new w body piece run places used gathered inside same (passes (w ++ take used piece) (body ++ run) (b ∷ []) refl gathered.represents);
    }

-- if P implies Q, `OnOk result P` implies `OnOk result Q`
pub on_ok : {T F : Type 0} (result : Result T F) (P Q : Type 0) → (P → Q) → OnOk result P → OnOk result Q
on_ok (Ok done) P Q follows h = follows h
on_ok (Err why) P Q follows h = h

-- a record continues after fewer bytes of data than it needs
passes_on : (new : RecordState) (x r p : List ℕ) (left : ℕ) (ended : Bool) → RecordPasses new x r p ended → length p < left → remaining_of new + length p ≡ left → RecordStands new (x ++ p) (r ++ p)
passes_on new x r p left false passes short remaining = passes
passes_on new x r p left true passes short remaining =
    let begun = begun_room new [] [] passes.1 (omega (arith, short, remaining)) in
    let spelt = ap length begun.spelt in
    let len = length-append begun.size (10 ∷ []) in
    absurd (omega (arith, spelt, len))

module _ {R E : Type 0} (holds : R → List ℕ → Type 0) (spells : List ℕ → E → Type 0) (ahead : ℕ) where
  -- after data p that do not end the record, the bytes are a prefix of a stream
  pub room_live : (d : Body R) (b p : List ℕ) (values : List E) → BodyRepresents holds spells ahead d b values → length p < remaining_of d.records → BodyLive spells (limit_of d.records) (b ++ p) values
  room_live d b p values s inside =
      subst (λ (y : List ℕ). BodyLive spells (limit_of d.records) (b ++ y) values) (take_whole p (length p) refl)
      (data_live holds spells ahead d b p values (length p) (remaining_of d.records) s inside (omega arith) (begun_room d.records s.x s.r s.state (omega (arith, inside))))

  pub room_next : (d : Body R) (b p : List ℕ) (values : List E) (s : BodyRepresents holds spells ahead d b values) (Is : List ℕ → Type 0) → length p < remaining_of d.records → Is (s.r ++ p)
      → InRecordData spells (limit_of d.records) (b ++ p) values Is
  room_next d b p values s Is inside is =
      let whole = take_whole p (length p) refl in
      subst (λ (y : List ℕ). InRecordData spells (limit_of d.records) (b ++ y) values Is) whole
      (data_next holds spells ahead d b p values (length p) (remaining_of d.records) s Is inside (omega arith) (begun_room d.records s.x s.r s.state (omega (arith, inside)))
      (subst (λ (y : List ℕ). Is (s.r ++ y)) (sym whole) is))

  none_live : (d : Body R) (b p : List ℕ) (values : List E) → BodyRepresents holds spells ahead d b values → length p ≤ 0 → BodyLive spells (limit_of d.records) (b ++ p) values
  none_live d b [] values s none = rw (append-nil b) (live_of holds spells ahead d b values s)
  none_live d b (c ∷ p) values s none = absurd (omega (arith, none))

  -- the state after data p that do not end the record
  pub passed : (d new : Body R) (b p : List ℕ) (values : List E) (ended : Bool) (s : BodyRepresents holds spells ahead d b values) → new.done ≡ d.done → limit_of new.records ≡ limit_of d.records
      → RecordPasses new.records s.x s.r p ended → length p < remaining_of d.records → remaining_of new.records + length p ≡ remaining_of d.records → holds new.reader (s.r ++ p) → BodyRepresents holds spells ahead new (b ++ p) values
  passed d new b p values ended s done limit passes short remaining kept =
      stands_on holds spells ahead d new b p (s.r ++ p) values s done limit kept (passes_on new.records s.x s.r p (remaining_of d.records) ended passes short remaining)

  -- the record continues after each prefix of the consumed bytes
  pub gathered_live : (d : ChunkedBody R) (new : ChunkState) (w rest run places : List ℕ) (values : List E) (used : ℕ) (s : ChunkedRepresents holds spells ahead d w values)
      → Gathers new w s.content rest used run places → (0 < length run → length run < remaining_of d.body.records) → LiveBefore spells (limit_of d.body.records) w values rest used
  gathered_live d new w rest run places values used s gathered few n early =
      let h = gathered.fronts n (omega (arith, early)) in (
        s.content ++ h.0,
        h.2,
        elim (cases_lt 0 (length run)) [
          | inl some ↦ room_live d.body s.content h.0 values s.body (omega (arith, h.1, few some))
          | inr none ↦ none_live d.body s.content h.0 values s.body (omega (arith, h.1, none))
        ],
      )

  -- an allocation failed at a byte of the data of the short chunks
  pub gathered_stops : (d : ChunkedBody R) (breaks : List ℕ → RecordError → Type 0) (new : ChunkState) (w rest run places : List ℕ) (values : List E) (used k at : ℕ) (s : ChunkedRepresents holds spells ahead d w values)
      → Gathers new w s.content rest used run places → k < length run → length run < remaining_of d.body.records → slice_index places k ≡ at → breaks (s.body.r ++ take (k + 1) run) refusal.NoMemory
      → ChunkedStops spells breaks ahead (limit_of d.body.records) (w ++ take at rest) values (slice_index rest at) NoMemory
  gathered_stops d breaks new w rest run places values used k at s gathered inside few same starved =
      let byte : IsDataAt w s.content rest (take k run) at = subst (λ (p : ℕ). IsDataAt w s.content rest (take k run) p) same (gathered.each k inside) in
      let size = length-take-le k run (omega (arith, inside)) in
      let byte_is : slice_index rest at ≡ slice_index run k = ap (slice_index rest) (sym same) ∙ gathered.same k inside in
      let all : s.body.r ++ take (k + 1) run ≡ (s.body.r ++ take k run) ++ slice_index rest at ∷ [] =
      one_more s.body.r run k inside ∙ ap (λ (c : ℕ). (s.body.r ++ take k run) ++ c ∷ []) (sym byte_is) in
      let next = room_next d.body s.content (take k run) values s.body (λ r. breaks (r ++ slice_index rest at ∷ []) refusal.NoMemory) (omega (arith, size, inside, few))
      (subst (λ (y : List ℕ). breaks y refusal.NoMemory) all starved) in
      inr (refl, (s.content ++ take k run, byte.front, byte.next, next))
