-- Lemmas about sending messages: the records of the messages so far, and the bytes written.
use Rattle.std.proofs.Common.{◌≡◌, ℕ, suc, ◌+◌, ◌^◌, ◌<◌, List, [], ◌∷◌, ◌++◌, length, take, drop, get_or, ap, sym, ◌∙◌, subst, append-nil, arith, length-take-le, map, Bor}
use Rattle.std.proofs.Math.Seq.{split_at}
use Rattle.std.proofs.lemmas.Grind.{flat_map-append}
use Rattle.std.proofs.lemmas.List.{take_more, get_or-map, length-map}
use Rattle.std.proofs.lemmas.List.Elements.{All-append, All-nil, All-cons}
use Rattle.std.specs.Io.KnownBytes.{Appends}
use Rattle.mes_frame.proofs.Framings.{framing_is_unique, framing_is_chunked}
use Rattle.mes_frame.specs.Frames.{record_bytes, IsFrames}
use Rattle.mes_frame.specs.Record.{IsRecord}
use Rattle.mes_frame.specs.Write.{NoneFails, CallsFor, StopsWrite}
use Rattle.mes_frame.specs.Written.{WroteFront}
use Rattle.mes_frame.specs.Devices.{Device}
use Rattle.mes_frame.specs.declared.write.WriteFault.{WriteFault}
use Rattle.mes_model_schema.specs.Kinds.{Kind}
use Rattle.mes_msg.specs.Texts.{canonical_of, Fits, IsRefusalOf, IsTextOf}
use Rattle.mes_msg.specs.EncodeFault.{EncodeFault}
use Rattle.mes_msg.specs.EncodeFault.TheVariants as refused
use Rattle.mes_stream.proofs.BodyLemmas.{records_more}
use Rattle.mes_stream.specs.MessageData.{HoldsData}
use Rattle.mes_stream.specs.Stream.{Records}
use Rattle.mes_stream.specs.Sending.{records_of, AllGood, IsBad, IsFirstBad, IsPlainOf, IsStreamOf, WroteAll, IsUnsent, fault_at, StopsSending}
use Rattle.mes_msg.specs.declared.send_fault.EncodeFaultKind.{EncodeFaultKind}
use Rattle.mes_msg.specs.declared.send_fault.EncodeFaultKind.TheVariants.{TooDeep, TooLarge}
use Rattle.mes_msg.specs.declared.send_fault.SendFault.TheVariants.{Write}

module _ {M : Type 0} where
  abbrev pub borrowed : List (Bor M) → List M
  borrowed refs = map (λ message. message.now) refs

  pub behind_refs : (refs : List (Bor M)) (i : ℕ) → i < length refs → i < length (borrowed refs)
  behind_refs refs i inside = omega (arith, inside, length-map refs (λ (message : Bor M). message.now))

  pub ref_at : (refs : List (Bor M)) (i : ℕ) (ref : Bor M) → i < length refs → ref ≡ get_or refs i ref → ref.now ≡ get_or (borrowed refs) i ref.now
  ref_at refs i ref inside here =
      ap (λ (message : Bor M). message.now) here ∙ sym (get_or-map (λ (message : Bor M). message.now) refs i ref ref.now inside)

module _ {M : Type 0} (kind : Kind M) where
  -- the records of the first messages and of one more message
  pub plain_of_more : (limit : ℕ) (messages : List M) (i : ℕ) (message : M) (old new : List ℕ) → i < length messages → message ≡ get_or messages i message
      → IsPlainOf kind limit (take i messages) old → new ≡ old ++ record_bytes (canonical_of kind message) → Fits kind message limit
      → IsRecord (record_bytes (canonical_of kind message)) (canonical_of kind message) limit → IsTextOf kind (canonical_of kind message) message → IsPlainOf kind limit (take (i + 1) messages) new
  plain_of_more limit messages i message old new inside here plain is good framed spelt =
      let text = canonical_of kind message in
      let front = take i messages in
      let Good : M → Type 0 = λ e. Fits kind e limit in
      let P : List M → Type 0 = λ es. IsPlainOf kind limit es new in
      let R : List ℕ → Type 0 = λ b. Records (IsTextOf kind) limit b (front ++ message ∷ []) in
      let last : records_of kind (message ∷ []) ≡ record_bytes text = append-nil (record_bytes text) in
      let more = take_more messages i message inside ∙ ap (λ (e : M). front ++ e ∷ []) (sym here) in
      subst P (sym more) (record {
        good = All-append Good front (message ∷ []) plain.good (All-cons Good message [] good (All-nil Good));
        written = is ∙ ap (λ (b : List ℕ). b ++ record_bytes text) plain.written
            ∙ sym (flat_map-append (λ (e : M). record_bytes (canonical_of kind e)) front (message ∷ []) ∙ ap (λ (b : List ℕ). records_of kind front ++ b) last);
        read = subst R (sym is) (records_more (HoldsData {M = M}) (IsTextOf kind) 0 limit old (record_bytes text) text front message plain.read framed spelt);
      })

  -- the message at index i is the first that cannot be encoded
  first_bad : (limit : ℕ) (messages : List M) (i : ℕ) (message : M) (why : EncodeFaultKind) → i < length messages → message ≡ get_or messages i message
      → AllGood kind limit (take i messages) → IsBad kind limit message why → IsFirstBad kind limit messages i why
  first_bad limit messages i message why inside here good bad = record {
    front = take i messages;
    message = message;
    rest = drop (suc i) messages;
    is = split_at messages i message inside ∙ ap (λ (e : M). take i messages ++ e ∷ drop (suc i) messages) (sym here);
    phase = sym (length-take-le i messages (omega arith));
    good = good;
    bad = bad;
  }

  -- the message at index i could not be encoded, and the messages before it could
  pub unsent_at : (limit : ℕ) (messages : List M) (i : ℕ) (message : M) (fault : EncodeFault) → i < length messages → message ≡ get_or messages i message
      → AllGood kind limit (take i messages) → IsRefusalOf kind message limit fault → IsUnsent kind limit messages (fault_at i fault)
  unsent_at limit messages i message refused.TooDeep inside here good is = first_bad limit messages i message TooDeep inside here good is
  unsent_at limit messages i message refused.TooLarge inside here good is = first_bad limit messages i message TooLarge inside here good is
  unsent_at limit messages i message refused.NoMemory inside here good is = tt

module _ {M W : Type 0} (kind : Kind M) (device : W → Device) (limit : ℕ) (messages : List M) where
  -- the records of the messages, cut into chunks, are a stream of the messages
  pub stream_of : (most : ℕ) (body w : List ℕ) → most < 2 ^ 64 → IsPlainOf kind limit messages body → IsFrames body most w → IsStreamOf kind limit most messages w
  stream_of most body w small plain frames =
      let P : List ℕ → Type 0 = λ b. IsFrames b most w in
      record {
        good = plain.good;
        written = subst P plain.written frames;
        read = (body, framing_is_chunked body w most small frames, plain.read);
      }

  -- all chunks were written
  pub stream_out : (most : ℕ) (body : List ℕ) (old new : W) → most < 2 ^ 64 → IsPlainOf kind limit messages body
      → ((w : List ℕ) × IsFrames body most w × Appends (device old).bytes (device new).bytes w) → NoneFails (device old).counts (device new).counts
      → ((w : List ℕ) × IsFrames body most w × CallsFor (length w) (device old).counts (device new).counts)
      → (w : List ℕ) × IsStreamOf kind limit most messages w × WroteAll device old new w
  stream_out most body old new small plain (w, frames, out) none (v, same, calls) =
      let P : List ℕ → Type 0 = λ u. CallsFor (length u) (device old).counts (device new).counts in
      (w, stream_of most body w small plain frames, record { out = out; none_fails = none; calls = subst P (framing_is_unique body v w most same frames) calls })

  -- the writer failed before the last byte of the chunks
  pub stream_stops : (most : ℕ) (body : List ℕ) (old new : W) (fault : WriteFault) → most < 2 ^ 64 → IsPlainOf kind limit messages body
      → ((w : List ℕ) × IsFrames body most w × WroteFront (device old).bytes (device new).bytes w fault.sent) → StopsWrite fault.why (device old).counts (device new).counts
      → ((w : List ℕ) × IsFrames body most w × CallsFor (length w) (device old).counts (device new).counts)
      → StopsSending kind device (IsStreamOf kind limit most messages) limit messages old new (Write fault)
  stream_stops most body old new fault small plain (w, frames, out) last (v, same, calls) =
      let P : List ℕ → Type 0 = λ u. CallsFor (length u) (device old).counts (device new).counts in
      (w, stream_of most body w small plain frames, record { out = out; last = last; calls = subst P (framing_is_unique body v w most same frames) calls })
