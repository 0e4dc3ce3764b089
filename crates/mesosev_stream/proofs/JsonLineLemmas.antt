-- The lines of consecutive events, and the buffer of lines, event by event.
use Rattle.std.proofs.Common.{◌≡◌, ℕ, ◌+◌, ◌<◌, ◌≤◌, List, [], ◌∷◌, ◌++◌, length, take, drop, get_or, take-append-drop, length-take-le, sym, ◌∙◌, ap, subst, append_assoc, append-nil, arith, refl}
use Rattle.std.proofs.lemmas.Grind.{flat_map-append}
use Rattle.std.proofs.lemmas.List.{take_all, take_more}
use Rattle.std.proofs.lemmas.List.Elements.{All-append, All-nil, All-cons}
use Rattle.mes_frame.proofs.Parts.{passes_with, passes_then, stops_then, stops_long}
use Rattle.mes_frame.specs.Devices.{Device}
use Rattle.mes_frame.specs.Written.{Stops, WentOut}
use Rattle.mes_frame.specs.declared.write.WriteFault.{WriteFault}
use Rattle.mes_msg.specs.Texts.{canonical_of, Fits, IsRefusalOf, IsTextOf}
use Rattle.mes_msg.specs.EncodeFault.{EncodeFault}
use Rattle.mes_msg.specs.EncodeFault.TheVariants as refused
use Rattle.mesosev_stream.specs.Messages.{Messages}
use Rattle.mes_stream.specs.SendLines.{unsent_text}
use Rattle.mes_stream.specs.Sending.{fault_at}
use Rattle.mes_stream.specs.Stream.{saturated}
use Rattle.mesosev_stream.specs.Exporting.{ExportsFrom}
use Rattle.mesosev_stream.specs.Following.{HoldsText, SendsText}
use Rattle.mesosev_stream.specs.JsonLines.{HaveLines, IsLinesOf, json_line, json_lines}
use Rattle.mesosev_stream.specs.declared.exporter.ExportProgress.{ExportProgress}
use Rattle.mesosev_stream.specs.declared.exporter.ExportProgress.TheVariants.{All, Until}
use Rattle.mesosev_stream.specs.declared.line_buffer.LineBuffer.{LineBuffer}
use Rattle.mesosev_stream.proofs.HoldLemmas.{sends}
use Rattle.mesosev_stream.proofs.ShowLemmas.{messages_at}

module _ {M : Type 0} (of : Messages M) where
  -- ---- the lines of consecutive messages

  pub lines_both : (xs ys : List M) → json_lines of (xs ++ ys) ≡ json_lines of xs ++ json_lines of ys
  lines_both xs ys = flat_map-append (json_line of) xs ys

  -- the first messages and the message x, at index i
  more_messages : (messages : List M) (x : M) (i : ℕ) → i < length messages → x ≡ get_or messages i x → take (i + 1) messages ≡ take i messages ++ x ∷ []
  more_messages messages x i inside is = take_more messages i x inside ∙ ap (λ (y : M). take i messages ++ y ∷ []) (sym is)

  lines_to : (messages : List M) (x : M) (i : ℕ) → i < length messages → x ≡ get_or messages i x
      → json_lines of (take (i + 1) messages) ≡ json_lines of (take i messages) ++ json_line of x
  lines_to messages x i inside is =
      ap (json_lines of) (more_messages messages x i inside is) ∙ lines_both (take i messages) (x ∷ [])
      ∙ ap (λ (t : List ℕ). json_lines of (take i messages) ++ t) (append-nil (json_line of x))

  lines_on : (messages : List M) (i : ℕ) → json_lines of messages ≡ json_lines of (take i messages) ++ json_lines of (drop i messages)
  lines_on messages i = ap (json_lines of) (sym (take-append-drop i messages)) ∙ lines_both (take i messages) (drop i messages)

  -- ---- messages that have lines

  module _ (limit : ℕ) where
    abbrev Good : M → Type 0
    Good message = Fits of.kind message limit

    abbrev Reads : M → Type 0
    Reads message = (IsTextOf of.kind) (canonical_of of.kind message) message

    pub have_none : HaveLines of limit []
    have_none = record { good = All-nil Good; read = All-nil Reads }

    pub have_both : (xs ys : List M) → HaveLines of limit xs → HaveLines of limit ys → HaveLines of limit (xs ++ ys)
    have_both xs ys first second = record { good = All-append Good xs ys first.good second.good; read = All-append Reads xs ys first.read second.read }

    pub have_more : (messages : List M) (x : M) (i : ℕ) → i < length messages → x ≡ get_or messages i x → HaveLines of limit (take i messages)
        → Fits of.kind x limit → (IsTextOf of.kind) (canonical_of of.kind x) x → HaveLines of limit (take (i + 1) messages)
    have_more messages x i inside is before good read =
        subst (HaveLines of limit) (sym (more_messages messages x i inside is)) (have_both (take i messages) (x ∷ []) before (record {
          good = All-cons Good x [] good (All-nil Good);
          read = All-cons Reads x [] read (All-nil Reads);
        }))

    -- w is the lines of the first messages; with the line of the message x, at index i
    pub lines_of_more : (messages : List M) (x : M) (i : ℕ) (old new : List ℕ) → i < length messages → x ≡ get_or messages i x → IsLinesOf of limit (take i messages) old
        → new ≡ old ++ json_line of x → Fits of.kind x limit → (IsTextOf of.kind) (canonical_of of.kind x) x → IsLinesOf of limit (take (i + 1) messages) new
    lines_of_more messages x i old new inside is before grown good read = record {
      have = have_more messages x i inside is before.have good read;
      written = grown ∙ ap (λ (t : List ℕ). t ++ json_line of x) before.written ∙ sym (lines_to messages x i inside is);
    }

  -- ---- the buffer of lines

  -- the lines of the first messages and of the message x, at index i, are buffered or written
  pub holds_line : (first mid new : LineBuffer) (a b c : Device) (messages : List M) (x : M) (i : ℕ) → i < length messages → x ≡ get_or messages i x
      → HoldsText first mid a b (json_lines of (take i messages)) → HoldsText mid new b c (json_line of x) → HoldsText first new a c (json_lines of (take (i + 1) messages))
  holds_line first mid new a b c messages x i inside is before more =
      let lines = json_lines of (take i messages) in
      let line = json_line of x in
      let whole : first.held.items ++ json_lines of (take (i + 1) messages) ≡ (first.held.items ++ lines) ++ line =
      ap (λ (t : List ℕ). first.held.items ++ t) (lines_to messages x i inside is) ∙ sym (append_assoc first.held.items lines line) in
      rw whole (passes_then a.bytes b.bytes c.bytes a.counts b.counts c.counts ((first.held.items ++ lines) ++ line) (mid.held.items ++ line) new.held.items first.sent mid.sent new.sent
      (passes_with a.bytes b.bytes a.counts b.counts (first.held.items ++ lines) mid.held.items line first.sent mid.sent before) more)

  -- the output failed in the buffered lines and the line of the message x
  pub stops_line : (first mid : LineBuffer) (a b c : Device) (messages : List M) (x : M) (i : ℕ) (fault : WriteFault) → i < length messages → x ≡ get_or messages i x
      → HoldsText first mid a b (json_lines of (take i messages)) → Stops b.bytes c.bytes b.counts c.counts (mid.held.items ++ json_line of x) mid.sent fault
      → Stops a.bytes c.bytes a.counts c.counts (first.held.items ++ json_lines of messages) first.sent fault
  stops_line first mid a b c messages x i fault inside is before stops =
      let lines = json_lines of (take i messages) in
      let line = json_line of x in
      let rest = json_lines of (drop (i + 1) messages) in
      let to : json_lines of messages ≡ (lines ++ line) ++ rest = lines_on messages (i + 1) ∙ ap (λ (t : List ℕ). t ++ rest) (lines_to messages x i inside is) in
      let whole : first.held.items ++ json_lines of messages ≡ ((first.held.items ++ lines) ++ line) ++ rest =
      ap (λ (t : List ℕ). first.held.items ++ t) to ∙ sym (append_assoc first.held.items (lines ++ line) rest) ∙ ap (λ (t : List ℕ). t ++ rest) (sym (append_assoc first.held.items lines line)) in
      rw whole (stops_long a.bytes c.bytes a.counts c.counts ((first.held.items ++ lines) ++ line) rest first.sent fault
      (stops_then a.bytes b.bytes c.bytes a.counts b.counts c.counts ((first.held.items ++ lines) ++ line) (mid.held.items ++ line) first.sent mid.sent fault
      (passes_with a.bytes b.bytes a.counts b.counts (first.held.items ++ lines) mid.held.items line first.sent mid.sent before) stops))

  -- ---- how many lines were written

  -- the message x, at index i, has no line
  pub until_here : (Goes : List ℕ → Type 0) (limit n i count : ℕ) (messages : List M) (x : M) (why : EncodeFault) → i < length messages → x ≡ get_or messages i x
      → HaveLines of limit (take i messages) → IsRefusalOf of.kind x limit why → Goes (json_lines of (take i messages)) → count ≡ saturated (n + i) → ExportsFrom of Goes limit n messages (Until count why)
  until_here Goes limit n i count messages x why inside is have bad goes counted =
      (take i messages, x, drop (i + 1) messages, messages_at of messages x i inside is, have, bad, goes, omega (arith, counted, length-take-le i messages (omega (arith, inside))))

  pub all_lines : (Goes : List ℕ → Type 0) (limit n i count : ℕ) (messages : List M) → length messages ≤ i → i ≤ length messages
      → HaveLines of limit (take i messages) → Goes (json_lines of (take i messages)) → count ≡ saturated (n + i) → ExportsFrom of Goes limit n messages (All count)
  all_lines Goes limit n i count messages above below have goes counted = (
    subst (HaveLines of limit) (take_all i messages above) have,
    subst (λ (es : List M). Goes (json_lines of es)) (take_all i messages above) goes,
    omega (arith, above, below, counted),
  )

  -- the buffered lines are written, so that no line is buffered
  pub sends_lines : (first mid new : LineBuffer) (a b c : Device) (limit n : ℕ) (messages : List M) (progress : ExportProgress) → ExportsFrom of (HoldsText first mid a b) limit n messages progress
      → WentOut b.bytes c.bytes b.counts c.counts mid.held.items mid.sent new.sent → new.held.items ≡ [] → ExportsFrom of (SendsText first new a c) limit n messages progress
  sends_lines first mid new a b c limit n messages (All count) (have, holds, is) out none = (have, sends first mid new a b c (json_lines of messages) holds out none, is)
  sends_lines first mid new a b c limit n messages (Until index why) (front, message, rest, is, have, bad, holds, at) out none =
      (front, message, rest, is, have, bad, sends first mid new a b c (json_lines of front) holds out none, at)

  -- the output failed when the buffered lines were written
  pub stops_lines : (first mid : LineBuffer) (a b c : Device) (limit n : ℕ) (messages : List M) (progress : ExportProgress) (fault : WriteFault) → ExportsFrom of (HoldsText first mid a b) limit n messages progress
      → Stops b.bytes c.bytes b.counts c.counts mid.held.items mid.sent fault → Stops a.bytes c.bytes a.counts c.counts (first.held.items ++ json_lines of messages) first.sent fault
  stops_lines first mid a b c limit n messages (All count) fault (have, holds, is) stops =
      stops_then a.bytes b.bytes c.bytes a.counts b.counts c.counts (first.held.items ++ json_lines of messages) mid.held.items first.sent mid.sent fault holds stops
  stops_lines first mid a b c limit n messages (Until index why) fault (front, message, rest, is, have, bad, holds, at) stops =
      let more = json_lines of (message ∷ rest) in
      let whole : first.held.items ++ json_lines of messages ≡ (first.held.items ++ json_lines of front) ++ more =
      ap (λ (es : List M). first.held.items ++ json_lines of es) is ∙ ap (λ (t : List ℕ). first.held.items ++ t) (lines_both front (message ∷ rest)) ∙ sym (append_assoc first.held.items (json_lines of front) more) in
      rw whole (stops_long a.bytes c.bytes a.counts c.counts (first.held.items ++ json_lines of front) more first.sent fault
      (stops_then a.bytes b.bytes c.bytes a.counts b.counts c.counts (first.held.items ++ json_lines of front) mid.held.items first.sent mid.sent fault holds stops))

  -- the printed number of a message is the same for an index that is capped at 2^64 - 1
  pub same_line : (index n : ℕ) (why : EncodeFault) → index ≡ saturated n → unsent_text of.word (fault_at index why) ≡ unsent_text of.word (fault_at n why)
  same_line index n refused.TooDeep is = let next : saturated (index + 1) ≡ saturated (n + 1) = omega (arith, is) in rw next refl
  same_line index n refused.TooLarge is = let next : saturated (index + 1) ≡ saturated (n + 1) = omega (arith, is) in rw next refl
  same_line index n refused.NoMemory is = refl
