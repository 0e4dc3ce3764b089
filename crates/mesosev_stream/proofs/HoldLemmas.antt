-- The state of the buffer of lines, event by event.
use Rattle.std.proofs.Common.{◌≡◌, ℕ, ◌+◌, ◌<◌, ◌≤◌, List, [], ◌∷◌, ◌++◌, length, take, drop, get_or, sym, ◌∙◌, ap, subst, append_assoc, append-nil, arith}
use Rattle.std.proofs.lemmas.List.{take_all}
use Rattle.mes_frame.proofs.Parts.{passes_with, passes_then, out_then, stops_then, stops_long, all_held}
use Rattle.mes_frame.specs.Devices.{Device}
use Rattle.mes_frame.specs.Written.{Stops, WentOut}
use Rattle.mes_frame.specs.declared.write.WriteFault.{WriteFault}
use Rattle.mesosev_stream.specs.Messages.{Messages}
use Rattle.mes_stream.specs.Stream.{saturated}
use Rattle.mesosev_stream.specs.Following.{HoldsText, SendsText, ShowsFrom}
use Rattle.mesosev_stream.specs.Showing.{lines_from}
use Rattle.mesosev_stream.specs.declared.follower.PrintProgress.{PrintProgress}
use Rattle.mesosev_stream.specs.declared.follower.PrintProgress.TheVariants.{All, NoMemory}
use Rattle.mesosev_stream.specs.declared.line_buffer.LineBuffer.{LineBuffer}
use Rattle.mesosev_stream.proofs.ShowLemmas.{lines_both, lines_to, lines_on}

pub holds_none : (b : LineBuffer) (a : Device) → HoldsText b b a a []
holds_none b a = all_held a.bytes a.counts (b.held.items ++ []) b.held.items b.sent (sym (append-nil b.held.items))

-- the buffered lines are written, so that no line is buffered
pub sends : (first mid new : LineBuffer) (a b c : Device) (w : List ℕ) → HoldsText first mid a b w → WentOut b.bytes c.bytes b.counts c.counts mid.held.items mid.sent new.sent → new.held.items ≡ [] → SendsText first new a c w
sends first mid new a b c w holds out none = (out_then a.bytes b.bytes c.bytes a.counts b.counts c.counts (first.held.items ++ w) mid.held.items first.sent mid.sent new.sent holds out, none)

module _ {M : Type 0} (of : Messages M) where
  -- the lines of the first messages and of the message x at index i are buffered or written
  pub holds_more : (first mid new : LineBuffer) (a b c : Device) (messages : List M) (x : M) (i n number : ℕ) → i < length messages → x ≡ get_or messages i x → number ≡ saturated (n + i)
      → HoldsText first mid a b (lines_from of n (take i messages)) → HoldsText mid new b c (of.lines number x) → HoldsText first new a c (lines_from of n (take (i + 1) messages))
  holds_more first mid new a b c messages x i n number inside is same before more =
      let text = of.lines (saturated (n + i)) x in
      let lines = lines_from of n (take i messages) in
      let whole : first.held.items ++ lines_from of n (take (i + 1) messages) ≡ (first.held.items ++ lines) ++ text = ap (λ (t : List ℕ). first.held.items ++ t) (lines_to of messages x i n inside is) ∙ sym (append_assoc first.held.items lines text) in
      rw whole (passes_then a.bytes b.bytes c.bytes a.counts b.counts c.counts ((first.held.items ++ lines) ++ text) (mid.held.items ++ text) new.held.items first.sent mid.sent new.sent
      (passes_with a.bytes b.bytes a.counts b.counts (first.held.items ++ lines) mid.held.items text first.sent mid.sent before) (rw same at more))

  -- the output failed in the buffered lines and the lines of the message x
  pub holds_not : (first mid : LineBuffer) (a b c : Device) (messages : List M) (x : M) (i n number : ℕ) (fault : WriteFault) → i < length messages → x ≡ get_or messages i x → number ≡ saturated (n + i)
      → HoldsText first mid a b (lines_from of n (take i messages)) → Stops b.bytes c.bytes b.counts c.counts (mid.held.items ++ of.lines number x) mid.sent fault
      → Stops a.bytes c.bytes a.counts c.counts (first.held.items ++ lines_from of n messages) first.sent fault
  holds_not first mid a b c messages x i n number fault inside is same before stops =
      let text = of.lines (saturated (n + i)) x in
      let lines = lines_from of n (take i messages) in
      let rest = lines_from of (n + length (take (i + 1) messages)) (drop (i + 1) messages) in
      let to : lines_from of n messages ≡ (lines ++ text) ++ rest = lines_on of messages (i + 1) n ∙ ap (λ (t : List ℕ). t ++ rest) (lines_to of messages x i n inside is) in
      let whole : first.held.items ++ lines_from of n messages ≡ ((first.held.items ++ lines) ++ text) ++ rest =
      ap (λ (t : List ℕ). first.held.items ++ t) to ∙ sym (append_assoc first.held.items (lines ++ text) rest) ∙ ap (λ (t : List ℕ). t ++ rest) (sym (append_assoc first.held.items lines text)) in
      rw whole (stops_long a.bytes c.bytes a.counts c.counts ((first.held.items ++ lines) ++ text) rest first.sent fault
      (stops_then a.bytes b.bytes c.bytes a.counts b.counts c.counts ((first.held.items ++ lines) ++ text) (mid.held.items ++ text) first.sent mid.sent fault
      (passes_with a.bytes b.bytes a.counts b.counts (first.held.items ++ lines) mid.held.items text first.sent mid.sent before) (rw same at stops)))

  -- the lines of all messages are buffered or written
  pub holds_all : (first new : LineBuffer) (a b : Device) (messages : List M) (i n number : ℕ) → length messages ≤ i → i ≤ length messages → number ≡ saturated (n + i) → HoldsText first new a b (lines_from of n (take i messages))
      → HoldsText first new a b (lines_from of n messages) × (number ≡ saturated (n + length messages))
  holds_all first new a b messages i n number above below is holds =
      (subst (λ (es : List M). HoldsText first new a b (lines_from of n es)) (take_all i messages above) holds, omega (arith, above, below, is))

  pub sends_shown : (first mid new : LineBuffer) (a b c : Device) (n : ℕ) (messages : List M) (shown : PrintProgress) → ShowsFrom of (HoldsText first mid a b) n messages shown → WentOut b.bytes c.bytes b.counts c.counts mid.held.items mid.sent new.sent → new.held.items ≡ []
      → ShowsFrom of (SendsText first new a c) n messages shown
  sends_shown first mid new a b c n messages (All next) (holds, is) out none = (sends first mid new a b c (lines_from of n messages) holds out none, is)
  sends_shown first mid new a b c n messages NoMemory (front, message, rest, is, holds) out none = (front, message, rest, is, sends first mid new a b c (lines_from of n front) holds out none)

  -- the output failed when the buffered lines were written
  pub sends_not : (first mid : LineBuffer) (a b c : Device) (n : ℕ) (messages : List M) (shown : PrintProgress) (fault : WriteFault) → ShowsFrom of (HoldsText first mid a b) n messages shown
      → Stops b.bytes c.bytes b.counts c.counts mid.held.items mid.sent fault → Stops a.bytes c.bytes a.counts c.counts (first.held.items ++ lines_from of n messages) first.sent fault
  sends_not first mid a b c n messages (All next) fault (holds, is) stops =
      stops_then a.bytes b.bytes c.bytes a.counts b.counts c.counts (first.held.items ++ lines_from of n messages) mid.held.items first.sent mid.sent fault holds stops
  sends_not first mid a b c n messages NoMemory fault (front, message, rest, is, holds) stops =
      let rest_lines = lines_from of (n + length front) (message ∷ rest) in
      let whole : first.held.items ++ lines_from of n messages ≡ (first.held.items ++ lines_from of n front) ++ rest_lines = ap (λ (es : List M). first.held.items ++ lines_from of n es) is ∙ ap (λ (t : List ℕ). first.held.items ++ t) (lines_both of n front (message ∷ rest)) ∙ sym (append_assoc first.held.items (lines_from of n front) rest_lines) in
      rw whole (stops_long a.bytes c.bytes a.counts c.counts (first.held.items ++ lines_from of n front) rest_lines first.sent fault
      (stops_then a.bytes b.bytes c.bytes a.counts b.counts c.counts (first.held.items ++ lines_from of n front) mid.held.items first.sent mid.sent fault holds stops))
