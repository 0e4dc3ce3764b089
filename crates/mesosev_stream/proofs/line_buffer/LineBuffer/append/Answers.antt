use Rattle.std.proofs.Common.{◌≡◌, ◌++◌, length, sym, ◌∙◌, ap, arith}
use Rattle.std.proofs.lemmas.List.{length-append}
use Rattle.mesosev_stream.proofs.line_buffer.LineBuffer.append.Goals as goal

pub returns-clause-room : goal.returns-clause-room
returns-clause-room c = λ ok.
    let all : c.extend_from_slice.new.self.items ≡ c.args.self.now.held.items ++ c.args.lines.now = rw (sym c.is_ok.ensures.value ∙ ok) at c.extend_from_slice.ensures.items in
    omega (arith, ap length all, length-append c.args.self.now.held.items c.args.lines.now, c.if-saturating_add-gt-MAX_LINE_BUFFER.false, c.saturating_add.ensures, c.len.ensures)
