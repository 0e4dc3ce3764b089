use Rattle.std.proofs.Common.{refl, Ok, Err}
use Rattle.mesosev_stream.specs.declared.follower.PrintProgress.TheVariants.{All}
use Rattle.mesosev_stream.specs.declared.follower.PrintProgress.TheVariants as seen
use Rattle.mesosev_stream.proofs.follower.Follower.finish.Goals as goal

pub returns-in-Ok-All : goal.returns-in-Ok-All
returns-in-Ok-All g c = record {
  last = c.finish-outcome.new.values.items;
  outcome = c.finish-outcome.result;
  lines = c.print_messages.new.lines;
  between = g.O.Sink.device c.print_messages.new.out;
  progress = Ok (All c.in-Ok-All.next);
  means = c.finish-outcome.ensures.means;
  prints = λ n is. rw (c.as_slice.ensures.value, c.in-Ok-All.field-0-is) at (c.in-Ok-All.ensures n is);
  result = (c.report_outcome.result, rw (c.saturating_sub-count.ensures, c.word-word.ensures.text) at c.report_outcome.ensures, rw c.sent.ensures at c.following.ensures);
}

pub returns-in-Ok-NoMemory : goal.returns-in-Ok-NoMemory
returns-in-Ok-NoMemory g c = record {
  last = c.finish-outcome.new.values.items;
  outcome = c.finish-outcome.result;
  lines = c.print_messages.new.lines;
  between = g.O.Sink.device c.print_messages.new.out;
  progress = Ok seen.NoMemory;
  means = c.finish-outcome.ensures.means;
  prints = λ n is. rw (c.as_slice.ensures.value, c.in-Ok-NoMemory.field-0-is) at (c.in-Ok-NoMemory.ensures n is);
  result = (c.out_of_memory.result, c.out_of_memory.ensures, rw c.sent-in-Ok-NoMemory.ensures at c.following-in-Ok-NoMemory.ensures);
}

pub returns-in-Err : goal.returns-in-Err
returns-in-Err g c = record {
  last = c.finish-outcome.new.values.items;
  outcome = c.finish-outcome.result;
  lines = c.print_messages.new.lines;
  between = g.O.Sink.device c.print_messages.new.out;
  progress = Err c.in-Err.fault;
  means = c.finish-outcome.ensures.means;
  prints = λ n is. rw c.as_slice.ensures.value at (c.in-Err.ensures n is);
  result = (refl, refl);
}
