use Rattle.std.proofs.Common.{refl, Ok, Err}
use Rattle.mesosev_stream.specs.declared.exporter.ExportProgress.TheVariants.{All, Until}
use Rattle.mesosev_stream.proofs.exporter.Exporter.finish.Goals as goal

pub returns-in-Ok-All : goal.returns-in-Ok-All
returns-in-Ok-All g c = record {
  last = c.finish-outcome.new.values.items;
  outcome = c.finish-outcome.result;
  lines = c.export_messages.new.lines;
  progress = Ok (All c.in-Ok-All.count);
  means = c.finish-outcome.ensures.means;
  writes = λ n is. rw (c.as_slice.ensures.value, c.in-Ok-All.field-0-is) at (c.in-Ok-All.ensures n is);
  result = (rw c.word.ensures.text at c.tell_outcome.ensures.told, c.tell_outcome.ensures.status);
}

pub returns-in-Ok-Until : goal.returns-in-Ok-Until
returns-in-Ok-Until g c = record {
  last = c.finish-outcome.new.values.items;
  outcome = c.finish-outcome.result;
  lines = c.export_messages.new.lines;
  progress = Ok (Until c.in-Ok-Until.index c.in-Ok-Until.why);
  means = c.finish-outcome.ensures.means;
  writes = λ n is. rw (c.as_slice.ensures.value, c.in-Ok-Until.field-0-is) at (c.in-Ok-Until.ensures n is);
  result = (rw c.word-in-Ok-Until.ensures.text at c.tell_refused.ensures.told, c.tell_refused.ensures.status);
}

pub returns-in-Err : goal.returns-in-Err
returns-in-Err g c = record {
  last = c.finish-outcome.new.values.items;
  outcome = c.finish-outcome.result;
  lines = c.export_messages.new.lines;
  progress = Err c.in-Err.fault;
  means = c.finish-outcome.ensures.means;
  writes = λ n is. rw c.as_slice.ensures.value at (c.in-Err.ensures n is);
  result = (refl, refl);
}
