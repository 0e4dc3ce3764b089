use Rattle.mesosev_net.proofs.both_ends.show_from.Goals as goal

pub returns : goal.returns
returns g c = record {
  input = g.S.Source.device c.args.reader.now;
  rest = g.S.Source.device c.show_answer.new.reader;
  shows = c.show_answer.ensures;
}
