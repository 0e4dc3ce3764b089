use Rattle.mesosev_serve.proofs.StreamLemmas.{one-reply}
use Rattle.mesosev_serve.proofs.serve.serve_one.Goals as goal

pub returns : goal.returns
returns g c = record {
  taken = c.ask-asked.ensures.0;
  consumes = c.ask-asked.ensures.1;
  asked = c.ask-asked.result;
  asks = c.ask-asked.ensures.2;
  reply = c.reply_to-reply.result;
  replies = c.reply_to-reply.ensures;
  one = one-reply c.args.master.now c.args.events.now c.ask-asked.result c.reply_to-reply.result c.reply_to-reply.new.master c.reply_to-reply.ensures;
  sent = c.write_reply-sent.result;
  writes = c.write_reply-sent.ensures;
  reports = c.report_served.ensures;
}
