-- Lemma: the tape built from a tree represents that tree and nothing after it.
use Rattle.std.proofs.Common.{[], sym, ◌∙◌, append-nil}
use Rattle.mes_json.specs.Tokens.{tokens}
use Rattle.mes_json.specs.View.{view}
use Rattle.mes_model_schema.proofs.part.Part.read.Goals as goal

pub returns : goal.returns
returns g c =
    rw (← c.along.ensures) (c.read_from.ensures (view c.args.json.now) ([], c.root.ensures ∙ (c.in_ok-tape.ensures ∙ sym (append-nil (tokens (view c.args.json.now))))))
