use Rattle.std.proofs.Common.{refl}
use Rattle.mes_json.proofs.PlainLemmas.{front_taken}
use Rattle.mes_json.proofs.reader.Reader.take_characters.Goals as goal

pub returns-clause-runs : goal.returns-clause-runs
returns-clause-runs c =
    front_taken c.args.self.now _ c.args.purpose c.args.bytes.now c.args.from c.character_run.result c.append_front.result c.requires.fits c.requires.at c.requires.inside
    c.character_run.ensures.inside c.character_run.ensures.whole c.append_front.ensures.all
    (record { at = c.requires.at; text = c.append_front.ensures.text; nodes = refl; nesting = refl; start = refl })
