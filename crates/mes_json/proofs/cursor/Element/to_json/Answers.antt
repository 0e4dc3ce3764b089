use Rattle.mes_json.proofs.TreeLemmas.{tree_begun, never_none}
use Rattle.mes_json.proofs.cursor.Element.to_json.Goals as goal

pub returns-in-Some : goal.returns-in-Some
returns-in-Some c =
    tree_begun c.self.inside.texts.now c.self.inside.nodes.now c.args.self.now c.in_ok-json.field-0 c.in-Some.json c.self.view_is c.in_ok-json.ensures c.in-Some.is

pub returns-in-None : goal.returns-in-None
returns-in-None c t begins =
    absurd (never_none c.self.inside.texts.now c.self.inside.nodes.now c.args.self.now c.in_ok-json.field-0 c.self.view_is c.in_ok-json.ensures c.in-None.is t begins)
