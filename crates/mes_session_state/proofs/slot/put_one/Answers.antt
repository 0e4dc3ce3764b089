use Rattle.std.proofs.Common.{◌≡◌, ◌∙◌, ap, subst, sym}
use Rattle.std.proofs.lemmas.Result.{IfOk-at_ok}
use Rattle.indexmap.specs.IndexMap.{insert_entry}
use Rattle.mes_session_state.specs.Slots.{offers_in, AreSettled}
use Rattle.mes_session_state.proofs.SlotLemmas.{same_text, put_in, settled-put}
use Rattle.mes_session_state.proofs.slot.put_one.Goals as goal

pub returns-clause-settled : goal.returns-clause-settled
returns-clause-settled c =
    let entries : c.insert.new.self.entries ≡ insert_entry same_text c.args.slots.now.entries c.args.name c.args.slot = IfOk-at_ok _ c.unwrap.ensures c.insert.ensures.entries in
    subst AreSettled (sym entries) (settled-put c.args.name c.args.slot c.requires.own.0 c.requires.own.1 c.args.slots.now.entries c.requires.settled)

pub returns-clause-put : goal.returns-clause-put
returns-clause-put c =
    let entries : c.insert.new.self.entries ≡ insert_entry same_text c.args.slots.now.entries c.args.name c.args.slot = IfOk-at_ok _ c.unwrap.ensures c.insert.ensures.entries in
    ap offers_in entries ∙ put_in c.args.name c.args.slot c.requires.own.0 c.args.slots.now.entries c.requires.settled
