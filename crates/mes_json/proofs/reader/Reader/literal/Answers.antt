use Rattle.std.proofs.Common.{refl, ◌∙◌, ap, option_map, Option, Some}
use Rattle.mes_json.specs.Tree.Tree.{null, boolean}
use Rattle.mes_json.specs.Machine.State.{state}
use Rattle.mes_json.specs.Reader.{said_view}
use Rattle.mes_json.specs.declared.literal.LiteralStep.{LiteralStep}
use Rattle.mes_json.specs.declared.tape.Node.TheVariants.{Null, Bool}
use Rattle.mes_json.proofs.TokenLemmas.{literal_ends}
use Rattle.mes_json.proofs.reader.Reader.literal.Goals as goal

pub returns-in-Some-Null-clause-gives : goal.returns-in-Some-Null-clause-gives
returns-in-Some-Null-clause-gives c =
    (literal_ends c.args.self.now c.put.new.self c.put.result c.args.byte c.args.word Null null c.requires.fits c.requires.at tt (λ h. h) refl
    (λ fs. c.next.ensures fs ∙ ap (λ (r : Option LiteralStep). option_map (λ x. state fs (said_view x)) r) c.in-Some-Null.is
    ∙ ap (λ (x : LiteralStep). Some (state fs (said_view x))) c.in-Some-Null.field-0-is) c.put.ensures.ok c.put.ensures.err).0

pub returns-in-Some-Null-clause-fits : goal.returns-in-Some-Null-clause-fits
returns-in-Some-Null-clause-fits c =
    (literal_ends c.args.self.now c.put.new.self c.put.result c.args.byte c.args.word Null null c.requires.fits c.requires.at tt (λ h. h) refl
    (λ fs. c.next.ensures fs ∙ ap (λ (r : Option LiteralStep). option_map (λ x. state fs (said_view x)) r) c.in-Some-Null.is
    ∙ ap (λ (x : LiteralStep). Some (state fs (said_view x))) c.in-Some-Null.field-0-is) c.put.ensures.ok c.put.ensures.err).1

pub returns-in-Some-Bool-clause-gives : goal.returns-in-Some-Bool-clause-gives
returns-in-Some-Bool-clause-gives c =
    (literal_ends c.args.self.now c.put-in-Some-Bool.new.self c.put-in-Some-Bool.result c.args.byte c.args.word (Bool c.in-Some-Bool.truth) (boolean c.in-Some-Bool.truth)
    c.requires.fits c.requires.at tt (λ h. h) refl
    (λ fs. c.next.ensures fs ∙ ap (λ (r : Option LiteralStep). option_map (λ x. state fs (said_view x)) r) c.in-Some-Bool.is
    ∙ ap (λ (x : LiteralStep). Some (state fs (said_view x))) c.in-Some-Bool.field-0-is)
    c.put-in-Some-Bool.ensures.ok c.put-in-Some-Bool.ensures.err).0

pub returns-in-Some-Bool-clause-fits : goal.returns-in-Some-Bool-clause-fits
returns-in-Some-Bool-clause-fits c =
    (literal_ends c.args.self.now c.put-in-Some-Bool.new.self c.put-in-Some-Bool.result c.args.byte c.args.word (Bool c.in-Some-Bool.truth) (boolean c.in-Some-Bool.truth)
    c.requires.fits c.requires.at tt (λ h. h) refl
    (λ fs. c.next.ensures fs ∙ ap (λ (r : Option LiteralStep). option_map (λ x. state fs (said_view x)) r) c.in-Some-Bool.is
    ∙ ap (λ (x : LiteralStep). Some (state fs (said_view x))) c.in-Some-Bool.field-0-is)
    c.put-in-Some-Bool.ensures.ok c.put-in-Some-Bool.ensures.err).1
