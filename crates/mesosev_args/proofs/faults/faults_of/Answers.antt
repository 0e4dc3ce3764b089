use Rattle.std.proofs.Common.{◌≡◌, ◌++◌, ◌∙◌, ap, List, [], ◌∷◌, true, inl, refl, rules, subst, take}
use Rattle.std.specs.Prelude.{is_ok, not}
use Rattle.std.proofs.lemmas.List.{take_all}
use Rattle.std.specs.List.{AllZip}
use Rattle.clap.specs.Words.{Text, found_of, rows_of}
use Rattle.mes_double_faults.specs.declared.fault.Fault.{Fault}
use Rattle.mesosev_args.specs.OptionValues.{NamesFault, fault_texts}
use Rattle.mesosev_args.proofs.FaultLemmas.{faults_lack, faults_more, texts_are, texts_of}
use Rattle.mesosev_args.proofs.faults.faults_of.Goals as goal

pub loop-text-preserved : goal.loop-text-preserved
loop-text-preserved c =
    let done : is_ok c.push.result ≡ true = c.is_err.ensures.negation ∙ ap not c.if-is_err.false in
    let grown : c.push.new.self.items ≡ c.loop-text.faults.items ++ c.in-Some.fault ∷ [] = rw done at c.push.ensures.items in
    rw grown (faults_more c.unwrap_or-texts.result.now c.loop-text.text-index _ c.loop-text.faults.items c.in-Some.fault c.loop-text-test.true c.loop-text.invariant
    c.in-Some.ensures.some)

pub returns-in_default-clause-err : goal.returns-in_default-clause-err
returns-in_default-clause-err c =
    let texts = c.unwrap_or-texts.result.now in
    let same : texts_of texts ≡ fault_texts (rows_of (found_of c.args.found.now)) =
    texts_are (found_of c.args.found.now) c.get_strs.result _ c.unwrap_or-texts.result c.get_strs.ensures c.unwrap_or-texts.ensures refl in
    inl (
      refl,
      subst (λ (l : List Text). ¬ ((faults : List Fault) × AllZip NamesFault l faults)) same
          (faults_lack texts c.loop-text.text-index _ c.loop-text-test.true (c.parse.ensures.none (search rules))),
    )

pub returns-clause-ok : goal.returns-clause-ok
returns-clause-ok c =
    let texts = c.unwrap_or-texts.result.now in
    let whole : take c.loop-text.text-index texts ≡ texts = take_all c.loop-text.text-index texts c.loop-text-test.false in
    let same : texts_of texts ≡ fault_texts (rows_of (found_of c.args.found.now)) =
    texts_are (found_of c.args.found.now) c.get_strs.result _ c.unwrap_or-texts.result c.get_strs.ensures c.unwrap_or-texts.ensures refl in
    subst (λ (l : List Text). AllZip NamesFault l c.loop-text.faults.items) (ap texts_of whole ∙ same) c.loop-text.invariant
