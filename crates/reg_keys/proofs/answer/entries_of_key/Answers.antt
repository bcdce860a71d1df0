use Rattle.std.proofs.Common.{[], ◌∷◌, ◌++◌, map, refl, sym, ap, ◌∙◌, subst}
use Rattle.std.proofs.lemmas.List.{length-map}
use Rattle.reg_report.specs.Seen.{row_seen}
use Rattle.reg_keys.specs.Named.{HasWord, AreEntries}
use Rattle.reg_keys.proofs.AnswerLemmas.{none_yet, one_more, more_done, ascends_here, all_done}
use Rattle.reg_keys.proofs.answer.entries_of_key.Goals as goal

pub loop-row-init : goal.loop-row-init
loop-row-init c = ([], refl, subst (AreEntries (HasWord c.args.word.now) []) (sym c.new-ids.ensures.items) (none_yet (HasWord c.args.word.now)))

pub loop-row-preserved : goal.loop-row-preserved
loop-row-preserved c =
    let all = map row_seen c.args.rows.now in
    let done = c.loop-row.invariant.0 in
    let rest = map row_seen c.loop-row.rest.now in
    let others = map row_seen c.in-Some.others.now in
    let r = row_seen c.in-Some.row.now in
    let here = c.loop-row.invariant.1 in
    let first = ap (map row_seen) c.in-Some.ensures.cases.0 in (
      done ++ r ∷ [],
      more_done all done rest others r here first,
      one_more (HasWord c.args.word.now) done r others (ascends_here all done rest others r here first c.requires) c.loop-row.ids.items c.loop-row.invariant.2 c.push_of_key.new.ids.items c.in_ok-push_of_key.ensures,
    )

pub returns : goal.returns
returns c =
    let all = map row_seen c.args.rows.now in
    subst (λ rs. AreEntries (HasWord c.args.word.now) rs c.loop-row.ids.items)
    (all_done all c.loop-row.invariant.0 (map row_seen c.loop-row.rest.now) c.loop-row.invariant.1 (length-map c.loop-row.rest.now row_seen ∙ c.in_default.ensures.cases))
    c.loop-row.invariant.2
