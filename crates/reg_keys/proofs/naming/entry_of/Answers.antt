use Rattle.std.proofs.Common.{map, inr, refl}
use Rattle.reg_report.specs.Seen.{row_seen}
use Rattle.reg_keys.proofs.AnswerWalks.{is_least, is_other, one_text}
use Rattle.reg_keys.proofs.NamedLemmas.{no_id}
use Rattle.reg_keys.proofs.naming.entry_of.Goals as goal

pub returns-in_default-first_answering-clause-fault : goal.returns-in_default-first_answering-clause-fault
returns-in_default-first_answering-clause-fault c = (no_id c.args.word.now c.in_default.ensures.only, c.in_default-first_answering.ensures.none)

pub returns-in-Some-first_other-clause-fault : goal.returns-in-Some-first_other-clause-fault
returns-in-Some-first_other-clause-fault c =
    let first = row_seen c.in-Some-first_answering.first.now in
    let later = map row_seen c.in-Some-first_answering.later.now in
    (no_id c.args.word.now c.in_default.ensures.only, is_other (map row_seen c.args.rows.now) c.requires c.args.word.now first later c.in-Some-first_answering.ensures.found c.in-Some-first_other.other c.in-Some-first_other.ensures.found)

pub returns-in-None-clause-ok : goal.returns-in-None-clause-ok
returns-in-None-clause-ok c =
    let rs = map row_seen c.args.rows.now in
    let first = row_seen c.in-Some-first_answering.first.now in
    let later = map row_seen c.in-Some-first_answering.later.now in
    let found = c.in-Some-first_answering.ensures.found in
    inr (
      no_id c.args.word.now c.in_default.ensures.only,
      (first, is_least rs c.requires c.args.word.now first later found, refl, one_text rs c.requires c.args.word.now first later found c.in-None.ensures.none),
    )
