use Rattle.std.proofs.Common.{[], ◌++◌, map, ap, sym, ◌∙◌, append-nil, append_assoc, subst}
use Rattle.std.proofs.lemmas.List.{nil_from_length}
use Rattle.reg_report.specs.Seen.{row_seen}
use Rattle.reg_texts.specs.Said.{said}
use Rattle.reg_texts.specs.Gathered.{IsSaidBy}
use Rattle.reg_texts.proofs.EachLemmas.{Gathers, gathers_none, gathers_more, gathers_all}
use Rattle.reg_texts.proofs.gathering.push_successors.Goals as goal

pub loop-entry-init : goal.loop-entry-init
loop-entry-init c =
    let By = IsSaidBy (map row_seen c.args.rows.now) (row_seen c.args.row.now) in
    let newer = c.args.row.now.newer.items in
    ([], sym (append-nil (map said c.args.made.now.items)), subst (λ l. Gathers By newer l []) (sym c.as_slice-rest.ensures.value) (gathers_none By newer))

pub loop-entry-preserved : goal.loop-entry-preserved
loop-entry-preserved c =
    let By = IsSaidBy (map row_seen c.args.rows.now) (row_seen c.args.row.now) in
    let newer = (row_seen c.args.row.now).newer in
    let was = c.loop-entry.invariant in
    let one = c.in_ok-push_successor.ensures in (
      was.0 ++ one.0,
      one.2 ∙ ap (λ l. l ++ one.0) was.1 ∙ append_assoc (map said c.args.made.now.items) was.0 one.0,
      gathers_more By newer c.loop-entry.rest.now c.in-Some.others.now c.in-Some.entry.now was.0 one.0 c.in-Some.ensures.cases.0 one.1 was.2,
    )

pub returns : goal.returns
returns c =
    let By = IsSaidBy (map row_seen c.args.rows.now) (row_seen c.args.row.now) in
    let newer = (row_seen c.args.row.now).newer in
    let was = c.loop-entry.invariant in
    (was.0, gathers_all By newer c.loop-entry.rest.now was.0 (nil_from_length c.loop-entry.rest.now c.in_default.ensures.cases) was.2, was.1)
