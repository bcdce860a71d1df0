use Rattle.std.proofs.Common.{[], ◌∷◌, ◌++◌, None, map, refl, sym, ap, subst}
use Rattle.reg_report.specs.Seen.{row_seen}
use Rattle.reg_report.specs.Keys.{key_bytes}
use Rattle.reg_export.specs.Noted.{with_text, with_note, Tells}
use Rattle.reg_export.proofs.NotedLemmas.{nothing_held, nothing_told, told_more}
use Rattle.reg_export.proofs.ChosenLemmas.{more_done, all_done}
use Rattle.reg_export.proofs.notes.notes_of.Goals as goal
use Rattle.reg_texts.proofs.NamedLemmas.{nothing_left}

pub loop-row-init : goal.loop-row-init
loop-row-init c = ([], refl, ((λ _. None), nothing_held c.new-made.result c.new-made.ensures.empty, nothing_told))

pub loop-row-preserved : goal.loop-row-preserved
loop-row-preserved c =
    let r = row_seen c.in-Some.row.now in
    let done = c.loop-row.invariant.0 in
    let at = c.loop-row.invariant.2.0 in
    let k = key_bytes c.key_of.result in
    let first = ap (map row_seen) c.in-Some.ensures.cases.0 in (
      done ++ r ∷ [],
      more_done (map row_seen c.args.rows.now) done (map row_seen c.loop-row.rest.now) (map row_seen c.in-Some.others.now) r c.loop-row.invariant.1 first,
      (
        with_note k (with_text c.as_bytes.result.now (at k)) at,
        c.in_ok-put_text.ensures at c.loop-row.invariant.2.1,
        told_more done r k c.key_of.ensures c.as_bytes.result.now c.as_bytes.ensures.bytes at c.loop-row.invariant.2.2,
      ),
    )

pub returns : goal.returns
returns c =
    let at = c.loop-row.invariant.2.0 in
    let whole = all_done (map row_seen c.args.rows.now) c.loop-row.invariant.0 (map row_seen c.loop-row.rest.now) c.loop-row.invariant.1 (nothing_left row_seen c.loop-row.rest.now c.in_default.ensures.cases) in
    (at, c.loop-row.invariant.2.1, λ k. subst (λ l. Tells l k (at k)) (sym whole) (c.loop-row.invariant.2.2 k))
