use Rattle.std.proofs.Common.{[], ◌∷◌, ◌++◌, map, refl, sym, ap, ◌∙◌, subst}
use Rattle.std.specs.Prelude.{◌↔◌, IsTrue}
use Rattle.reg_report.specs.Seen.{row_seen}
use Rattle.reg_export.specs.Chosen.{IsContested, IsTaken}
use Rattle.reg_export.specs.Kept.{row_at, place_of, option_place}
use Rattle.reg_report.specs.Keys.{key_bytes}
use Rattle.reg_export.proofs.NotedLemmas.{contested_is}
use Rattle.reg_export.proofs.ChosenLemmas.{Best, keeps_none, keeps_all, best_none, with_row, taken_is, more_done, is_there, all_done}
use Rattle.reg_export.proofs.chosen.uncontested.Goals as goal
use Rattle.reg_texts.proofs.NamedLemmas.{nothing_left}

pub loop-row-init : goal.loop-row-init
loop-row-init c =
    let all = map row_seen c.args.rows.now in
    ([], refl, keeps_none all (map row_at c.new-kept.result.items) (ap (map row_at) c.new-kept.ensures.items), best_none all)

pub loop-row-preserved : goal.loop-row-preserved
loop-row-preserved c =
    let all = map row_seen c.args.rows.now in
    let rest = map row_seen c.loop-row.rest.now in
    let others = map row_seen c.in-Some.others.now in
    let r = row_seen c.in-Some.row.now in
    let done = c.loop-row.invariant.0 in
    let split = c.loop-row.invariant.1 in
    let first = ap (map row_seen) c.in-Some.ensures.cases.0 in
    let notes = c.in_ok-notes.ensures in
    let k = key_bytes c.key_of-key.result in
    let contested = subst (λ b. IsTrue b ↔ IsContested all r) (sym (c.is_contested-contested.ensures notes.0 notes.1)) (contested_is all k r (notes.0 k) (is_there all done rest others r split first) c.key_of-key.ensures (notes.2 k)) in
    let p = place_of (record { key = c.key_of-key.result; row = c.in-Some.row }) in
    let both = with_row all done rest others r p c.is_contested-contested.result (map row_at c.loop-row.kept.items) (map row_at c.push_unless.new.kept.items) (option_place c.loop-row.least) first contested (c.key_of-key.ensures, refl)
    c.in_ok-push_unless.ensures c.loop-row.invariant.2 c.loop-row.invariant.3 in (
      done ++ r ∷ [],
      more_done all done rest others r split first,
      both.0,
      subst (λ o. Best all (done ++ r ∷ []) o) (sym c.least_with-least.ensures) both.1,
    )

pub returns : goal.returns
returns c =
    let all = map row_seen c.args.rows.now in
    let rest = map row_seen c.loop-row.rest.now in
    let done = c.loop-row.invariant.0 in
    let none = nothing_left row_seen c.loop-row.rest.now c.in_default.ensures.cases in
    record {
      kept = keeps_all all rest (map row_at c.loop-row.kept.items) none c.loop-row.invariant.2;
      taken = subst (λ o. IsTaken all o) (sym c.entry_of.ensures) (taken_is all done (option_place c.loop-row.least) (all_done all done rest c.loop-row.invariant.1 none) c.loop-row.invariant.3);
    }
