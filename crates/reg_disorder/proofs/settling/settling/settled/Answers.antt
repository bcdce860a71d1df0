use Rattle.std.proofs.Common.{None, [], map, take, filter, refl, sym, subst, inl, inr}
use Rattle.reg_op.specs.Ids.{Id}
use Rattle.reg_report.specs.Keys.{key_bytes}
use Rattle.reg_report.specs.Seen.{row_seen}
use Rattle.reg_report.proofs.FoundLemmas.{one_row}
use Rattle.reg_disorder.specs.declared.settling.fault.SettleFault.{SettleFault}
use Rattle.reg_disorder.specs.declared.settling.rival.Rival.{Rival}
use Rattle.reg_disorder.specs.Settling.{IsObjection}
use Rattle.reg_disorder.specs.Keeping.{with_row, is_of_key, Retires}
use Rattle.reg_disorder.proofs.Steps.{goes_refused, goes_through, nothing_gone}
use Rattle.reg_disorder.proofs.Kept.{Kept, nothing_kept, nothing_held, next_kept, is_refused}
use Rattle.reg_disorder.proofs.settling.settling.settled.Goals as goal

pub loop-entry-init : goal.loop-entry-init
loop-entry-init c =
    let rs = map row_seen c.args.rows.now in
    let keeps = c.args.keeps.now in (
      nothing_gone rs keeps c.new-ids.result.items c.new-ids.ensures.items,
      (λ _. None, nothing_held c.new-kept.result c.new-kept.ensures.empty, subst (λ l. Kept rs keeps [] l (λ _. None)) (sym c.new-ids.ensures.items) (nothing_kept rs keeps)),
    )

pub loop-entry-preserved : goal.loop-entry-preserved
loop-entry-preserved c =
    let rs = map row_seen c.args.rows.now in
    let keeps = c.args.keeps.now in
    let keep = row_seen c.in-Ok-standing_row.row.now in
    let k = key_bytes c.key_of-key.result in
    let at = c.loop-entry.invariant.1.0 in
    let holds = c.loop-entry.invariant.1.1 in
    let rivals = c.in-Ok.ensures in
    let one : Rival = record { key = c.key_of-key.result; row = c.in-Ok-standing_row.row } in
    let retires = subst (λ l. Retires (at k) keep (filter (is_of_key k) l) c.loop-entry.ids.items c.keep_row.new.ids.items) c.deref.ensures.value (c.in_default.ensures.ids at holds) in
    let own = subst (λ l. Retires (at k) keep l c.loop-entry.ids.items c.keep_row.new.ids.items) (rivals.in_order one) retires in
    let next = next_kept rs keeps c.loop-entry.ids.items c.keep_row.new.ids.items c.loop-entry.entry-index c.entry-item.result at keep k rivals.all c.requires rivals.are c.loop-entry-test.true c.entry-item.is
    c.in-Ok-standing_row.ensures.ok.0 c.in-Ok-standing_row.ensures.ok.1 c.key_of-key.ensures own c.loop-entry.invariant.0 c.loop-entry.invariant.1.2 in
    (next.0, (with_row k keep at, c.in_default.ensures.kept at holds, next.1))

pub returns-clause-ok : goal.returns-clause-ok
returns-clause-ok c = goes_through (map row_seen c.args.rows.now) c.args.keeps.now c.loop-entry.ids.items c.loop-entry.entry-index c.loop-entry-test.false c.loop-entry.invariant.0

pub returns-in-Err-standing_row-clause-fault : goal.returns-in-Err-standing_row-clause-fault
returns-in-Err-standing_row-clause-fault c =
    inl (goes_refused (map row_seen c.args.rows.now) c.args.keeps.now c.loop-entry.ids.items c.loop-entry.entry-index c.entry-item.result c.in-Err-standing_row.fault c.loop-entry-test.true c.entry-item.is
    (c.in-Err-standing_row.ensures.fault (take c.loop-entry.entry-index c.args.keeps.now)) c.loop-entry.invariant.0)

pub returns-in-Err-keep_row-clause-fault : goal.returns-in-Err-keep_row-clause-fault
returns-in-Err-keep_row-clause-fault c =
    let rs = map row_seen c.args.rows.now in
    let keeps = c.args.keeps.now in
    let before = take c.loop-entry.entry-index keeps in
    let keep = row_seen c.in-Ok-standing_row.row.now in
    let k = key_bytes c.key_of-key.result in
    let at = c.loop-entry.invariant.1.0 in
    let e : Id = c.entry-item.result in
    let has = c.in-Ok-standing_row.ensures.ok.0 in
    elim (c.in-Err-keep_row.ensures.fault at c.loop-entry.invariant.1.1) [
      | inl taken ↦
          let why = is_refused rs keeps before c.loop-entry.ids.items at (one_row rs c.requires) c.loop-entry.invariant.1.2 keep has.there k c.key_of-key.ensures e (at k) has.is c.in-Ok-standing_row.ensures.ok.1 refl taken.0 in
          inl (goes_refused rs keeps c.loop-entry.ids.items c.loop-entry.entry-index e c.in-Err-keep_row.fault c.loop-entry-test.true c.entry-item.is
          (subst (λ (f : SettleFault). IsObjection rs before e f) (sym taken.1) why) c.loop-entry.invariant.0)
      | inr memory ↦ inr memory
    ]
