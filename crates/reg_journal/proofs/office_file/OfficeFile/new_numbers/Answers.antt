use Rattle.std.proofs.Common.{◌∙◌, ◌+◌, ◌-◌, arith}
use Rattle.reg_op.specs.Set as set
use Rattle.reg_state.specs.Runs.{ids_from}
use Rattle.reg_office.proofs.NumberLemmas.{none_above}
use Rattle.reg_journal.proofs.AddingLemmas.{no_numbers, some_numbers}
use Rattle.reg_journal.proofs.office_file.OfficeFile.new_numbers.Goals as goal

pub add_run-requires-clause-above : goal.add_run-requires-clause-above
add_run-requires-clause-above c = none_above c.new-seen.result (record { replica = c.replica.result; low = c.last-2.result + 1; high = c.args.greatest }) c.new-seen.ensures

pub returns-then-greatest-last : goal.returns-then-greatest-last
returns-then-greatest-last c =
    let le = c.if-greatest-last.true in
    let is = c.last.ensures.value in
    no_numbers c.args.self.now c.args.greatest c.new-seen.result (omega (arith, le, is)) c.new-seen.ensures

pub returns : goal.returns
returns c =
    some_numbers c.args.self.now c.args.greatest c.new-seen.result c.add_run.new.self c.new-seen.ensures
    (c.in_ok-add_run.ensures.ok
    ∙ (λ k. set.union c.new-seen.result (set.from_list (ids_from (c.replica.ensures k) (c.last-2.ensures.value k + 1) (c.args.greatest + 1 - (c.last-2.ensures.value k + 1))))))
