use Rattle.std.proofs.Common.{◌∙◌}
use Rattle.reg_desk.proofs.LinkedLemmas.{spent_here, memory_here, joined_here, only_imported, linked_from}
use Rattle.reg_desk.proofs.import.linked.link_on.Goals as goal

pub join-requires : goal.join-requires
join-requires c = (c.args.options.now.replica, c.args.options.now.note.now, c.args.options.now.differs, c.requires.0, c.requires.1, c.requires.2)

pub returns-then-is_spent-clause-fault : goal.returns-then-is_spent-clause-fault
returns-then-is_spent-clause-fault c = λ rs ts h passes. spent_here c.args.options.now c.args.register rs ts c.args.importing h passes _ (c.is_spent.ensures _ _ _ _ rs ts h) c.if-is_spent.true

pub returns-in_default-clause-fault : goal.returns-in_default-clause-fault
returns-in_default-clause-fault c = λ rs ts h passes. memory_here c.args.options.now c.args.register rs ts c.args.importing h passes

pub returns-in_default-join-clause-fault : goal.returns-in_default-join-clause-fault
returns-in_default-join-clause-fault c = λ rs ts h passes. memory_here c.args.options.now c.args.register rs ts c.args.importing h passes

pub returns-in-Err-clause-fault : goal.returns-in-Err-clause-fault
returns-in-Err-clause-fault c = λ rs ts h passes.
    let o = c.args.options.now in
    let imports = joined_here o c.args.register rs ts c.args.importing h passes c.in-Ok-join.joined _ (c.is_spent.ensures _ _ _ _ rs ts h) c.if-is_spent.false c.in-Ok-join.ensures in
    only_imported o c.args.register c.in-Ok-join.joined c.new-office.result.register c.new-office.result.replica c.deref.result.now rs ts
    c.new-office.ensures.register c.new-office.ensures.replica (c.deref.ensures.value ∙ c.in-Ok.ensures) imports c.in-Err.fault c.in-Err.ensures.fault

pub returns-clause-ok : goal.returns-clause-ok
returns-clause-ok c = λ rs ts h passes.
    let o = c.args.options.now in
    let imports = joined_here o c.args.register rs ts c.args.importing h passes c.in-Ok-join.joined _ (c.is_spent.ensures _ _ _ _ rs ts h) c.if-is_spent.false c.in-Ok-join.ensures in
    linked_from o c.args.register c.in-Ok-join.joined c.new-office.result.register c.new-office.result.replica c.deref.result.now rs ts
    c.new-office.ensures.register c.new-office.ensures.replica (c.deref.ensures.value ∙ c.in-Ok.ensures) imports
    c.pass_on.new.office.register c.into_register.result c.in-Ok-pass_on.field-0.links.items c.in-Ok-pass_on.field-0.ids.items c.in-Ok-pass_on.ensures.passed c.into_register.ensures
