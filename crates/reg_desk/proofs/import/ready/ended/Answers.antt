use Rattle.std.proofs.Common.{◌≡◌, refl, sym, subst, ap, ◌∙◌}
use Rattle.reg_engine.specs.declared.fault.CliFault.TheVariants as cli
use Rattle.reg_import.specs.Readings.{readings}
use Rattle.reg_desk.specs.declared.import.fault.ImportFault.TheVariants as import
use Rattle.reg_desk.specs.Import.{MakesOf}
use Rattle.reg_desk.proofs.LinkedLemmas.{unlinked_is}
use Rattle.reg_desk.proofs.ProgressLemmas.{passes_all, made_of, unmade_memory, unmade_refused, unmade_far}
use Rattle.reg_desk.proofs.ImportEngineLemmas.{plain_is}
use Rattle.reg_desk.proofs.import.ready.ended.Goals as goal

pub link_on-requires : goal.link_on-requires
link_on-requires c = let h = c.requires.4 in (readings c.requires.2, c.requires.3, h.taken)

pub returns-in_default-clause-fault : goal.returns-in_default-clause-fault
returns-in_default-clause-fault c = λ files cuts texts ts h.
    unmade_far c.args.options.now c.args.first c.args.register files cuts texts ts c.args.progress h c.plain.result c.in_default.ensures.memory
    (plain_is (λ g. g ≡ cli.Memory) c.plain.result cli.Memory c.plain.ensures.fault c.plain.ensures.notes refl)

pub returns-in-Err-clause-fault : goal.returns-in-Err-clause-fault
returns-in-Err-clause-fault c = λ files cuts texts ts h.
    unmade_refused c.args.options.now c.args.first c.args.register files cuts texts ts c.args.progress h c.in-Err.why c.in-Ok.passed c.in-Ok.ensures.fault c.in-Err.ensures.ends.1 c.in-Err.ensures.ends.0

pub returns-in-Err-link_on-clause-fault : goal.returns-in-Err-link_on-clause-fault
returns-in-Err-link_on-clause-fault c = λ files cuts texts ts h.
    let passes = passes_all c.args.options.now c.args.first c.args.register files cuts texts ts c.args.progress h c.in-Ok.passed c.in-Ok.ensures.fault c.in-Ok-unless_ended.ensures.goes in
    unlinked_is c.args.options.now c.args.first c.args.register files cuts texts c.in-Err-link_on.fault c.plain-in-Err-link_on.result (c.plain-in-Err-link_on.ensures.fault ∙ ap import.Cli c.of_office.ensures) c.plain-in-Err-link_on.ensures.notes
    (c.in-Err-link_on.ensures.fault (readings texts) ts h.taken passes)

pub returns-in-Ok-lines_of-clause-made : goal.returns-in-Ok-lines_of-clause-made
returns-in-Ok-lines_of-clause-made c = λ files cuts texts ts h.
    let passed = c.in-Ok.passed in
    let goes = c.in-Ok-unless_ended.ensures.goes in
    let passes = passes_all c.args.options.now c.args.first c.args.register files cuts texts ts c.args.progress h passed c.in-Ok.ensures.fault goes in
    let l = c.in-Ok-link_on.linked in
    subst (λ p. MakesOf c.args.options.now c.args.first c.args.register files cuts texts l.register c.in-Ok-lines_of.lines p) (sym c.in-Ok-unless_ended.ensures.same)
    (made_of c.args.options.now c.args.first c.args.register files cuts texts ts c.args.progress h l.register c.in-Ok-lines_of.lines l.links.items passed c.in-Ok.ensures.fault goes
    (c.in-Ok-link_on.ensures.ok (readings texts) ts h.taken passes) (c.in-Ok-lines_of.ensures texts ts h.listed))

pub returns-in-Err-lines_of-clause-fault : goal.returns-in-Err-lines_of-clause-fault
returns-in-Err-lines_of-clause-fault c = λ files cuts texts ts h.
    let passes = passes_all c.args.options.now c.args.first c.args.register files cuts texts ts c.args.progress h c.in-Ok.passed c.in-Ok.ensures.fault c.in-Ok-unless_ended.ensures.goes in
    unmade_memory c.args.options.now c.args.first c.args.register files cuts texts ts c.args.progress h c.plain-in-Err-lines_of.result passes
    (plain_is (λ g. g ≡ cli.Memory) c.plain-in-Err-lines_of.result cli.Memory c.plain-in-Err-lines_of.ensures.fault c.plain-in-Err-lines_of.ensures.notes refl)
