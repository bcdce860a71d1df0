use Rattle.std.proofs.Common.{sym, ap, ◌∙◌}
use Rattle.reg_office.specs.Effects.{fault_of}
use Rattle.reg_office.proofs.EffectLemmas.{first_at, none_left}
use Rattle.reg_office.proofs.RepeatLemmas.{again_at, walk_more}
use Rattle.reg_office.proofs.command.Command.first_fault.Goals as goal

pub returns-in-Some : goal.returns-in-Some
returns-in-Some c = λ replica n note.
    let named = c.args.named.now in
    let e = c.index-named-k.result in
    first_at c.args.self.now c.args.register.now replica n note named c.loop-k.k e c.in-Some.fault c.loop-k-test.true c.index-named-k.is c.loop-k.invariant.1
    (sym c.in-Some.is ∙ c.fault.ensures
    ∙ ap (λ b. fault_of c.args.self.now c.args.register.now.ops b e) (again_at named c.first_repeat-repeat.result c.loop-k.k e c.first_repeat-repeat.ensures c.loop-k.invariant.0 c.loop-k-test.true c.index-named-k.is))

pub loop-k-preserved : goal.loop-k-preserved
loop-k-preserved c = walk_more c.args.self.now c.args.register.now.ops c.args.named.now c.first_repeat-repeat.result c.loop-k.k c.index-named-k.result c.first_repeat-repeat.ensures c.loop-k.invariant.0 c.loop-k-test.true c.index-named-k.is
    (sym c.fault.ensures ∙ c.in_default.is) c.loop-k.invariant.1

pub returns : goal.returns
returns c = λ replica n note. none_left c.args.self.now c.args.register.now replica n note c.args.named.now c.loop-k.k c.loop-k-test.false c.loop-k.invariant.1
