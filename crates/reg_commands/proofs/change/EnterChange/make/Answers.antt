use Rattle.reg_commands.proofs.ChangeLemmas.{entered_as, unentered_as}
use Rattle.reg_commands.proofs.change.EnterChange.make.Goals as goal

pub returns-in-Ok-clause-makes : goal.returns-in-Ok-clause-makes
returns-in-Ok-clause-makes g c = λ first was read.
    let s = c.args.self.now in
    let made = c.in-Ok.made in
    entered_as first.replica s.replica first.note.now s.note.now (g.X.Source.state first.text.now) (g.X.Source.state s.text.now) c.args.read c.args.register made.register made.lines.items
    read.0 read.1 read.2 c.in-Ok.ensures.made

pub returns-in-Err-clause-refuses : goal.returns-in-Err-clause-refuses
returns-in-Err-clause-refuses g c = λ first was read.
    let s = c.args.self.now in
    unentered_as first.replica s.replica first.note.now s.note.now c.args._next (g.X.Source.state first.text.now) (g.X.Source.state s.text.now) c.args.read c.args.register c.in-Err.fault
    read.0 read.1 read.2 c.in-Err.ensures.fault
