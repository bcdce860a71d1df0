use Rattle.std.proofs.Common.{sym, subst}
use Rattle.reg_engine.specs.WholeFile.{Gives}
use Rattle.reg_supersede.specs.Engine.{task, DoesList, CannotDoList}
use Rattle.reg_supersede.proofs.EngineLemmas.{done_as, refused_as}
use Rattle.reg_supersede.proofs.engine.SupersedeFromChange.make.Goals as goal

pub returns-in-Ok-clause-makes : goal.returns-in-Ok-clause-makes
returns-in-Ok-clause-makes g c = λ first was read.
    let s = c.args.self.now in
    let old = g.S.Source.state first.list.now in
    let bytes = c.args.read.items in
    let gives = subst (λ v. Gives old (g.S.Source.state v) bytes) (sym c.in-Ok.ensures.list.0) read.5 in
    let does = subst (λ b. DoesList (task s.replica s.note.now s.keys s.keep_going c.args.register) b c.args.register c.in-Ok.made.register c.in-Ok.made.lines.items c.done.new.self.refused.items) c.deref.ensures.value c.in-Ok.ensures.made in
    done_as first.replica s.replica first.note.now s.note.now first.keys s.keys first.keep_going s.keep_going read.0 read.1 read.2 read.3
    old (g.S.Source.state c.done.new.self.list.now) bytes c.args.register c.in-Ok.made.register c.in-Ok.made.lines.items c.done.new.self.refused.items gives does

pub returns-in-Err-clause-refuses : goal.returns-in-Err-clause-refuses
returns-in-Err-clause-refuses g c = λ first was read.
    let s = c.args.self.now in
    let old = g.S.Source.state first.list.now in
    let bytes = c.args.read.items in
    let gives = subst (λ v. Gives old (g.S.Source.state v) bytes) (sym c.in-Err.ensures.list.0) read.5 in
    let cannot = subst (λ b. CannotDoList (task s.replica s.note.now s.keys s.keep_going c.args.register) b c.args.register s.refused.items c.done.new.self.refused.items c.in-Err.fault) c.deref.ensures.value c.in-Err.ensures.fault in
    refused_as first.replica s.replica first.note.now s.note.now first.keys s.keys first.keep_going s.keep_going read.0 read.1 read.2 read.3
    c.args._next old (g.S.Source.state c.done.new.self.list.now) bytes c.args.register first.refused.items s.refused.items c.done.new.self.refused.items c.in-Err.fault gives read.4 cannot
