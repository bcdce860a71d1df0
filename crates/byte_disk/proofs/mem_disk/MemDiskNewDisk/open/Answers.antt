use Rattle.std.proofs.Common.{◌<◌, ℕ, [], IsTrue, arith, sym, ap, ◌∙◌, subst, List}
use Rattle.byte_io.specs.declared.tally.Tally.{Tally}
use Rattle.byte_disk.specs.Record.{IsWhole, HasBegun, are_before}
use Rattle.byte_disk.specs.declared.span.Past.{Past}
use Rattle.byte_disk.proofs.RecordLemmas.{at_ok, at_err}
use Rattle.byte_disk.proofs.SpanLemmas.{ordered_later, ordered_begun, begun_whole, elapses_begun}
use Rattle.byte_disk.proofs.mem_disk.MemDiskNewDisk.open.Goals as goal

pub invariant_of-self-clause-ordered : goal.invariant_of-self-clause-ordered
invariant_of-self-clause-ordered c =
    let later : c.args.self.now.clock.count < c.replace-before.new.dest.count = omega (arith, ap (λ (t : Tally). t.count) c.replace-before.ensures.after, c.after-now.ensures) in
    ordered_later c.args.self.now.past.items c.args.self.now.clock.count c.replace-before.new.dest.count (omega (arith, later)) c.args.self.now.ordered

pub invariant_of-self-then-is_err-clause-ordered : goal.invariant_of-self-then-is_err-clause-ordered
invariant_of-self-then-is_err-clause-ordered c =
    let later : c.args.self.now.clock.count < c.replace-before.new.dest.count = omega (arith, ap (λ (t : Tally). t.count) c.replace-before.ensures.after, c.after-now.ensures) in
    let same = at_err c.begin-begun.result (sym c.is_err.ensures.value ∙ c.if-is_err.true) c.begin-begun.ensures.err in
    subst (λ (past : List Past). IsTrue (are_before past c.replace-before.new.dest.count)) (sym same.1)
    (ordered_later c.args.self.now.past.items c.args.self.now.clock.count c.replace-before.new.dest.count (omega (arith, later)) c.args.self.now.ordered)

pub invariant_of-self-2-clause-ordered : goal.invariant_of-self-2-clause-ordered
invariant_of-self-2-clause-ordered c =
    let ended = at_ok c.begin-begun.result (sym c.is_err.ensures.value ∙ c.if-is_err.false) c.begin-begun.ensures.ok in
    let begun : HasBegun [] c.args.self.now.clock.count c.args.self.now.span c.begin-begun.new.span c.args.self.now.past.items c.begin-begun.new.past.items = subst (λ (t : Tally). HasBegun [] t.count c.args.self.now.span c.begin-begun.new.span c.args.self.now.past.items c.begin-begun.new.past.items) c.replace-before.ensures.value ended in
    let later : c.args.self.now.clock.count < c.replace-before.new.dest.count = omega (arith, ap (λ (t : Tally). t.count) c.replace-before.ensures.after, c.after-now.ensures) in
    ordered_begun [] c.args.self.now.clock.count c.replace-before.new.dest.count c.args.self.now.span c.begin-begun.new.span c.args.self.now.past.items c.begin-begun.new.past.items begun later c.args.self.now.ordered

pub invariant_of-self-2-clause-whole : goal.invariant_of-self-2-clause-whole
invariant_of-self-2-clause-whole c =
    let ended = at_ok c.begin-begun.result (sym c.is_err.ensures.value ∙ c.if-is_err.false) c.begin-begun.ensures.ok in
    let begun : HasBegun [] c.args.self.now.clock.count c.args.self.now.span c.begin-begun.new.span c.args.self.now.past.items c.begin-begun.new.past.items = subst (λ (t : Tally). HasBegun [] t.count c.args.self.now.span c.begin-begun.new.span c.args.self.now.past.items c.begin-begun.new.past.items) c.replace-before.ensures.value ended in
    subst (λ (bytes : List ℕ). IsWhole bytes c.begin-begun.new.span) (sym c.clear.ensures.items) (begun_whole [] c.args.self.now.clock.count c.replace-before.new.dest.count c.args.self.now.span c.begin-begun.new.span c.args.self.now.past.items c.begin-begun.new.past.items begun)

pub returns-clause-time : goal.returns-clause-time
returns-clause-time c = λ _.
    let ended = at_ok c.begin-begun.result (sym c.is_err.ensures.value ∙ c.if-is_err.false) c.begin-begun.ensures.ok in
    let begun : HasBegun [] c.args.self.now.clock.count c.args.self.now.span c.begin-begun.new.span c.args.self.now.past.items c.begin-begun.new.past.items = subst (λ (t : Tally). HasBegun [] t.count c.args.self.now.span c.begin-begun.new.span c.args.self.now.past.items c.begin-begun.new.past.items) c.replace-before.ensures.value ended in
    let later : c.args.self.now.clock.count < c.replace-before.new.dest.count = omega (arith, ap (λ (t : Tally). t.count) c.replace-before.ensures.after, c.after-now.ensures) in
    elapses_begun [] c.args.self.now.clock.count c.replace-before.new.dest.count c.args.self.now.span c.begin-begun.new.span c.args.self.now.past.items c.begin-begun.new.past.items begun later
