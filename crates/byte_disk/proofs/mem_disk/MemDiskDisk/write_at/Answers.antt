use Rattle.std.proofs.Common.{arith}
use Rattle.byte_disk.proofs.RecordLemmas.{grown_follows, grown_stays}
use Rattle.byte_disk.proofs.SpanLemmas.{ordered_later, elapses_grown}
use Rattle.byte_disk.proofs.mem_disk.MemDiskDisk.write_at.Goals as goal

pub invariant_of-self-clause-ordered : goal.invariant_of-self-clause-ordered
invariant_of-self-clause-ordered c = ordered_later c.args.self.now.past.items c.args.self.now.clock.count c.after-self.result.count (omega (arith, c.after-self.ensures)) c.args.self.now.ordered

pub invariant_of-self-clause-whole : goal.invariant_of-self-clause-whole
invariant_of-self-clause-whole c = c.record_write-written.ensures.whole c.args.self.now.whole

pub invariant_of-self-else-is_err-clause-ordered : goal.invariant_of-self-else-is_err-clause-ordered
invariant_of-self-else-is_err-clause-ordered c = ordered_later c.args.self.now.past.items c.args.self.now.clock.count c.after-self.result.count (omega (arith, c.after-self.ensures)) c.args.self.now.ordered

pub invariant_of-self-else-is_err-clause-whole : goal.invariant_of-self-else-is_err-clause-whole
invariant_of-self-else-is_err-clause-whole c = c.record_write-written.ensures.whole c.args.self.now.whole

pub returns-then-is_err-clause-images : goal.returns-then-is_err-clause-images
returns-then-is_err-clause-images c = λ _. grown_follows _ _ _ _ c.record_write-written.ensures.grows

pub returns-then-is_err-clause-time : goal.returns-then-is_err-clause-time
returns-then-is_err-clause-time c = λ _. elapses_grown c.args.self.now.span c.record_write-written.new.span c.args.self.now.past.items c.args.self.now.clock.count c.after-self.result.count (omega (arith, c.after-self.ensures)) (grown_stays _ _ _ _ c.record_write-written.ensures.grows)

pub returns-clause-images : goal.returns-clause-images
returns-clause-images c = λ _. grown_follows _ _ _ _ c.record_write-written.ensures.grows

pub returns-clause-time : goal.returns-clause-time
returns-clause-time c = λ _. elapses_grown c.args.self.now.span c.record_write-written.new.span c.args.self.now.past.items c.args.self.now.clock.count c.after-self.result.count (omega (arith, c.after-self.ensures)) (grown_stays _ _ _ _ c.record_write-written.ensures.grows)
