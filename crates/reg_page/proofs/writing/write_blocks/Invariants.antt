use Rattle.std.proofs.Common.{◌++◌, ℕ, List, drop}
use Rattle.byte_io.specs.Device.{SinkState}
use Rattle.reg_page.specs.Blocks.{setting, bytes_of}
use Rattle.reg_page.specs.Writing.{IsUnderWay}
use Rattle.reg_page.proofs.writing.write_blocks.Given as goal

abbrev pub invariant-loop-i : goal.invariant-loop-i
invariant-loop-i g l =
    let m = setting l.names l.register.ops l.described l.acts in
    (first : SinkState) (text tail : List ℕ) → IsUnderWay first text (g.K.Sink.state l.initial.sink) l.initial.waiting.items (bytes_of m l.blocks ++ tail) l.fn.written
    → IsUnderWay first text (g.K.Sink.state l.sink) l.waiting.items (bytes_of m (drop l.i l.blocks) ++ tail) l.done
