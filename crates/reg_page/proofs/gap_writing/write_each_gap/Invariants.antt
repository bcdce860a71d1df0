use Rattle.std.proofs.Common.{◌++◌, ℕ, List, None, length}
use Rattle.byte_io.specs.Device.{SinkState}
use Rattle.html_page.specs.Pieces.{html}
use Rattle.reg_report.specs.Between.{gaps_between}
use Rattle.reg_page.specs.Blocks.{gap_pieces}
use Rattle.reg_page.specs.Page.{named}
use Rattle.reg_page.specs.Writing.{IsUnderWay}
use Rattle.reg_page.proofs.gap_writing.write_each_gap.Given as goal

abbrev pub invariant-loop-one : goal.invariant-loop-one
invariant-loop-one g l = (first : SinkState) (text tail : List ℕ)
    → IsUnderWay first text (g.K.Sink.state l.initial.sink) l.initial.waiting.items (html (gap_pieces (named l.names) (gaps_between None l.runs)) ++ tail) l.fn.written
    → IsUnderWay first text (g.K.Sink.state l.sink) l.waiting.items (html (gap_pieces (named l.names) (gaps_between l.before l.rest)) ++ tail) l.done

abbrev pub decreases-loop-one : goal.decreases-loop-one
decreases-loop-one g l = length l.rest
