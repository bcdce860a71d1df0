use Rattle.std.proofs.Common.{◌++◌, None}
use Rattle.html_page.specs.Pieces.{html}
use Rattle.reg_report.specs.Between.{gaps_between}
use Rattle.reg_page.specs.Blocks.{setting, bytes_of, gap_section}
use Rattle.reg_page.specs.Page.{named}
use Rattle.reg_page.proofs.WritingLemmas.{begins}
use Rattle.reg_page.proofs.writing.write_front.Goals as goal

pub returns-in-Err-clause-fault : goal.returns-in-Err-clause-fault
returns-in-Err-clause-fault g c = λ rest.
    let waiting = c.args.waiting.now.items in
    let later = html (gap_section (named c.args.names.now) (gaps_between None c.args.runs.now)) ++ rest in
    let all = bytes_of (setting c.args.names.now c.args.register.now.ops c.args.described.now c.args.acts.now) c.args.blocks.now ++ later in
    let first = g.K.Sink.state c.args.sink.now in
    c.in-Err.ensures.fault first (waiting ++ all) later (begins first waiting all)

pub returns-in-Ok-write_gaps-clause-passed : goal.returns-in-Ok-write_gaps-clause-passed
returns-in-Ok-write_gaps-clause-passed g c = λ rest.
    let waiting = c.args.waiting.now.items in
    let later = html (gap_section (named c.args.names.now) (gaps_between None c.args.runs.now)) ++ rest in
    let all = bytes_of (setting c.args.names.now c.args.register.now.ops c.args.described.now c.args.acts.now) c.args.blocks.now ++ later in
    let first = g.K.Sink.state c.args.sink.now in
    c.in-Ok-write_gaps.ensures.passed first (waiting ++ all) rest (c.in-Ok.ensures.passed first (waiting ++ all) later (begins first waiting all))

pub returns-in-Err-write_gaps-clause-fault : goal.returns-in-Err-write_gaps-clause-fault
returns-in-Err-write_gaps-clause-fault g c = λ rest.
    let waiting = c.args.waiting.now.items in
    let later = html (gap_section (named c.args.names.now) (gaps_between None c.args.runs.now)) ++ rest in
    let all = bytes_of (setting c.args.names.now c.args.register.now.ops c.args.described.now c.args.acts.now) c.args.blocks.now ++ later in
    let first = g.K.Sink.state c.args.sink.now in
    c.in-Err-write_gaps.ensures.fault first (waiting ++ all) rest (c.in-Ok.ensures.passed first (waiting ++ all) later (begins first waiting all))
