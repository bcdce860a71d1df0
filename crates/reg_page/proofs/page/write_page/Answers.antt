use Rattle.std.proofs.Common.{◌++◌, List, ℕ, None, map, ap, subst, inr, ◌∙◌}
use Rattle.byte_io.specs.Whole.{WritesAll}
use Rattle.html_page.specs.Pieces.{html}
use Rattle.reg_report.specs.Between.{gaps_between}
use Rattle.reg_report.specs.Contenders.{conflict_seen}
use Rattle.reg_page.specs.Blocks.{setting, bytes_of, gap_section}
use Rattle.reg_page.specs.Page.{named}
use Rattle.reg_page.specs.Parts.{top}
use Rattle.reg_page.specs.Writing.{IsStopped}
use Rattle.reg_page.proofs.WholeLemmas.{is_whole}
use Rattle.reg_page.proofs.page.write_page.Goals as goal

pub returns-in-Ok-write_parts-clause-written : goal.returns-in-Ok-write_parts-clause-written
returns-in-Ok-write_parts-clause-written g c =
    let x = c.args.register.now in
    let ts = c.args.described.now in
    let acts = c.args.acts.now in
    let m = setting c.args.names.now x.ops ts acts in
    let gaps = gaps_between None c.args.runs.now in
    let made = c.in-Ok-last_blocks.ensures in
    let whole = is_whole (named c.args.names.now) x c.args.title.now ts made.0 acts (map conflict_seen c.args.conflicts.now) c.args.awaited.now gaps c.in-Ok-top_of.waiting.items (bytes_of m c.in-Ok.blocks.items) (bytes_of m c.in-Ok-last_blocks.later.items)
    c.requires.ascend made.1.same (c.in-Ok-top_of.ensures ∙ ap (λ f. html (top c.args.title.now f)) c.figures_of-figures.ensures) (c.in-Ok.ensures m) (made.2 m) in (
      made.0,
      made.1,
      subst (λ (l : List ℕ). WritesAll l (g.K.Sink.state c.args.sink.now) (g.K.Sink.state c.write_parts.new.sink))
          ((λ j. c.in-Ok-top_of.waiting.items ++ (bytes_of m (c.deref.ensures.value j) ++ (html (gap_section (named c.args.names.now) gaps) ++ bytes_of m (c.deref-2.ensures.value j)))) ∙ whole) c.in-Ok-write_parts.ensures.written,
    )

pub returns-clause-fault : goal.returns-clause-fault
returns-clause-fault g c =
    let x = c.args.register.now in
    let ts = c.args.described.now in
    let acts = c.args.acts.now in
    let m = setting c.args.names.now x.ops ts acts in
    let gaps = gaps_between None c.args.runs.now in
    let made = c.in-Ok-last_blocks.ensures in
    let whole = is_whole (named c.args.names.now) x c.args.title.now ts made.0 acts (map conflict_seen c.args.conflicts.now) c.args.awaited.now gaps c.in-Ok-top_of.waiting.items (bytes_of m c.in-Ok.blocks.items) (bytes_of m c.in-Ok-last_blocks.later.items)
    c.requires.ascend made.1.same (c.in-Ok-top_of.ensures ∙ ap (λ f. html (top c.args.title.now f)) c.figures_of-figures.ensures) (c.in-Ok.ensures m) (made.2 m) in
    inr (
      made.0,
      made.1,
      subst (λ (l : List ℕ). IsStopped l (g.K.Sink.state c.args.sink.now) (g.K.Sink.state c.write_parts.new.sink) c.in-Err-write_parts.fault)
          ((λ j. c.in-Ok-top_of.waiting.items ++ (bytes_of m (c.deref.ensures.value j) ++ (html (gap_section (named c.args.names.now) gaps) ++ bytes_of m (c.deref-2.ensures.value j)))) ∙ whole) c.in-Err-write_parts.ensures.fault,
    )
