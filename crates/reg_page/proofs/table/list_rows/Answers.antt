use Rattle.std.proofs.Common.{map, take, ap, ◌∙◌}
use Rattle.std.specs.Borrow.{Bor}
use Rattle.std.specs.List.{flat_map}
use Rattle.std.proofs.lemmas.List.{take_all}
use Rattle.html_page.proofs.JoinLemmas.{nothing}
use Rattle.html_page.specs.Templates.{entry}
use Rattle.reg_page.specs.declared.described.Described.{Described}
use Rattle.reg_page.specs.Blocks.{bytes_of}
use Rattle.reg_page.specs.Descriptions.{at}
use Rattle.reg_report.specs.Contenders.{conflict_seen}
use Rattle.reg_page.specs.Page.{entry_of, row_of}
use Rattle.reg_page.proofs.BlockLemmas.{listed}
use Rattle.reg_page.proofs.LoopLemmas.{as_others, one_more}
use Rattle.reg_page.proofs.table.list_rows.Goals as goal
use Rattle.reg_lint.proofs.VoiceLemmas.{map_twice}

pub loop-i-init : goal.loop-i-init
loop-i-init c = λ m. nothing (bytes_of m c.args.blocks.now.items)

pub loop-i-preserved : goal.loop-i-preserved
loop-i-preserved c = λ m.
    let x = c.index-rows-i.result in
    let row = row_of m.ops m.described m.acts (map conflict_seen c.args.conflicts.now) (at c.args.told.now) in
    one_more (entry m.named) (λ (t : Bor Described). row t.now) c.args.rows.now c.loop-i.i x c.loop-i-test.true c.index-rows-i.is (c.loop-i.invariant m)
    (as_others _ (entry m.named (row x.now))
    (c.block_of.ensures m ∙ (λ j. entry m.named (entry_of m.ops m.described m.acts (c.same_text-same.ensures j) (c.is_in_conflict-contested.ensures j) x.now)))
    (listed m c.loop-i.blocks.items c.push.new.self.items _ c.in_ok-push.ensures.items))

pub returns : goal.returns
returns c = λ m.
    let row = row_of m.ops m.described m.acts (map conflict_seen c.args.conflicts.now) (at c.args.told.now) in
    let rows = c.args.rows.now in
    let each = λ (t : Bor Described). row t.now in
    as_others (flat_map (entry m.named) (map each (take c.loop-i.i rows))) (flat_map (entry m.named) (map row (at rows)))
    (ap (λ l. flat_map (entry m.named) (map each l)) (take_all c.loop-i.i rows c.loop-i-test.false) ∙ ap (flat_map (entry m.named)) (map_twice row (λ (t : Bor Described). t.now) rows)) (c.loop-i.invariant m)
