use Rattle.std.proofs.Common.{sym, subst, ◌∙◌}
use Rattle.wkt_crs.specs.Passing.{PassesItem}
use Rattle.wkt_crs.proofs.Passes.{node_goes_at, leaf_goes_at, goes_first, goes_more, shorter_more}
use Rattle.wkt_crs.proofs.places.+pass.Goals as goal
use Rattle.wkt_crs.proofs.places.+pass.Goals.{pass_item-else-named-via-then-named+else-next_is_open, pass_item-else-named-via-else-named}

pub pass_item-returns-then-next_is_open-clause-passes : goal.pass_item-returns-then-next_is_open-clause-passes
pass_item-returns-then-next_is_open-clause-passes t c =
    node_goes_at c.args.cursor.now c.advance.new.self c.advance-then-next_is_open.new.self c.pass_items.new.cursor c.next_is_word-named.result c.next_is_open.result
    c.next_is_word-named.ensures c.advance.ensures c.if-named.true c.next_is_open.ensures c.if-next_is_open.true c.advance-then-next_is_open.ensures c.pass_items.ensures.passes

pub pass_item-returns-else-named-clause-passes : goal.pass_item-returns-else-named-clause-passes
pass_item-returns-else-named-clause-passes t c =
    leaf_goes_at c.args.cursor.now c.advance.new.self c.advance.ensures
    (λ w. elim c.else-named.branch [
      | pass_item-else-named-via-then-named+else-next_is_open w2 ↦ sym w2.next_is_open.ensures ∙ w2.if-next_is_open.false
      | pass_item-else-named-via-else-named w2 ↦ let f = w2.if-named.false in let e = c.next_is_word-named.ensures in absurd cc
    ])

pub pass_items-loop-cursor-init : goal.pass_items-loop-cursor-init
pass_items-loop-cursor-init t c = record { shorter = c.pass_item.ensures.shorter; goes = goes_first c.args.cursor.now c.pass_item.new.cursor c.pass_item.ensures.passes }

pub pass_items-loop-cursor-preserved : goal.pass_items-loop-cursor-preserved
pass_items-loop-cursor-preserved t c = record {
  shorter = shorter_more c.pass_item-in-loop-cursor.new.cursor c.advance.new.self c.loop-cursor.cursor _ c.pass_item-in-loop-cursor.ensures.shorter c.advance.ensures c.loop-cursor.invariant.shorter;
  goes = goes_more c.args.cursor.now c.loop-cursor.cursor c.pass_item-in-loop-cursor.new.cursor c.loop-cursor.invariant.goes (sym c.next_is_comma.ensures ∙ c.loop-cursor-test.true)
      (subst (λ l. PassesItem l c.pass_item-in-loop-cursor.new.cursor) c.advance.ensures c.pass_item-in-loop-cursor.ensures.passes);
}
