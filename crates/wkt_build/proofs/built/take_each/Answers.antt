use Rattle.std.proofs.Common.{◌≡◌, ◌++◌, ◌∷◌, [], true, false, length, sym, ap, ◌∙◌, arith}
use Rattle.wkt_build.specs.Reads.{comes}
use Rattle.wkt_build.proofs.Steps.{taken_more, taken_all, shorter_by_one, made_behind}
use Rattle.wkt_build.proofs.built.take_each.Goals as goal

pub loop-alloc-preserved : goal.loop-alloc-preserved
loop-alloc-preserved g c =
    let came : comes g.N.Built.slot_kind c.loop-alloc.cursor ≡ true = ap (λ k. comes k c.loop-alloc.cursor) (sym c.kind.ensures) ∙ (sym c.comes.ensures ∙ c.loop-alloc-test.true) in
    record {
      takes_on = taken_more g.N.Built.slot_kind g.N.Built.Denotes c.args.cursor.now c.loop-alloc.cursor c.build.new.cursor c.loop-alloc.items c.push.new.self c.in_ok-item.item c.loop-alloc.invariant.takes_on came (made_behind g.N.Built.slot_kind g.N.Built.Denotes c.loop-alloc.cursor c.advance.new.self c.build.new.cursor c.in_ok-item.item c.advance.ensures c.in_ok-item.ensures.builds) (c.in_ok-push.ensures.ok ∙ ap (λ l. l ++ c.in_ok-item.item ∷ []) c.in_ok-items.ensures);
      shorter = let a = shorter_by_one g.N.Built.slot_kind c.loop-alloc.cursor came in let n = ap length c.advance.ensures in omega (arith, a, n, c.build.ensures.shorter, c.loop-alloc.invariant.shorter);
    }

pub returns-clause-builds : goal.returns-clause-builds
returns-clause-builds g c = λ run end f b o n.
    let gone : comes g.N.Built.slot_kind c.loop-alloc.cursor ≡ false = ap (λ k. comes k c.loop-alloc.cursor) (sym c.kind.ensures) ∙ (sym c.comes.ensures ∙ c.loop-alloc-test.false) in
    taken_all g.N.Built.slot_kind g.N.Built.Denotes c.args.cursor.now c.loop-alloc.cursor c.loop-alloc.items c.loop-alloc.invariant.takes_on gone run end f b o n
