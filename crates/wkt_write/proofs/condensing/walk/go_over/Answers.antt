use Rattle.wkt_write.proofs.Keeping.{kept_on, left_on, respelled_on, ended}
use Rattle.wkt_write.proofs.condensing.walk.go_over.Goals as goal

pub loop-at-preserved-in-Some : goal.loop-at-preserved-in-Some
loop-at-preserved-in-Some c =
    respelled_on c.args.text.now c.loop-at.condensed.items c.loop-at.from c.loop-at.at c.loop-at.shut c.split_at.result.1.now c.split_at-in-Some.result.0.now c.in-Some.digits c.copy.new.condensed.items c.respell.new.condensed.items
    c.loop-at.invariant c.split_at.ensures.back c.in-Some.ensures c.split_at-in-Some.ensures.front (c.copy.ensures c.if-not-copy.false) (c.respell.ensures c.if-not-respell.false)

pub loop-at-preserved-then-piece : goal.loop-at-preserved-then-piece
loop-at-preserved-then-piece c =
    kept_on c.args.text.now c.loop-at.condensed.items c.loop-at.from c.loop-at.at c.loop-at.shut c.split_at.result.1.now c.in_ok-piece.piece c.loop-at.invariant c.split_at.ensures.back c.in_ok-piece.ensures c.if-piece.true

pub loop-at-preserved : goal.loop-at-preserved
loop-at-preserved c =
    left_on c.args.text.now c.loop-at.condensed.items c.loop-at.from c.loop-at.at c.loop-at.shut c.split_at.result.1.now c.in_ok-piece.piece c.copy-else-piece.new.condensed.items c.loop-at.invariant c.split_at.ensures.back c.in_ok-piece.ensures c.if-piece.false (c.copy-else-piece.ensures c.if-not-copy-2.false)

pub returns-then-copy : goal.returns-then-copy
returns-then-copy c =
    ended c.args.text.now c.loop-at.condensed.items c.loop-at.from c.loop-at.at c.loop-at.shut c.copy-2.new.condensed.items c.loop-at.invariant c.loop-at-test.false (c.copy-2.ensures c.if-copy.true)
