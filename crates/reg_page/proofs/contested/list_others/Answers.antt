use Rattle.std.proofs.Common.{refl}
use Rattle.std.proofs.lemmas.List.{nil_from_length}
use Rattle.reg_page.specs.Blocks.{bytes_of}
use Rattle.reg_page.proofs.PartLemmas.{pair_step, pairs_done}
use Rattle.reg_page.proofs.contested.list_others.Goals as goal

pub loop-second-init : goal.loop-second-init
loop-second-init c = λ m. refl

pub loop-second-preserved : goal.loop-second-preserved
loop-second-preserved c = λ m.
    pair_step m.named c.args.described.now c.loop-second.last c.in-Some.second.now c.in-Some.later.now c.loop-second.rest.now (bytes_of m c.loop-second.blocks.items) (bytes_of m c.list_pair.new.blocks.items) _
    c.in-Some.ensures.cases.0 (c.in_ok-list_pair.ensures m) (c.loop-second.invariant m)

pub returns : goal.returns
returns c = λ m.
    pairs_done m.named c.args.described.now c.loop-second.last c.loop-second.rest.now (bytes_of m c.args.blocks.now.items) (bytes_of m c.loop-second.blocks.items) _ (c.loop-second.invariant m)
    (nil_from_length _ c.in_default.ensures.cases)
