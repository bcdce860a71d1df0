use Rattle.std.proofs.lemmas.List.{nil_from_length}
use Rattle.html_page.proofs.JoinLemmas.{leads_init, leads_more}
use Rattle.reg_page.proofs.LoopLemmas.{as_others, mapped}
use Rattle.html_page.specs.Templates.{map_of}
use Rattle.reg_page.specs.declared.boxes.Edges.{Edges}
use Rattle.reg_page.specs.Boxes.{box_seen}
use Rattle.reg_page.proofs.entries.push_maps.Goals as goal

pub loop-one-init : goal.loop-one-init
loop-one-init c = leads_init (λ (e : Edges). map_of (box_seen e)) c.args.page.now.items c.args.boxes.now

pub loop-one-preserved : goal.loop-one-preserved
loop-one-preserved c =
    leads_more {x = c.in-Some.one.now} c.loop-one.invariant c.in-Some.ensures.cases.0
    (as_others _ (map_of (box_seen c.in-Some.one.now))
    (λ j. map_of (record { south = c.deref.ensures.value j; west = c.deref-in-Some.ensures.value j; north = c.deref-in-Some-2.ensures.value j; east = c.deref-in-Some-3.ensures.value j; crosses = c.in-Some.one.now.crosses }))
    c.in_ok-push_map.ensures)

pub returns : goal.returns
returns c = mapped map_of box_seen c.args.page.now.items c.args.boxes.now c.loop-one.invariant (nil_from_length _ c.in_default.ensures.cases)
