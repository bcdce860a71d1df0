use Rattle.crs_export.proofs.JoinLemmas.{five}
use Rattle.crs_export.proofs.geometry.push_cut.Goals as goal

pub returns : goal.returns
returns c =
    five c.args.text.now.items _ _ _ _ _ c.extend_from_slice.new.self.items c.push_west.new.text.items c.push_between.new.text.items c.push_east.new.text.items c.push.new.self.items c.in_ok-extend_from_slice.ensures.items
    c.in_ok-push_west.ensures c.in_ok-push_between.ensures c.in_ok-push_east.ensures c.in_ok-push.ensures.items
