use Rattle.crs_export.proofs.JoinLemmas.{five}
use Rattle.crs_export.proofs.height_rows.push_height.Goals as goal

pub returns : goal.returns
returns c =
    five c.args.text.now.items _ _ _ _ _ c.push_unit.new.text.items c.push_system.new.text.items c.push_axis.new.text.items c.push_frame.new.text.items c.push_vertical.new.text.items c.in_ok-push_unit.ensures
    c.in_ok-push_system.ensures c.in_ok-push_axis.ensures c.in_ok-push_frame.ensures c.in_ok-push_vertical.ensures
