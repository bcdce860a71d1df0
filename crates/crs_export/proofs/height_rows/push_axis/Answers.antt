use Rattle.crs_export.proofs.JoinLemmas.{five}
use Rattle.crs_export.proofs.height_rows.push_axis.Goals as goal

pub returns : goal.returns
returns c =
    five c.args.text.now.items _ _ _ _ _ c.push_field.new.text.items c.push_field-2.new.text.items c.push_field-3.new.text.items c.push_field-4.new.text.items c.push_owner_end.new.text.items c.in_ok-push_field.ensures
    c.in_ok-push_field-2.ensures c.in_ok-push_field-3.ensures c.in_ok-push_field-4.ensures c.in_ok-push_owner_end.ensures
