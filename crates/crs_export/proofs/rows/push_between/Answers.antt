use Rattle.crs_export.proofs.JoinLemmas.{five}
use Rattle.crs_export.proofs.rows.push_between.Goals as goal

pub returns : goal.returns
returns c =
    five c.args.text.now.items _ _ _ _ _ c.extend_from_slice.new.self.items c.push_field.new.text.items c.push_field-2.new.text.items c.push_field-3.new.text.items c.extend_from_slice-2.new.self.items c.in_ok-extend_from_slice.ensures.items
    c.in_ok-push_field.ensures c.in_ok-push_field-2.ensures c.in_ok-push_field-3.ensures c.in_ok-extend_from_slice-2.ensures.items
