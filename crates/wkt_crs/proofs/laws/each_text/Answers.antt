use Rattle.wkt_crs.proofs.EachText.{text_verdict, slot_verdict, outline_verdict}
use Rattle.wkt_crs.proofs.laws.each_text.Goals as goal

pub returns-in_default : goal.returns-in_default
returns-in_default c = text_verdict c.args.text.now c.in_default.field-0 c.in_default.ensures.err

pub returns-in-Err : goal.returns-in-Err
returns-in-Err c = slot_verdict c.args.text.now c.in-Ok.outline c.in-Err.field-0 c.in-Ok.ensures.ok.0 c.in-Ok.ensures.ok.1 c.in-Err.ensures.err

pub returns : goal.returns
returns c = outline_verdict c.args.text.now c.in-Ok.outline c.in-Ok.ensures.ok.0 c.in-Ok.ensures.ok.1 c.in_default-check_slots.ensures.ok
