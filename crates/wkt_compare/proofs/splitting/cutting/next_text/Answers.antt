use Rattle.std.proofs.Common.{◌<◌, length, arith}
use Rattle.std.proofs.lemmas.Grind.{common_steps}
use Rattle.wkt_compare.proofs.Nexts.{next_is}
use Rattle.wkt_compare.proofs.splitting.cutting.next_text.Goals as goal

pub returns-clause-some : goal.returns-clause-some
returns-clause-some c =
    let b = c.blank_len-blanks in
    let some : 0 < length c.split_at.result.1.now = grind (arith, common_steps) in
    let text = c.split_at-2 in
    next_is c.args.place b.result c.text_len.result c.args.bytes.now c.split_at.result.1.now text.result.0.now text.result.1.now
    b.ensures.within b.ensures.blank b.ensures.stops c.split_at.ensures.back some c.text_len.ensures text.ensures.front text.ensures.back
