use Rattle.std.proofs.Common.{map}
use Rattle.reg_texts.specs.Said.{said}
use Rattle.reg_texts.proofs.key_lines.said_of.Goals as goal

pub returns : goal.returns
returns c = (map said c.in_ok-made.made.items, c.in_ok-made.ensures, c.in_order.ensures)
