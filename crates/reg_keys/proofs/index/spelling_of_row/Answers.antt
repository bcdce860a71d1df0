use Rattle.std.proofs.Common.{refl, sym}
use Rattle.reg_report.specs.Conflicts.{bytes_of}
use Rattle.reg_keys.proofs.index.spelling_of_row.Goals as goal

pub returns : goal.returns
returns c = (bytes_of c.key-key.result.now, (c.key-key.result.now, c.key-key.ensures, refl), sym c.in_ok-spelling.ensures)
