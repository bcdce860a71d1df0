use Rattle.std.proofs.lemmas.List.{nil_from_length}
use Rattle.reg_page.specs.Blocks.{bytes_of}
use Rattle.reg_page.proofs.EventLemmas.{no_pairs}
use Rattle.reg_page.proofs.contested.list_pairs.Goals as goal

pub returns-in_default : goal.returns-in_default
returns-in_default c = λ m. no_pairs m.named c.args.described.now c.args.entries.now (bytes_of m c.args.blocks.now.items) (nil_from_length _ c.in_default.ensures.cases)
