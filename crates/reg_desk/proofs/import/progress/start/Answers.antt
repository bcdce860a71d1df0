use Rattle.std.proofs.Common.{refl}
use Rattle.reg_desk.specs.Import.{listing_of}
use Rattle.reg_desk.proofs.ProgressLemmas.{none_come}
use Rattle.reg_desk.proofs.import.progress.start.Goals as goal

pub returns-clause-come : goal.returns-clause-come
returns-clause-come c = λ files. none_come c.args.options.now c.args.register.now files _ c.in_ok-importing.ensures (c.in_ok-lines.ensures (listing_of c.args.options.now)) refl c.new-notes.ensures.items
