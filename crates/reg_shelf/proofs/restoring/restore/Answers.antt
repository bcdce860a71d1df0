use Rattle.std.proofs.Common.{List, ℕ, sym, subst}
use Rattle.byte_shelf.specs.declared.fault.ShelfFault.TheVariants.{NotShelf}
use Rattle.reg_file.specs.Files.{ReadsAs}
use Rattle.reg_shelf.proofs.Contents.{shelf_of, none_by_slots, none_by_bytes}
use Rattle.reg_shelf.proofs.Outcomes.{err_at, restore_fault}
use Rattle.reg_shelf.proofs.restoring.restore.Goals as goal

pub returns-in-Err-clause-not_shelf : goal.returns-in-Err-clause-not_shelf
returns-in-Err-clause-not_shelf g c = λ told is. none_by_slots (g.D.Disk.seen c.args.disk.now) (c.in-Err.ensures.not_shelf told (err_at c.in-Err.fault NotShelf is))

pub returns-in-Ok-register_of-clause-found : goal.returns-in-Ok-register_of-clause-found
returns-in-Ok-register_of-clause-found g c = λ told.
    shelf_of (g.D.Disk.seen c.args.disk.now) c.in-Ok.bytes.items c.in-Ok-register_of.register (c.in-Ok.ensures.found told)
    (subst (λ (b : List ℕ). ReadsAs b c.in-Ok-register_of.register) c.deref.ensures.value c.in-Ok-register_of.ensures.held)

pub returns-clause-not_shelf : goal.returns-clause-not_shelf
returns-clause-not_shelf g c = λ told is.
    none_by_bytes (g.D.Disk.seen c.args.disk.now) c.in-Ok.bytes.items (c.in-Ok.ensures.found told)
    (λ x holds. c.in-Err-register_of.ensures.none is x (subst (λ (b : List ℕ). ReadsAs b x) (sym c.deref.ensures.value) holds))

pub returns-in-Err-clause-faults : goal.returns-in-Err-clause-faults
returns-in-Err-clause-faults g c = restore_fault c.in-Err.fault c.in-Err.ensures.faults
