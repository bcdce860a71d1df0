use Rattle.std.proofs.Common.{◌<◌, ◌+◌, ◌-◌, ℕ, List, Bool, IsTrue, length, take, drop, sym, ap, ◌∙◌, subst, arith}
use Rattle.byte_shelf.specs.declared.fault.ShelfFault.TheVariants.{NotShelf}
use Rattle.byte_shelf.proofs.Outcomes.{err_at}
use Rattle.byte_shelf.proofs.Slots.{slot_stands, no_room, no_rest}
use Rattle.byte_shelf.proofs.restoring.read_slot.Goals as goal

pub returns-in-Err-clause-not_shelf : goal.returns-in-Err-clause-not_shelf
returns-in-Err-clause-not_shelf g c = λ told is bytes le stands. no_room (g.D.Disk.seen c.args.disk.now) bytes c.args.at (c.in-Err.ensures.short told (err_at c.in-Err.fault NotShelf is)) stands

pub returns-in-Ok-read_bytes-clause-bytes : goal.returns-in-Ok-read_bytes-clause-bytes
returns-in-Ok-read_bytes-clause-bytes g c = λ told.
    let told' = subst (λ (b : Bool). IsTrue b) (sym c.read_length.ensures.tells) told in
    let same = (c.read_length.ensures.nothing told).same in
    slot_stands (g.D.Disk.seen c.args.disk.now) c.in-Ok-read_bytes.bytes.items c.args.at c.in-Ok.len (c.in-Ok.ensures.length told) c.in-Ok-read_bytes.ensures.len
    (c.in-Ok-read_bytes.ensures.bytes told' ∙ ap (λ (s : List ℕ). take c.in-Ok.len (drop (c.args.at + 4) s)) same)

pub returns-in-Err-read_bytes-clause-not_shelf : goal.returns-in-Err-read_bytes-clause-not_shelf
returns-in-Err-read_bytes-clause-not_shelf g c = λ told is bytes le stands.
    let told' = subst (λ (b : Bool). IsTrue b) (sym c.read_length.ensures.tells) told in
    let same = (c.read_length.ensures.nothing told).same in
    let short = subst (λ (s : List ℕ). length s - (c.args.at + 4) < c.in-Ok.len) same (c.in-Err-read_bytes.ensures.short told' is) in
    no_rest (g.D.Disk.seen c.args.disk.now) bytes c.args.at c.in-Ok.len (omega (arith, c.if-len-size.false, c.ranges.size.fits)) (omega (arith, le, c.ranges.size.fits)) (c.in-Ok.ensures.length told) short stands
