use Rattle.std.proofs.Common.{◌≡◌, ◌∷◌, None, Some, true, false, refl, rules}
use Rattle.std.proofs.Math.Logic.{∥∥₁_map}
use Rattle.byte_system.specs.Disk.{Finds}
use Rattle.byte_system.specs.Entries.{name_from}
use Rattle.byte_system.proofs.FilesLemmas.{shown, found, found_none}
use Rattle.byte_system.proofs.files.Files.look.Goals as goal

pub invariant_of-self : goal.invariant_of-self
invariant_of-self c =
    let f = c.args.self.now in
    let e : c.then-self.result.events ≡ record { by = c.args.by; call = Finds c.args.path.now false } ∷ f.trail.events = search rules in
    let none : name_from None f.names.items c.args.path.now ≡ None = search rules in
    record { shows = ∥∥₁_map f.shows (λ s. shown _ _ _ _ _ _ _ _ _ _ refl refl refl refl e (found_none f.names.items f.held.items f.locks.items f.count f.trail.events s c.args.by c.args.path.now none)) }

pub invariant_of-self-2 : goal.invariant_of-self-2
invariant_of-self-2 c =
    let f = c.args.self.now in
    let e : c.then-self-2.result.events ≡ record { by = c.args.by; call = Finds c.args.path.now true } ∷ f.trail.events = search rules in
    let there : name_from None f.names.items c.args.path.now ≡ Some c.in-Some.field-0 = search rules in
    record { shows = ∥∥₁_map f.shows (λ s. shown _ _ _ _ _ _ _ _ _ _ refl refl refl refl e (found f.names.items f.held.items f.locks.items f.count f.trail.events s c.args.by c.args.path.now c.in-Some.field-0 there)) }
