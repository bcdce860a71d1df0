use Rattle.std.proofs.Common.{◌≡◌, ◌∷◌, None, Some, refl, rules}
use Rattle.std.proofs.Math.Logic.{∥∥₁_map}
use Rattle.byte_system.specs.Disk.{Likens}
use Rattle.byte_system.specs.Entries.{name_from}
use Rattle.byte_system.proofs.FilesLemmas.{shown, likened}
use Rattle.byte_system.proofs.files.Files.make_alike.Goals as goal

pub invariant_of-self : goal.invariant_of-self
invariant_of-self c =
    let f = c.args.self.now in
    let e : c.then-self.result.events ≡ record { by = c.args.by; call = Likens c.args.file c.args.path.now } ∷ f.trail.events = search rules in
    let there : name_from None f.names.items c.args.path.now ≡ Some c.in-Some.field-0 = search rules in
    record { shows = ∥∥₁_map f.shows (λ s. shown _ _ _ _ _ _ _ _ _ _ refl refl refl refl e (likened f.names.items f.held.items f.locks.items f.count f.trail.events s c.args.by c.args.file c.args.path.now c.in-Some.field-0 there)) }
