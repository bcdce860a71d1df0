-- Stores with an office file, which is file 1.
use Rattle.std.specs.Prelude.{◌≡◌, List, ℕ, Option}
use Rattle.byte_io.specs.Device.{SourceState}
use Rattle.byte_out.specs.Place.{PlaceState}
use Rattle.reg_op.specs.Contents.{Content}
use Rattle.reg_file.specs.Files.{Finds}
use Rattle.reg_office.specs.Making.{greatest}
use Rattle.reg_journal.specs.Journal.{Journal}
use Rattle.reg_journal.specs.Adding.{left_by}
use Rattle.reg_engine.specs.Inputs.{IsUnread}
use Rattle.reg_engine.specs.Shelf.{Disks, Has, IsSure, StaysOn, IsUnrestored}
use Rattle.reg_engine.specs.Store.{Around}
use Rattle.reg_guard.specs.Keeping.{PublishesAfter, IsUnpublishedAfter, KeepsAfter, IsUnkeptAfter}

-- the store knows the greatest number of the office that the register has seen
abbrev pub Knows : Journal → ℕ → Content → Type 0
Knows f stood x = stood ≡ greatest f.replica x.seen

-- a register's file, which is file 2, and the place of the next one. Before that gets its name, the office file gets what the
-- command made
abbrev pub guarded_file : Journal → ℕ → SourceState → PlaceState → PlaceState → SourceState → Option (List ℕ) → PlaceState → PlaceState → Around
guarded_file f stood source place office next read after noted = record {
  came = λ x. Finds source next x × Knows f stood x × (after ≡ place) × (noted ≡ office);
  none = λ g. IsUnread 2 source next g × (after ≡ place) × (noted ≡ office);
  left = λ x y. Finds source next x × PublishesAfter f (left_by f x y) y read place after office noted;
  unleft = λ x y g. Finds source next x × IsUnpublishedAfter f (left_by f x y) y read place after office noted g;
}

-- a shelf, which is changed after the office file
abbrev pub guarded_shelf : Journal → ℕ → {D : Type 0} → Disks D → D → PlaceState → D → PlaceState → Around
guarded_shelf f stood d old office new noted = record {
  came = λ x. (Has d old x × StaysOn d old new × IsSure d new) × Knows f stood x × (noted ≡ office);
  none = λ g. IsUnrestored d old new g × (noted ≡ office);
  left = λ x y. Has d old x × KeepsAfter d f (left_by f x y) x y old new office noted;
  unleft = λ x y g. Has d old x × IsUnkeptAfter d f (left_by f x y) x y old new office noted g;
}

-- a register's file, which is file 2 and is only read
abbrev pub tried_file : SourceState → SourceState → Around
tried_file source next = record {
  came = λ x. Finds source next x;
  none = λ g. IsUnread 2 source next g;
  left = λ x y. ⊥;
  unleft = λ x y g. ⊥;
}
