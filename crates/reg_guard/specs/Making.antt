-- A new office: its file, and the line with its UUID.
use Rattle.std.specs.Prelude.{◌≡◌, ◌⊎◌, ◌++◌, ◌∷◌, [], List, ℕ, None}
use Rattle.uuid.specs.Parts.{with_version, with_variant}
use Rattle.uuid.specs.declared.Variant.TheVariants as variant
use Rattle.uuid.specs.declared.Version.TheVariants as version
use Rattle.uuid.specs.Text.{hyphenated_text, lower}
use Rattle.byte_io.specs.Device.{SinkState}
use Rattle.byte_io.specs.Whole.{WritesAll}
use Rattle.byte_out.specs.Place.{PlaceState}
use Rattle.byte_out.specs.Replace.{Replaces, IsReplaceFault}
use Rattle.byte_out.specs.declared.fault.ReplaceFault.TheVariants as replaced
use Rattle.reg_journal.specs.Journal.{Journal, fresh}
use Rattle.reg_journal.specs.Text.{HoldsOffice}
use Rattle.reg_engine.specs.declared.fault.CliFault.{CliFault}
use Rattle.reg_engine.specs.declared.fault.CliFault.TheVariants as cli
use Rattle.reg_engine.specs.Fault.{is_after}
use Rattle.reg_engine.specs.Outputs.{IsUnpublishedOf}
use Rattle.reg_engine.specs.Store.{WritesIf, AreCut}

-- the office of a UUID of version 4 that has these random bytes. It made nothing
abbrev pub office_of : List ℕ → Journal
office_of random = fresh (with_version (with_variant random variant.RFC4122) version.Random)

-- the UUID in small letters, and a newline
abbrev pub uuid_line : Journal → List ℕ
uuid_line f = hyphenated_text lower f.replica ++ (10 ∷ [])

-- the office file was made, and then the UUID was written
abbrev pub IsFounded : Journal → PlaceState → PlaceState → SinkState → SinkState → Type 0
IsFounded f old new before after = ((text : List ℕ) × HoldsOffice text f × Replaces None text old new) × WritesAll (uuid_line f) before after

-- the office file is there, certainly or not
abbrev pub IsThere : Journal → PlaceState → PlaceState → Type 0
IsThere f old new = (text : List ℕ) × HoldsOffice text f × (Replaces None text old new ⊎ IsReplaceFault None text old new replaced.NotSynced)

-- it was not made; or not for sure
abbrev pub IsUnmade : Journal → PlaceState → PlaceState → CliFault → Type 0
IsUnmade f old new cli.Memory = new ≡ old
IsUnmade f old new g = (text : List ℕ) × HoldsOffice text f × IsUnpublishedOf None text old new g

-- it was not made, and nothing was written; or not for sure, and the UUID was; or exactly the first bytes of that were
abbrev pub IsUnfounded : Journal → PlaceState → PlaceState → SinkState → SinkState → CliFault → Type 0
IsUnfounded f old new before after g = (IsUnmade f old new g × WritesIf (is_after g) (uuid_line f) before after)
    ⊎ (IsThere f old new × AreCut (uuid_line f) before after g)
