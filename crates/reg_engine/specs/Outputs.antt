-- A file, put in a place after it is completely made; and ids, written to a sink.
use Rattle.std.specs.Prelude.{◌≡◌, ◌++◌, ◌∷◌, [], List, ℕ, Option}
use Rattle.std.specs.List.{flat_map}
use Rattle.byte_out.specs.Place.{PlaceState}
use Rattle.byte_out.specs.Replace.{Replaces, IsReplaceFault}
use Rattle.byte_out.specs.declared.fault.ReplaceFault.TheVariants as replaced
use Rattle.reg_op.specs.Contents.{Content}
use Rattle.reg_op.specs.Ids.{Id}
use Rattle.reg_op.specs.Text.{printed}
use Rattle.reg_file.specs.Files.{Holds, IsTooLarge}
use Rattle.reg_engine.specs.declared.fault.OutFault.{OutFault}
use Rattle.reg_engine.specs.declared.fault.OutFault.TheVariants as out
use Rattle.reg_engine.specs.declared.fault.CliFault.{CliFault}
use Rattle.reg_engine.specs.declared.fault.CliFault.TheVariants as cli

-- such a file was completely written, and has the name, in place of the one that was read, if it was
abbrev pub PublishesBy : (List ℕ → Type 0) → Option (List ℕ) → PlaceState → PlaceState → Type 0
PublishesBy Are read old new = (bytes : List ℕ) × Are bytes × Replaces read bytes old new

-- the file would be too large, and the place is unchanged; or the old file is still there, for this fault of
-- replacing it; or, at the last one, the new file is there, and a stop may leave the old one
abbrev pub IsOutFaultBy : (List ℕ → Type 0) → Type 0 → Option (List ℕ) → PlaceState → PlaceState → OutFault → Type 0
IsOutFaultBy Are Large read old new out.TooLarge = Large × (new ≡ old)
IsOutFaultBy Are Large read old new out.NotOpened = (bytes : List ℕ) × Are bytes × IsReplaceFault read bytes old new replaced.NotOpened
IsOutFaultBy Are Large read old new out.NewExists = (bytes : List ℕ) × Are bytes × IsReplaceFault read bytes old new replaced.NewExists
IsOutFaultBy Are Large read old new (out.WriteFailed n) = (bytes : List ℕ) × Are bytes × IsReplaceFault read bytes old new (replaced.WriteFailed n)
IsOutFaultBy Are Large read old new (out.ReadFailed n) = (bytes : List ℕ) × Are bytes × IsReplaceFault read bytes old new (replaced.ReadFailed n)
IsOutFaultBy Are Large read old new out.Changed = (bytes : List ℕ) × Are bytes × IsReplaceFault read bytes old new replaced.Changed
IsOutFaultBy Are Large read old new out.NotSynced = (bytes : List ℕ) × Are bytes × IsReplaceFault read bytes old new replaced.NotSynced

-- the effect of a command on its place, by its fault; out of memory, none
abbrev pub IsUnpublishedBy : (List ℕ → Type 0) → Type 0 → Option (List ℕ) → PlaceState → PlaceState → CliFault → Type 0
IsUnpublishedBy Are Large read old new (cli.Refused r) = ⊥
IsUnpublishedBy Are Large read old new (cli.File k f) = ⊥
IsUnpublishedBy Are Large read old new (cli.Out f) = IsOutFaultBy Are Large read old new f
IsUnpublishedBy Are Large read old new cli.Memory = new ≡ old
IsUnpublishedBy Are Large read old new (cli.Shelf p) = ⊥
IsUnpublishedBy Are Large read old new (cli.Office t) = ⊥

-- the same for a file with exactly these bytes
abbrev pub IsUnpublishedOf : Option (List ℕ) → List ℕ → PlaceState → PlaceState → CliFault → Type 0
IsUnpublishedOf read bytes old new (cli.Refused r) = ⊥
IsUnpublishedOf read bytes old new (cli.File k f) = ⊥
IsUnpublishedOf read bytes old new (cli.Out out.TooLarge) = ⊥
IsUnpublishedOf read bytes old new (cli.Out out.NotOpened) = IsReplaceFault read bytes old new replaced.NotOpened
IsUnpublishedOf read bytes old new (cli.Out out.NewExists) = IsReplaceFault read bytes old new replaced.NewExists
IsUnpublishedOf read bytes old new (cli.Out (out.WriteFailed n)) = IsReplaceFault read bytes old new (replaced.WriteFailed n)
IsUnpublishedOf read bytes old new (cli.Out (out.ReadFailed n)) = IsReplaceFault read bytes old new (replaced.ReadFailed n)
IsUnpublishedOf read bytes old new (cli.Out out.Changed) = IsReplaceFault read bytes old new replaced.Changed
IsUnpublishedOf read bytes old new (cli.Out out.NotSynced) = IsReplaceFault read bytes old new replaced.NotSynced
IsUnpublishedOf read bytes old new cli.Memory = new ≡ old
IsUnpublishedOf read bytes old new (cli.Shelf p) = ⊥
IsUnpublishedOf read bytes old new (cli.Office t) = ⊥

-- the same for the file of a content
abbrev pub PublishesFile : Content → Option (List ℕ) → PlaceState → PlaceState → Type 0
PublishesFile x read old new = PublishesBy (λ bytes. Holds bytes x) read old new

abbrev pub IsUnpublished : Content → Option (List ℕ) → PlaceState → PlaceState → CliFault → Type 0
IsUnpublished x read old new f = IsUnpublishedBy (λ bytes. Holds bytes x) (IsTooLarge x) read old new f

abbrev pub IsOutFault : Content → Option (List ℕ) → PlaceState → PlaceState → OutFault → Type 0
IsOutFault x read old new f = IsOutFaultBy (λ bytes. Holds bytes x) (IsTooLarge x) read old new f

-- ---- and ids

-- a line for each id
abbrev pub id_lines : List Id → List ℕ
id_lines ids = flat_map (λ i. printed i ++ 10 ∷ []) ids
