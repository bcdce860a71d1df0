-- Files of texts: the bytes that each gave, or why one gave none.
use Rattle.std.specs.Prelude.{◌≡◌, ◌⊎◌, ◌+◌, ◌^◌, ◌≤◌, ℕ, List, [], ◌∷◌, map, length}
use Rattle.std.specs.declared.vec.Vec.{Vec}
use Rattle.byte_io.specs.Device.{SourceState}
use Rattle.byte_io.specs.Whole.{StopsEarly}
use Rattle.reg_file.specs.Files.{most}
use Rattle.reg_engine.specs.WholeFile.{Gives, IsFileFault}
use Rattle.reg_engine.specs.declared.fault.InputFault.{InputFault}
use Rattle.reg_engine.specs.declared.fault.CliFault.{CliFault}
use Rattle.reg_engine.specs.declared.fault.CliFault.TheVariants as cli
use Rattle.reg_engine.specs.Inputs.{NoneFails}

abbrev pub bytes_of : {A : Type 0} → List (Vec ℕ A) → List (List ℕ)
bytes_of files = map (λ f. f.items) files

-- each gave these bytes
abbrev pub GiveAll : List SourceState → List SourceState → List (List ℕ) → Type 0
GiveAll [] [] [] = Unit {0}
GiveAll [] [] (b ∷ bs) = ⊥
GiveAll [] (n ∷ ns) bs = ⊥
GiveAll (o ∷ os) [] bs = ⊥
GiveAll (o ∷ os) (n ∷ ns) [] = ⊥
GiveAll (o ∷ os) (n ∷ ns) (b ∷ bs) = Gives o n b × GiveAll os ns bs

-- the first has this number, and the others one more each: that of number k has the fault, each before it gave its bytes,
-- and those after it gave nothing
abbrev pub StopsAt : ℕ → ℕ → InputFault → List SourceState → List SourceState → Type 0
StopsAt number k f [] new = ⊥
StopsAt number k f (o ∷ os) [] = ⊥
StopsAt number k f (o ∷ os) (n ∷ ns) = ((k ≡ number) × IsFileFault f o n × (ns ≡ os))
    ⊎ (((bytes : List ℕ) × Gives o n bytes) × StopsAt (number + 1) k f os ns)

-- why the file with this number was not read; if memory ran out, it was not read to its end
abbrev pub IsUnreadFile : ℕ → SourceState → SourceState → CliFault → Type 0
IsUnreadFile number old new (cli.Refused r) = ⊥
IsUnreadFile number old new (cli.File k f) = (k ≡ number) × IsFileFault f old new
IsUnreadFile number old new (cli.Out f) = ⊥
IsUnreadFile number old new cli.Memory = StopsEarly (most + 1) old new
IsUnreadFile number old new (cli.Shelf p) = ⊥
IsUnreadFile number old new (cli.Office t) = ⊥

-- one file was not read to its end, since memory ran out: each before it gave its bytes, and those after it gave nothing
abbrev pub RunsOutIn : List SourceState → List SourceState → Type 0
RunsOutIn [] new = ⊥
RunsOutIn (o ∷ os) [] = ⊥
RunsOutIn (o ∷ os) (n ∷ ns) = (StopsEarly (most + 1) o n × (ns ≡ os)) ⊎ (((bytes : List ℕ) × Gives o n bytes) × RunsOutIn os ns)

-- or their numbers have more than 64 bits, and none failed
abbrev pub RunsOut : ℕ → List SourceState → List SourceState → Type 0
RunsOut number old new = RunsOutIn old new ⊎ (NoneFails old new × (2 ^ 64 ≤ number + length old))

-- the effect of a failed command on the files
abbrev pub AreUnread : ℕ → List SourceState → List SourceState → CliFault → Type 0
AreUnread number old new (cli.Refused r) = ⊥
AreUnread number old new (cli.File k f) = StopsAt number k f old new
AreUnread number old new (cli.Out f) = ⊥
AreUnread number old new cli.Memory = RunsOut number old new
AreUnread number old new (cli.Shelf p) = ⊥
AreUnread number old new (cli.Office t) = ⊥
