-- What `lint` reads and writes.
use Rattle.std.specs.Prelude.{◌≡◌, ◌⊎◌, ℕ, Bool, true, List, Option}
use Rattle.byte_io.specs.Device.{SourceState, SinkState}
use Rattle.byte_io.specs.Whole.{WritesAll}
use Rattle.reg_op.specs.Contents.{Content}
use Rattle.reg_op.specs.declared.status.Status.{Status}
use Rattle.reg_engine.specs.declared.fault.CliFault.{CliFault}
use Rattle.reg_engine.specs.declared.fault.CliFault.TheVariants as cli
use Rattle.reg_engine.specs.Store.{Around, AreCut}
use Rattle.reg_engine.specs.WholeFile.{Gives}
use Rattle.reg_lint.specs.declared.rule.AnyRule.{AnyRule}
use Rattle.reg_lint.specs.Subjects.{Subject}
use Rattle.reg_lint.specs.Subjects.{AreLiveWith}
use Rattle.reg_lint.specs.Known.{IsKnownFrom}
use Rattle.reg_lint.specs.Lines.{lint_sheet, has_rows}
use Rattle.reg_lint.specs.EngineLooked.{HasHeader, IsUnlooked}

-- the rows of these reference systems, without those of a file of these bytes
abbrev pub IsLintOf : List AnyRule → List ℕ → List Subject → List ℕ → Type 0
IsLintOf rules bytes subjects text = (known : List ℕ → Bool) × IsKnownFrom bytes known × (text ≡ lint_sheet known rules subjects)

-- the file was read and begins with the header, and the rows were written; the result is whether there are any
abbrev pub AreLinted : List AnyRule → List Subject → SourceState → SourceState → SinkState → SinkState → Bool → Type 0
AreLinted rules subjects old new before after any = (bytes : List ℕ) × (text : List ℕ) × Gives old new bytes × HasHeader bytes true × IsLintOf rules bytes subjects text
    × (any ≡ has_rows text) × WritesAll text before after

-- the file was not read, or has no header; or memory ran out; or not all of the rows were written
abbrev pub AreUnlinted : List AnyRule → List Subject → ℕ → SourceState → SourceState → SinkState → SinkState → CliFault → Type 0
AreUnlinted rules subjects number old new before after f = (IsUnlooked number old new f × (after ≡ before))
    ⊎ ((bytes : List ℕ) × Gives old new bytes × HasHeader bytes true × (((f ≡ cli.Memory) × (after ≡ before))
    ⊎ ((text : List ℕ) × IsLintOf rules bytes subjects text × AreCut text before after f)))

-- a register was read, and the rows of its entries that are not retired and have the status were written
abbrev pub IsLinted : List AnyRule → Option Status → Around → SourceState → SourceState → SinkState → SinkState → Bool → Type 0
IsLinted rules status a old new before after any = (x : Content) × (subjects : List Subject) × a.came x × AreLiveWith status x subjects × AreLinted rules subjects old new before after any

-- neither the register nor the file was read; or only the register, and memory ran out; or the rows were not written
abbrev pub IsUnlinted : List AnyRule → Option Status → Around → ℕ → SourceState → SourceState → SinkState → SinkState → CliFault → Type 0
IsUnlinted rules status a next old new before after f = (a.none f × (new ≡ old) × (after ≡ before))
    ⊎ ((x : Content) × a.came x × (((f ≡ cli.Memory) × (new ≡ old) × (after ≡ before))
    ⊎ ((subjects : List Subject) × AreLiveWith status x subjects × AreUnlinted rules subjects next old new before after f)))
