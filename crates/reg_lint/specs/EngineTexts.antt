-- Texts that are read from a file.
use Rattle.std.specs.Prelude.{◌≡◌, ◌⊎◌, ℕ, List}
use Rattle.byte_io.specs.Device.{SourceState}
use Rattle.reg_engine.specs.declared.fault.CliFault.{CliFault}
use Rattle.reg_engine.specs.declared.fault.CliFault.TheVariants as cli
use Rattle.reg_engine.specs.WholeFile.{Gives, IsUnread}
use Rattle.wkt_crs.specs.declared.definition.DefinitionFault.TheVariants as definition
use Rattle.reg_lint.specs.declared.kept.KeptSubject.{KeptSubject}
use Rattle.reg_lint.specs.declared.texts.Unread.{Unread}
use Rattle.reg_lint.specs.declared.texts.Unread.TheVariants as why
use Rattle.reg_lint.specs.Texts.{AreKeptOf, IsFileUnread}
use Rattle.reg_lint.specs.declared.engine.texts.TextsFault.{TextsFault}
use Rattle.reg_lint.specs.declared.engine.texts.TextsFault.TheVariants as texts

-- the file was read, and what is kept of its texts comes after what was kept before
abbrev pub Adds : List ℕ → SourceState → SourceState → List KeptSubject → List KeptSubject → Type 0
Adds name old new before after = (bytes : List ℕ) × Gives old new bytes × AreKeptOf name bytes before after

-- the same reason, in the file with this number
abbrev pub refused_in : ℕ → Unread → TextsFault
refused_in number (why.Refused f place len) = texts.Refused (definition.Read f) place len number
refused_in number why.Memory = texts.Cli cli.Memory

-- the file was not read; or it was, and a text of it spells no reference system
abbrev pub IsTextsUnread : ℕ → SourceState → SourceState → TextsFault → Type 0
IsTextsUnread number old new fault = ((f : CliFault) × IsUnread number old new f × (fault ≡ texts.Cli f))
    ⊎ ((bytes : List ℕ) × (w : Unread) × Gives old new bytes × IsFileUnread bytes w × (fault ≡ refused_in number w))
