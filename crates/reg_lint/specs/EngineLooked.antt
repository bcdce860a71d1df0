-- The file of the rows that were looked at before.
use Rattle.std.specs.Prelude.{◌≡◌, ◌⊎◌, ◌&&◌, ℕ, Bool, true, false, List, [], ◌∷◌, Option, Some, None, codes}
use Rattle.std.specs.Str.{bytes_eq}
use Rattle.csv.specs.Reading.{AreRecords, default_config, strip_bom}
use Rattle.csv.specs.Records.{field_at}
use Rattle.csv.specs.declared.parser.State.TheVariants as st
use Rattle.byte_io.specs.Device.{SourceState}
use Rattle.reg_file.specs.declared.fault.FileFault.TheVariants as bad
use Rattle.reg_engine.specs.declared.fault.InputFault.TheVariants as file
use Rattle.reg_engine.specs.declared.fault.CliFault.{CliFault}
use Rattle.reg_engine.specs.declared.fault.CliFault.TheVariants as cli
use Rattle.reg_engine.specs.WholeFile.{Gives, IsUnread}

-- a row has this field at this place
abbrev pub is_word : List ℕ → Option (List ℕ) → Bool
is_word word None = false
is_word word (Some field) = bytes_eq field word

-- the names of the columns; others may follow
abbrev pub is_header : List (List ℕ) → Bool
is_header fields = is_word (codes "rule") (field_at fields 0) && (is_word (codes "entry") (field_at fields 1) && (is_word (codes "authority") (field_at fields 2)
    && (is_word (codes "code") (field_at fields 3) && (is_word (codes "name") (field_at fields 4) && is_word (codes "detail") (field_at fields 5)))))

-- the header comes first, if anything does
abbrev pub begins_with_header : List (List (List ℕ)) → Bool
begins_with_header [] = true
begins_with_header (first ∷ rows) = is_header first

-- whether that is so of the rows of a file
abbrev pub HasHeader : List ℕ → Bool → Type 0
HasHeader bytes is_so = (rows : List (List (List ℕ))) × AreRecords default_config st.StartRecord (strip_bom bytes) rows × (is_so ≡ begins_with_header rows)

-- the fault of a file of which it is not
abbrev pub headless : ℕ → CliFault
headless number = cli.File number (file.BadFile bad.Magic 0)

-- the file was not read; or it was, and has no header, or memory ran out
abbrev pub IsUnlooked : ℕ → SourceState → SourceState → CliFault → Type 0
IsUnlooked number old new f = IsUnread number old new f
    ⊎ ((bytes : List ℕ) × Gives old new bytes × ((f ≡ cli.Memory) ⊎ (HasHeader bytes false × (f ≡ headless number))))
