-- The files that are handed on of rows, and of a content.
use Rattle.std.specs.Prelude.{◌≡◌, Bool, false, List, [], ◌∷◌, map, Option, Some, None, if◌then◌else◌}
use Rattle.std.specs.List.{AllZip}
use Rattle.byte_folder.specs.Folder.{File, is_long}
use Rattle.reg_export.specs.KeyFiles.{KeyedText, AreFilesOf, file_in, fitting}
use Rattle.reg_op.specs.Contents.{Content}
use Rattle.reg_op.specs.Ids.{Id}
use Rattle.reg_op.specs.Rows.{Row}
use Rattle.reg_query.specs.Found.{AreFoundIn}
use Rattle.reg_report.specs.Conflicts.{HasKey}
use Rattle.reg_export.specs.declared.choice.Choice.{Choice}
use Rattle.reg_export.specs.Choice.{asked}
use Rattle.reg_export.specs.Chosen.{AreChosen}
use Rattle.reg_export.specs.declared.into_rows.LeftOutOfFolder.{LeftOutOfFolder}

-- the text of the row, and its key
abbrev pub IsKeyedOf : Row → KeyedText → Type 0
IsKeyedOf r t = HasKey r.definition (record { authority = t.authority; code = t.code }) × (t.text ≡ r.definition)

-- the entries of rows
abbrev pub entries : List Row → List Id
entries rs = map (λ (r : Row). r.entry) rs

-- the first entry whose file has a name of more than 255 bytes
abbrev pub first_long : List Id → List File → Option Id
first_long [] fs = None
first_long (e ∷ es) [] = None
first_long (e ∷ es) (f ∷ fs) = if is_long f then Some e else first_long es fs

-- with `keep_going`, files with such names are left out, and the first entry is named
abbrev pub fit : Bool → List File → List File
fit keep_going fs = if keep_going then fitting fs else fs

abbrev pub long_in : Bool → List Id → List File → Option Id
long_in keep_going es fs = if keep_going then first_long es fs else None

-- of the files of the texts of rows, those that fit, in the order of their names, each once
pub record AreFilesOfTexts (keep_going : Bool) (rs : List Row) (ts : List KeyedText) (long : Option Id) (fs : List File) : Type 0 where
  pub all : List File
  pub files : AreFilesOf ts all
  pub fits : fs ≡ fit keep_going all
  pub named : long ≡ long_in keep_going (entries rs) (map (file_in ts) ts)

-- the same of the rows' texts with their keys
abbrev pub AreFilesOfRows : Bool → List Row → Option Id → List File → Type 0
AreFilesOfRows keep_going rs long fs = (ts : List KeyedText) × AllZip IsKeyedOf rs ts × AreFilesOfTexts keep_going rs ts long fs

-- the files of the rows whose keys have one text. Only with `keep_going` may there be others, and the least entry of the least
-- such key is named
pub record AreHanded (keep_going : Bool) (found : List Row) (left : LeftOutOfFolder) (fs : List File) : Type 0 where
  pub kept : List Row
  pub chosen : AreChosen found kept left.taken
  pub all : keep_going ≡ false → left.taken ≡ None
  pub are : AreFilesOfRows keep_going kept left.long fs

-- the same of the chosen entries of a content
abbrev pub HandsFiles : Choice → Bool → LeftOutOfFolder → Content → List File → Type 0
HandsFiles c keep_going left x fs = (found : List Row) × AreFoundIn x (asked c) found × AreHanded keep_going found left fs
