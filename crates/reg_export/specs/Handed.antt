-- What is handed on of a content as a text.
use Rattle.std.specs.Prelude.{◌≡◌, ◌⊎◌, ℕ, Bool, false, List, Option, None}
use Rattle.byte_io.specs.Device.{SinkState}
use Rattle.reg_op.specs.Contents.{Content}
use Rattle.reg_op.specs.Ids.{Id}
use Rattle.reg_op.specs.Rows.{Row}
use Rattle.reg_query.specs.Found.{AreFoundIn}
use Rattle.reg_engine.specs.Store.{Around}
use Rattle.reg_engine.specs.declared.fault.CliFault.{CliFault}
use Rattle.reg_engine.specs.declared.fault.CliFault.TheVariants as cli
use Rattle.reg_export.specs.declared.choice.Choice.{Choice}
use Rattle.reg_export.specs.Choice.{asked}
use Rattle.reg_export.specs.Chosen.{AreChosen}
use Rattle.reg_export.specs.declared.formats.Format.{Format}
use Rattle.reg_export.specs.declared.formats.Format.TheVariants as format
use Rattle.reg_export.specs.Geojson.{BeginsGeojson, IsGeojson}
use Rattle.reg_export.specs.ProjSql.{BeginsSql, IsSql}
use Rattle.reg_export.specs.Stopped.{CannotHand}
use Rattle.reg_export.specs.Written.{IsUnwritten}
use Rattle.reg_texts.specs.KeySheet.{IsKeySheet}

-- the text of some rows of a content
abbrev pub IsTextIn : Format → Content → List Row → List ℕ → Type 0
IsTextIn format.Geojson x rs text = IsGeojson rs text
IsTextIn (format.ProjSql all) x rs text = IsSql all rs text
IsTextIn format.Csv x rs text = IsKeySheet x rs text

-- the text of the rows whose keys have one text. Only with `keep_going` may there be others, and the least entry of the least such
-- key is named
pub record IsHanded (format : Format) (x : Content) (keep_going : Bool) (found : List Row) (taken : Option Id) (text : List ℕ) : Type 0 where
  pub kept : List Row
  pub chosen : AreChosen found kept taken
  pub all : keep_going ≡ false → taken ≡ None
  pub is : IsTextIn format x kept text

-- the same of the chosen entries of a content
abbrev pub HandsText : Format → Choice → Bool → Option Id → Content → List ℕ → Type 0
HandsText format c keep_going taken x text = (found : List Row) × AreFoundIn x (asked c) found × IsHanded format x keep_going found taken text

-- ---- where its output stops

-- the beginning of the text of some rows; that of a sheet is made as a whole
abbrev pub BeginsIn : Format → List Row → List ℕ → Type 0
BeginsIn format.Geojson rs text = BeginsGeojson rs text
BeginsIn (format.ProjSql all) rs text = BeginsSql all rs text
BeginsIn format.Csv rs text = ⊥

-- memory ran out before the first byte; or the output of the text stopped
abbrev pub StopsIn : Format → Content → List Row → SinkState → SinkState → CliFault → Type 0
StopsIn format x rs before after f = ((f ≡ cli.Memory) × (after ≡ before)) ⊎ IsUnwritten (BeginsIn format) (IsTextIn format x rs) rs before after f

-- that of the rows whose keys have one text
pub record IsHalfHanded (format : Format) (x : Content) (keep_going : Bool) (found : List Row) (before after : SinkState) (f : CliFault) : Type 0 where
  pub taken : Option Id
  pub kept : List Row
  pub chosen : AreChosen found kept taken
  pub all : keep_going ≡ false → taken ≡ None
  pub stops : StopsIn format x kept before after f

-- that of the chosen entries of a content
abbrev pub StopsHanding : Format → Choice → Bool → Content → SinkState → SinkState → CliFault → Type 0
StopsHanding format c keep_going x before after f = (found : List Row) × AreFoundIn x (asked c) found × IsHalfHanded format x keep_going found before after f

-- no register was read, or nothing is handed on of it, and nothing was written; or the output of what is handed on stopped
abbrev pub IsUnhanded : Around → Format → Choice → Bool → SinkState → SinkState → CliFault → Type 0
IsUnhanded a format c keep_going before after f = (a.none f × (after ≡ before))
    ⊎ ((x : Content) × a.came x × ((CannotHand c keep_going x f × (after ≡ before)) ⊎ StopsHanding format c keep_going x before after f))
