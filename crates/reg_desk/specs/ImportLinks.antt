-- The import of texts, with the links that pass on to the entries that it makes.
use Rattle.std.specs.Prelude.{◌≡◌, ◌⊎◌, List}
use Rattle.reg_op.specs.Ids.{Id}
use Rattle.reg_op.specs.Contents.{Content}
use Rattle.reg_office.specs.declared.fault.OfficeFault.{OfficeFault}
use Rattle.reg_office.specs.declared.fault.OfficeFault.TheVariants as office
use Rattle.reg_import.specs.declared.reading.ReadText.{ReadText}
use Rattle.reg_import.specs.declared.action.TextAction.{TextAction}
use Rattle.reg_import.specs.declared.import.ImportRefusal.TheVariants as refused
use Rattle.reg_import.specs.Plans.{MayRunOut, Imports, IsImportRefusal}
use Rattle.reg_disorder.specs.declared.linking.link.Link.{Link}
use Rattle.reg_disorder.specs.Links.{links_in}
use Rattle.reg_disorder.specs.Passing.{PassesOn, IsNotPassedOn}
use Rattle.reg_desk.specs.declared.import.options.ImportOptions.{ImportOptions}

-- the texts are imported, and then the links pass on
pub record ImportsLinked (o : ImportOptions) (x : Content) (readings : List ReadText) (y : Content) (ts : List TextAction) (links : List Link) : Type 0 where
  pub between : Content
  pub imports : Imports x o.replica o.note.now o.differs o.keep_going readings between ts
  pub ids : List Id
  pub passes : PassesOn (links_in x.ops) between o.replica o.note.now y links ids

-- the texts are imported, but the links are not made, for this reason
pub record IsOnlyImported (o : ImportOptions) (x : Content) (readings : List ReadText) (f : OfficeFault) : Type 0 where
  pub between : Content
  pub told : List TextAction
  pub imports : Imports x o.replica o.note.now o.differs o.keep_going readings between told
  pub not_passed : IsNotPassedOn (links_in x.ops) between o.replica o.note.now f

-- why there is no result: numbers ran out, or memory, which may be once the import does not end at its first text; or the texts are
-- imported, but the links are not made
abbrev pub IsUnlinked : ImportOptions → Content → List ReadText → OfficeFault → Type 0
IsUnlinked o x readings f = ((f ≡ office.CountSpent) × IsImportRefusal x o.replica o.note.now o.differs o.keep_going readings refused.CountSpent)
    ⊎ (((f ≡ office.Memory) × MayRunOut o.note.now o.keep_going readings) ⊎ IsOnlyImported o x readings f)
