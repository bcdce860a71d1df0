-- The result of an import, before anything is written, or why there is none.
use Rattle.std.specs.Prelude.{◌≡◌, ◌⊎◌, ◌+◌, ◌^◌, ◌<◌, ◌≤◌, ℕ, true, false, List, [], ◌∷◌, map, length, slice_get, Option, Some, None, option_map, if◌then◌else◌}
use Rattle.std.specs.Option.{unwrap_or}
use Rattle.std.specs.String.{string_bytes}
use Rattle.byte_io.specs.Device.{SourceState}
use Rattle.wkt_crs.specs.declared.definition.DefinitionFault.{DefinitionFault}
use Rattle.wkt_crs.specs.Faults.{IsGrammatical}
use Rattle.reg_op.specs.Ids.{Id}
use Rattle.reg_op.specs.Operations.{Ops}
use Rattle.reg_op.specs.Contents.{Content, IsContent}
use Rattle.reg_op.specs.Rows.{Row, rows}
use Rattle.reg_office.specs.declared.fault.OfficeFault.{OfficeFault}
use Rattle.reg_office.specs.declared.fault.OfficeFault.TheVariants as office
use Rattle.reg_import.specs.declared.reading.FileText.{FileText}
use Rattle.reg_import.specs.declared.action.Problem.{Problem}
use Rattle.reg_import.specs.declared.action.Problem.TheVariants as problem
use Rattle.reg_import.specs.declared.action.TextAction.{TextAction}
use Rattle.reg_import.specs.declared.action.TextAction.TheVariants as told
use Rattle.reg_import.specs.declared.import.ImportRefusal.{ImportRefusal}
use Rattle.reg_import.specs.declared.import.ImportRefusal.TheVariants as refused
use Rattle.reg_import.specs.declared.reading.ReadText.TheVariants as reading
use Rattle.reg_import.specs.Readings.{IsReading, place_in, readings}
use Rattle.reg_import.specs.Imports.{NoneRefused}
use Rattle.reg_import.specs.Plans.{IsFirstRefused, IsImportRefusal}
use Rattle.reg_import.specs.declared.listing.Listing.{Listing}
use Rattle.reg_import.specs.Listing.{IsListing}
use Rattle.reg_engine.specs.declared.fault.Refusal.TheVariants as refusal
use Rattle.reg_disorder.specs.declared.linking.link.Link.{Link}
use Rattle.reg_disorder.specs.Rows.{HaveRows}
use Rattle.reg_engine.specs.Fault.{status_of, office_fault}
use Rattle.reg_engine.specs.Store.{Admission, AsLoaded, Screened, WorksOn}
use Rattle.reg_engine.specs.declared.fault.CliFault.{CliFault}
use Rattle.reg_engine.specs.declared.fault.CliFault.TheVariants as cli
use Rattle.reg_desk.specs.declared.import.options.ImportOptions.{ImportOptions}
use Rattle.reg_desk.specs.declared.import.fault.ImportFault.{ImportFault}
use Rattle.reg_desk.specs.declared.import.fault.ImportFault.TheVariants as import
use Rattle.reg_desk.specs.declared.import.fault.Unimported.{Unimported}
use Rattle.reg_desk.specs.ImportFiles.{GiveAll, AreUnread}
use Rattle.reg_desk.specs.ImportTexts.{TextAt, AreCuts, HaveTexts, AreGiven}
use Rattle.reg_desk.specs.ImportLinks.{ImportsLinked, IsOnlyImported}
use Rattle.reg_desk.specs.ImportNotes.{note_of, notes_of}

abbrev pub names_of : ImportOptions → List (List ℕ)
names_of o = map string_bytes o.names.now

-- ---- faults

abbrev pub exit_status : ImportFault → ℕ
exit_status (import.Cli f) = status_of f
exit_status (import.Refused p place file) = 1

-- the entry that has the key of the refused text
abbrev pub taken_by : ImportFault → Option Id
taken_by (import.Cli f) = None
taken_by (import.Refused (problem.KeyTaken id) place file) = Some id
taken_by (import.Refused (problem.Unread f) place file) = None

-- a fault without explanation
abbrev pub IsPlainFault : (CliFault → Type 0) → ImportFault → List ℕ → Type 0
IsPlainFault Is (import.Cli f) notes = Is f × (notes ≡ [])
IsPlainFault Is (import.Refused p place file) notes = ⊥

abbrev pub IsPlain : (CliFault → Type 0) → Unimported → Type 0
IsPlain Is u = IsPlainFault Is u.fault u.notes.items

-- the text at this index is refused for this reason, with its place in its file and the file's number, given the number of
-- the first file
abbrev pub IsAgainst : ℕ → List FileText → ℕ → Problem → ImportFault → Type 0
IsAgainst first texts at p (import.Cli f) = ⊥
IsAgainst first texts at p (import.Refused q place file) = (text : FileText) × (slice_get texts at ≡ Some text) × (q ≡ p) × (place ≡ text.at) × (file ≡ first + text.file)

abbrev pub if_explained : ImportOptions → List ℕ → List ℕ
if_explained o note = if o.explain then note else []

-- the explanation of the text at this index, which is refused for this reason
abbrev pub note_at : ImportOptions → List (List ℕ) → List TextAt → ℕ → Problem → List ℕ
note_at o files cuts at p = unwrap_or (option_map (λ c. note_of (names_of o) files c (told.Refused p)) (slice_get cuts at)) []

abbrev pub all_notes : ImportOptions → List (List ℕ) → List TextAt → List TextAction → List ℕ
all_notes o files cuts ts = notes_of (names_of o) files cuts ts

-- the fault is that this text is refused, with its explanation
abbrev pub IsRefusedAt : ImportOptions → ℕ → List (List ℕ) → List TextAt → List FileText → ℕ → Problem → Unimported → Type 0
IsRefusedAt o first files cuts texts at p u = IsAgainst first texts at p u.fault × (u.notes.items ≡ if_explained o (note_at o files cuts at p))

-- the fault is that of the first refused text, with the explanations of all; without a refused text there is no fault
abbrev pub IsPassed : ImportOptions → ℕ → List (List ℕ) → List TextAt → List FileText → List TextAction → Option Unimported → Type 0
IsPassed o first files cuts texts ts None = NoneRefused ts
IsPassed o first files cuts texts ts (Some u) = (at : ℕ) × (p : Problem) × IsFirstRefused ts at p × IsAgainst first texts at p u.fault
    × (u.notes.items ≡ if_explained o (all_notes o files cuts ts))

-- ---- texts that were read

-- the options of the output
abbrev pub listing_of : ImportOptions → Listing
listing_of o = record { names = o.names; changes = o.changes; gone = o.gone }

-- the lines are a header, a line for each text with its action, a line for the old entry of each link, and a line for each entry
-- that is listed, where the new content has these operations
abbrev pub AreLines : ImportOptions → Ops → List FileText → List TextAction → List Link → List ℕ → Type 0
AreLines o s texts ts links lines = (linked : List Row) × HaveRows (rows s) links linked × IsListing (listing_of o) s texts ts linked lines

-- importing the texts into the content gives the second one and these lines, and this fault of those that were passed over
abbrev pub MakesOf : ImportOptions → ℕ → Content → List (List ℕ) → List TextAt → List FileText → Content → List ℕ → Option Unimported → Type 0
MakesOf o first x files cuts texts y lines passed = (ts : List TextAction) × (links : List Link) × ImportsLinked o x (readings texts) y ts links
    × AreLines o y.ops texts ts links lines × IsPassed o first files cuts texts ts passed

-- they are refused for this reason
abbrev pub Refuses : ImportOptions → Content → List FileText → ImportRefusal → Type 0
Refuses o x texts r = IsImportRefusal x o.replica o.note.now o.differs o.keep_going (readings texts) r

-- no number of 64 bits is that of the text's file
abbrev pub IsUncounted : ℕ → Option FileText → Type 0
IsUncounted first None = Unit {0}
IsUncounted first (Some t) = 2 ^ 64 ≤ first + t.file

-- the fault of a text that is refused takes memory: it is explained, or it cannot be reported
abbrev pub TakesMemory : ImportOptions → ℕ → Option FileText → Type 0
TakesMemory o first t = (o.explain ≡ true) ⊎ IsUncounted first t

-- the fault for this reason
abbrev pub IsRefusedBy : ImportOptions → ℕ → List (List ℕ) → List TextAt → List FileText → ImportRefusal → Unimported → Type 0
IsRefusedBy o first files cuts texts refused.NoteTooLong u = IsPlain (λ f. f ≡ cli.Refused (refusal.Office office.NoteTooLong)) u
IsRefusedBy o first files cuts texts (refused.Refused at p) u = IsRefusedAt o first files cuts texts at p u
    ⊎ (IsPlain (λ f. f ≡ cli.Memory) u × TakesMemory o first (slice_get texts at))
IsRefusedBy o first files cuts texts refused.CountSpent u = IsPlain (λ f. f ≡ cli.Refused (refusal.Office office.CountSpent)) u
IsRefusedBy o first files cuts texts refused.Memory u = IsPlain (λ f. f ≡ cli.Memory) u

-- why they are not imported; or they were, and the office refuses the links
abbrev pub IsUnmadeOf : ImportOptions → ℕ → Content → List (List ℕ) → List TextAt → List FileText → Unimported → Type 0
IsUnmadeOf o first x files cuts texts u = ((r : ImportRefusal) × Refuses o x texts r × IsRefusedBy o first files cuts texts r u)
    ⊎ ((f : OfficeFault) × IsOnlyImported o x (readings texts) f × IsPlain (λ g. g ≡ office_fault f) u)

-- ---- files of these bytes

abbrev pub Makes : ImportOptions → ℕ → Content → List (List ℕ) → Content → List ℕ → Option Unimported → Type 0
Makes o first x files y lines passed = (cuts : List TextAt) × (texts : List FileText) × HaveTexts files cuts texts × MakesOf o first x files cuts texts y lines passed

-- the fault of a text may take memory: its tokens and slots are right; or the number of its file, or the place of its fault, is none
-- of 64 bits
abbrev pub MayHide : ℕ → TextAt → Type 0
MayHide first c = IsGrammatical c.bytes ⊎ ((2 ^ 64 ≤ first + c.file)
    ⊎ ((f : DefinitionFault) × IsReading c.bytes (reading.Unread f) × (2 ^ 64 ≤ c.place + place_in (reading.Unread f))))

-- refused texts are passed over, or explained; or there is no text, or the fault of the first may take memory
abbrev pub MayHideFirst : ImportOptions → ℕ → List (List ℕ) → Type 0
MayHideFirst o first files = (o.keep_going ≡ true) ⊎ ((o.explain ≡ true)
    ⊎ (AreCuts 0 files [] ⊎ ((c : TextAt) × (later : List TextAt) × AreCuts 0 files (c ∷ later) × MayHide first c)))

-- it is the fault of a text that is no definition, with its place and the number of its file
abbrev pub IsFaultOf : ℕ → TextAt → ImportFault → Type 0
IsFaultOf first c k = (f : DefinitionFault) × IsReading c.bytes (reading.Unread f)
    × (k ≡ import.Refused (problem.Unread f) (c.place + place_in (reading.Unread f)) (first + c.file))

-- the import ends at the first text of the files, which has this fault
pub record EndsAtFirst (o : ImportOptions) (first : ℕ) (files : List (List ℕ)) (k : ImportFault) : Type 0 where
  pub ends : o.keep_going ≡ false
  pub unexplained : o.explain ≡ false
  pub text : TextAt
  pub later : List TextAt
  pub cut : AreCuts 0 files (text ∷ later)
  pub told : IsFaultOf first text k

-- memory ran out while the texts were read. What takes no memory is reported nevertheless: that the note is too long, and the fault of the
-- first text, if the import ends there
abbrev pub EndsEarly : ImportOptions → ℕ → Content → List (List ℕ) → Unimported → Type 0
EndsEarly o first x files u = (IsPlain (λ f. f ≡ cli.Memory) u × (length o.note.now ≤ 200) × MayHideFirst o first files)
    ⊎ ((IsPlain (λ f. f ≡ cli.Refused (refusal.Office office.NoteTooLong)) u × (200 < length o.note.now))
    ⊎ (IsContent x × (length o.note.now ≤ 200) × EndsAtFirst o first files u.fault × (u.notes.items ≡ [])))

-- the texts were not all read, or they are not imported; where the import ends at the first refused text, the texts after one that
-- is no definition need not be read
abbrev pub IsUnmade : ImportOptions → ℕ → Content → List (List ℕ) → Unimported → Type 0
IsUnmade o first x files u = EndsEarly o first x files u
    ⊎ ((cuts : List TextAt) × (texts : List FileText) × AreGiven o.keep_going files cuts texts × IsUnmadeOf o first x files cuts texts u)

-- ---- files

-- the files gave bytes, and this is the result
abbrev pub IsReady : ImportOptions → ℕ → Content → List SourceState → List SourceState → Content → List ℕ → Option Unimported → Type 0
IsReady o first x old new y lines passed = (files : List (List ℕ)) × GiveAll old new files × Makes o first x files y lines passed

-- a file was not read, or nothing is made
abbrev pub IsUnready : ImportOptions → ℕ → Content → List SourceState → List SourceState → Unimported → Type 0
IsUnready o first x old new u = IsPlain (AreUnread first old new) u ⊎ ((files : List (List ℕ)) × GiveAll old new files × IsUnmade o first x files u)

-- ---- a store

-- the result for the register on which the command works, given the loaded one
abbrev pub IsReadyIn : Admission → ImportOptions → ℕ → Content → List SourceState → List SourceState → Content → List ℕ → Option Unimported → Type 0
IsReadyIn a o first x old new y lines passed = WorksOn a (λ z. IsReady o first z old new y lines passed) x

-- a file was not read; or the store does not admit the register; or nothing is made of the one that it admits
abbrev pub IsUnreadyIn : Admission → ImportOptions → ℕ → Content → List SourceState → List SourceState → Unimported → Type 0
IsUnreadyIn AsLoaded o first x old new u = IsUnready o first x old new u
IsUnreadyIn (Screened makes bars) o first x old new u = IsPlain (AreUnread first old new) u
    ⊎ ((files : List (List ℕ)) × GiveAll old new files × (IsPlain (bars x) u ⊎ ((z : Content) × makes x z × IsUnmade o first z files u)))
