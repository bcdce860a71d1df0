-- Texts of a file, each against the entries of its key.
use Rattle.std.specs.Prelude.{◌≡◌, ◌≢◌, ◌⊎◌, ◌+◌, ℕ, List, [], ◌∷◌, ◌++◌, length, map, codes, decimal, Option, Some, None}
use Rattle.std.specs.Option.{unwrap_or}
use Rattle.crs_value.specs.declared.crs.Crs.{Crs}
use Rattle.wkt_tree.specs.Tree.{Piece}
use Rattle.wkt_crs.specs.Spells.{SpellsCanon, pretty}
use Rattle.wkt_crs.specs.Definition.{IsDefinition, IsCrsOf, IsTextFault, fault_place}
use Rattle.wkt_crs.specs.declared.definition.DefinitionFault.TheVariants.{Memory as NoMemory}
use Rattle.wkt_compare.specs.Hunks.{IsAdded}
use Rattle.wkt_compare.specs.Texts.{IsCutInto}
use Rattle.reg_op.specs.Contents.{Content}
use Rattle.reg_op.specs.Rows.{Row, rows}
use Rattle.reg_report.specs.Conflicts.{KeyBytes, HasKey}
use Rattle.reg_texts.specs.declared.against.UnreadTexts.{UnreadTexts}
use Rattle.reg_texts.specs.declared.against.UnreadTexts.TheVariants as unread
use Rattle.reg_texts.specs.declared.version.Version.{Version}
use Rattle.reg_texts.specs.Said.{IsLive}
use Rattle.reg_texts.specs.Listing.{on_line, key_text}
use Rattle.reg_texts.specs.Gathered.{Each}
use Rattle.reg_texts.specs.Compare.{IsVersionOf, IsPair, IsChosen}

-- ---- the text of a file

-- the key, the name of the file, and the place of the text
pub record IsGivenHead (name : List ℕ) (place : ℕ) (d : List ℕ) (head : List ℕ) : Type 0 where
  pub key : KeyBytes
  pub keyed : HasKey d key
  pub is : head ≡ key_text key ++ (32 ∷ (map on_line name ++ (codes " at " ++ decimal place)))

-- the indented text of this definition, under its head
pub record IsGiven (name : List ℕ) (place : ℕ) (d : List ℕ) (v : Version) : Type 0 where
  pub headed : IsGivenHead name place d v.head.items
  pub crs : Crs
  pub of : IsCrsOf crs d
  pub text : v.text.items ≡ pretty crs

-- ---- its entries

-- the row has the key of the definition, and its entry is not retired
abbrev pub IsRival : List ℕ → Row → Type 0
IsRival d r = ((k : KeyBytes) × HasKey d k × HasKey r.definition k) × IsLive r

-- what differs between the text of an entry and the given one
abbrev pub IsPairWith : Version → Row → List ℕ → Type 0
IsPairWith given r pair = (v : Version) × IsVersionOf r v × IsPair v given pair

-- the header line, if no entry has the key
abbrev pub IsNoHead : List ℕ → List ℕ → Type 0
IsNoHead d head = (key : KeyBytes) × HasKey d key × (head ≡ key_text key ++ codes " none")

-- no entry has the key: each line of the text is added
pub record IsNew (d : List ℕ) (given : Version) (text : List ℕ) : Type 0 where
  pub head : List ℕ
  pub none : IsNoHead d head
  pub hunks : List ℕ
  pub added : IsAdded given.text.items hunks
  pub is : text ≡ (codes "--- " ++ head ++ 10 ∷ []) ++ (codes "+++ " ++ given.head.items ++ 10 ∷ []) ++ hunks

-- the text against each of these entries; or as a new one, if there is none
abbrev pub IsAgainst : List ℕ → Version → List Row → List ℕ → Type 0
IsAgainst d given found text = ((found ≡ []) × IsNew d given text) ⊎ ((found ≢ []) × Each (IsPairWith given) found text)

-- of a definition at this place of the file: against the entries of its key that are not retired, by id
abbrev pub IsGivenAgainst : List ℕ → ℕ → List ℕ → List Row → List ℕ → Type 0
IsGivenAgainst name place d rs text = (given : Version) × (found : List Row) × IsGiven name place d given × Each (IsChosen (IsRival d)) rs found × IsAgainst d given found text

-- ---- all texts of a file

-- the text spells a value with this canonical text, which is a definition
abbrev pub Defines : List ℕ → List ℕ → Type 0
Defines text d = SpellsCanon text d × IsDefinition d

-- what differs between a text of a file and the entries of its key
abbrev pub IsTextAgainst : List ℕ → List Row → Piece → List ℕ → Type 0
IsTextAgainst name rs c text = (d : List ℕ) × Defines c.bytes d × IsGivenAgainst name c.place d rs text

-- the same of each text of the file, in order
abbrev pub IsFileAgainst : List ℕ → List ℕ → Content → List ℕ → Type 0
IsFileAgainst name file x text = (cuts : List Piece) × IsCutInto file cuts × Each (IsTextAgainst name (rows x.ops)) cuts text

-- the text is not a definition, for this reason, with the place of its fault, or of its first byte, in the file; or memory ran out
abbrev pub IsUnread : Piece → UnreadTexts → Type 0
IsUnread c (unread.Refused f at place len) = IsTextFault c.bytes f × (f ≢ NoMemory) × (at ≡ c.place + unwrap_or (fault_place f) 0) × (place ≡ c.place) × (len ≡ length c.bytes)
IsUnread c unread.Memory = Unit {0}

-- why the first of some texts that are not definitions is not one
abbrev pub IsFirstUnread : List Piece → UnreadTexts → Type 0
IsFirstUnread [] f = f ≡ unread.Memory
IsFirstUnread (c ∷ cs) f = IsUnread c f ⊎ (((d : List ℕ) × Defines c.bytes d) × IsFirstUnread cs f)

-- ---- texts that are passed over

-- the text against its entries; or nothing, if it is not a definition
abbrev pub IsTextOrNone : List ℕ → List Row → Piece → List ℕ → Type 0
IsTextOrNone name rs c text = IsTextAgainst name rs c text ⊎ (((u : UnreadTexts) × IsUnread c u × (u ≢ unread.Memory)) × (text ≡ []))

-- what one text adds, and why it is not a definition if it is none
abbrev pub IsTold : List ℕ → List Row → Piece → List ℕ → Option UnreadTexts → Type 0
IsTold name rs c text None = IsTextAgainst name rs c text
IsTold name rs c text (Some u) = IsUnread c u × (u ≢ unread.Memory) × (text ≡ [])

abbrev pub earlier : Option UnreadTexts → Option UnreadTexts → Option UnreadTexts
earlier (Some u) next = Some u
earlier None next = next

-- why the first of some texts that is not a definition is not one, if there is such a text
abbrev pub IsFirstLeft : List Piece → Option UnreadTexts → Type 0
IsFirstLeft [] first = first ≡ None
IsFirstLeft (c ∷ cs) first = (((d : List ℕ) × Defines c.bytes d) × IsFirstLeft cs first) ⊎ ((u : UnreadTexts) × IsUnread c u × (u ≢ unread.Memory) × (first ≡ Some u))

-- what differs between each text of the file that is a definition and the entries of its key, and why the first other text is none
abbrev pub IsFileAgainstWhereRead : List ℕ → List ℕ → Content → List ℕ → Option UnreadTexts → Type 0
IsFileAgainstWhereRead name file x text first = (cuts : List Piece) × IsCutInto file cuts × Each (IsTextOrNone name (rows x.ops)) cuts text × IsFirstLeft cuts first

-- the same of the texts of a file
abbrev pub IsFileUnread : List ℕ → UnreadTexts → Type 0
IsFileUnread file (unread.Refused f at place len) = (cuts : List Piece) × IsCutInto file cuts × IsFirstUnread cuts (unread.Refused f at place len)
IsFileUnread file unread.Memory = Unit {0}
