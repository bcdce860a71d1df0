-- Queries of a search.
use Rattle.std.specs.Prelude.{◌≡◌, ◌≢◌, ◌⊎◌, ◌↔◌, ℕ, nat_eq, Bool, false, IsTrue, List, ◌||◌, is_some, IfSome, Option, Some}
use Rattle.std.specs.List.{Any, list_any}
use Rattle.crs_part.specs.declared.crs.CrsParts.{CrsParts}
use Rattle.crs_value.specs.Kinds.{kind_of}
use Rattle.crs_value.specs.Parts.{IsAlike, HasPart}
use Rattle.crs_value.specs.Usages.{IsInArea, HasPoint}
use Rattle.reg_keys.specs.Named.{HasWord}
use Rattle.reg_keys.specs.Words.{NamesKey}
use Rattle.reg_op.specs.Rows.{Row}
use Rattle.reg_op.specs.declared.status.Status.{Status}
use Rattle.reg_op.specs.declared.status.Status.TheVariants as status
use Rattle.reg_report.specs.Conflicts.{KeyBytes}
use Rattle.reg_query.specs.Texts.{IsInTexts}
use Rattle.reg_query.specs.declared.find.query.Query.{Query}
use Rattle.reg_query.specs.declared.find.query.Wanted.{Wanted}
use Rattle.reg_query.specs.declared.find.query.Wanted.TheVariants.{Valid, Superseded, Retired, Live}

abbrev pub IsWanted : Wanted → Option Status → Type 0
IsWanted Valid s = s ≡ Some status.Valid
IsWanted Superseded s = s ≡ Some status.Superseded
IsWanted Retired s = s ≡ Some status.Retired
IsWanted Live s = s ≢ Some status.Retired

-- ---- a word without an option

-- some row has the key that the word names
abbrev pub HasSome : List Row → List ℕ → Type 0
HasSome rs word = Any (HasWord word) rs

abbrev pub is_colon : ℕ → Bool
is_colon b = nat_eq b 58

-- the word has no colon, and is the code
abbrev pub IsBareCode : List ℕ → List ℕ → Type 0
IsBareCode word code = (list_any is_colon word ≡ false) × (word ≡ code)

-- the word is a part of the name, or the code alone
abbrev pub IsTitled : List ℕ → KeyBytes → List ℕ → Type 0
IsTitled word k name = HasPart word name ⊎ IsBareCode word k.code

-- if some row has the key, the word asks for it; otherwise it asks for a part of the name, or for the code
abbrev pub IsSought : List Row → List ℕ → KeyBytes → List ℕ → Type 0
IsSought rs word k name = (HasSome rs word × NamesKey word k) ⊎ ((¬ (HasSome rs word)) × IsTitled word k name)

-- the answer tells whether some row has the key
abbrev pub IsResolved : List Row → Query → Bool → Type 0
IsResolved rs q by_key = IfSome q.word (λ word. IsTrue by_key ↔ HasSome rs word.now)

-- ---- the criteria of a query

-- by its options, of the key, the name and the status of an entry
pub record MeetsOptions (q : Query) (k : KeyBytes) (name : List ℕ) (s : Option Status) : Type 0 where
  pub key : IfSome q.key (λ word. NamesKey word.now k)
  pub authority : IfSome q.authority (λ asked. IsAlike asked.now k.authority)
  pub code : IfSome q.code (λ asked. asked.now ≡ k.code)
  pub part : IfSome q.name (λ part. HasPart part.now name)
  pub status : IfSome q.status (λ wanted. IsWanted wanted s)

-- by its word, and by its options
abbrev pub MeetsTitle : List Row → Query → KeyBytes → List ℕ → Option Status → Type 0
MeetsTitle rs q k name s = IfSome q.word (λ word. IsSought rs word.now k name) × MeetsOptions q k name s

-- of the areas, the bounding boxes, the kind and the texts of its reference system
pub record MeetsValue (q : Query) (crs : CrsParts) : Type 0 where
  pub area : IfSome q.area (λ part. IsInArea part.now crs)
  pub at : IfSome q.at (λ point. HasPoint point crs)
  pub kind : IfSome q.kind (λ kind. kind_of crs ≡ kind)
  pub text : IfSome q.text (λ part. IsInTexts part.now crs)

-- the query asks for any of these
abbrev pub asks_value : Query → Bool
asks_value q = is_some q.area || (is_some q.at || (is_some q.kind || is_some q.text))
