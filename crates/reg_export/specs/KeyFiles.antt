-- The files of texts with keys.
use Rattle.std.specs.Prelude.{◌≡◌, ◌↔◌, ◌++◌, ◌<◌, ◌&&◌, ℕ, Bool, not, List, [], ◌∷◌, map, All, Contains, if◌then◌else◌}
use Rattle.std.specs.Char.{to_ascii_lowercase}
use Rattle.std.specs.List.{list_any, filter}
use Rattle.std.specs.Str.{bytes_eq}
use Rattle.std.specs.List.Sorted.{IsStrictlySortedBy}
use Rattle.std.specs.Ordering.{nat_cmp, ordering_then}
use Rattle.std.specs.Cmp.Lexicographic.{slice_cmp}
use Rattle.std.specs.declared.cmp.Ordering.{Ordering}
use Rattle.byte_folder.specs.Folder.{File, is_long}
use Rattle.reg_export.specs.declared.files.Keyed.{Keyed}
use Rattle.reg_export.specs.declared.naming.Capitals.{Capitals}
use Rattle.reg_export.specs.declared.naming.Capitals.TheVariants as capitals
use Rattle.reg_export.specs.KeyNames.{name_with, file_name}

-- a text, and its key
pub record KeyedText : Type 0 where
  pub authority : List ℕ
  pub code : List ℕ
  pub text : List ℕ

-- a text of the program, as contracts see it
abbrev pub keyed : Keyed → KeyedText
keyed k = record { authority = k.authority.now; code = k.code.now; text = k.text.now }

-- the name of the text's key, with its capitals
abbrev pub plain_name : KeyedText → List ℕ
plain_name t = file_name t.authority t.code

-- the name where case does not count: A to Z become a to z
abbrev pub lower : List ℕ → List ℕ
lower name = map to_ascii_lowercase name

-- the names differ, but by case alone
abbrev pub differ_by_case : List ℕ → List ℕ → Bool
differ_by_case n m = bytes_eq (lower n) (lower m) && not (bytes_eq n m)

-- one of these texts has a name that differs from this one by case alone
abbrev pub has_twin : List KeyedText → List ℕ → Bool
has_twin ts n = list_any (λ t. differ_by_case (plain_name t) n) ts

-- its capitals are escaped then
abbrev pub capitals_if : Bool → Capitals
capitals_if twin = if twin then capitals.Escaped else capitals.Stay

-- the file of a text has the name of the key, and the text with a newline
abbrev pub file_with : Capitals → KeyedText → File
file_with c t = record { name = name_with c t.authority t.code; bytes = t.text ++ 10 ∷ [] }

-- its file in a folder of these texts
abbrev pub file_in : List KeyedText → KeyedText → File
file_in ts t = file_with (capitals_if (has_twin ts (plain_name t))) t

-- the files whose names have at most 255 bytes
abbrev pub fitting : List File → List File
fitting fs = filter (λ f. not (is_long f)) fs

-- by name, and then by bytes
abbrev pub name_cmp : List ℕ → List ℕ → Ordering
name_cmp a b = slice_cmp nat_cmp a b

abbrev pub file_cmp : File → File → Ordering
file_cmp a b = ordering_then (name_cmp a.name b.name) (slice_cmp nat_cmp a.bytes b.bytes)

-- the same files in order, each once
pub record AreInOrder (all once : List File) : Type 0 where
  pub ascend : IsStrictlySortedBy file_cmp once
  pub same : (f : File) → Contains once f ↔ Contains all f

-- the files of these texts, in order, each once
abbrev pub AreFilesOf : List KeyedText → List File → Type 0
AreFilesOf ts fs = AreInOrder (map (file_in ts) ts) fs

-- no key has two texts
abbrev pub HaveOneText : List KeyedText → Type 0
HaveOneText ts = (t u : KeyedText) → Contains ts t → Contains ts u → t.authority ≡ u.authority → t.code ≡ u.code → t.text ≡ u.text

-- each text has a key of bytes
abbrev pub HaveBytes : List KeyedText → Type 0
HaveBytes ts = (t : KeyedText) → Contains ts t → All (λ b. b < 256) t.authority × All (λ b. b < 256) t.code
