-- The names of files, as they are noted by what they are where case does not count.
use Rattle.std.specs.Prelude.{◌≡◌, ◌≢◌, ℕ, Bool, true, false, not, ◌||◌, List, Contains, Option, Some, None, nat_eq, if◌then◌else◌}
use Rattle.std.specs.Borrow.{Bor}
use Rattle.std.specs.BTreeMap.{BTreeMap, get}
use Rattle.std.specs.Cmp.Lexicographic.{pointwise, slice_cmp}
use Rattle.std.specs.Global.{Vec}
use Rattle.std.specs.Ordering.{nat_cmp, is_eq}
use Rattle.std.specs.declared.cmp.Ordering.{Ordering}
use Rattle.byte_folder.specs.Folder.{File}
use Rattle.reg_export.specs.declared.twins.NameTwin.{NameTwin}
use Rattle.reg_export.specs.KeyFiles.{KeyedText, plain_name, lower, capitals_if, file_with}

-- a name, and whether another one differs from it by case alone
pub record Noted : Type 0 where
  pub name : List ℕ
  pub several : Bool

-- what is noted of each name in small letters
abbrev pub At : Type 0
At = List ℕ → Option Noted

abbrev pub noted : Option NameTwin → Option Noted
noted None = None
noted (Some n) = Some (record { name = n.name.now; several = n.several })

abbrev pub noted_behind : Option (Bor NameTwin) → Option Noted
noted_behind None = None
noted_behind (Some n) = Some (record { name = n.now.name.now; several = n.now.several })

abbrev pub has_several : Option Noted → Bool
has_several None = false
has_several (Some n) = n.several

abbrev pub vec_cmp : Vec ℕ → Vec ℕ → Ordering
vec_cmp a b = slice_cmp nat_cmp a.items b.items

-- the map has these notes
abbrev pub Holds : BTreeMap (Vec ℕ) NameTwin → At → Type 0
Holds m at = (q : Vec ℕ) → noted (get vec_cmp m q) ≡ at q.items

-- the note after one more name
abbrev pub with_name : List ℕ → Option Noted → Noted
with_name name None = record { name = name; several = false }
with_name name (Some n) = record { name = n.name; several = n.several || not (pointwise nat_eq n.name name) }

-- these small letters have this note, and all others their old one
abbrev pub with_note : List ℕ → Noted → At → At
with_note k n at = λ l. if is_eq (slice_cmp nat_cmp k l) then Some n else at l

-- another name is the same in small letters; or none is
abbrev pub HasOthers : List (List ℕ) → List ℕ → List ℕ → Bool → Type 0
HasOthers ns k name true = (other : List ℕ) × Contains ns other × (lower other ≡ k) × (other ≢ name)
HasOthers ns k name false = (n : List ℕ) → Contains ns n → lower n ≡ k → n ≡ name

-- the note is right for these names: without one, none of them has these small letters; otherwise the name of the note has
abbrev pub Tells : List (List ℕ) → List ℕ → Option Noted → Type 0
Tells ns k None = (n : List ℕ) → Contains ns n → ¬ (lower n ≡ k)
Tells ns k (Some n) = (Contains ns n.name × (lower n.name ≡ k)) × HasOthers ns k n.name n.several

-- the file of a text by such notes
abbrev pub file_at : At → KeyedText → File
file_at at t = file_with (capitals_if (has_several (at (lower (plain_name t))))) t
