-- Rows that were looked at before. A row is known again by all its fields but the entry.
use Rattle.std.specs.Prelude.{◌≡◌, ℕ, Bool, ◌||◌, List, [], ◌∷◌, map}
use Rattle.std.specs.List.{list_any}
use Rattle.std.specs.Global.{Vec}
use Rattle.std.specs.BTreeSet.{contains_by}
use Rattle.std.specs.Cmp.Lexicographic.{slice_cmp}
use Rattle.std.specs.Ordering.{nat_cmp, is_eq}
use Rattle.csv.specs.Writing.{row_text, default_writer}
use Rattle.csv.specs.Reading.{AreRecords, default_config, strip_bom}
use Rattle.csv.specs.declared.parser.State.TheVariants as st
use Rattle.reg_lint.specs.declared.known.Known.{Known}

-- rule, authority, code, name and detail as a row, of a row of six fields or more
abbrev pub mark_of : List (List ℕ) → List ℕ
mark_of [] = []
mark_of (rule ∷ []) = []
mark_of (rule ∷ entry ∷ []) = []
mark_of (rule ∷ entry ∷ authority ∷ []) = []
mark_of (rule ∷ entry ∷ authority ∷ code ∷ []) = []
mark_of (rule ∷ entry ∷ authority ∷ code ∷ name ∷ []) = []
mark_of (rule ∷ entry ∷ authority ∷ code ∷ name ∷ detail ∷ others) = row_text default_writer (rule ∷ authority ∷ code ∷ name ∷ detail ∷ [])

abbrev pub is_same : List ℕ → List ℕ → Bool
is_same a b = is_eq (slice_cmp nat_cmp a b)

-- a row with this mark is among those with these marks
abbrev pub is_among : List (List ℕ) → List ℕ → Bool
is_among marks mark = list_any (is_same mark) marks

-- ---- sets of marks

abbrev pub has_mark : Known → List ℕ → Bool
has_mark known mark = contains_by (λ (k : Vec ℕ). slice_cmp nat_cmp mark k.items) known.marks

abbrev pub PutsMark : List ℕ → Known → Known → Type 0
PutsMark mark old new = (m : List ℕ) → has_mark new m ≡ (is_same m mark || has_mark old m)

abbrev pub HasMarks : Known → List (List ℕ) → Type 0
HasMarks known marks = (m : List ℕ) → has_mark known m ≡ is_among marks m

-- ---- files

-- exactly the rows of a file are known
abbrev pub IsKnownFrom : List ℕ → (List ℕ → Bool) → Type 0
IsKnownFrom bytes known = (rows : List (List (List ℕ))) × AreRecords default_config st.StartRecord (strip_bom bytes) rows × ((m : List ℕ) → known m ≡ is_among (map mark_of rows) m)
