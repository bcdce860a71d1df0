-- How texts are listed.
use Rattle.std.specs.Prelude.{◌≡◌, ◌==◌, ◌||◌, ℕ, Bool, List, [], ◌∷◌, ◌++◌, map, Option, Some, None, codes, is_some, if◌then◌else◌}
use Rattle.std.specs.List.{flat_map, list_any}
use Rattle.std.specs.Str.{bytes_eq}
use Rattle.crs_value.specs.declared.crs.Crs.{Crs}
use Rattle.text_hidden.specs.Short.{short}
use Rattle.wkt_crs.specs.Spells.{Spells, pretty}
use Rattle.reg_report.specs.Conflicts.{KeyBytes}
use Rattle.reg_texts.specs.declared.saying.Saying.{Saying}
use Rattle.reg_texts.specs.Said.{Said}

-- ---- the line of a text

-- a space in the place of a line break
abbrev pub on_line : ℕ → ℕ
on_line b = if b == 10 || b == 13 then 32 else b

-- authority, colon, code, on one line
abbrev pub key_text : KeyBytes → List ℕ
key_text k = map on_line k.authority ++ 58 ∷ map on_line k.code

abbrev pub names_successor : Said → Bool
names_successor s = is_some s.by

abbrev pub spaced_key : Option KeyBytes → List ℕ
spaced_key None = []
spaced_key (Some k) = 32 ∷ short (key_text k)

-- a space and the key of a successor, cut after 200 characters, if the statement has one
abbrev pub successor_text : Said → List ℕ
successor_text s = spaced_key s.by

-- ` by` and the keys of all successors, if there are some
abbrev pub by_text : List Said → List ℕ
by_text ss = if list_any names_successor ss then codes " by" ++ flat_map successor_text ss else []

-- the status of a text, given the statements about it: a text is superseded if some entry with it is, even if another one is valid
abbrev pub status_text : Said → List Said → List ℕ
status_text s others = if s.valid then codes "valid" else codes "superseded" ++ by_text others

-- the key and the status, the indented text, and an empty line
pub record IsBlock (s : Said) (others : List Said) (block : List ℕ) : Type 0 where
  pub crs : Crs
  pub spelled : Spells s.text crs
  pub is : block ≡ key_text s.key ++ (32 ∷ (status_text s others ++ (10 ∷ (pretty crs ++ (10 ∷ 10 ∷ [])))))

-- ---- all texts

abbrev pub is_about : Said → Said → Bool
is_about s t = bytes_eq s.text t.text

abbrev pub both_about : Saying → Saying → Bool
both_about s t = bytes_eq s.text.now t.text.now

-- the statements about one text: the first, and the others
pub record Run : Type 0 where
  pub first : Said
  pub others : List Said

-- a statement is put in front of the first run, if that is about its text; otherwise it becomes a run of its own
abbrev pub before_runs : Said → List Run → List Run
before_runs s [] = record { first = s; others = [] } ∷ []
before_runs s (r ∷ rs) = if is_about s r.first then record { first = s; others = r.first ∷ r.others } ∷ rs else record { first = s; others = [] } ∷ r ∷ rs

-- runs of statements about one text
abbrev pub runs : List Said → List Run
runs [] = []
runs (s ∷ ss) = before_runs s (runs ss)

-- a block for each run
abbrev pub AreBlocks : List Run → List ℕ → Type 0
AreBlocks [] text = text ≡ []
AreBlocks (r ∷ rs) text = (block : List ℕ) × (rest : List ℕ) × IsBlock r.first r.others block × AreBlocks rs rest × (text ≡ block ++ rest)

-- the listing of some statements: a block for each text
abbrev pub IsListing : List Said → List ℕ → Type 0
IsListing ss text = AreBlocks (runs ss) text
