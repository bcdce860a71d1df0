-- Statements that put reference systems into PROJ's tables.
use Rattle.std.specs.Prelude.{ℕ, codes, ◌++◌, Bool, not, ◌||◌, ◌&&◌, nat_lt, nat_eq, List, [], ◌∷◌, map, Option, Some, None, is_some, if◌then◌else◌}
use Rattle.std.specs.Cmp.Lexicographic.{pointwise}
use Rattle.std.specs.List.{list_any}
use Rattle.crs_export.specs.declared.filed.Filed.{Filed}
use Rattle.crs_export.specs.declared.filed.EntryText.{EntryText}
use Rattle.crs_export.specs.declared.verdict.Verdict.{Verdict}
use Rattle.crs_export.specs.declared.verdict.Verdict.TheVariants.{Insert, Again, LeftOut}
use Rattle.crs_export.specs.declared.table.Table.{Table}
use Rattle.crs_export.specs.Places.{PlaceBytes, place_of, is_same_place}
use Rattle.crs_export.specs.Names.{is_long, is_zero, is_some_text}
use Rattle.crs_export.specs.Rows.{field, start_of, type_of}
use Rattle.crs_export.specs.declared.markup.TheConstants.{SQL_START, SQL_END, COMMA, ROW_END, LEFT_OUT}

-- ---- what the tables can hold

abbrev pub is_same_text : List ℕ → List ℕ → Bool
is_same_text a b = pointwise nat_eq a b

-- there is a table for its text, or there are statements for its rows
abbrev pub has_rows : Filed → Bool
has_rows f = is_some f.table || is_some_text f.rows.items

-- an authority that is not that of rows of entries, and a code
abbrev pub has_key : EntryText → Bool
has_key k = is_some_text k.authority.now && (not (is_same_text (codes "crsreg") k.authority.now) && is_some_text k.code.now)

-- there is a U+0000 in it, where SQLite ends a text
abbrev pub has_null : Filed → Bool
has_null f =
    list_any is_zero f.keyed.authority.now || (list_any is_zero f.keyed.code.now || (list_any is_zero f.name.now
    || (list_any is_zero f.keyed.text.now || list_any is_zero f.rows.items)))

-- it has rows, a key, a name of two characters, and no U+0000
abbrev pub fits : Filed → Bool
fits f = has_rows f && (has_key f.keyed && (is_long f.name.now && not (has_null f)))

-- ---- texts of earlier entries

abbrev pub has_place : PlaceBytes → Filed → Bool
has_place p f = fits f && is_same_place (place_of f.keyed) p

-- the text of the first of these entries that fits and has this place
abbrev pub text_at : PlaceBytes → List Filed → Option (List ℕ)
text_at p [] = None
text_at p (f ∷ fs) = if has_place p f then Some f.keyed.text.now else text_at p fs

abbrev pub by_text : List ℕ → Option (List ℕ) → Verdict
by_text text None = Insert
by_text text (Some earlier) = if is_same_text earlier text then Again else LeftOut

-- whether an entry is inserted after others, is there already, or is left out
abbrev pub judged : List Filed → Filed → Verdict
judged before f = if fits f then by_text f.keyed.text.now (text_at (place_of f.keyed) before) else LeftOut

-- ---- lines

abbrev pub row : List ℕ → Filed → List ℕ → List ℕ
row start f type =
    field start f.keyed.authority.now ++ field COMMA.now f.keyed.code.now ++ field COMMA.now f.name.now ++ field type f.keyed.text.now ++ ROW_END.now

abbrev pub insertion : Filed → Table → List ℕ
insertion f t = row (start_of t) f (type_of t)

-- a control character is a space, so that a text stays on the line
abbrev pub on_line : ℕ → ℕ
on_line b = if nat_lt b 32 then 32 else b

abbrev pub comment : Filed → List ℕ
comment f = LEFT_OUT.now ++ map on_line f.entry.items ++ 32 ∷ (map on_line f.name.now ++ 10 ∷ [])

abbrev pub inserted_as : Filed → Option Table → List ℕ
inserted_as f None = f.rows.items
inserted_as f (Some t) = insertion f t

abbrev pub line_as : Filed → Verdict → List ℕ
line_as f Insert = inserted_as f f.table
line_as f Again = []
line_as f LeftOut = comment f

-- a line for each entry after others
abbrev pub lines : List Filed → List Filed → List ℕ
lines before [] = []
lines before (f ∷ fs) = line_as f (judged before f) ++ lines (before ++ f ∷ []) fs

abbrev pub sql : List Filed → List ℕ
sql fs = SQL_START.now ++ lines [] fs ++ SQL_END.now
