-- The lines of SQL, and the statements that they are.
use Rattle.std.proofs.Common.{◌≡◌, ℕ, ◌==◌, Bool, true, false, not, ◌&&◌, ◌||◌, nat_lt, List, [], ◌∷◌, ◌++◌, codes, map, Option, Some, None, if◌then◌else◌, refl, sym, ap, ◌∙◌, subst, arith}
use Rattle.std.proofs.lemmas.Bool.{and_parts, false≢true}
use Rattle.std.proofs.lemmas.Bool.Decides.{nat_tests}
use Rattle.std.proofs.lemmas.List.Folds.{list_all-append}
use Rattle.std.specs.List.{list_any}
use Rattle.crs_export.specs.SqlQuotes.{escaped_byte, escaped, quoted}
use Rattle.crs_export.specs.SqlStatements.{Between, Comment, to, step, has_no_null, AreStatements, code}
use Rattle.crs_export.proofs.SqlLemmas.{Takes, takes_both}
use Rattle.crs_part.specs.declared.crs.CrsParts.{CrsParts}
use Rattle.crs_export.specs.declared.title.Title.{Title}
use Rattle.crs_export.specs.declared.filed.Filed.{Filed}
use Rattle.crs_export.specs.declared.verdict.Verdict.{Verdict}
use Rattle.crs_export.specs.declared.verdict.Verdict.TheVariants.{Insert, Again, LeftOut}
use Rattle.crs_export.specs.declared.table.Table.{Table}
use Rattle.crs_export.specs.declared.table.Table.TheVariants.{Geographic2d, Geographic3d, Geocentric, OtherGeodetic, Projected}
use Rattle.crs_export.specs.declared.markup.TheConstants.{SQL_START, SQL_END, COMMA, ROW_END, LEFT_OUT}
use Rattle.crs_export.specs.Names.{is_long, is_zero}
use Rattle.crs_export.specs.Places.{place_of}
use Rattle.crs_export.specs.Rows.{field, start_of, type_of, rows_of}
use Rattle.crs_export.specs.Sql.{has_rows, has_key, has_null, fits, text_at, by_text, judged, insertion, on_line, comment, inserted_as, line_as, lines, sql}
use Rattle.crs_export.specs.Inserts.{Statement, row_statements, AreFor, AreOf, AreInserts, transaction}
use Rattle.crs_export.proofs.InsertLemmas.{TakesAll, all_none, all_both, all_one, takes_insertion, takes_rows}

-- ---- no U+0000

no_null_both : (a b : List ℕ) → has_no_null a ≡ true → has_no_null b ≡ true → has_no_null (a ++ b) ≡ true
no_null_both a b h k = list_all-append (λ c. not (c == 0)) a b ∙ rw (h, k) refl

no_null_step : (z : Bool) (bytes : List ℕ) → (list_any is_zero bytes ≡ false → has_no_null bytes ≡ true) → (z || list_any is_zero bytes) ≡ false → (not z && has_no_null bytes) ≡ true
no_null_step true bytes rest h = absurd (false≢true (sym h))
no_null_step false bytes rest h = rest h

no_null_from : (text : List ℕ) → list_any is_zero text ≡ false → has_no_null text ≡ true
no_null_from [] h = refl
no_null_from (b ∷ text) h = no_null_step (b == 0) text (no_null_from text) h

no_null_escaped : (text : List ℕ) → has_no_null text ≡ true → has_no_null (escaped text) ≡ true
no_null_escaped [] h = refl
no_null_escaped (b ∷ text) h =
    let each = and_parts (not (b == 0)) (has_no_null text) h in
    no_null_both (escaped_byte b) (escaped text) (one (b == 39) each.0) (no_null_escaped text each.1)
  where
    one : (m : Bool) → not (b == 0) ≡ true → has_no_null (if m then 39 ∷ 39 ∷ [] else b ∷ []) ≡ true
    one true h = refl
    one false h = rw h refl

no_null_quoted : (text : List ℕ) → has_no_null text ≡ true → has_no_null (quoted text) ≡ true
no_null_quoted text h = no_null_both (escaped text) (39 ∷ []) (no_null_escaped text h) refl

no_null_field : (start value : List ℕ) → has_no_null start ≡ true → has_no_null value ≡ true → has_no_null (field start value) ≡ true
no_null_field start value h k = no_null_both start (quoted value) h (no_null_quoted value k)

no_null_start : (t : Table) → has_no_null (start_of t) ≡ true
no_null_start Geographic2d = refl
no_null_start Geographic3d = refl
no_null_start Geocentric = refl
no_null_start OtherGeodetic = refl
no_null_start Projected = refl

no_null_type : (t : Table) → has_no_null (type_of t) ≡ true
no_null_type Geographic2d = refl
no_null_type Geographic3d = refl
no_null_type Geocentric = refl
no_null_type OtherGeodetic = refl
no_null_type Projected = refl

-- an entry without U+0000
record Clean (f : Filed) : Type 0 where
  authority : has_no_null f.keyed.authority.now ≡ true
  key : has_no_null f.keyed.code.now ≡ true
  name : has_no_null f.name.now ≡ true
  text : has_no_null f.keyed.text.now ≡ true
  rows : has_no_null f.rows.items ≡ true

none_of : (a b c d e : Bool) → not (a || (b || (c || (d || e)))) ≡ true → (a ≡ false) × (b ≡ false) × (c ≡ false) × (d ≡ false) × (e ≡ false)
none_of true b c d e h = absurd (false≢true h)
none_of false true c d e h = absurd (false≢true h)
none_of false false true d e h = absurd (false≢true h)
none_of false false false true e h = absurd (false≢true h)
none_of false false false false true h = absurd (false≢true h)
none_of false false false false false h = (refl, refl, refl, refl, refl)

clean : (f : Filed) → fits f ≡ true → Clean f
clean f h =
    let keyed = and_parts (has_rows f) (has_key f.keyed && (is_long f.name.now && not (has_null f))) h in
    let named = and_parts (has_key f.keyed) (is_long f.name.now && not (has_null f)) keyed.1 in
    let each = none_of _ _ _ _ _ (and_parts (is_long f.name.now) (not (has_null f)) named.1).1 in
    record {
      authority = no_null_from f.keyed.authority.now each.0;
      key = no_null_from f.keyed.code.now each.1;
      name = no_null_from f.name.now each.2;
      text = no_null_from f.keyed.text.now each.3;
      rows = no_null_from f.rows.items each.4;
    }

no_null_insertion : (f : Filed) (t : Table) → Clean f → has_no_null (insertion f t) ≡ true
no_null_insertion f t c =
    let authority = field (start_of t) f.keyed.authority.now in
    let key = field COMMA.now f.keyed.code.now in
    let name = field COMMA.now f.name.now in
    let text = field (type_of t) f.keyed.text.now in
    let one = no_null_both authority key (no_null_field (start_of t) f.keyed.authority.now (no_null_start t) c.authority) (no_null_field COMMA.now f.keyed.code.now refl c.key) in
    let two = no_null_both (authority ++ key) name one (no_null_field COMMA.now f.name.now refl c.name) in
    let three = no_null_both (authority ++ key ++ name) text two (no_null_field (type_of t) f.keyed.text.now (no_null_type t) c.text) in
    no_null_both (authority ++ key ++ name ++ text) ROW_END.now three refl

-- ---- comments

-- a byte of a comment stays on its line
stays : (b : ℕ) (t : Bool) → nat_lt b 32 ≡ t → ((if t then 32 else b) == 10) ≡ false
stays b true h = refl
stays b false h = grind (arith, nat_tests)

is_some_byte : (b : ℕ) (t : Bool) → nat_lt b 32 ≡ t → not ((if t then 32 else b) == 0) ≡ true
is_some_byte b true h = refl
is_some_byte b false h = grind (arith, nat_tests)

comment_step : (b : ℕ) → (b == 10) ≡ false → step Comment b ≡ to Comment
comment_step b h = rw h refl

takes_on_line : (bytes : List ℕ) → Takes Comment (map on_line bytes) [] Comment
takes_on_line [] = record { read = refl; place = refl }
takes_on_line (b ∷ bytes) =
    let here = comment_step (on_line b) (stays b _ refl) in
    let first : Takes Comment (on_line b ∷ []) [] Comment = record { read = ap (λ s. s.adds ++ []) here; place = ap (λ s. s.place) here } in
    takes_both first (takes_on_line bytes)

no_null_on_line : (bytes : List ℕ) → has_no_null (map on_line bytes) ≡ true
no_null_on_line [] = refl
no_null_on_line (b ∷ bytes) = ap (λ t. t && has_no_null (map on_line bytes)) (is_some_byte b _ refl) ∙ no_null_on_line bytes

takes_comment : (f : Filed) → TakesAll (comment f) []
takes_comment f =
    let start : Takes Between LEFT_OUT.now [] Comment = record { read = refl; place = refl } in
    let blank : Takes Comment (32 ∷ []) [] Comment = record { read = refl; place = refl } in
    let end : Takes Comment (10 ∷ []) [] Between = record { read = refl; place = refl } in
    record { is = takes_both (takes_both start (takes_on_line f.entry.items)) (takes_both blank (takes_both (takes_on_line f.name.now) end)) }

no_null_comment : (f : Filed) → has_no_null (comment f) ≡ true
no_null_comment f =
    no_null_both (LEFT_OUT.now ++ map on_line f.entry.items) (32 ∷ (map on_line f.name.now ++ 10 ∷ [])) (no_null_both LEFT_OUT.now (map on_line f.entry.items) refl (no_null_on_line f.entry.items))
    (no_null_both (map on_line f.name.now) (10 ∷ []) (no_null_on_line f.name.now) refl)

-- ---- lines

-- the bytes are these statements, and have no U+0000
record Are (bytes : List ℕ) (ss : List Statement) : Type 0 where
  no_null : has_no_null bytes ≡ true
  takes : TakesAll bytes ss

are_none : Are [] []
are_none = record { no_null = refl; takes = all_none }

are_both : {a b : List ℕ} {ss ts : List Statement} → Are a ss → Are b ts → Are (a ++ b) (ss ++ ts)
are_both {a = a} {b = b} one other = record { no_null = no_null_both a b one.no_null other.no_null; takes = all_both one.takes other.takes }

are_for : (f : Filed) (t : Option Table) (ss : List Statement) → Clean f → AreFor f t ss → Are (inserted_as f t) ss
are_for f None ss c (t, crs, rows, is) = record {
  no_null = c.rows;
  takes = subst (λ l. TakesAll l ss) (sym rows) (subst (λ l. TakesAll (rows_of t crs) l) (sym is) (takes_rows t crs));
}
are_for f (Some t) ss c is = subst (λ l. Are (insertion f t) l) (sym is) (record { no_null = no_null_insertion f t c; takes = takes_insertion f t })

are_of : (f : Filed) (v : Verdict) (ss : List Statement) → (v ≡ Insert → Clean f) → AreOf f v ss → Are (line_as f v) ss
are_of f Insert ss c are = are_for f f.table ss (c refl) are
are_of f Again ss c is = subst (λ l. Are [] l) (sym is) are_none
are_of f LeftOut ss c is = subst (λ l. Are (comment f) l) (sym is) (record { no_null = no_null_comment f; takes = takes_comment f })

is_insert : Verdict → Bool
is_insert Insert = true
is_insert Again = false
is_insert LeftOut = false

fitting : (b : Bool) (v : Verdict) → (if b then v else LeftOut) ≡ Insert → b ≡ true
unfolding is_insert
fitting true v e = refl
fitting false v e = ap is_insert e

are_lines : (before fs : List Filed) (ss : List Statement) → AreInserts before fs ss → Are (lines before fs) ss
are_lines before [] ss is = subst (λ l. Are [] l) (sym is) are_none
are_lines before (f ∷ fs) ss (mine, later, one, others, is) =
    subst (λ l. Are (line_as f (judged before f) ++ lines (before ++ f ∷ []) fs) l) (sym is)
    (are_both (are_of f (judged before f) mine (λ e. clean f (fitting (fits f) (by_text f.keyed.text.now (text_at (place_of f.keyed) before)) e)) one) (are_lines (before ++ f ∷ []) fs later others))

begins : Are SQL_START.now (code (codes "BEGIN") ∷ [])
begins = record { no_null = refl; takes = all_one (record { read = refl; place = refl }) (code (codes "BEGIN")) refl }

commits : Are SQL_END.now (code (codes "COMMIT") ∷ [])
commits = record { no_null = refl; takes = all_one (record { read = refl; place = refl }) (code (codes "COMMIT")) refl }

statements : {bytes : List ℕ} {ss : List Statement} → Are bytes ss → AreStatements bytes ss
statements are = record { no_null = are.no_null; read = are.takes.is.read; whole = are.takes.is.place }

pub sql_read : (fs : List Filed) (ss : List Statement) → AreInserts [] fs ss → AreStatements (sql fs) (transaction ss)
sql_read fs ss are = statements (are_both (are_both begins (are_lines [] fs ss are)) commits)

pub rows_read : (t : Title) (crs : CrsParts) → has_no_null (rows_of t crs) ≡ true → AreStatements (rows_of t crs) (row_statements t crs)
rows_read t crs h = statements (record { no_null = h; takes = takes_rows t crs })
