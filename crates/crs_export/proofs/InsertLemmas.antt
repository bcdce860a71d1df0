-- The bytes of the statements that insert rows, and the statements that they are.
use Rattle.std.proofs.Common.{◌≡◌, ℕ, suc, ◌/◌, ◌^◌, ◌<◌, ◌==◌, Bool, true, false, ◌&&◌, ◌||◌, List, [], ◌∷◌, ◌++◌, codes, cond, ℤ, pos, negsuc, replicate, decimal, unsigned_abs, Option, Some, None, if◌then◌else◌, refl, sym, ap, ◌∙◌, append_assoc, append-nil, subst, arith}
use Rattle.std.proofs.Math.Nat.{div-le_self}
use Rattle.std.proofs.lemmas.Bool.{and_parts}
use Rattle.std.proofs.lemmas.Bool.Decides.{nat_tests}
use Rattle.std.proofs.lemmas.List.Concat.{flat_map-append}
use Rattle.std.proofs.lemmas.List.Folds.{list_all-append}
use Rattle.std.specs.Char.{is_ascii_digit}
use Rattle.std.specs.List.{flat_map, list_all}
use Rattle.crs_number.specs.declared.decimals.Decimal.{Decimal}
use Rattle.crs_number.specs.Canonical.{last_digits, minus_of, plain_text}
use Rattle.crs_export.specs.SqlStatements.{Place, Between, Statement, AfterMinus, AfterMark, Part, Byte, Text, End, to, before, in_statement, step, ended, code}
use Rattle.crs_export.proofs.SqlLemmas.{Takes, takes_both, takes_quoted}
use Rattle.wkt_grammar.specs.Canon.{canon}
use Rattle.crs_part.specs.declared.crs.CrsParts.{CrsParts}
use Rattle.crs_part.specs.declared.crs.CrsParts.TheVariants as whole
use Rattle.crs_part.specs.declared.crs.Single.{Single}
use Rattle.crs_part.specs.declared.crs.Compound.{Compound}
use Rattle.crs_export.specs.declared.title.Title.{Title}
use Rattle.crs_export.specs.declared.filed.Filed.{Filed}
use Rattle.crs_export.specs.declared.table.Table.{Table}
use Rattle.crs_export.specs.declared.table.Table.TheVariants.{Geographic2d, Geographic3d, Geocentric, OtherGeodetic, Projected}
use Rattle.crs_export.specs.declared.markup.TheConstants.{GEODETIC, PROJECTED, COMMA, ROW_END, OWNER, UNIT, LENGTH, SYSTEM, SYSTEM_END, AXIS, OF_OWNER, FIRST_OF_OWNER, KEY_END, FRAME, VERTICAL, COMPOUND, BY_OWNER, HORIZONTAL, HORIZONTAL_AND_OWNER}
use Rattle.crs_export.specs.Boxes.{numeral}
use Rattle.crs_export.specs.Heights.{HeightBytes, height_in, is_named}
use Rattle.crs_export.specs.Names.{is_long}
use Rattle.crs_export.specs.Rows.{field, start_of, type_of, unit_row, system_row, owner_end, axis_row, frame_row, vertical_row, height_rows, vertical_rows, name_in, flat_table, flat_between, compound_row, both_rows, with_height, with_table, rows_of}
use Rattle.crs_export.specs.Sql.{insertion}
use Rattle.crs_export.specs.Inserts as to_be
use Rattle.crs_export.specs.Inserts.{a_text, own, table_name, kinds, insert_text, insert_filed, insert_unit, insert_system, insert_axis, insert_frame, insert_vertical, height_statements, vertical_statements, horizontal, insert_flat, insert_compound, both_statements, row_statements}
use Rattle.crs_export.proofs.NumeralLemmas.{are_digits, zeros, last_are, decimal_digits, Starts, decimal_starts}

takes_as : {p q : Place} {a : List ℕ} {xs : List Part} → Takes p a xs q → (ys : List Part) → xs ≡ ys → Takes p a ys q
takes_as {p = p} {q = q} {a = a} it ys e = subst (λ l. Takes p a l q) e it

-- constant bytes, and a quoted text behind them
takes_field : {p : Place} {start : List ℕ} {xs : List Part} → Takes p start xs Statement → (value : List ℕ) → Takes p (field start value) (xs ++ []) (AfterMark value)
takes_field start value = takes_both start (takes_quoted value)

comma : (text value : List ℕ) → Takes (AfterMark text) (field COMMA.now value) (Text text ∷ Byte 44 ∷ []) (AfterMark value)
comma text value = let start : Takes (AfterMark text) COMMA.now (Text text ∷ Byte 44 ∷ []) Statement = record { read = refl; place = refl } in takes_field start value

row_end : (text : List ℕ) → Takes (AfterMark text) ROW_END.now (Text text ∷ Byte 44 ∷ Byte 48 ∷ Byte 41 ∷ End ∷ []) Between
row_end text = record { read = refl; place = refl }

-- ---- numerals

is_code : ℕ → Bool
is_code b = is_ascii_digit b || (b == 46)

code_step : (b : ℕ) → is_code b ≡ true → in_statement b ≡ before (Byte b) (to Statement)
unfolding is_code
code_step b h =
    let m : (b == 39) ≡ false = grind (arith, nat_tests) in
    let s : (b == 59) ≡ false = grind (arith, nat_tests) in
    let d : (b == 45) ≡ false = grind (arith, nat_tests) in
    let q : (b == 34) ≡ false = grind (arith, nat_tests) in
    let o : (b == 91) ≡ false = grind (arith, nat_tests) in
    let g : (b == 96) ≡ false = grind (arith, nat_tests) in
    let l : (b == 47) ≡ false = grind (arith, nat_tests) in
    rw (m, s, d, q, o, g, l) refl

takes_one : (b : ℕ) → is_code b ≡ true → Takes Statement (b ∷ []) (Byte b ∷ []) Statement
takes_one b h = let here = code_step b h in record { read = ap (λ s. s.adds ++ []) here; place = ap (λ s. s.place) here }

takes_code : (bs : List ℕ) → list_all is_code bs ≡ true → Takes Statement bs (code bs) Statement
takes_code [] h = record { read = refl; place = refl }
takes_code (b ∷ bs) h = let each = and_parts (is_code b) (list_all is_code bs) h in takes_both (takes_one b each.0) (takes_code bs each.1)

-- behind a minus
minus_step : (b : ℕ) → is_code b ≡ true → step AfterMinus b ≡ before (Byte 45) (before (Byte b) (to Statement))
unfolding is_code
minus_step b h =
    let d : (b == 45) ≡ false = grind (arith, nat_tests) in
    ap (λ t. cond t (to Place.Lost) (before (Byte 45) (in_statement b))) d ∙ ap (before (Byte 45)) (code_step b h)

takes_minus : (b : ℕ) (bs : List ℕ) → is_code b ≡ true → list_all is_code bs ≡ true → Takes Statement (45 ∷ b ∷ bs) (code (45 ∷ b ∷ bs)) Statement
takes_minus b bs h hs =
    let here = minus_step b h in
    let first : Takes Statement (45 ∷ b ∷ []) (Byte 45 ∷ Byte b ∷ []) Statement = record { read = ap (λ s. s.adds ++ []) here; place = ap (λ s. s.place) here } in
    takes_both first (takes_code bs hs)

code_digits : (ds : List ℕ) → are_digits ds ≡ true → list_all is_code ds ≡ true
unfolding is_code
code_digits [] h = refl
code_digits (d ∷ ds) h = let each = and_parts (is_ascii_digit d) (are_digits ds) h in rw each.0 (code_digits ds each.1)

code_both : (xs ys : List ℕ) → list_all is_code xs ≡ true → list_all is_code ys ≡ true → list_all is_code (xs ++ ys) ≡ true
code_both xs ys h k = list_all-append is_code xs ys ∙ rw (h, k) refl

code_dot : (ds : List ℕ) → are_digits ds ≡ true → list_all is_code (46 ∷ ds) ≡ true
unfolding is_code
code_dot ds h = code_digits ds h

plain_code : (n : ℕ) (e : ℤ) → n < 10 ^ 34 → list_all is_code (plain_text n e) ≡ true
unfolding plain_text
plain_code n (pos k) small = code_both (decimal n) (replicate k 48) (code_digits (decimal n) (decimal_digits n small)) (code_digits (replicate k 48) (zeros k))
plain_code n (negsuc k) small =
    let front : n / 10 ^ suc k < 10 ^ 34 = omega (arith, div-le_self n (10 ^ suc k)) in
    code_both (decimal (n / 10 ^ suc k)) (46 ∷ last_digits (suc k) n) (code_digits (decimal (n / 10 ^ suc k)) (decimal_digits (n / 10 ^ suc k) front)) (code_dot (last_digits (suc k) n) (last_are (suc k) n))

-- it begins with a digit
plain_starts : (n : ℕ) (e : ℤ) → n < 10 ^ 34 → Starts (plain_text n e)
unfolding plain_text
plain_starts n (pos k) small = let s = decimal_starts n small in record { first = s.first; others = s.others ++ replicate k 48; is = ap (λ l. l ++ replicate k 48) s.is }
plain_starts n (negsuc k) small =
    let front : n / 10 ^ suc k < 10 ^ 34 = omega (arith, div-le_self n (10 ^ suc k)) in
    let s = decimal_starts (n / 10 ^ suc k) front in
    record { first = s.first; others = s.others ++ (46 ∷ last_digits (suc k) n); is = ap (λ l. l ++ (46 ∷ last_digits (suc k) n)) s.is }

signed : (c : ℤ) (text : List ℕ) → list_all is_code text ≡ true → Starts text → Takes Statement (minus_of c ++ text) (code (minus_of c ++ text)) Statement
signed (pos n) text h s = takes_code text h
signed (negsuc n) text h s =
    let each = and_parts (is_code s.first) (list_all is_code s.others) (ap (list_all is_code) (sym s.is) ∙ h) in
    subst (λ t. Takes Statement (45 ∷ t) (code (45 ∷ t)) Statement) (sym s.is) (takes_minus s.first s.others each.0 each.1)

takes_numeral : (d : Decimal) → Takes Statement (numeral d) (code (numeral d)) Statement
takes_numeral d =
    let n = unsigned_abs d.coefficient in
    signed d.coefficient (plain_text n d.exponent) (plain_code n d.exponent d.small) (plain_starts n d.exponent d.small)

-- ---- whole statements

-- the bytes are these statements
pub record TakesAll (bytes : List ℕ) (ss : List (List Part)) : Type 0 where
  pub is : Takes Between bytes (flat_map ended ss) Between

pub all_none : TakesAll [] []
all_none = record { is = record { read = refl; place = refl } }

pub all_both : {a b : List ℕ} {ss ts : List (List Part)} → TakesAll a ss → TakesAll b ts → TakesAll (a ++ b) (ss ++ ts)
all_both {ss = ss} {ts = ts} one other = record { is = takes_as (takes_both one.is other.is) (flat_map ended (ss ++ ts)) (sym (flat_map-append ended ss ts)) }

pub all_one : {a : List ℕ} {ps : List Part} → Takes Between a ps Between → (s : List Part) → ps ≡ ended s → TakesAll a (s ∷ [])
all_one it s e = record { is = takes_as it (flat_map ended (s ∷ [])) (e ∙ sym (append-nil (ended s))) }

-- ---- a table that takes a text

geodetic_start : Takes Between GEODETIC.now (code (codes "INSERT INTO geodetic_crs(auth_name,code,name,type,text_definition,deprecated) VALUES(")) Statement
geodetic_start = record { read = refl; place = refl }

projected_start : Takes Between PROJECTED.now (code (codes "INSERT INTO projected_crs(auth_name,code,name,text_definition,deprecated) VALUES(")) Statement
projected_start = record { read = refl; place = refl }

takes_start : (t : Table) → Takes Between (start_of t) (code (codes "INSERT INTO ") ++ (code (table_name t) ++ code (codes " VALUES("))) Statement
takes_start Geographic2d = geodetic_start
takes_start Geographic3d = geodetic_start
takes_start Geocentric = geodetic_start
takes_start OtherGeodetic = geodetic_start
takes_start Projected = projected_start

-- the values between a name and a text
abbrev between : Table → List Part
between Geographic2d = Byte 44 ∷ Text (codes "geographic 2D") ∷ Byte 44 ∷ []
between Geographic3d = Byte 44 ∷ Text (codes "geographic 3D") ∷ Byte 44 ∷ []
between Geocentric = Byte 44 ∷ Text (codes "geocentric") ∷ Byte 44 ∷ []
between OtherGeodetic = Byte 44 ∷ Text (codes "other") ∷ Byte 44 ∷ []
between Projected = Byte 44 ∷ []

takes_type : (t : Table) (name : List ℕ) → Takes (AfterMark name) (type_of t) (Text name ∷ between t) Statement
takes_type Geographic2d name = record { read = refl; place = refl }
takes_type Geographic3d name = record { read = refl; place = refl }
takes_type Geocentric name = record { read = refl; place = refl }
takes_type OtherGeodetic name = record { read = refl; place = refl }
takes_type Projected name = record { read = refl; place = refl }

row_parts : (f : Filed) (t : Table)
    → ((code (codes "INSERT INTO ") ++ (code (table_name t) ++ code (codes " VALUES("))) ++ []) ++ (Text f.keyed.authority.now ∷ Byte 44 ∷ []) ++ (Text f.keyed.code.now ∷ Byte 44 ∷ []) ++ ((Text f.name.now ∷ between t) ++ [])
    ++ (Text f.keyed.text.now ∷ Byte 44 ∷ Byte 48 ∷ Byte 41 ∷ End ∷ [])
    ≡ ended (insert_filed f t)
row_parts f Geographic2d = refl
row_parts f Geographic3d = refl
row_parts f Geocentric = refl
row_parts f OtherGeodetic = refl
row_parts f Projected = refl

pub takes_insertion : (f : Filed) (t : Table) → TakesAll (insertion f t) (insert_filed f t ∷ [])
takes_insertion f t =
    all_one
    (takes_both (takes_both (takes_both (takes_both (takes_field (takes_start t) f.keyed.authority.now) (comma f.keyed.authority.now f.keyed.code.now)) (comma f.keyed.code.now f.name.now)) (takes_field (takes_type t f.name.now) f.keyed.text.now)) (row_end f.keyed.text.now))
    (insert_filed f t) (row_parts f t)

-- ---- the rows of a vertical system

takes_unit : (entry : List ℕ) (h : HeightBytes) → TakesAll (unit_row entry h) (insert_unit entry h ∷ [])
takes_unit entry h =
    let start : Takes Between UNIT.now (code (codes "INSERT INTO unit_of_measure(auth_name,code,name,type,conv_factor,deprecated) VALUES(") ++ (Text (codes "crsreg") ∷ Byte 44 ∷ [])) Statement = record { read = refl; place = refl } in
    let length : Takes (AfterMark h.unit) LENGTH.now (Text h.unit ∷ Byte 44 ∷ Text (codes "length") ∷ Byte 44 ∷ []) Statement = record { read = refl; place = refl } in
    let end : Takes Statement ROW_END.now (Byte 44 ∷ Byte 48 ∷ Byte 41 ∷ End ∷ []) Between = record { read = refl; place = refl } in
    all_one (takes_both (takes_both (takes_both (takes_both (takes_field start entry) (comma entry h.unit)) length) (takes_numeral h.factor)) end) (insert_unit entry h) (unit_parts entry h.unit (numeral h.factor))
  where
    unit_parts : (entry unit factor : List ℕ)
        → ((code (codes "INSERT INTO unit_of_measure(auth_name,code,name,type,conv_factor,deprecated) VALUES(") ++ (Text (codes "crsreg") ∷ Byte 44 ∷ [])) ++ []) ++ (Text entry ∷ Byte 44 ∷ []) ++ (Text unit ∷ Byte 44 ∷ Text (codes "length") ∷ Byte 44 ∷ []) ++ code factor ++ (Byte 44 ∷ Byte 48 ∷ Byte 41 ∷ End ∷ [])
        ≡ ended (to_be.insert (codes "unit_of_measure(auth_name,code,name,type,conv_factor,deprecated)") own (a_text entry ∷ a_text unit ∷ a_text (codes "length") ∷ code factor ∷ to_be.current ∷ []))
    unit_parts entry unit factor = ap (λ l. code (codes "INSERT INTO unit_of_measure(auth_name,code,name,type,conv_factor,deprecated) VALUES(") ++ (Text (codes "crsreg") ∷ Byte 44 ∷ Text entry ∷ Byte 44 ∷ Text unit ∷ Byte 44 ∷ Text (codes "length") ∷ Byte 44 ∷ l)) (sym (append_assoc (code factor) (Byte 44 ∷ Byte 48 ∷ Byte 41 ∷ []) (End ∷ [])))

takes_system : (entry : List ℕ) → TakesAll (system_row entry) (insert_system entry ∷ [])
takes_system entry =
    let start : Takes Between SYSTEM.now (code (codes "INSERT INTO coordinate_system(auth_name,code,type,dimension) VALUES(") ++ (Text (codes "crsreg") ∷ Byte 44 ∷ [])) Statement = record { read = refl; place = refl } in
    let end : Takes (AfterMark entry) SYSTEM_END.now (Text entry ∷ Byte 44 ∷ Text (codes "vertical") ∷ Byte 44 ∷ Byte 49 ∷ Byte 41 ∷ End ∷ []) Between = record { read = refl; place = refl } in
    all_one (takes_both (takes_field start entry) end) (insert_system entry) refl

-- two references to rows of the entry, and the end of a statement
takes_owner : {last : List Part} (text entry between end : List ℕ) (xs : List Part) → Takes (AfterMark entry) between xs Statement → Takes (AfterMark entry) end last Between
    → Takes (AfterMark text) (owner_end entry between end) (((Text text ∷ Byte 44 ∷ Text (codes "crsreg") ∷ Byte 44 ∷ []) ++ (xs ++ [])) ++ last) Between
takes_owner text entry between end xs middle last =
    let start : Takes (AfterMark text) OF_OWNER.now (Text text ∷ Byte 44 ∷ Text (codes "crsreg") ∷ Byte 44 ∷ []) Statement = record { read = refl; place = refl } in
    takes_both (takes_both (takes_field start entry) (takes_field middle entry)) last

takes_axis : (entry : List ℕ) (h : HeightBytes) → TakesAll (axis_row entry h) (insert_axis entry h ∷ [])
takes_axis entry h =
    let start : Takes Between AXIS.now (code (codes "INSERT INTO axis(auth_name,code,name,abbrev,orientation,coordinate_system_auth_name,coordinate_system_code,coordinate_system_order,uom_auth_name,uom_code) VALUES(") ++ (Text (codes "crsreg") ∷ Byte 44 ∷ [])) Statement = record { read = refl; place = refl } in
    let middle : Takes (AfterMark entry) FIRST_OF_OWNER.now (Text entry ∷ Byte 44 ∷ Byte 49 ∷ Byte 44 ∷ Text (codes "crsreg") ∷ Byte 44 ∷ []) Statement = record { read = refl; place = refl } in
    let end : Takes (AfterMark entry) KEY_END.now (Text entry ∷ Byte 41 ∷ End ∷ []) Between = record { read = refl; place = refl } in
    all_one
    (takes_both (takes_both (takes_both (takes_both (takes_field start entry) (comma entry h.axis)) (comma h.axis h.abbreviation)) (comma h.abbreviation h.direction)) (takes_owner h.direction entry FIRST_OF_OWNER.now KEY_END.now _ middle end))
    (insert_axis entry h) refl

takes_frame : (entry : List ℕ) (h : HeightBytes) → TakesAll (frame_row entry h) (insert_frame entry h ∷ [])
takes_frame entry h =
    let start : Takes Between FRAME.now (code (codes "INSERT INTO vertical_datum(auth_name,code,name,deprecated) VALUES(") ++ (Text (codes "crsreg") ∷ Byte 44 ∷ [])) Statement = record { read = refl; place = refl } in
    all_one (takes_both (takes_both (takes_field start entry) (comma entry h.frame)) (row_end h.frame)) (insert_frame entry h) refl

takes_vertical : (authority key entry name : List ℕ) → TakesAll (vertical_row authority key entry name) (insert_vertical authority key entry name ∷ [])
takes_vertical authority key entry name =
    let start : Takes Between VERTICAL.now (code (codes "INSERT INTO vertical_crs(auth_name,code,name,coordinate_system_auth_name,coordinate_system_code,datum_auth_name,datum_code,deprecated) VALUES(")) Statement = record { read = refl; place = refl } in
    let middle : Takes (AfterMark entry) OF_OWNER.now (Text entry ∷ Byte 44 ∷ Text (codes "crsreg") ∷ Byte 44 ∷ []) Statement = record { read = refl; place = refl } in
    all_one (takes_both (takes_both (takes_both (takes_field start authority) (comma authority key)) (comma key name)) (takes_owner name entry OF_OWNER.now ROW_END.now _ middle (row_end entry))) (insert_vertical authority key entry name) refl

takes_height : (authority key entry : List ℕ) (h : HeightBytes) → TakesAll (height_rows authority key entry h) (height_statements authority key entry h)
takes_height authority key entry h = all_both (all_both (all_both (all_both (takes_unit entry h) (takes_system entry)) (takes_axis entry h)) (takes_frame entry h)) (takes_vertical authority key entry h.name)

takes_named : (t : Title) (h : HeightBytes) (b : Bool) → TakesAll (if b then height_rows t.authority.now t.code.now t.entry.now h else []) (if b then height_statements t.authority.now t.code.now t.entry.now h else [])
takes_named t h true = takes_height t.authority.now t.code.now t.entry.now h
takes_named t h false = all_none

takes_verticals : (t : Title) (h : Option HeightBytes) → TakesAll (vertical_rows t h) (vertical_statements t h)
takes_verticals t None = all_none
takes_verticals t (Some h) = takes_named t h (is_named h)

-- ---- the rows of a compound system

flat_parts : (entry name text : List ℕ) (t : Table)
    → (code (codes "INSERT INTO ") ++ (code (table_name t) ++ code (codes " VALUES("))) ++ ((Text (codes "crsreg") ∷ Byte 44 ∷ []) ++ []) ++ ((Text entry ∷ Byte 124 ∷ Byte 124 ∷ Text (codes " horizontal") ∷ Byte 44 ∷ []) ++ [])
    ++ ((Text name ∷ between t) ++ []) ++ (Text text ∷ Byte 44 ∷ Byte 48 ∷ Byte 41 ∷ End ∷ [])
    ≡ ended (insert_text t own (horizontal entry) (a_text name) text)
flat_parts entry name text Geographic2d = refl
flat_parts entry name text Geographic3d = refl
flat_parts entry name text Geocentric = refl
flat_parts entry name text OtherGeodetic = refl
flat_parts entry name text Projected = refl

takes_flat : (entry name text : List ℕ) (t : Table) → TakesAll (flat_between (start_of t) entry name (type_of t) text) (insert_text t own (horizontal entry) (a_text name) text ∷ [])
takes_flat entry name text t =
    let owner : Takes Statement BY_OWNER.now (Text (codes "crsreg") ∷ Byte 44 ∷ []) Statement = record { read = refl; place = refl } in
    let suffix : Takes (AfterMark entry) HORIZONTAL.now (Text entry ∷ Byte 124 ∷ Byte 124 ∷ Text (codes " horizontal") ∷ Byte 44 ∷ []) Statement = record { read = refl; place = refl } in
    all_one (takes_both (takes_both (takes_both (takes_both (takes_start t) (takes_field owner entry)) (takes_field suffix name)) (takes_field (takes_type t name) text)) (row_end text)) (insert_text t own (horizontal entry) (a_text name) text)
    (flat_parts entry name text t)

takes_compound : (t : Title) → TakesAll (compound_row t) (insert_compound t ∷ [])
takes_compound t =
    let start : Takes Between COMPOUND.now (code (codes "INSERT INTO compound_crs(auth_name,code,name,horiz_crs_auth_name,horiz_crs_code,vertical_crs_auth_name,vertical_crs_code,deprecated) VALUES(")) Statement = record { read = refl; place = refl } in
    let middle : Takes (AfterMark t.entry.now) HORIZONTAL_AND_OWNER.now (Text t.entry.now ∷ Byte 124 ∷ Byte 124 ∷ Text (codes " horizontal") ∷ Byte 44 ∷ Text (codes "crsreg") ∷ Byte 44 ∷ []) Statement = record { read = refl; place = refl } in
    all_one
    (takes_both (takes_both (takes_both (takes_field start t.authority.now) (comma t.authority.now t.code.now)) (comma t.code.now t.name.now)) (takes_owner t.name.now t.entry.now HORIZONTAL_AND_OWNER.now ROW_END.now _ middle (row_end t.entry.now)))
    (insert_compound t) refl

takes_both_rows : (t : Title) (table : Table) (first : Single) (h : HeightBytes) → TakesAll (both_rows t table first h) (both_statements t table first h)
takes_both_rows t table first h = all_both (all_both (takes_flat t.entry.now (name_in first) (canon (whole.Single first)) table) (takes_height OWNER.now t.entry.now t.entry.now h)) (takes_compound t)

takes_if_named : (t : Title) (table : Table) (first : Single) (h : HeightBytes) (b : Bool) → TakesAll (if b then both_rows t table first h else []) (if b then both_statements t table first h else [])
takes_if_named t table first h true = takes_both_rows t table first h
takes_if_named t table first h false = all_none

takes_with_height : (t : Title) (table : Table) (first : Single) (h : Option HeightBytes) → TakesAll (with_height t table first h) (to_be.with_height t table first h)
takes_with_height t table first None = all_none
takes_with_height t table first (Some h) = takes_if_named t table first h (is_named h && is_long (name_in first))

takes_with_table : (t : Title) (c : Compound) (table : Option Table) → TakesAll (with_table t c table) (to_be.with_table t c table)
takes_with_table t c None = all_none
takes_with_table t c (Some table) = takes_with_height t table c.first (height_in c.second)

pub takes_rows : (t : Title) (crs : CrsParts) → TakesAll (rows_of t crs) (row_statements t crs)
takes_rows t (whole.Single crs) = takes_verticals t (height_in crs)
takes_rows t (whole.Compound c) = takes_with_table t c (flat_table c.first)
