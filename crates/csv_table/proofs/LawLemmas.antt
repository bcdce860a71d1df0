-- The records that are read from written rows.
use Rattle.std.proofs.Common.{List, ℕ, Bool, true, false, cond, ◌≡◌, ◌≢◌, ◌∙◌, ◌∷◌, ◌++◌, [], map, ap, refl, subst, Some, None, arith}
use Rattle.std.specs.List.{flat_map}
use Rattle.csv.specs.Machine.{Read, next_record}
use Rattle.csv.specs.Reading.{Reached, AreRecords, default_config, is_bom, strip_bom}
use Rattle.csv.specs.Writing.{default_writer, read_back, row_text}
use Rattle.csv.specs.declared.parser.State.{State}
use Rattle.csv.specs.declared.parser.State.TheVariants as st
use Rattle.csv.proofs.RoundTrip.{read-write}
use Rattle.std.proofs.lemmas.Bool.Decides.{nat_tests}
use Rattle.csv_table.specs.Answer.{IsTableOf}
use Rattle.csv_table.specs.Table.{table}

-- no record is read from empty bytes
none_read : (p : Read) → next_record default_config st.StartRecord [] [] [] ≡ Some p → ⊥
unfolding next_record
none_read p e = cc e

-- the first record that is read is the first row, as it is read back
first_read : (row : List (List ℕ)) (tail : List ℕ) (p : Read) → next_record default_config st.StartRecord [] [] (row_text default_writer row ++ tail) ≡ Some p
    → p ≡ (read_back row, st.StartRecord, tail)
first_read row tail p e = cc (read-write row tail)

-- while a row remains, a record can be read
row_left : (row : List (List ℕ)) (tail : List ℕ) (s : State) (ys : List ℕ) → st.StartRecord ≡ s → row_text default_writer row ++ tail ≡ ys
    → next_record default_config s [] [] ys ≡ None → ⊥
row_left row tail s ys a b n = cc (read-write row tail, a, b, n)

pub read_all : (rows records : List (List (List ℕ))) (s : State) (ys : List ℕ)
    → Reached default_config st.StartRecord (flat_map (row_text default_writer) rows) records s ys → next_record default_config s [] [] ys ≡ None
    → records ≡ map read_back rows
unfolding Reached
read_all [] [] s ys r n = refl
read_all [] (x ∷ xs) s ys (p, e, g, r) n = absurd (none_read p e)
read_all (row ∷ rows) [] s ys (a, b) n = absurd (row_left row (flat_map (row_text default_writer) rows) s ys a b n)
read_all (row ∷ rows) (x ∷ xs) s ys (p, e, g, r) n =
    let q = first_read row (flat_map (row_text default_writer) rows) p e in
    let here = g ∙ ap (λ (p : Read). p.0) q in
    let rest = read_all rows xs s ys (rw q at r) n in
    ap (λ (l : List (List ℕ)). l ∷ xs) here ∙ ap (λ (l : List (List (List ℕ))). read_back row ∷ l) rest

-- ---- a text that does not begin with a byte order mark

same_mark : (a b c : ℕ) → is_bom a b c ≡ true → (a ≡ 239) × (b ≡ 187) × (c ≡ 191)
same_mark a b c e = (grind (arith, nat_tests), grind (arith, nat_tests), grind (arith, nat_tests))

unmarked_by : (a b c : ℕ) (rest : List ℕ) → ((rs : List ℕ) → a ∷ b ∷ c ∷ rest ≢ 239 ∷ 187 ∷ 191 ∷ rs) → (m : Bool) → is_bom a b c ≡ m
    → cond m rest (a ∷ b ∷ c ∷ rest) ≡ a ∷ b ∷ c ∷ rest
unmarked_by a b c rest h true e = absurd (h rest (let k = same_mark a b c e in cc))
unmarked_by a b c rest h false e = refl

unmarked : (bs : List ℕ) → ((rest : List ℕ) → bs ≢ 239 ∷ 187 ∷ 191 ∷ rest) → strip_bom bs ≡ bs
unfolding strip_bom
unmarked [] h = refl
unmarked (a ∷ []) h = refl
unmarked (a ∷ b ∷ []) h = refl
unmarked (a ∷ b ∷ c ∷ rest) h = unmarked_by a b c rest h (is_bom a b c) refl

pub table_of_rows : (rows : List (List (List ℕ))) (text : List ℕ) → ((rest : List ℕ) → flat_map (row_text default_writer) rows ≢ 239 ∷ 187 ∷ 191 ∷ rest)
    → IsTableOf (flat_map (row_text default_writer) rows) text → text ≡ table (map read_back rows)
table_of_rows rows text h (records, found, is) =
    let are = subst (λ bs. AreRecords default_config st.StartRecord bs records) (unmarked (flat_map (row_text default_writer) rows) h) found in
    is ∙ ap table (read_all rows records are.0 are.1 are.2 are.3)
