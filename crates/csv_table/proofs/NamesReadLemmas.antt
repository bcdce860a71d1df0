-- The names of rows, one after another.
use Rattle.std.proofs.Common.{◌≡◌, ◌∙◌, ◌↔◌, ◌+◌, ◌<◌, ◌++◌, ◌∷◌, [], ℕ, List, Option, Some, None, true, false, refl, sym, ap, map, length, drop, arith, append_assoc}
use Rattle.std.proofs.lemmas.List.{map-append, length-append, drop_more}
use Rattle.std.proofs.Math.ListN.{get_or}
use Rattle.csv.specs.Records.{Row, fields_of}
use Rattle.csv_table.specs.declared.offices.names.Name.{Name}
use Rattle.csv_table.specs.Reading.{given, pair, first_bad}

-- what has no value is nothing
pub unparsed : (p : Option (List ℕ)) → (false ≡ true) ↔ ((u : List ℕ) × (p ≡ Some u)) → None ≡ p
unparsed None e = refl
unparsed (Some u) e = let bad : false ≡ true = e.1 (u, refl) in absurd cc

-- a row that gives a name is read
read_row : (names : List Name) (n : Name) (row : List (List ℕ)) (rest all : List (List (List ℕ))) → Some (pair n) ≡ given row
    → map (λ m. Some (pair m)) names ++ map given (row ∷ rest) ≡ map given all → first_bad (length names + 2) (row ∷ rest) ≡ first_bad 2 all
    → (map (λ m. Some (pair m)) (names ++ n ∷ []) ++ map given rest ≡ map given all) × (first_bad (length (names ++ n ∷ []) + 2) rest ≡ first_bad 2 all)
read_row names n row rest all g e f =
    let more : length (names ++ n ∷ []) + 2 ≡ length names + 2 + 1 = rw (length-append names (n ∷ [])) (omega arith) in (
      rw (map-append (λ m. Some (pair m)) names (n ∷ []), append_assoc (map (λ m. Some (pair m)) names) (Some (pair n) ∷ []) (map given rest), g) e,
      rw more (rw (sym g) at f),
    )

pub read_more : (rows : List Row) (row : Row) (i : ℕ) (names made : List Name) (n : Name) → row ≡ get_or rows i row → i < length rows
    → Some (pair n) ≡ given (fields_of row) → made ≡ names ++ n ∷ []
    → (map (λ m. Some (pair m)) names ++ map given (map fields_of (drop i rows)) ≡ map given (map fields_of rows)) × (first_bad (length names + 2) (map fields_of (drop i rows)) ≡ first_bad 2 (map fields_of rows))
    → (map (λ m. Some (pair m)) made ++ map given (map fields_of (drop (i + 1) rows)) ≡ map given (map fields_of rows)) × (first_bad (length made + 2) (map fields_of (drop (i + 1) rows)) ≡ first_bad 2 (map fields_of rows))
read_more rows row i names made n is within g m inv =
    let here : drop i rows ≡ row ∷ drop (i + 1) rows = drop_more rows i row within ∙ ap (λ r. r ∷ drop (i + 1) rows) (sym is) in
    rw m (read_row names n (fields_of row) (map fields_of (drop (i + 1) rows)) (map fields_of rows) g (rw here at inv.0) (rw here at inv.1))
