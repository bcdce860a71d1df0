-- The columns of the records so far.
use Rattle.std.proofs.Common.{Bor, List, ℕ, Bool, true, false, ◌≡◌, ◌∙◌, ◌++◌, ◌∷◌, [], if◌then◌else◌, map, ap, refl, sym}
use Rattle.std.proofs.lemmas.List.Sums.{fold-append}
use Rattle.csv_table.specs.declared.columns.Column.{Column}
use Rattle.csv_table.specs.Table.{named, widened, columns}

named_twice : (names : List (Bor (List ℕ))) → map (λ (n : Bor (List ℕ)). named n.now) names ≡ map named (map (λ (n : Bor (List ℕ)). n.now) names)
named_twice [] = refl
named_twice (n ∷ ns) = ap (λ cs. named n.now ∷ cs) (named_twice ns)

-- the columns of these records, of which there are none before the header
abbrev pub Columned : Bool → List (List (List ℕ)) → List Column → Type 0
Columned true records made = (records ≡ []) × (made ≡ [])
Columned false [] made = ⊥
Columned false (r ∷ rs) made = made ≡ columns (r ∷ rs)

-- after one more record, whose fields are these
pub columned_more : (is_header : Bool) (records : List (List (List ℕ))) (old new : List Column) (fields : List (Bor (List ℕ))) (row : List (List ℕ)) → Columned is_header records old
    → map (λ (f : Bor (List ℕ)). f.now) fields ≡ row
    → new ≡ widened (map (λ (f : Bor (List ℕ)). f.now) fields) (if is_header then map (λ (n : Bor (List ℕ)). named n.now) fields else old) → Columned false (records ++ row ∷ []) new
columned_more true [] old new fields row (none, empty) f is =
    is ∙ ap (widened (map (λ (f : Bor (List ℕ)). f.now) fields)) (named_twice fields) ∙ ap (λ (r : List (List ℕ)). widened r (map named r)) f
columned_more true (r ∷ rs) old new fields row (none, empty) f is = absurd (cc none)
columned_more false [] old new fields row none f is = absurd none
columned_more false (r ∷ rs) old new fields row same f is =
    is ∙ ap (λ (fs : List (List ℕ)). widened fs old) f ∙ ap (widened row) same ∙ sym (fold-append (λ (cs : List Column) (fields : List (List ℕ)). widened fields cs) (map named r) (r ∷ rs) (row ∷ []))

pub columned_all : (is_header : Bool) (records : List (List (List ℕ))) (made : List Column) → Columned is_header records made → made ≡ columns records
columned_all true records made (none, empty) = empty ∙ ap columns (sym none)
columned_all false [] made none = absurd none
columned_all false (r ∷ rs) made same = same
