-- The rows of one entry, from the operation with its id.
use Rattle.std.proofs.Common.{◌≡◌, ℕ, ◌+◌, ◌<◌, ◌≤◌, true, false, cond, List, [], ◌∷◌, ◌++◌, append-nil, map, length, get_or, take, refl, sym, ap, ◌∙◌}
use Rattle.std.proofs.lemmas.Grind.{flat_map-append}
use Rattle.std.proofs.lemmas.List.{take_all, take_more}
use Rattle.std.specs.List.{flat_map}
use Rattle.reg_op.specs.Ids.{Id, is_same}
use Rattle.reg_op.specs.Operations.{Op, Ops}
use Rattle.reg_op.specs.declared.operation.OpBody.{OpBody as Body}
use Rattle.reg_op.specs.declared.operation.OpBody.TheVariants.{Enter, Supersede, Retire}
use Rattle.reg_op.specs.Rows.{Row, rows_at}
use Rattle.reg_report.proofs.EntryLemmas.{rows_in, of_entry, of_both, of_other}

-- what each operation adds, up to the next one
pub one_more : (f : Op → List Row) (os : List Op) (i : ℕ) (o : Op) → i < length os → o ≡ get_or os i o → flat_map f (take (i + 1) os) ≡ flat_map f (take i os) ++ f o
one_more f os i o h at =
    ap (flat_map f) (take_more os i o h) ∙ flat_map-append f (take i os) (get_or os i o ∷ [])
    ∙ ap (λ l. flat_map f (take i os) ++ l) (append-nil (f (get_or os i o)) ∙ ap f (sym at))

of_same : (s : Ops) (e i : Id) (b : Body) → is_same e i ≡ true → of_entry e (rows_at s i b) ≡ rows_at s i b
of_same s e i (Enter text) h = ap (λ t. cond t (rows_at s i (Enter text)) []) h
of_same s e i (Supersede old newer) h = refl
of_same s e i (Retire entry) h = refl

-- the row of the operation, if it has this id
abbrev pub row_if : Ops → Id → Op → List Row
row_if s e o = cond (is_same e o.id) (rows_at s o.id o.body) []

only_of : (s : Ops) (e : Id) (os : List Op) → flat_map (row_if s e) os ≡ of_entry e (rows_in s os)
only_of s e [] = refl
only_of s e (o ∷ os) = (λ k. first k ++ only_of s e os k) ∙ sym (of_both e (rows_at s o.id o.body) (rows_in s os))
  where
    first : row_if s e o ≡ of_entry e (rows_at s o.id o.body)
    first =
        elim (is_same e o.id) as (λ b. is_same e o.id ≡ b → cond b (rows_at s o.id o.body) [] ≡ of_entry e (rows_at s o.id o.body)) [
          | true ↦ λ h. sym (of_same s e o.id o.body h)
          | false ↦ λ h. sym (of_other s e o.id o.body h)
        ] refl

-- those of the first k operations, if there are no more
pub shown : (s : Ops) (e : Id) (os : List Op) (k : ℕ) (made : List Row) → length os ≤ k → made ≡ flat_map (row_if s e) (take k os) → made ≡ of_entry e (rows_in s os)
shown s e os k made h is = is ∙ ap (flat_map (row_if s e)) (take_all k os h) ∙ only_of s e os
