-- Rows of a content, statuses of entries, and the entries of a join.
use Rattle.std.proofs.Common.{◌≡◌, ◌≢◌, ◌||◌, Bool, true, false, cond, List, [], ◌∷◌, Ok, refl, sym, ap, ◌∙◌, subst, inl, inr}
use Rattle.std.specs.Prelude.{Contains, Some, None, ◌&&◌}
use Rattle.std.specs.List.{filter}
use Rattle.std.proofs.lemmas.Bool.{true≢false}
use Rattle.reg_op.specs.Set.{union}
use Rattle.reg_op.specs.Ids.{Id, is_same}
use Rattle.reg_op.specs.Operations.{Op, Ops}
use Rattle.reg_op.specs.Contents.{Content, joined, IsContent}
use Rattle.reg_op.specs.Rows.{rows}
use Rattle.reg_op.specs.Status.{enters, retires, supersedes, status, is_enter, is_retirement}
use Rattle.reg_op.specs.declared.status.Status.TheVariants.{Retired, Superseded, Valid}
use Rattle.reg_op.proofs.OpLemmas.{op_total, op_exact}
use Rattle.reg_op.proofs.FiniteLemmas.{any-union}
use Rattle.reg_op.proofs.StatusLemmas.{enters-kept, retires-kept}
use Rattle.reg_op.proofs.JoinLemmas.{joined_ok}
use Rattle.reg_report.proofs.ConflictLemmas.{none_in, in_cons, in_head, in_tail}
use Rattle.reg_report.proofs.FoundLemmas.{OneRow, one_row as one_in_order}
use Rattle.reg_report.proofs.RowLemmas.{rows_ascend}

-- ---- rows

of_cons : {X : Type 0} (p : X → Bool) (y : X) (ys : List X) (x : X) (t : Bool) → (Contains (filter p ys) x → Contains ys x) → Contains (cond t (y ∷ filter p ys) (filter p ys)) x → Contains (y ∷ ys) x
of_cons p y ys x true others c = elim (in_cons x y (filter p ys) c) [
  | inl same ↦ subst (λ z. Contains (y ∷ ys) z) (sym same) (in_head y ys)
  | inr later ↦ in_tail x y ys (others later)
]
of_cons p y ys x false others c = in_tail x y ys (others c)

pub of_filter : {X : Type 0} (p : X → Bool) (xs : List X) (x : X) → Contains (filter p xs) x → Contains xs x
of_filter p [] x h = absurd (none_in x h)
of_filter p (y ∷ ys) x h = of_cons p y ys x (p y) (λ c. of_filter p ys x c) h

-- an entry of a content has at most one row
pub one_row : (x : Content) → IsContent x → OneRow (rows x.ops)
one_row x is = one_in_order (rows x.ops) (rows_ascend x is)

-- ---- the status of an entry, and whether it is retired

retired_or : (en re su : Bool) → cond en (Some (cond re Retired (cond su Superseded Valid))) None ≡ Some Retired → re ≡ true
retired_or true true su h = refl
retired_or true false true h = cc
retired_or true false false h = cc
retired_or false re su h = cc

pub stands_if : (s : Ops) (e : Id) → retires s e ≡ false → status s e ≢ Some Retired
stands_if s e none h = true≢false (sym (retired_or (enters s e) (retires s e) (supersedes s e) h) ∙ none)

pub retired_if : (s : Ops) (e : Id) → enters s e ≡ true → retires s e ≡ true → status s e ≡ Some Retired
retired_if s e there gone = simp (there, gone)

pub none_retires : (s : Ops) (e : Id) → enters s e ≡ true → status s e ≢ Some Retired → retires s e ≡ false
none_retires s e there stands = by (retires s e) refl
  where
    by : (b : Bool) → retires s e ≡ b → retires s e ≡ false
    by true gone = absurd (stands (retired_if s e there gone))
    by false none = none

-- ---- a join

module _ (x y z : Content) (j : joined x y ≡ Ok z) where
  pub join_retires : (e : Id) → retires z.ops e ≡ (retires x.ops e || retires y.ops e)
  join_retires e =
      ap (λ (c : Content). retires c.ops e) (sym (joined_ok x y z j).1)
      ∙ retires-kept (union x.ops y.ops) e
      ∙ any-union op_total op_exact (λ (o : Op). is_retirement e o.body) x.ops y.ops

  pub join_enters : (e : Id) → enters z.ops e ≡ (enters x.ops e || enters y.ops e)
  join_enters e =
      ap (λ (c : Content). enters c.ops e) (sym (joined_ok x y z j).1)
      ∙ enters-kept (union x.ops y.ops) e
      ∙ any-union op_total op_exact (λ (o : Op). is_same e o.id && is_enter o.body) x.ops y.ops
