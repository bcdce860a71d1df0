-- The merge of a list of contents is the merge of the merges of its halves.
use Rattle.std.proofs.Common.{◌≡◌, ℕ, true, List, [], ◌∷◌, ◌++◌, take, drop, Ok, sym, ap, ◌∙◌, subst}
use Rattle.std.proofs.lemmas.List.{take-append-drop}
use Rattle.reg_op.specs.Set.{contains, union}
use Rattle.reg_op.specs.Operations.{Ops, OneBody, kept}
use Rattle.reg_op.specs.Contents.{Content, nothing, merged, joined}
use Rattle.reg_op.proofs.OpLemmas.{id_total, id_exact, op_total, op_exact}
use Rattle.reg_op.proofs.FiniteLemmas.{union_assoc, union-empty}
use Rattle.reg_op.proofs.ContentLemmas.{OneBody-within, union_left, union_right, same_content, kept-union_left, kept-union_right}
use Rattle.reg_op.proofs.JoinLemmas.{joined_ok}
use Rattle.reg_op.specs.Joining.{all_joined}
use Rattle.reg_state.specs.ManyLaws.{all_ops, all_seen, merged_all}
use Rattle.reg_state.proofs.ManyLemmas.{joined_all}

all_ops-append : (xs ys : List Content) → all_ops (xs ++ ys) ≡ union (all_ops xs) (all_ops ys)
all_ops-append [] ys = sym (union-empty op_total op_exact (all_ops ys))
all_ops-append (x ∷ xs) ys = ap (union x.ops) (all_ops-append xs ys) ∙ sym (union_assoc op_total op_exact x.ops (all_ops xs) (all_ops ys))

pub all_seen-append : (xs ys : List Content) → all_seen (xs ++ ys) ≡ union (all_seen xs) (all_seen ys)
all_seen-append [] ys = sym (union-empty id_total id_exact (all_seen ys))
all_seen-append (x ∷ xs) ys = ap (union x.seen) (all_seen-append xs ys) ∙ sym (union_assoc id_total id_exact x.seen (all_seen xs) (all_seen ys))

merged-append : (xs ys : List Content) → merged (merged_all xs) (merged_all ys) ≡ merged_all (xs ++ ys)
merged-append xs ys = same_content _ _
    (kept-union_left (all_ops xs) (kept (all_ops ys)) ∙ kept-union_right (all_ops xs) (all_ops ys) ∙ ap kept (sym (all_ops-append xs ys)))
    (sym (all_seen-append xs ys))

-- ---- halves

ops_split : (n : ℕ) (xs : List Content) → union (all_ops (take n xs)) (all_ops (drop n xs)) ≡ all_ops xs
ops_split n xs = sym (all_ops-append (take n xs) (drop n xs)) ∙ ap all_ops (take-append-drop n xs)

pub one_in_front : (n : ℕ) (xs : List Content) → OneBody (all_ops xs) → OneBody (all_ops (take n xs))
one_in_front n xs one = OneBody-within _ _ (λ o h. subst (λ (s : Ops). contains s o ≡ true) (ops_split n xs) (union_left (all_ops (take n xs)) (all_ops (drop n xs)) o h)) one

pub one_behind : (n : ℕ) (xs : List Content) → OneBody (all_ops xs) → OneBody (all_ops (drop n xs))
one_behind n xs one = OneBody-within _ _ (λ o h. subst (λ (s : Ops). contains s o ≡ true) (ops_split n xs) (union_right (all_ops (take n xs)) (all_ops (drop n xs)) o h)) one

pub both_halves : (n : ℕ) (xs : List Content) (l r z : Content) → l ≡ merged_all (take n xs) → r ≡ merged_all (drop n xs) → joined l r ≡ Ok z → z ≡ merged_all xs
both_halves n xs l r z e f both =
    sym (joined_ok l r z both).1 ∙ (λ j. merged (e j) (f j)) ∙ merged-append (take n xs) (drop n xs) ∙ ap merged_all (take-append-drop n xs)

-- if no id has two bodies, the join of a list is its merge
pub all_is : (xs : List Content) (z : Content) → OneBody (all_ops xs) → z ≡ merged_all xs → all_joined joined (Ok nothing) xs ≡ Ok z
all_is xs z one e = joined_all xs one ∙ ap Ok (sym e)
