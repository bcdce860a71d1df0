-- Two lists of rows have one list of changes, which is empty exactly if they are equal.
use Rattle.std.proofs.Common.{◌≡◌, ◌≢◌, ◌↔◌, ◌⊎◌, ℕ, Bool, true, false, not, eqb, arith, IsTrue, List, [], ◌∷◌, ◌++◌, map, length, sym, ap, ◌∙◌, subst, inl, inr}
use Rattle.std.proofs.lemmas.Bool.{true≢false, false_from_ne_true, eqb-true}
use Rattle.std.specs.List.{Contains}
use Rattle.csv.specs.Writing.{row_text, default_writer}
use Rattle.reg_op.specs.Set.{Ascends}
use Rattle.reg_op.specs.Rows.{Row, rows}
use Rattle.reg_op.specs.Contents.{Content, IsContent}
use Rattle.reg_report.specs.declared.row.Row.{Row as DeclaredRow}
use Rattle.reg_report.specs.Seen.{row_seen}
use Rattle.reg_report.specs.Lines.{AreLines}
use Rattle.reg_report.specs.Rows.{row_cmp}
use Rattle.reg_report.proofs.ConflictLemmas.{none_in, in_head}
use Rattle.reg_report.proofs.OrderLemmas.{same_elements}
use Rattle.reg_report.proofs.ReportLemmas.{one_line, same_lines}
use Rattle.reg_report.proofs.RowLemmas.{row_total, rows_ascend}
use Rattle.reg_query.specs.declared.diff.change.SignedRow.{SignedRow as Declared}
use Rattle.reg_query.specs.declared.diff.change.Sign.{Sign}
use Rattle.reg_query.specs.declared.diff.change.Sign.TheVariants.{Gone, Come}
use Rattle.reg_query.specs.Changes.{Change, sign_text, IsChange, AreChanges}
use Rattle.reg_query.specs.ChangesSeen.{change_seen}
use Rattle.reg_query.specs.DiffLines.{changes_header, IsChangeLine, IsDiff, Differ}
use Rattle.reg_query.proofs.StepLemmas.{change_total, gone, come}
use Rattle.reg_query.proofs.RowLemmas.{has_or_not}

-- ---- one list of changes

pub one_list : (old new : List Row) (cs ds : List Change) → AreChanges old new cs → AreChanges old new ds → cs ≡ ds
one_list old new cs ds a b = same_elements change_total cs ds a.ascend b.ascend (λ c. (λ h. (b.each c).1 ((a.each c).0 h), λ h. (a.each c).1 ((b.each c).0 h)))

one_change_line : (c : Change) (fields others : List (List ℕ)) → IsChangeLine c fields → IsChangeLine c others → fields ≡ others
one_change_line c fields others h k = h.2 ∙ ap (λ rest. sign_text c.sign ∷ rest) (one_line c.row h.0 k.0 h.1 k.1) ∙ sym k.2

pub one_text : (x y : Content) (text other : List ℕ) → IsDiff x y text → IsDiff x y other → text ≡ other
one_text x y text other h k =
    let same : h.0 ≡ k.0 = one_list (rows x.ops) (rows y.ops) h.0 k.0 h.1 k.1 in
    let lines = subst (λ cs. AreLines IsChangeLine cs h.2.0) same h.2.1 in
    h.2.2 ∙ ap (λ ls. row_text default_writer changes_header ++ ls) (same_lines IsChangeLine one_change_line k.0 h.2.0 k.2.0 lines k.2.1) ∙ sym k.2.2

-- ---- no changes

none_of_itself : (rs : List Row) (s : Sign) (r : Row) → IsChange s rs rs r → ⊥
none_of_itself rs Gone r h = h.1 h.0
none_of_itself rs Come r h = h.1 h.0

no_changes : (rs : List Row) → AreChanges rs rs []
no_changes rs = record { ascend = tt; each = λ c. (λ h. absurd (none_in c h), λ h. absurd (none_of_itself rs c.sign c.row h)) }

pub nothing_changes : (old new : List Row) → Ascends row_cmp old → Ascends row_cmp new → AreChanges old new [] → old ≡ new
nothing_changes old new first second are = same_elements row_total old new first second (λ r. (λ h. kept r h (has_or_not new r), λ h. was r h (has_or_not old r)))
  where
    kept : (r : Row) → Contains old r → Contains new r ⊎ (Contains new r → ⊥) → Contains new r
    kept r h (inl k) = k
    kept r h (inr lacks) = absurd (none_in (gone r) ((are.each (gone r)).1 (h, lacks)))

    was : (r : Row) → Contains new r → Contains old r ⊎ (Contains old r → ⊥) → Contains old r
    was r h (inl k) = k
    was r h (inr lacks) = absurd (none_in (come r) ((are.each (come r)).1 (h, lacks)))

pub empty_where_equal : (x y : Content) → IsContent x → IsContent y → AreChanges (rows x.ops) (rows y.ops) [] ↔ (rows x.ops ≡ rows y.ops)
empty_where_equal x y a b = (
  nothing_changes (rows x.ops) (rows y.ops) (rows_ascend x a) (rows_ascend y b),
  λ e. subst (λ rs. AreChanges (rows x.ops) rs []) e (no_changes (rows x.ops)),
)

-- if there is a change, the rows differ
pub something_changes : (old new : List Row) (c : Change) (cs : List Change) → AreChanges old new (c ∷ cs) → old ≢ new
something_changes old new c cs are e = none_of_itself old c.sign c.row (subst (λ rs. IsChange c.sign old rs c.row) (sym e) ((are.each c).0 (in_head c cs)))

-- there is a change exactly if the rows differ
differ_where : (old new : List Row) (cs : List Declared) (n : ℕ) (b : Bool) → Ascends row_cmp old → Ascends row_cmp new → AreChanges old new (map change_seen cs) → n ≡ length cs → b ≡ eqb n 0 → IsTrue (not b) ↔ (old ≢ new)
differ_where old new [] n b first second are e f =
    let none : b ≡ true = f ∙ ap (λ k. eqb k 0) e in
    (λ h. absurd (true≢false (sym h ∙ ap not none)), λ differ. absurd (differ (nothing_changes old new first second are)))
differ_where old new (c ∷ cs) n b first second are e f =
    let some : b ≡ false = false_from_ne_true b (λ h. let zero : n ≡ 0 = eqb-true n 0 (sym f ∙ h) in absurd (omega (arith, e))) in
    (λ h. something_changes old new (change_seen c) (map change_seen cs) are, λ differ. ap not some)

pub differ_of : (x y : Content) (os os' ns ns' : List DeclaredRow) (cs : List Declared) (n : ℕ) (b : Bool) → map row_seen os ≡ rows x.ops → map row_seen ns ≡ rows y.ops
    → Ascends row_cmp (map row_seen os) → Ascends row_cmp (map row_seen ns) → os' ≡ os → ns' ≡ ns → AreChanges (map row_seen os') (map row_seen ns') (map change_seen cs)
    → n ≡ length cs → b ≡ eqb n 0 → IsTrue (not b) ↔ Differ x y
differ_of x y os os' ns ns' cs n b of_x of_y first second e f are size is =
    let olds : map row_seen os' ≡ rows x.ops = ap (map row_seen) e ∙ of_x in
    let news : map row_seen ns' ≡ rows y.ops = ap (map row_seen) f ∙ of_y in
    differ_where (rows x.ops) (rows y.ops) cs n b (subst (Ascends row_cmp) of_x first) (subst (Ascends row_cmp) of_y second)
    (subst (λ rs. AreChanges rs (rows y.ops) (map change_seen cs)) olds (subst (λ rs. AreChanges (map row_seen os') rs (map change_seen cs)) news are)) size is
