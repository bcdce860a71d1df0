-- Rows have at most one list of keys in conflict.
use Rattle.std.proofs.Common.{◌≡◌, ◌↔◌, true, List, [], ◌∷◌, map, refl, sym, ap, ◌∙◌, subst}
use Rattle.std.specs.List.{Contains, list_any}
use Rattle.std.specs.Cmp.{Equal-is, tied_itself, both_ways}
use Rattle.std.specs.Ordering.{is_eq, eq_by_cmp}
use Rattle.reg_op.specs.Set as set
use Rattle.reg_op.specs.Set.{Ascends, contains-from_list, items-from_list, same_set}
use Rattle.reg_op.specs.Rows.{Row}
use Rattle.reg_op.proofs.OpLemmas.{id_total, id_exact}
use Rattle.reg_report.specs.Conflicts.{KeyBytes, key_cmp, Stands, Contested, AreConflicts}
use Rattle.reg_report.proofs.ConflictLemmas.{key_total, key_exact, in_head, in_tail, member_of_any, any_of_member}

abbrev keys_of : List Contested → List KeyBytes
keys_of cs = map (λ (c : Contested). c.key) cs

-- a list that has a key that compares as equal has this key
key_there : (k : KeyBytes) (ks : List KeyBytes) → list_any (eq_by_cmp key_cmp k) ks ≡ true → Contains ks k
key_there k ks h =
    let m = member_of_any (eq_by_cmp key_cmp k) ks h in
    subst (Contains ks) (sym (key_exact k m.0 ((Equal-is (key_cmp k m.0)).0 m.2))) m.1

key_tied : (k : KeyBytes) (ks : List KeyBytes) → Contains ks k → list_any (eq_by_cmp key_cmp k) ks ≡ true
key_tied k ks h = any_of_member (eq_by_cmp key_cmp k) ks k h (ap is_eq (tied_itself key_total k))

-- ascending lists of keys with the same members are equal
same_keys : (ks ls : List KeyBytes) → Ascends key_cmp ks → Ascends key_cmp ls → ((k : KeyBytes) → Contains ks k ↔ Contains ls k) → ks ≡ ls
same_keys ks ls a b same =
    sym (items-from_list key_total ks a)
    ∙ ap set.items (same_set key_total key_exact (set.from_list ks) (set.from_list ls) (λ k.
    contains-from_list key_total ks k
    ∙ both_ways _ _ (λ h. key_tied k ls ((same k).0 (key_there k ks h))) (λ h. key_tied k ks ((same k).1 (key_there k ls h)))
    ∙ sym (contains-from_list key_total ls k)))
    ∙ items-from_list key_total ls b

-- lists with the same keys, and with the same entries at each key, are equal
same_contested : (cs ds : List Contested) → keys_of cs ≡ keys_of ds → ((c d : Contested) → Contains cs c → Contains ds d → c.key ≡ d.key → c.entries ≡ d.entries) → cs ≡ ds
same_contested [] [] e same = refl
same_contested [] (d ∷ ds) e same = absurd cc
same_contested (c ∷ cs) [] e same = absurd cc
same_contested (c ∷ cs) (d ∷ ds) e same =
    let key : c.key ≡ d.key = cc in
    let rest : keys_of cs ≡ keys_of ds = cc in
    let entries : c.entries ≡ d.entries = same c d (in_head c cs) (in_head d ds) key in
    let first : c ≡ d = λ j. record { key = key j; entries = entries j } in
    let others : cs ≡ ds = same_contested cs ds rest (λ x y h g. same x y (in_tail x c cs h) (in_tail y d ds g)) in
    λ j. first j ∷ others j

pub one_list : (rs : List Row) (cs ds : List Contested) → AreConflicts rs cs → AreConflicts rs ds → cs ≡ ds
one_list rs cs ds a b =
    same_contested cs ds (same_keys (keys_of cs) (keys_of ds) a.ascend b.ascend (λ k. (λ h. (b.each k).1 ((a.each k).0 h), λ h. (a.each k).1 ((b.each k).0 h)))) (λ c d h g e.
    let p = a.entries c h in
    let q = b.entries d g in
    p.1
    ∙ ap set.items (same_set id_total id_exact p.0 q.0 (λ i. both_ways _ _
    (λ m. (q.2 i).1 (subst (λ k. Stands rs k i) e ((p.2 i).0 m)))
    (λ m. (p.2 i).1 (subst (λ k. Stands rs k i) (sym e) ((q.2 i).0 m)))))
    ∙ sym q.1)
