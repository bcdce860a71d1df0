-- The entries that may be retired: gathered, sorted, and selected by key.
use Rattle.std.proofs.Common.{◌≡◌, Bool, true, false, not, List, [], ◌∷◌, ◌++◌, map, filter, refl, sym, ap, ◌∙◌, subst, inl, inr, append_assoc, append-nil, cond}
use Rattle.std.specs.Prelude.{Contains}
use Rattle.std.specs.List.Sorted.{IsStable, IsPermutation, ties}
use Rattle.std.specs.Cmp.{Equal-is, tied_itself}
use Rattle.std.specs.Ordering.{is_lt, is_eq}
use Rattle.std.proofs.lemmas.Bool.{true≢false}
use Rattle.std.proofs.lemmas.List.Elements.{filter_agree}
use Rattle.std.proofs.lemmas.List.Sorted.{Contains-permutation, IsPermutation-sym}
use Rattle.std.proofs.Math.Bool.{and_comm}
use Rattle.reg_op.specs.Ids.{Id}
use Rattle.reg_op.specs.Rows.{Row}
use Rattle.reg_report.specs.Conflicts.{KeyBytes, key_cmp, HasKey}
use Rattle.reg_report.specs.Keys.{key_bytes}
use Rattle.reg_report.proofs.ConflictLemmas.{key_total, key_exact, in_head, in_tail}
use Rattle.reg_report.proofs.ContenderLemmas.{one_key}
use Rattle.reg_report.proofs.WindowLemmas.{tied_is}
use Rattle.reg_disorder.specs.Settling.{Picks, IsRival}
use Rattle.reg_disorder.specs.declared.settling.rival.Rival.{Rival}
use Rattle.reg_disorder.specs.Keeping.{entry_of, is_of_key, rival_cmp, MayGo, AddsRival, AreRivals}

-- ---- a loop over the rows

-- `made` followed by any rivals of `rest` is a list of the rivals of `all`
abbrev pub Gathers : List Id → List Row → List Row → List Rival → Type 0
Gathers keeps all rest made = (more : List Rival) → AreRivals keeps rest more → AreRivals keeps all (made ++ more)

pub gathers_step : (keeps : List Id) (all rest others : List Row) (x : Row) (made new : List Rival) → rest ≡ x ∷ others → AddsRival keeps x made new → Gathers keeps all rest made → Gathers keeps all others new
gathers_step keeps all rest others x made new e (inl (may, (c, of, pushed))) g more m =
    subst (λ l. AreRivals keeps all l) (sym (ap (λ l. l ++ more) pushed ∙ append_assoc made (c ∷ []) more))
    (g (c ∷ more) (subst (λ l. AreRivals keeps l (c ∷ more)) (sym e) (inl (may, (c, more, of, m, refl)))))
gathers_step keeps all rest others x made new e (inr (may_not, same)) g more m =
    subst (λ l. AreRivals keeps all (l ++ more)) (sym same) (g more (subst (λ l. AreRivals keeps l more) (sym e) (inr (may_not, m))))

pub gathers_all : (keeps : List Id) (all rest : List Row) (made : List Rival) → rest ≡ [] → Gathers keeps all rest made → AreRivals keeps all made
gathers_all keeps all rest made e g = subst (λ l. AreRivals keeps all l) (append-nil made) (g [] (subst (λ l. AreRivals keeps l []) (sym e) refl))

-- ---- a permutation of the ids to keep

may_also : (ids keeps : List Id) → IsPermutation ids keeps → (r : Row) → MayGo ids r → MayGo keeps r
may_also ids keeps p r may = record { stands = may.stands; no_keep = λ c. may.no_keep (Contains-permutation keeps ids r.entry (IsPermutation-sym ids keeps p) c) }

pub in_other_order : (ids keeps : List Id) → IsPermutation ids keeps → (rs : List Row) (cs : List Rival) → AreRivals ids rs cs → AreRivals keeps rs cs
in_other_order ids keeps p [] cs are = are
in_other_order ids keeps p (r ∷ rs) cs (inl (may, (c, later, of, are, e))) = inl (may_also ids keeps p r may, (c, later, of, in_other_order ids keeps p rs later are, e))
in_other_order ids keeps p (r ∷ rs) cs (inr (may_not, are)) = inr (λ may. may_not (may_also keeps ids (IsPermutation-sym ids keeps p) r may), in_other_order ids keeps p rs cs are)

-- ---- by key

pub same_key : (a b : KeyBytes) → is_eq (key_cmp a b) ≡ true → a ≡ b
same_key a b h = key_exact a b ((Equal-is (key_cmp a b)).0 h)

pub key_itself : (a b : KeyBytes) → a ≡ b → is_eq (key_cmp a b) ≡ true
key_itself a b e = subst (λ k. is_eq (key_cmp a k) ≡ true) e (ap is_eq (tied_itself key_total a))

ties_are : (x c : Rival) → ties (λ (a b : Rival). is_lt (rival_cmp a b)) x c ≡ is_of_key (key_bytes x.key) c
ties_are x c = and_comm (not (is_lt (rival_cmp x c))) (not (is_lt (rival_cmp c x))) ∙ sym (tied_is key_cmp key_total (key_bytes x.key) (key_bytes c.key))

pub in_order_is : (cs made : List Rival) → IsStable rival_cmp cs made → (x : Rival) → filter (is_of_key (key_bytes x.key)) made ≡ filter (is_of_key (key_bytes x.key)) cs
in_order_is cs made stable x =
    sym (filter_agree (ties (λ (a b : Rival). is_lt (rival_cmp a b)) x) (is_of_key (key_bytes x.key)) (ties_are x) made)
    ∙ stable x ∙ filter_agree (ties (λ (a b : Rival). is_lt (rival_cmp a b)) x) (is_of_key (key_bytes x.key)) (ties_are x) cs

-- ---- the rivals of a kept row

-- if no entry of the key is in `retired`, the candidates with the key are the rivals of a kept row with the key
pub picks_of_key : (keeps retired : List Id) (keep : Row) (k : KeyBytes) → HasKey keep.definition k → (rs : List Row) (cs : List Rival) → AreRivals keeps rs cs
    → ((r : Row) → Contains rs r → HasKey r.definition k → ¬ (Contains retired r.entry)) → Picks (IsRival keeps retired keep) rs (map entry_of (filter (is_of_key k) cs))
picks_of_key keeps retired keep k keyed [] cs are left = ap (λ l. map entry_of (filter (is_of_key k) l)) are
picks_of_key keeps retired keep k keyed (r ∷ rs) cs (inr (may_not, are)) left =
    inr (λ rival. may_not (record { stands = rival.stands; no_keep = rival.no_keep }), picks_of_key keeps retired keep k keyed rs cs are (λ q h. left q (in_tail q r rs h)))
picks_of_key keeps retired keep k keyed (r ∷ rs) cs (inl (may, (c, later, of, are, e))) left =
    subst (λ l. Picks (IsRival keeps retired keep) (r ∷ rs) (map entry_of (filter (is_of_key k) l))) (sym e)
    (by (is_of_key k c) refl (picks_of_key keeps retired keep k keyed rs later are (λ q h. left q (in_tail q r rs h))))
  where
    by : (t : Bool) → is_of_key k c ≡ t → Picks (IsRival keeps retired keep) rs (map entry_of (filter (is_of_key k) later))
        → Picks (IsRival keeps retired keep) (r ∷ rs) (map entry_of (cond t (c ∷ filter (is_of_key k) later) (filter (is_of_key k) later)))
    by true own rest =
        let its : HasKey r.definition k = subst (HasKey r.definition) (sym (same_key k (key_bytes c.key) own)) of.keyed in
        inl (
          record { shares = record { key = k; of_one = keyed; of_other = its }; stands = may.stands; no_keep = may.no_keep; left = left r (in_head r rs) its },
          (map entry_of (filter (is_of_key k) later), rest, ap (λ i. i ∷ map entry_of (filter (is_of_key k) later)) of.entry),
        )
    by false other rest = inr (
      λ rival.
          let same : k ≡ key_bytes c.key = one_key keep.definition k (rival.shares).key keyed (rival.shares).of_one ∙ one_key r.definition (rival.shares).key (key_bytes c.key) (rival.shares).of_other of.keyed in
          true≢false (sym (key_itself k (key_bytes c.key) same) ∙ other),
      rest,
    )
