-- The name that stands for an office, found by what rows give.
use Rattle.std.proofs.Common.{◌≡◌, ◌⊎◌, ℕ, suc, Bool, true, false, not, ◌&&◌, ◌==◌, cond, List, [], ◌∷◌, ◌++◌, map, length, Option, Some, None, option_map, refl, sym, ap, ◌∙◌, subst, inl, inr, arith, append_assoc}
use Rattle.std.proofs.lemmas.Bool.{true≢false, and_parts, and_from}
use Rattle.std.proofs.lemmas.Bool.Decides.{nat_tests}
use Rattle.std.proofs.lemmas.Cmp.{nat_list_cmp_total, eq_by_cmp_equiv}
use Rattle.std.proofs.lemmas.Slice.Eq.{bytes_eq-Decides}
use Rattle.std.proofs.lemmas.Map.Text.{is_eq-slice_cmp}
use Rattle.std.specs.Borrow.{Bor}
use Rattle.std.specs.BTreeMap.{BTreeMap, get_by, is_at, UpdatesBy}
use Rattle.std.specs.Cmp.{booleans_Decides}
use Rattle.std.specs.Cmp.Lexicographic.{slice_cmp, nat_list_eq_equiv}
use Rattle.std.specs.Global.{Vec}
use Rattle.std.specs.List.{find, list_all}
use Rattle.std.specs.Option.{option_copied}
use Rattle.std.specs.Map.{lookup, KeepsOthers}
use Rattle.std.specs.Ordering.{nat_cmp, is_eq, eq_by_cmp}
use Rattle.std.specs.Str.{bytes_eq}
use Rattle.csv_table.specs.declared.offices.names.Name.{Name}
use Rattle.csv_table.specs.Names.{agree, stands}
use Rattle.csv_table.specs.Standing.{standing, by_office, by_name, joined, partner, only, given_in, Has}

pub same : (a b : List ℕ) → bytes_eq a b ≡ true → a ≡ b
same a b = (bytes_eq-Decides a b).0

differ : (a b : List ℕ) → bytes_eq a b ≡ false → a ≡ b → ⊥
differ a b n e = true≢false (sym ((bytes_eq-Decides a b).1 e) ∙ n)

-- ---- elements of a list

abbrev Among : List Name → Name → Type 0
Among [] n = ⊥
Among (m ∷ ms) n = (n ≡ m) ⊎ Among ms n

pub found_one : (t : Name → Bool) (ns : List Name) (n : Name) → find t ns ≡ Some n → (t n ≡ true) × Among ns n
found_one t [] n h = absurd cc
found_one t (m ∷ ms) n h = by (λ k. found_one t ms n k) (t m) refl
  where
    by : (find t ms ≡ Some n → (t n ≡ true) × Among ms n) → (b : Bool) → t m ≡ b → (t n ≡ true) × Among (m ∷ ms) n
    by next true e = let is : Some m ≡ Some n = ap (λ b. cond b (Some m) (find t ms)) (sym e) ∙ h in let one : m ≡ n = cc in (ap t (sym one) ∙ e, inl (sym one))
    by next false e = let later = next (ap (λ b. cond b (Some m) (find t ms)) (sym e) ∙ h) in (later.0, inr later.1)

finds : (t : Name → Bool) (ns : List Name) (n : Name) → Among ns n → t n ≡ true → (m : Name) × (find t ns ≡ Some m)
finds t [] n there is = absurd there
finds t (m ∷ ms) n there is = by (λ h. finds t ms n h is) (t m) refl there
  where
    by : (Among ms n → (l : Name) × (find t ms ≡ Some l)) → (b : Bool) → t m ≡ b → (n ≡ m) ⊎ Among ms n → (l : Name) × (find t (m ∷ ms) ≡ Some l)
    by next true e h = (m, ap (λ b. cond b (Some m) (find t ms)) e)
    by next false e (inl one) = absurd (true≢false (sym is ∙ ap t one ∙ e))
    by next false e (inr h) = let later = next h in (later.0, ap (λ b. cond b (Some m) (find t ms)) e ∙ later.1)

all_pass : (t : Name → Bool) (ns : List Name) (n : Name) → list_all t ns ≡ true → Among ns n → t n ≡ true
all_pass t [] n h there = absurd there
all_pass t (m ∷ ms) n h (inl one) = ap t one ∙ (and_parts (t m) (list_all t ms) h).0
all_pass t (m ∷ ms) n h (inr there) = all_pass t ms n ((and_parts (t m) (list_all t ms) h).1) there

passes : (t : Name → Bool) (ns : List Name) → ((n : Name) → Among ns n → t n ≡ true) → list_all t ns ≡ true
passes t [] h = refl
passes t (m ∷ ms) h = and_from (t m) (list_all t ms) (h m (inl refl)) (passes t ms (λ n there. h n (inr there)))

-- ---- what rows give a key

-- two that are joined to one are the same
joins_alike : {A : Type 0} {x : List ℕ} (v own w : List ℕ) (b : Bool) → bytes_eq w own ≡ b → (A → x ≡ w) → cond (bytes_eq w own) (Some own) None ≡ Some v → (own ≡ v) × (A → x ≡ v)
joins_alike v own w true g later j =
    let is_v : Some own ≡ Some v = ap (λ b. cond b (Some own) None) (sym g) ∙ j in
    let is : own ≡ v = cc in
    (is, λ t. later t ∙ same w own g ∙ is)
joins_alike v own w false g later j = let bad : None ≡ Some v = ap (λ b. cond b (Some own) None) (sym g) ∙ j in absurd cc

module _ (f : Name → List ℕ × List ℕ) where
  given_by : List Name → List ℕ → Option (Option (List ℕ))
  given_by ns k = partner (map f ns) k

  if_own : (n : Name) (ns : List Name) (k : List ℕ) → bytes_eq (f n).0 k ≡ true → partner (map f (n ∷ ns)) k ≡ Some (joined (f n).1 (partner (map f ns) k))
  if_own n ns k e = ap (λ b. cond b (Some (joined (f n).1 (partner (map f ns) k))) (partner (map f ns) k)) e

  if_other : (n : Name) (ns : List Name) (k : List ℕ) → bytes_eq (f n).0 k ≡ false → partner (map f (n ∷ ns)) k ≡ partner (map f ns) k
  if_other n ns k e = ap (λ b. cond b (Some (joined (f n).1 (partner (map f ns) k))) (partner (map f ns) k)) e

  nowhere : (ns : List Name) (k : List ℕ) (n : Name) → partner (map f ns) k ≡ None → Among ns n → (f n).0 ≡ k → ⊥
  nowhere [] k n h there is = there
  nowhere (m ∷ ms) k n h there is = by (λ none t. nowhere ms k n none t is) (bytes_eq (f m).0 k) refl there
    where
      by : (partner (map f ms) k ≡ None → Among ms n → ⊥) → (b : Bool) → bytes_eq (f m).0 k ≡ b → (n ≡ m) ⊎ Among ms n → ⊥
      by next true e t = let bad : Some (joined (f m).1 (partner (map f ms) k)) ≡ None = sym (if_own m ms k e) ∙ h in absurd cc
      by next false e (inl one) = differ (f m).0 k e (ap (λ l. (f l).0) (sym one) ∙ is)
      by next false e (inr t) = next (sym (if_other m ms k e) ∙ h) t

  somewhere : (ns : List Name) (k : List ℕ) (p : Option (List ℕ)) → partner (map f ns) k ≡ Some p → (n : Name) × Among ns n × ((f n).0 ≡ k)
  somewhere [] k p h = absurd cc
  somewhere (m ∷ ms) k p h = by (λ some. somewhere ms k p some) (bytes_eq (f m).0 k) refl
    where
      by : (partner (map f ms) k ≡ Some p → (n : Name) × Among ms n × ((f n).0 ≡ k)) → (b : Bool) → bytes_eq (f m).0 k ≡ b → (n : Name) × Among (m ∷ ms) n × ((f n).0 ≡ k)
      by next true e = (m, inl refl, same (f m).0 k e)
      by next false e = let later = next (sym (if_other m ms k e) ∙ h) in (later.0, inr later.1, later.2)

  first_or_later : (m : Name) (ms : List Name) (n : Name) (v : List ℕ) → ((f m).1 ≡ v) × (Among ms n → (f n).1 ≡ v) → (n ≡ m) ⊎ Among ms n → (f n).1 ≡ v
  first_or_later m ms n v both (inl one) = ap (λ l. (f l).1) one ∙ both.0
  first_or_later m ms n v both (inr t) = both.1 t

  -- a value that all rows of a key give
  told : (ns : List Name) (k v : List ℕ) (n : Name) → partner (map f ns) k ≡ Some (Some v) → Among ns n → (f n).0 ≡ k → (f n).1 ≡ v
  told [] k v n h there is = absurd there
  told (m ∷ ms) k v n h there is = by (λ w some t. told ms k w n some t is) (λ none t. nowhere ms k n none t is) (bytes_eq (f m).0 k) refl there
    where
      -- what the rest gives, and the first
      joins : ((w : List ℕ) → partner (map f ms) k ≡ Some (Some w) → Among ms n → (f n).1 ≡ w) → (partner (map f ms) k ≡ None → Among ms n → ⊥)
          → (p : Option (Option (List ℕ))) → partner (map f ms) k ≡ p → joined (f m).1 p ≡ Some v → ((f m).1 ≡ v) × (Among ms n → (f n).1 ≡ v)
      joins next none None e j = let is : (f m).1 ≡ v = cc in (is, λ t. absurd (none e t))
      joins next none (Some None) e j = absurd cc
      joins next none (Some (Some w)) e j = joins_alike v (f m).1 w (bytes_eq w (f m).1) refl (next w e) j

      by : ((w : List ℕ) → partner (map f ms) k ≡ Some (Some w) → Among ms n → (f n).1 ≡ w) → (partner (map f ms) k ≡ None → Among ms n → ⊥)
          → (b : Bool) → bytes_eq (f m).0 k ≡ b → (n ≡ m) ⊎ Among ms n → (f n).1 ≡ v
      by next none true e t =
          let own : Some (joined (f m).1 (partner (map f ms) k)) ≡ Some (Some v) = sym (if_own m ms k e) ∙ h in
          let j : joined (f m).1 (partner (map f ms) k) ≡ Some v = cc in
          first_or_later m ms n v (joins next none (partner (map f ms) k) refl j) t
      by next none false e (inl one) = absurd (differ (f m).0 k e (ap (λ l. (f l).0) (sym one) ∙ is))
      by next none false e (inr t) = next v (sym (if_other m ms k e) ∙ h) t

  alike_or_none : (ns : List Name) (k v : List ℕ) → ((n : Name) → Among ns n → (f n).0 ≡ k → (f n).1 ≡ v) → (partner (map f ns) k ≡ None) ⊎ (partner (map f ns) k ≡ Some (Some v))
  alike_or_none [] k v h = inl refl
  alike_or_none (m ∷ ms) k v h = by (bytes_eq (f m).0 k) refl (alike_or_none ms k v (λ n t. h n (inr t)))
    where
      by : (b : Bool) → bytes_eq (f m).0 k ≡ b → (partner (map f ms) k ≡ None) ⊎ (partner (map f ms) k ≡ Some (Some v)) → (partner (map f (m ∷ ms)) k ≡ None) ⊎ (partner (map f (m ∷ ms)) k ≡ Some (Some v))
      by true e (inl none) = inr (if_own m ms k e ∙ ap (λ p. Some (joined (f m).1 p)) none ∙ ap (λ l. Some (Some l)) (h m (inl refl) (same (f m).0 k e)))
      by true e (inr some) =
          let is : (f m).1 ≡ v = h m (inl refl) (same (f m).0 k e) in
          inr (if_own m ms k e ∙ ap (λ p. Some (joined (f m).1 p)) some ∙ ap (λ l. Some (joined l (Some (Some v)))) is ∙ ap (λ b. Some (cond b (Some v) None)) ((bytes_eq-Decides v v).1 refl))
      by false e (inl none) = inl (if_other m ms k e ∙ none)
      by false e (inr some) = inr (if_other m ms k e ∙ some)

  one : (ns : List Name) (k v : List ℕ) (n : Name) → Among ns n → (f n).0 ≡ k → ((m : Name) → Among ns m → (f m).0 ≡ k → (f m).1 ≡ v) → partner (map f ns) k ≡ Some (Some v)
  one ns k v n there is all = elim (alike_or_none ns k v all) [
    | inl none ↦ absurd (nowhere ns k n none there is)
    | inr some ↦ some
  ]

-- ---- rows that agree

agreed : (n m : Name) → agree n m ≡ true → bytes_eq n.office.items m.office.items ≡ bytes_eq n.name.items m.name.items
agreed n m h = (booleans_Decides (bytes_eq n.office.items m.office.items) (bytes_eq n.name.items m.name.items)).0 h

agrees : (n m : Name) → (n.office.items ≡ m.office.items → n.name.items ≡ m.name.items) → (n.name.items ≡ m.name.items → n.office.items ≡ m.office.items) → agree n m ≡ true
agrees n m there back = (booleans_Decides (bytes_eq n.office.items m.office.items) (bytes_eq n.name.items m.name.items)).1 (by (bytes_eq n.office.items m.office.items) (bytes_eq n.name.items m.name.items) refl refl)
  where
    by : (a b : Bool) → bytes_eq n.office.items m.office.items ≡ a → bytes_eq n.name.items m.name.items ≡ b → bytes_eq n.office.items m.office.items ≡ bytes_eq n.name.items m.name.items
    by true true e g = e ∙ sym g
    by true false e g = absurd (differ n.name.items m.name.items g (there (same n.office.items m.office.items e)))
    by false true e g = absurd (differ n.office.items m.office.items e (back (same n.name.items m.name.items g)))
    by false false e g = e ∙ sym g

not_true : (b : Bool) → not b ≡ true → b ≡ false
not_true true e = absurd (true≢false (sym e))
not_true false e = refl

not_false : (b : Bool) → false ≡ not b → b ≡ true
not_false true e = refl
not_false false e = absurd (true≢false (sym e))

none_some : (w : List ℕ) → None ≡ Some w → ⊥
none_some w e = absurd cc

one_some : (w v : List ℕ) → Some w ≡ Some v → w ≡ v
one_some w v e = cc

is_empty : (w : List ℕ) → (length w == 0) ≡ bytes_eq w []
is_empty [] = refl
is_empty (b ∷ bs) = let e : (suc (length bs) == 0) ≡ false = grind (arith, nat_tests) in e

only_one : (p : Option (Option (List ℕ))) (w : List ℕ) → Some w ≡ only p → p ≡ Some (Some w)
only_one None w e = absurd (none_some w (sym e))
only_one (Some v) w e = ap Some (sym e)

module _ (ns : List Name) (office : List ℕ) where
  abbrev test : Name → Bool
  test n = bytes_eq n.office.items office && stands ns n

  -- the name that stands is what all rows give the office, and the office what they give the name
  pub stands_if : (w : List ℕ) → standing ns office ≡ Some w → (bytes_eq w [] ≡ false) × (partner (map by_office ns) office ≡ Some (Some w)) × (partner (map by_name ns) w ≡ Some (Some office))
  stands_if w h = by (find test ns) refl h
    where
      by : (r : Option Name) → find test ns ≡ r → option_map (λ (n : Name). n.name.items) r ≡ Some w
          → (bytes_eq w [] ≡ false) × (partner (map by_office ns) office ≡ Some (Some w)) × (partner (map by_name ns) w ≡ Some (Some office))
      by None e g = absurd cc
      by (Some n) e g =
          let is : n.name.items ≡ w = cc in
          let first = found_one test ns n e in
          let both = and_parts (bytes_eq n.office.items office) (stands ns n) first.0 in
          let own : n.office.items ≡ office = same n.office.items office both.0 in
          let two = and_parts (not (bytes_eq n.name.items [])) (list_all (agree n) ns) both.1 in
          let all : (m : Name) → Among ns m → bytes_eq n.office.items m.office.items ≡ bytes_eq n.name.items m.name.items = λ m t. agreed n m (all_pass (agree n) ns m two.1 t) in (
            ap (λ l. bytes_eq l []) (sym is) ∙ not_true (bytes_eq n.name.items []) two.0,
            one by_office ns office w n first.1 own (λ m t k. sym (same n.name.items m.name.items (sym (all m t) ∙ (bytes_eq-Decides n.office.items m.office.items).1 (own ∙ sym k))) ∙ is),
            one by_name ns w office n first.1 is (λ m t k. sym (same n.office.items m.office.items (all m t ∙ (bytes_eq-Decides n.name.items m.name.items).1 (is ∙ sym k))) ∙ own),
          )

  pub if_stands : (w : List ℕ) → bytes_eq w [] ≡ false → partner (map by_office ns) office ≡ Some (Some w) → partner (map by_name ns) w ≡ Some (Some office) → standing ns office ≡ Some w
  if_stands w some names offices =
      let row = somewhere by_office ns office (Some w) names in
      let is = told by_office ns office w row.0 names row.1 row.2 in
      let agree_all : list_all (agree row.0) ns ≡ true = passes (agree row.0) ns (λ m t. agrees row.0 m
      (λ k. is ∙ sym (told by_office ns office w m names t (sym k ∙ row.2)))
      (λ k. row.2 ∙ sym (told by_name ns w office m offices t (sym k ∙ is)))) in
      let its : stands ns row.0 ≡ true = and_from (not (bytes_eq row.0.name.items [])) (list_all (agree row.0) ns) (ap not (ap (λ l. bytes_eq l []) is ∙ some)) agree_all in
      let first = finds test ns row.0 row.1 (and_from (bytes_eq row.0.office.items office) (stands ns row.0) ((bytes_eq-Decides row.0.office.items office).1 row.2) its) in
      let passed = found_one test ns first.0 first.1 in
      let own = same first.0.office.items office (and_parts (bytes_eq first.0.office.items office) (stands ns first.0) passed.0).0 in
      ap (option_map (λ (n : Name). n.name.items)) first.1 ∙ ap Some (told by_office ns office w first.0 names passed.1 own)

  -- no other name stands
  pub no_other : ((w : List ℕ) → Some w ≡ only (partner (map by_office ns) office) → bytes_eq w [] ≡ false → partner (map by_name ns) w ≡ Some (Some office) → ⊥) → None ≡ standing ns office
  no_other not_so = by (standing ns office) refl
    where
      by : (r : Option (List ℕ)) → standing ns office ≡ r → None ≡ standing ns office
      by None e = sym e
      by (Some w) e = let h = stands_if w e in absurd (not_so w (sym (ap only h.1)) h.0 h.2)

  pub no_name : None ≡ only (partner (map by_office ns) office) → None ≡ standing ns office
  no_name e = no_other (λ w s some offices. let bad : None ≡ Some w = e ∙ sym s in none_some w bad)

  pub no_office : (w : List ℕ) → Some w ≡ only (partner (map by_office ns) office) → None ≡ only (partner (map by_name ns) w) → None ≡ standing ns office
  no_office w e g = no_other (λ v s some offices. none_some office (subst (λ l. None ≡ only (partner (map by_name ns) l)) (one_some w v (e ∙ sym s)) g ∙ ap only offices))

  pub empty_name : (w : List ℕ) → Some w ≡ only (partner (map by_office ns) office) → true ≡ (length w == 0) → None ≡ standing ns office
  empty_name w e g = no_other (λ v s some offices. true≢false (g ∙ is_empty w ∙ ap (λ l. bytes_eq l []) (one_some w v (e ∙ sym s)) ∙ some))

  pub other_office : (w o : List ℕ) → Some w ≡ only (partner (map by_office ns) office) → Some o ≡ only (partner (map by_name ns) w) → true ≡ not (bytes_eq o office) → None ≡ standing ns office
  other_office w o e g d = no_other (λ v s some offices. differ o office (not_true (bytes_eq o office) (sym d)) (one_some o office (subst (λ l. Some o ≡ only (partner (map by_name ns) l)) (one_some w v (e ∙ sym s)) g ∙ ap only offices)))

  pub its_name : (w o : List ℕ) → Some w ≡ only (partner (map by_office ns) office) → Some o ≡ only (partner (map by_name ns) w) → false ≡ (length w == 0) → false ≡ not (bytes_eq o office) → Some w ≡ standing ns office
  its_name w o e g some d = sym (if_stands w (sym (is_empty w) ∙ sym some) (only_one (partner (map by_office ns) office) w e) (only_one (partner (map by_name ns) w) office (ap Some (sym (same o office (not_false (bytes_eq o office) d))) ∙ g)))

-- ---- maps of what rows give

module _ (bs : List ℕ) (m n : BTreeMap (Vec ℕ) (Option (Bor (List ℕ)))) (w : Option (Option (Bor (List ℕ)))) where
  apart : (cs ks : List ℕ) → bytes_eq bs cs ≡ false → is_eq (slice_cmp nat_cmp bs ks) ≡ true → is_eq (slice_cmp nat_cmp cs ks) ≡ false
  apart cs ks d e = is_eq-slice_cmp cs ks ∙ nat_list_eq_equiv.symm cs ks ∙ sym (nat_list_eq_equiv.congr bs ks cs (sym (is_eq-slice_cmp bs ks) ∙ e)) ∙ d

  others : KeepsOthers (eq_by_cmp (λ (x y : Vec ℕ). slice_cmp nat_cmp x.items y.items)) (is_at (λ (k : Vec ℕ). slice_cmp nat_cmp bs k.items)) m.entries n.entries → (cs : List ℕ) → bytes_eq bs cs ≡ false
      → get_by (λ (k : Vec ℕ). slice_cmp nat_cmp cs k.items) n ≡ get_by (λ (k : Vec ℕ). slice_cmp nat_cmp cs k.items) m
  unfolding KeepsOthers
  others h cs d = h (is_at (λ (k : Vec ℕ). slice_cmp nat_cmp cs k.items)) (λ x y. (eq_by_cmp_equiv nat_list_cmp_total).congr cs x.items y.items) (λ k. apart cs k.items d)

pub put_more : (bs v : List ℕ) (m n : BTreeMap (Vec ℕ) (Option (Bor (List ℕ)))) (one : Option (Bor (List ℕ))) (later : List (List ℕ × List ℕ))
    → UpdatesBy (λ (x y : Vec ℕ). slice_cmp nat_cmp x.items y.items) (λ (k : Vec ℕ). slice_cmp nat_cmp bs k.items) m n (Some one)
    → given_in one ≡ joined v (option_map given_in (get_by (λ (k : Vec ℕ). slice_cmp nat_cmp bs k.items) m)) → Has m later → Has n ((bs, v) ∷ later)
put_more bs v m n one later updates gives has cs = by (bytes_eq bs cs) refl
  where
    by : (b : Bool) → bytes_eq bs cs ≡ b → option_map given_in (get_by (λ (k : Vec ℕ). slice_cmp nat_cmp cs k.items) n) ≡ partner ((bs, v) ∷ later) cs
    by true e =
        let is = same bs cs e in
        subst (λ l. option_map given_in (get_by (λ (k : Vec ℕ). slice_cmp nat_cmp l k.items) n) ≡ Some (joined v (partner later l))) is
        (ap (option_map given_in) updates.1 ∙ ap Some (gives ∙ ap (joined v) (has bs)))
        ∙ ap (λ b. cond b (Some (joined v (partner later cs))) (partner later cs)) (sym e)
    by false e = ap (option_map given_in) (others bs m n (Some one) updates.3 cs e) ∙ has cs ∙ ap (λ b. cond b (Some (joined v (partner later cs))) (partner later cs)) (sym e)

pub none_given : (m : BTreeMap (Vec ℕ) (Option (Bor (List ℕ)))) → m.entries ≡ [] → Has m []
none_given m e k = ap (λ es. option_map given_in (lookup (is_at (λ (own : Vec ℕ). slice_cmp nat_cmp k own.items)) es)) e

-- what was looked up
pub copied : (r : Option (Bor (Option (Bor (List ℕ))))) (g : Option (Option (Bor (List ℕ)))) → option_copied r ≡ g → option_map (λ (k : Bor (Option (Bor (List ℕ)))). given_in k.now) r ≡ option_map given_in g
copied None g e = ap (option_map given_in) e
copied (Some k) g e = ap (option_map given_in) e

-- ---- a walk from the end

pub one_less : (all rest others later : List Name) (n : Name) → all ≡ rest ++ later → rest ≡ others ++ n ∷ [] → all ≡ others ++ (n ∷ later)
one_less all rest others later n e f = e ∙ ap (λ l. l ++ later) f ∙ append_assoc others (n ∷ []) later

pub all_later : (rest all later : List Name) → length rest ≡ 0 → all ≡ rest ++ later → all ≡ later
all_later [] all later e h = h
all_later (n ∷ rest) all later e h = absurd (omega (arith, e))

pub has_pair : (m : BTreeMap (Vec ℕ) (Option (Bor (List ℕ)))) (a c b d : List ℕ) (ps : List (List ℕ × List ℕ)) → a ≡ c → b ≡ d → Has m ((a, b) ∷ ps) → Has m ((c, d) ∷ ps)
has_pair m a c b d ps e f h = subst (λ t. Has m ((t, d) ∷ ps)) e (subst (λ t. Has m ((a, t) ∷ ps)) f h)

pub one_is : (r : Option (Bor (Option (Bor (List ℕ))))) (g : Option (Option (Bor (List ℕ)))) (p : Option (Option (List ℕ))) (v : Bor (Option (Bor (List ℕ)))) → option_copied r ≡ g → option_map given_in g ≡ p → r ≡ Some v → given_in v.now ≡ only p
one_is r g p v e h is = ap only (sym (ap (option_map given_in) (ap option_copied is))) ∙ ap only (ap (option_map given_in) e ∙ h)
