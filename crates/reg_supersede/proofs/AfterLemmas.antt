-- The content after some effects of an office, and after some more.
use Rattle.std.proofs.Common.{◌≡◌, ℕ, ◌+◌, ◌<◌, ◌≤◌, add-one, true, ◌||◌, List, [], ◌∷◌, ◌++◌, map, length, Option, Some, None, Ok, refl, sym, ap, ◌∙◌, subst, inl, inr, arith}
use Rattle.std.proofs.lemmas.Bool.{true≢false, or_cases, or_left, or_right}
use Rattle.std.proofs.lemmas.List.{map-append}
use Rattle.std.proofs.lemmas.List.Folds.{list_any-append}
use Rattle.std.specs.List.{list_any}
use Rattle.std.specs.Ordering.{eq_by_cmp}
use Rattle.reg_op.specs.Set as set
use Rattle.reg_op.specs.Set.{contains, contains-from_list, contains-union, same_set}
use Rattle.reg_op.specs.Ids.{Id, is_same}
use Rattle.reg_op.specs.Operations.{Op, Ops, op_cmp, ids, one, kept}
use Rattle.reg_op.specs.declared.operation.OpBody.{OpBody as Body}
use Rattle.reg_op.specs.Contents.{Content, state, nothing, merged, joined, IsContent}
use Rattle.reg_op.proofs.OpLemmas.{id_total, id_exact, op_total, op_exact, is_same_exact}
use Rattle.reg_op.proofs.FiniteLemmas.{union-empty}
use Rattle.reg_op.proofs.ContentLemmas.{contains_op-union, contains-ids, kept_is_within, kept-kept, merged-state, merged_assoc, merged_comm, state-empty, same_content, joined_content, OneBody-within, union_within, union_left, union_right}
use Rattle.reg_op.proofs.OneLemmas.{any-from_list}
use Rattle.reg_state.specs.Runs.{id_at}
use Rattle.reg_office.specs.declared.fault.OfficeFault.{OfficeFault}
use Rattle.reg_office.specs.Making.{greatest, numbered, objection, objections, else_next, with_op}
use Rattle.reg_office.proofs.NumberLemmas.{greatest_is, numbers_agree}
use Rattle.reg_office.proofs.LawLemmas.{is_greatest}
use Rattle.reg_office.proofs.BodyLemmas.{same_itself}

abbrev pub of_list : List Op → Ops
of_list os = set.from_list {R = op_cmp} os

both_lists : (ps bs : List Op) → of_list (ps ++ bs) ≡ set.union (of_list ps) (of_list bs)
both_lists ps bs = same_set op_total op_exact _ _ (λ q.
    contains-from_list op_total (ps ++ bs) q ∙ list_any-append (eq_by_cmp op_cmp q) ps bs
    ∙ sym (contains_op-union (of_list ps) (of_list bs) q ∙ (λ k. contains-from_list op_total ps q k || contains-from_list op_total bs q k)))

-- merging two lists of operations in turn merges their concatenation
then_after : (y : Content) (ps bs : List Op) → merged (merged y (state (of_list ps))) (state (of_list bs)) ≡ merged y (state (of_list (ps ++ bs)))
then_after y ps bs = merged_assoc y (state (of_list ps)) (state (of_list bs)) ∙ ap (merged y) (merged-state (of_list ps) (of_list bs) ∙ ap state (sym (both_lists ps bs)))

pub merged_none : (y : Content) → kept y.ops ≡ y.ops → merged y (state (of_list [])) ≡ y
merged_none y k = ap (merged y) state-empty ∙ merged_comm y nothing ∙ same_content _ _ (ap kept (union-empty op_total op_exact y.ops) ∙ k) (union-empty id_total id_exact y.seen)

pub numbered_append : (r : List ℕ) (n : ℕ) (note : List ℕ) (bs cs : List Body) → numbered r n note (bs ++ cs) ≡ numbered r n note bs ++ numbered r (n + length bs) note cs
numbered_append r n note [] cs = let e : n ≡ n + 0 = omega arith in ap (λ m. numbered r m note cs) e
numbered_append r n note (b ∷ bs) cs =
    let e : n + 1 + length bs ≡ n + (length bs + 1) = omega arith in
    ap (λ os. record { id = id_at r n; body = b; note = note } ∷ os)
    (numbered_append r (n + 1) note bs cs ∙ ap (λ m. numbered r (n + 1) note bs ++ numbered r m note cs) (e ∙ ap (λ m. n + m) (add-one (length bs))))

-- ---- the refusals of two lists in turn

else_both : (a b c : Option OfficeFault) → else_next a (else_next b c) ≡ else_next (else_next a b) c
else_both None b c = refl
else_both (Some f) b c = refl

objections_both : (y : Content) (ps bs : List Op) → kept y.ops ≡ y.ops → objections y (ps ++ bs) ≡ else_next (objections y ps) (objections (merged y (state (of_list ps))) bs)
objections_both y [] bs k = ap (λ z. objections z bs) (sym (merged_none y k))
objections_both y (o ∷ ps) bs k =
    ap (else_next (objection y.ops o.body))
    (objections_both (with_op y o) ps bs (kept-kept (set.union y.ops (kept (one o)))) ∙ ap (λ z. else_next (objections (with_op y o) ps) (objections z bs)) (then_after y (o ∷ []) ps))
    ∙ else_both (objection y.ops o.body) (objections (with_op y o) ps) (objections (merged y (state (of_list (o ∷ ps)))) bs)

-- ---- numbers

module _ (r : List ℕ) (note : List ℕ) where
  abbrev has_count : ℕ → List Op → Type 0
  has_count count os = list_any (λ (o : Op). is_same (id_at r count) o.id) os ≡ true

  below_end : (n : ℕ) (bs : List Body) (count : ℕ) → has_count count (numbered r n note bs) → count < n + length bs
  below_end n [] count h = absurd (true≢false (sym h))
  below_end n (b ∷ bs) count h =
      let long : length (b ∷ bs) ≡ length bs + 1 = sym (add-one (length bs)) in
      elim (or_cases (is_same (id_at r count) (id_at r n)) (list_any (λ (o : Op). is_same (id_at r count) o.id) (numbered r (n + 1) note bs)) h) [
        | inl e ↦ let same : count ≡ n = ap (λ (i : Id). i.count) (is_same_exact (id_at r count) (id_at r n) e) in omega arith
        | inr e ↦ let later = below_end (n + 1) bs count e in omega arith
      ]

  has_last : (n : ℕ) (bs : List Body) → 0 < length bs → has_count (n + length bs) (numbered r (n + 1) note bs)
  has_last n [] h = absurd (omega arith)
  has_last n (b ∷ []) h =
      let e : n + 1 ≡ n + length (b ∷ []) = ap (λ m. n + m) (add-one 0) in
      or_left _ _ (subst (λ m. is_same (id_at r m) (id_at r (n + 1)) ≡ true) e (same_itself (id_at r (n + 1))))
  has_last n (b ∷ c ∷ bs) h =
      let long : length (b ∷ c ∷ bs) ≡ length (c ∷ bs) + 1 = sym (add-one (length (c ∷ bs))) in
      let some : 0 < length (c ∷ bs) = subst (λ m. 0 < m) (add-one (length bs)) (omega arith) in
      let e : n + 1 + length (c ∷ bs) ≡ n + length (b ∷ c ∷ bs) = omega arith in
      or_right (is_same (id_at r (n + length (b ∷ c ∷ bs))) (id_at r (n + 1))) _ (subst (λ m. has_count m (numbered r (n + 1 + 1) note (c ∷ bs))) e (has_last (n + 1) (c ∷ bs) some))

module _ (x : Content) (r note : List ℕ) where
  abbrev pub g : ℕ
  g = greatest r x.seen

  abbrev pub ops_of : List Body → List Op
  ops_of bs = numbered r (g + 1) note bs

  abbrev pub more_of : List Body → List Body → List Op
  more_of bs cs = numbered r (g + 1 + length bs) note cs

  abbrev pub after : List Body → Content
  after bs = merged x (state (of_list (ops_of bs)))

  seen_is : (bs : List Body) (i : Id) → contains (after bs).seen i ≡ (contains x.seen i || list_any (λ (o : Op). is_same i o.id) (ops_of bs))
  seen_is bs i = contains-union id_total x.seen (ids (of_list (ops_of bs))) i ∙ ap (λ b. contains x.seen i || b) (contains-ids (of_list (ops_of bs)) i ∙ any-from_list (λ (o : Op). is_same i o.id) (ops_of bs))

  pub greatest_after : (bs : List Body) → greatest r (after bs).seen ≡ g + length bs
  greatest_after bs = sym (greatest_is r (after bs).seen (g + length bs) (record { there = there bs; bound = bound }))
    where
      there : (cs : List Body) → 0 < g + length cs → contains (after cs).seen (id_at r (g + length cs)) ≡ true
      there [] h =
          let e : g ≡ g + 0 = omega arith in
          subst (λ m. contains (after []).seen (id_at r m) ≡ true) e (seen_is [] (id_at r g) ∙ or_left _ _ ((is_greatest r x.seen).there (omega arith)))
      there (c ∷ cs) h =
          let some : 0 < length (c ∷ cs) = subst (λ m. 0 < m) (add-one (length cs)) (omega arith) in
          seen_is (c ∷ cs) (id_at r (g + length (c ∷ cs))) ∙ or_right (contains x.seen (id_at r (g + length (c ∷ cs)))) _ (has_last r note g (c ∷ cs) some)

      bound : (count : ℕ) → contains (after bs).seen (id_at r count) ≡ true → count ≤ g + length bs
      bound count h = elim (or_cases (contains x.seen (id_at r count)) _ (sym (seen_is bs (id_at r count)) ∙ h)) [
        | inl old ↦ let low = (is_greatest r x.seen).bound count old in omega arith
        | inr new ↦ let low = below_end r note (g + 1) bs count new in omega arith
      ]

  pub next_is : (bs : List Body) → greatest r (after bs).seen + 1 ≡ g + 1 + length bs
  next_is bs = let e = greatest_after bs in omega arith

  -- ---- more effects

  pub after_more : (bs cs : List Body) → merged (after bs) (state (of_list (more_of bs cs))) ≡ after (bs ++ cs)
  after_more bs cs = then_after x (ops_of bs) (more_of bs cs) ∙ ap (λ os. merged x (state (of_list os))) (sym (numbered_append r (g + 1) note bs cs))

  pub objections_more : IsContent x → (bs cs : List Body) → objections x (ops_of (bs ++ cs)) ≡ else_next (objections x (ops_of bs)) (objections (after bs) (more_of bs cs))
  objections_more is bs cs = ap (objections x) (numbered_append r (g + 1) note bs cs) ∙ objections_both x (ops_of bs) (more_of bs cs) is.is_kept

  pub ids_more : (bs cs : List Body) → map (λ (o : Op). o.id) (ops_of (bs ++ cs)) ≡ map (λ (o : Op). o.id) (ops_of bs) ++ map (λ (o : Op). o.id) (more_of bs cs)
  ids_more bs cs = ap (map (λ (o : Op). o.id)) (numbered_append r (g + 1) note bs cs) ∙ map-append (λ (o : Op). o.id) (ops_of bs) (more_of bs cs)

  pub joins_more : IsContent x → (bs cs : List Body) → joined (after bs) (state (of_list (more_of bs cs))) ≡ Ok (after (bs ++ cs))
  joins_more is bs cs =
      let all : Ops = of_list (ops_of (bs ++ cs)) in
      let front : Ops = of_list (ops_of bs) in
      let back : Ops = of_list (more_of bs cs) in
      let parts : all ≡ set.union front back = ap of_list (numbered_append r (g + 1) note bs cs) ∙ both_lists (ops_of bs) (more_of bs cs) in
      let in_front : (o : Op) → contains front o ≡ true → contains (set.union x.ops all) o ≡ true = λ o h. union_right x.ops all o (subst (λ s. contains s o ≡ true) (sym parts) (union_left front back o h)) in
      let in_back : (o : Op) → contains back o ≡ true → contains (set.union x.ops all) o ≡ true = λ o h. union_right x.ops all o (subst (λ s. contains s o ≡ true) (sym parts) (union_right front back o h)) in
      let old : (o : Op) → contains (after bs).ops o ≡ true → contains (set.union x.ops all) o ≡ true =
      λ o h. union_within x.ops (kept front) (set.union x.ops all) (union_left x.ops all) (λ p m. in_front p (kept_is_within front p m)) o (kept_is_within (set.union x.ops (kept front)) o h) in
      joined_content (after bs) (state back) (OneBody-within _ (set.union x.ops all) (union_within (after bs).ops (kept back) (set.union x.ops all) old (λ o h. in_back o (kept_is_within back o h))) (numbers_agree x r note (bs ++ cs) is))
      ∙ ap Ok (after_more bs cs)
