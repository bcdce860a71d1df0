-- Codes that stand otherwise: from marks to rows, and one mark after another.
use Rattle.std.proofs.Common.{◌≡◌, ◌↔◌, ◌⊎◌, ◌++◌, ◌&&◌, ◌+◌, ◌<◌, ℕ, Bool, true, false, cond, IsTrue, List, [], ◌∷◌, map, length, get_or, take, None, refl, ap, sym, ◌∙◌, subst, inl, inr, append_assoc, append-nil}
use Rattle.std.proofs.lemmas.List.{map_more}
use Rattle.reg_disorder.specs.declared.mark.Mark.{Mark as MadeMark}
use Rattle.std.specs.List.{Contains}
use Rattle.std.proofs.lemmas.Bool.{true≢false, or_cases, or_left, or_right, and_from, and_parts}
use Rattle.std.proofs.lemmas.List.Elements.{Contains-append_left, Contains-append_right, Contains-append_cases}
use Rattle.reg_op.specs.Rows.{Row}
use Rattle.reg_op.specs.Set.{Ascends}
use Rattle.std.specs.Cmp.{Equal-is, tied_itself}
use Rattle.std.specs.Ordering.{is_eq}
use Rattle.reg_report.specs.Conflicts.{KeyBytes, key_cmp}
use Rattle.reg_report.proofs.ConflictLemmas.{none_in, in_cons, in_head, in_tail, key_total, key_exact}
use Rattle.reg_report.proofs.OrderLemmas.{first_before, rest_ascends, put_before}
use Rattle.reg_disorder.specs.declared.code.Standing.{Standing}
use Rattle.reg_disorder.specs.declared.code.Standing.TheVariants.{Absent, Withdrawn, Valid, Superseded}
use Rattle.reg_disorder.specs.Keys.{KeySet, has_key, PutsKey}
use Rattle.reg_disorder.specs.Marks.{Mark, IsMark, AreMarks, mark_cmp}
use Rattle.reg_disorder.specs.Standings.{IsStanding}
use Rattle.reg_disorder.proofs.MarkOrder.{mark_total}
use Rattle.reg_disorder.proofs.StandingLemmas.{one_standing}
use Rattle.reg_news.specs.Codes.{is_off, told_by, WasOff, IsAgain, IsSaidOnlyBy, IsSaidByOne, IsSupersededAnew, IsTold, AreTold, IsMissing, HasSaidByOne}

-- the mark that stands for none
abbrev pub no_mark : MadeMark
no_mark = record {
  key = record { authority = record { ref_ptr = (0, 0); now = [] }; code = record { ref_ptr = (0, 0); now = [] } };
  live = false;
  superseded = false;
  by = None;
}

-- F holds of the first k items and the next one
pub items_at : {X Y : Type 0} (f : X → Y) (F : List Y → Type 0) (xs : List X) (k : ℕ) (d : X) → k < length xs → F (map f (take k xs) ++ f (get_or xs k d) ∷ []) → F (map f (take (k + 1) xs))
items_at f F xs k d h p = subst F (sym (map_more f xs k d h)) p

-- ---- standings

is_not : (s t : Standing) → (s ≡ t → ⊥) → (rs : List Row) (k : KeyBytes) → IsStanding s rs k → ¬ (IsStanding t rs k)
is_not s t never rs k a b = never (one_standing rs k s t a b)

pub off_is : (rs : List Row) (k : KeyBytes) (s : Standing) (b : Bool) → IsStanding s rs k → b ≡ is_off s → IsTrue b ↔ WasOff rs k
off_is rs k Absent b is e = (
  λ h. absurd (true≢false (sym h ∙ e)),
  λ off. elim off [ inl w ↦ absurd (is_not Absent Withdrawn (λ p. cc) rs k is w) | inr s ↦ absurd (is_not Absent Superseded (λ p. cc) rs k is s) ],
)
off_is rs k Withdrawn b is e = (λ h. inl is, λ off. e)
off_is rs k Valid b is e = (
  λ h. absurd (true≢false (sym h ∙ e)),
  λ off. elim off [ inl w ↦ absurd (is_not Valid Withdrawn (λ p. cc) rs k is w) | inr s ↦ absurd (is_not Valid Superseded (λ p. cc) rs k is s) ],
)
off_is rs k Superseded b is e = (λ h. inr is, λ off. e)

-- ---- what one says and the other does not

pub missing_is : (rs ss : List Row) (ms ns : List Mark) → AreMarks rs ms → AreMarks ss ns → (k : KeyBytes) → IsMissing ms ns k ↔ IsSaidOnlyBy rs ss k
missing_is rs ss ms ns a b k = (
  λ m. record { mark = m.mark; key = m.key; superseded = m.superseded; said = (a.each m.mark).0 m.there; unsaid = λ h. m.missing ((b.each m.mark).1 h) },
  λ s. record { mark = s.mark; there = (a.each s.mark).1 s.said; key = s.key; superseded = s.superseded; missing = λ h. s.unsaid ((b.each s.mark).0 h) },
)

pub missing_none : (others : List Mark) (k : KeyBytes) → ¬ (IsMissing [] others k)
missing_none others k m = none_in m.mark m.there

module _ (others : List Mark) where
  -- the keys that were put so far, and those of one more mark
  pub missing_more : (old mid new : KeySet) (ms : List Mark) (m : Mark)
      → ((k : KeyBytes) → (has_key mid k ≡ true) ↔ ((has_key old k ≡ true) ⊎ IsMissing ms others k))
      → ((k : KeyBytes) → (has_key new k ≡ true) ↔ ((has_key mid k ≡ true) ⊎ IsMissing (m ∷ []) others k))
      → (k : KeyBytes) → (has_key new k ≡ true) ↔ ((has_key old k ≡ true) ⊎ IsMissing (ms ++ m ∷ []) others k)
  missing_more old mid new ms m f g k = (
    λ h. elim ((g k).0 h) [
      | inl was ↦ elim ((f k).0 was) [ inl first ↦ inl first | inr early ↦ inr (record { mark = early.mark; there = Contains-append_left ms (m ∷ []) early.mark early.there; key = early.key; superseded = early.superseded; missing = early.missing }) ]
      | inr last ↦ inr (record { mark = last.mark; there = Contains-append_right ms (m ∷ []) last.mark last.there; key = last.key; superseded = last.superseded; missing = last.missing })
    ],
    λ h. elim h [
      | inl first ↦ (g k).1 (inl ((f k).1 (inl first)))
      | inr some ↦ elim (Contains-append_cases ms (m ∷ []) some.mark some.there) [
        | inl early ↦ (g k).1 (inl ((f k).1 (inr (record { mark = some.mark; there = early; key = some.key; superseded = some.superseded; missing = some.missing }))))
        | inr last ↦ (g k).1 (inr (record { mark = some.mark; there = last; key = some.key; superseded = some.superseded; missing = some.missing }))
      ]
    ],
  )

-- an order that is exact says whether two keys are the same
same_key_is : (a b : KeyBytes) → (is_eq (key_cmp a b) ≡ true) ↔ (a ≡ b)
same_key_is a b = (λ h. key_exact a b ((Equal-is (key_cmp a b)).0 h), λ e. subst (λ c. is_eq (key_cmp a c) ≡ true) e (ap is_eq (tied_itself key_total a)))

pub put_none : (others : List Mark) (m : Mark) (s : KeySet) → (m.superseded ≡ true → Contains others m) → (k : KeyBytes) → (has_key s k ≡ true) ↔ ((has_key s k ≡ true) ⊎ IsMissing (m ∷ []) others k)
put_none others m s there k = (
  λ h. inl h,
  λ h. elim h [
    | inl old ↦ old
    | inr x ↦ elim (in_cons x.mark m [] x.there) [
      | inl is ↦ absurd (x.missing (subst (Contains others) (sym is) (there (subst (λ (n : Mark). n.superseded ≡ true) is x.superseded))))
      | inr none ↦ absurd (none_in x.mark none)
    ]
  ],
)

pub put_one : (others : List Mark) (m : Mark) (old new : KeySet) → m.superseded ≡ true → (¬ (Contains others m)) → PutsKey m.key old new → (k : KeyBytes) → (has_key new k ≡ true) ↔ ((has_key old k ≡ true) ⊎ IsMissing (m ∷ []) others k)
put_one others m old new superseded gone puts k = (
  λ h. elim (or_cases _ _ (sym (puts k) ∙ h)) [
    | inl same ↦ inr (record { mark = m; there = in_head m []; key = (same_key_is m.key k).0 same; superseded = superseded; missing = gone })
    | inr was ↦ inl was
  ],
  λ h. puts k ∙ elim h [
    | inl was ↦ or_right _ _ was
    | inr x ↦ elim (in_cons x.mark m [] x.there) [
      | inl is ↦ or_left _ _ ((same_key_is m.key k).1 (sym (ap (λ (n : Mark). n.key) is) ∙ x.key))
      | inr none ↦ absurd (none_in x.mark none)
    ]
  ],
)

pub one_said : (rs ss : List Row) (ms ns : List Mark) (none first both : KeySet) → AreMarks rs ms → AreMarks ss ns → ((k : KeyBytes) → has_key none k ≡ false)
    → ((k : KeyBytes) → (has_key first k ≡ true) ↔ ((has_key none k ≡ true) ⊎ IsMissing ms ns k))
    → ((k : KeyBytes) → (has_key both k ≡ true) ↔ ((has_key first k ≡ true) ⊎ IsMissing ns ms k)) → HasSaidByOne rs ss both
one_said rs ss ms ns none first both a b empty f g k = (
  λ h. elim ((g k).0 h) [
    | inl was ↦ elim ((f k).0 was) [ inl old ↦ absurd (true≢false (sym old ∙ empty k)) | inr m ↦ inl ((missing_is rs ss ms ns a b k).0 m) ]
    | inr m ↦ inr ((missing_is ss rs ns ms b a k).0 m)
  ],
  λ s. elim s [
    | inl x ↦ (g k).1 (inl ((f k).1 (inr ((missing_is rs ss ms ns a b k).1 x))))
    | inr y ↦ (g k).1 (inr ((missing_is ss rs ns ms b a k).1 y))
  ],
)

-- ---- which marks are told

module _ (rs ss : List Row) (m : Mark) where
  told_off : (s : Standing) → IsStanding s ss m.key → (s ≡ Valid → ⊥) → (s ≡ Superseded → ⊥) → ¬ (IsTold rs ss m)
  told_off s is v u told = elim told.1 [ inl again ↦ v (one_standing ss m.key s Valid is again.0) | inr anew ↦ u (one_standing ss m.key s Superseded is anew.1.0) ]

  pub not_live : m.live ≡ false → IsTrue false ↔ IsTold rs ss m
  not_live e = (λ h. absurd (true≢false (sym h)), λ told. absurd (true≢false (sym told.0 ∙ e)))

  module _ (live : m.live ≡ true) (again : Bool) (is_again : IsTrue again ↔ WasOff rs m.key) (changed : KeySet) (has : HasSaidByOne rs ss changed) (anew : Bool)
      (is_anew : anew ≡ (m.superseded && has_key changed m.key)) where
    pub told_is : (s : Standing) (b : Bool) → IsStanding s ss m.key → b ≡ told_by s again anew → IsTrue b ↔ IsTold rs ss m
    told_is Absent b is e = (λ h. absurd (true≢false (sym h ∙ e)), λ told. absurd (told_off Absent is (λ p. cc) (λ p. cc) told))
    told_is Withdrawn b is e = (λ h. absurd (true≢false (sym h ∙ e)), λ told. absurd (told_off Withdrawn is (λ p. cc) (λ p. cc) told))
    told_is Valid b is e = (
      λ h. (live, inl (is, is_again.0 (sym e ∙ h))),
      λ told. elim told.1 [ inl valid ↦ e ∙ is_again.1 valid.1 | inr other ↦ absurd (is_not Valid Superseded (λ p. cc) ss m.key is other.1.0) ],
    )
    told_is Superseded b is e = (
      λ h. let both = and_parts m.superseded (has_key changed m.key) (sym is_anew ∙ sym e ∙ h) in (live, inr (both.0, (is, (has m.key).0 both.1))),
      λ told. elim told.1 [ inl valid ↦ absurd (is_not Superseded Valid (λ p. cc) ss m.key is valid.0) | inr other ↦ e ∙ is_anew ∙ and_from m.superseded (has_key changed m.key) other.0 ((has m.key).1 other.1.1) ],
    )

-- ---- some of a list, in its order

module _ (P : Mark → Type 0) where
  abbrev pub Picks : List Mark → List Mark → Type 0
  Picks [] ys = ys ≡ []
  Picks (x ∷ xs) ys = (P x × ((rest : List Mark) × Picks xs rest × (ys ≡ x ∷ rest))) ⊎ ((¬ (P x)) × Picks xs ys)

  -- whatever is picked of the rest, with what was made before it, is picked of all
  abbrev pub Picking : List Mark → List Mark → List Mark → Type 0
  Picking all rest made = (more : List Mark) → Picks rest more → Picks all (made ++ more)

  pub picking_none : (all : List Mark) → Picking all all []
  picking_none all more p = p

  pub picking_more : (all rest others : List Mark) (x : Mark) (made new : List Mark) (b : Bool) → rest ≡ x ∷ others → IsTrue b ↔ P x → new ≡ made ++ cond b (x ∷ []) [] → Picking all rest made → Picking all others new
  picking_more all rest others x made new true e is n p more later =
      subst (Picks all) (sym (ap (λ l. l ++ more) n ∙ append_assoc made (x ∷ []) more)) (p (x ∷ more) (subst (λ l. Picks l (x ∷ more)) (sym e) (inl (is.0 refl, (more, later, refl)))))
  picking_more all rest others x made new false e is n p more later =
      subst (Picks all) (sym (ap (λ l. l ++ more) (n ∙ append-nil made))) (p more (subst (λ l. Picks l more) (sym e) (inr (λ h. true≢false (sym (is.1 h)), later))))

  pub picking_all : (all rest made : List Mark) → rest ≡ [] → Picking all rest made → Picks all made
  picking_all all rest made e p = subst (Picks all) (append-nil made) (p [] (subst (λ l. Picks l []) (sym e) refl))

  pub picked : (xs ys : List Mark) → Picks xs ys → (m : Mark) → Contains ys m ↔ (Contains xs m × P m)
  picked [] ys e m = (λ h. absurd (none_in m (subst (λ l. Contains l m) e h)), λ h. absurd (none_in m h.0))
  picked (x ∷ xs) ys (inl (p, (rest, later, e))) m = (
    λ h. elim (in_cons m x rest (subst (λ l. Contains l m) e h)) [
      | inl is ↦ (subst (Contains (x ∷ xs)) (sym is) (in_head x xs), subst P (sym is) p)
      | inr after ↦ let f = (picked xs rest later m).0 after in (in_tail m x xs f.0, f.1)
    ],
    λ h. subst (λ l. Contains l m) (sym e) (elim (in_cons m x xs h.0) [
      | inl is ↦ subst (Contains (x ∷ rest)) (sym is) (in_head x rest)
      | inr after ↦ in_tail m x rest ((picked xs rest later m).1 (after, h.1))
    ]),
  )
  picked (x ∷ xs) ys (inr (never, later)) m = (
    λ h. let f = (picked xs ys later m).0 h in (in_tail m x xs f.0, f.1),
    λ h. elim (in_cons m x xs h.0) [
      | inl is ↦ absurd (never (subst P is h.1))
      | inr after ↦ (picked xs ys later m).1 (after, h.1)
    ],
  )

  before_all : (x : Mark) (xs ys : List Mark) → Ascends mark_cmp (x ∷ xs) → Picks xs ys → Ascends mark_cmp ys → Ascends mark_cmp (x ∷ ys)
  before_all x xs ys up picks a = put_before mark_total x ys (λ y h. first_before mark_total x xs up y ((picked xs ys picks y).0 h).0) a

  pub picked_ascend : (xs ys : List Mark) → Ascends mark_cmp xs → Picks xs ys → Ascends mark_cmp ys
  picked_ascend [] ys up e = subst (Ascends mark_cmp) (sym e) tt
  picked_ascend (x ∷ xs) ys up (inl (p, (rest, later, e))) =
      subst (Ascends mark_cmp) (sym e) (before_all x xs rest up later (picked_ascend xs rest (rest_ascends mark_total x xs up) later))
  picked_ascend (x ∷ xs) ys up (inr (never, later)) = picked_ascend xs ys (rest_ascends mark_total x xs up) later

pub told_are : (rs ss : List Row) (ms made : List Mark) → AreMarks ss ms → Picks (IsTold rs ss) ms made → AreTold rs ss made
told_are rs ss ms made are picks = record {
  ascend = picked_ascend (IsTold rs ss) ms made are.ascend picks;
  each = λ m. (
    λ h. let f = (picked (IsTold rs ss) ms made picks m).0 h in ((are.each m).0 f.0, f.1),
    λ h. (picked (IsTold rs ss) ms made picks m).1 ((are.each m).1 h.0, h.1),
  );
}
