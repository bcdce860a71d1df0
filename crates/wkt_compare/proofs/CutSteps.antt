-- The effect of one byte on the count of open delimiters.
use Rattle.std.proofs.Common.{◌≡◌, ℕ, suc, cond, ◌+◌, ◌-◌, ◌<◌, ◌≤◌, ◌⊎◌, Bool, true, false, not, List, [], ◌∷◌, refl, arith, inl, inr, ap, ◌∙◌}
use Rattle.std.specs.Prelude.{count_by, nat_le}
use Rattle.std.proofs.lemmas.Grind.{common_steps}
use Rattle.std.proofs.lemmas.List.Sums.{sum_by-cons}
use Rattle.std.proofs.lemmas.Bool.{cases_Bool}
use Rattle.wkt_tree.specs.Tokens.{is_mark}
use Rattle.wkt_compare.specs.Texts.{is_opening, is_closing, outside}
use Rattle.wkt_compare.specs.Counting.{text_len}

-- the text continues after the byte, with this count; outside marks, the byte opens and closes this many delimiters
pub record Goes (count : ℕ) (quoted : Bool) (b count' : ℕ) (quoted' : Bool) (opens closes : ℕ) : Type 0 where
  pub len : (bs : List ℕ) → text_len count quoted (b ∷ bs) ≡ suc (text_len count' quoted' bs)
  pub opened : (bs : List ℕ) → count_by is_opening (outside quoted (b ∷ bs)) ≡ opens + count_by is_opening (outside quoted' bs)
  pub closed : (bs : List ℕ) → count_by is_closing (outside quoted (b ∷ bs)) ≡ closes + count_by is_closing (outside quoted' bs)
  pub balance : count' + closes ≡ count + opens
  pub alive : ((closes ≡ 0) × (count ≤ count')) ⊎ (0 < count')

-- the byte ends the text
pub record Stands (count : ℕ) (b : ℕ) : Type 0 where
  pub len : (bs : List ℕ) → text_len count false (b ∷ bs) ≡ 1
  pub opened : count_by is_opening (outside false (b ∷ [])) ≡ 0
  pub closed : count_by is_closing (outside false (b ∷ [])) ≡ 1
  pub last : count ≤ 1

at_mark : (count : ℕ) (q : Bool) (b : ℕ) → is_mark b ≡ true → Goes count q b count (not q) 0 0
at_mark count q b h = record {
  len = λ bs. simp h;
  opened = λ bs. simp h (omega arith);
  closed = λ bs. simp h (omega arith);
  balance = omega arith;
  alive = inl (refl, omega arith);
}

inside_marks : (count b : ℕ) → is_mark b ≡ false → Goes count true b count true 0 0
inside_marks count b h = record {
  len = λ bs. simp h;
  opened = λ bs. simp h (omega arith);
  closed = λ bs. simp h (omega arith);
  balance = omega arith;
  alive = inl (refl, omega arith);
}

count_yes : (p : ℕ → Bool) (x : ℕ) (xs : List ℕ) → p x ≡ true → count_by p (x ∷ xs) ≡ 1 + count_by p xs
count_yes p x xs h = sum_by-cons (λ y. cond (p y) 1 0) x xs ∙ ap (λ t. cond t 1 0 + count_by p xs) h

count_no : (p : ℕ → Bool) (x : ℕ) (xs : List ℕ) → p x ≡ false → count_by p (x ∷ xs) ≡ 0 + count_by p xs
count_no p x xs h = sum_by-cons (λ y. cond (p y) 1 0) x xs ∙ ap (λ t. cond t 1 0 + count_by p xs) h

stays : (b : ℕ) → is_mark b ≡ false → (bs : List ℕ) → outside false (b ∷ bs) ≡ b ∷ outside false bs
stays b h bs = simp h

at_opening : (count b : ℕ) → is_mark b ≡ false → is_opening b ≡ true → is_closing b ≡ false → Goes count false b (count + 1) false 1 0
at_opening count b h o c = record {
  len = λ bs. simp (h, o);
  opened = λ bs. ap (count_by is_opening) (stays b h bs) ∙ count_yes is_opening b (outside false bs) o;
  closed = λ bs. ap (count_by is_closing) (stays b h bs) ∙ count_no is_closing b (outside false bs) c;
  balance = omega arith;
  alive = inl (refl, omega arith);
}

pub at_closing : (count b : ℕ) → is_mark b ≡ false → is_opening b ≡ false → is_closing b ≡ true → nat_le count 1 ≡ false → Goes count false b (count - 1) false 0 1
at_closing count b h o c t = record {
  len = λ bs. simp (h, o, c, t);
  opened = λ bs. ap (count_by is_opening) (stays b h bs) ∙ count_no is_opening b (outside false bs) o;
  closed = λ bs. ap (count_by is_closing) (stays b h bs) ∙ count_yes is_closing b (outside false bs) c;
  balance = grind (arith, common_steps);
  alive = inr (grind (arith, common_steps));
}

pub at_last : (count b : ℕ) → is_mark b ≡ false → is_opening b ≡ false → is_closing b ≡ true → nat_le count 1 ≡ true → Stands count b
at_last count b h o c t = record {
  len = λ bs. simp (h, o, c, t);
  opened = ap (count_by is_opening) (stays b h []) ∙ count_no is_opening b [] o;
  closed = ap (count_by is_closing) (stays b h []) ∙ count_yes is_closing b [] c;
  last = grind (arith, common_steps);
}

pub at_other : (count b : ℕ) → is_mark b ≡ false → is_opening b ≡ false → is_closing b ≡ false → Goes count false b count false 0 0
at_other count b h o c = record {
  len = λ bs. simp (h, o, c);
  opened = λ bs. ap (count_by is_opening) (stays b h bs) ∙ count_no is_opening b (outside false bs) o;
  closed = λ bs. ap (count_by is_closing) (stays b h bs) ∙ count_no is_closing b (outside false bs) c;
  balance = omega arith;
  alive = inl (refl, omega arith);
}

-- no byte both opens and closes
one_way : (b : ℕ) → is_opening b ≡ true → is_closing b ≡ false
one_way b o = grind (arith, common_steps)

-- the effect of a byte after which the text continues
pub record Passes (count : ℕ) (quoted : Bool) (b : ℕ) : Type 0 where
  pub count' : ℕ
  pub quoted' : Bool
  pub opens : ℕ
  pub closes : ℕ
  pub goes : Goes count quoted b count' quoted' opens closes

pub does : (count : ℕ) (quoted : Bool) (b : ℕ) → Passes count quoted b ⊎ ((quoted ≡ false) × Stands count b)
does count true b = elim (cases_Bool (is_mark b)) [
  | inl h ↦ inl (record { count' = _; quoted' = _; opens = _; closes = _; goes = at_mark count true b h })
  | inr h ↦ inl (record { count' = _; quoted' = _; opens = _; closes = _; goes = inside_marks count b h })
]
does count false b = elim (cases_Bool (is_mark b)) [
  | inl h ↦ inl (record { count' = _; quoted' = _; opens = _; closes = _; goes = at_mark count false b h })
  | inr h ↦ elim (cases_Bool (is_opening b)) [
    | inl o ↦ inl (record { count' = _; quoted' = _; opens = _; closes = _; goes = at_opening count b h o (one_way b o) })
    | inr o ↦ elim (cases_Bool (is_closing b)) [
      | inr c ↦ inl (record { count' = _; quoted' = _; opens = _; closes = _; goes = at_other count b h o c })
      | inl c ↦ elim (cases_Bool (nat_le count 1)) [
        | inl t ↦ inr (refl, at_last count b h o c t)
        | inr t ↦ inl (record { count' = _; quoted' = _; opens = _; closes = _; goes = at_closing count b h o c t })
      ]
    ]
  ]
]
