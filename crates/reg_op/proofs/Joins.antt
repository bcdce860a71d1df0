-- The join of a list, from the laws of joining.
use Rattle.std.proofs.Common.{ℕ, get_or, drop, length, ◌<◌, ◌≡◌, zero, suc, List, [], ◌∷◌, Result, Ok, Err, refl, sym, ap, ◌∙◌, inl, inr, ◌⊎◌, arith}
use Rattle.std.specs.Prelude.{Contains}
use Rattle.reg_op.specs.Joining.{JoinLaws, joined_with, joined_both, all_joined, AllAgree, SameMembers}

-- an element of a list is its head or in its tail
contains_cases : {T : Type 0} (x : T) (xs : List T) (y : T) → Contains (x ∷ xs) y → (x ≡ y) ⊎ Contains xs y
contains_cases x xs y (zero, _, e) = inl e
contains_cases x xs y (suc k, h, e) = inr (k, omega arith, e)

contains_head : {T : Type 0} (x : T) (xs : List T) → Contains (x ∷ xs) x
contains_head x xs = (0, omega arith, refl)

contains_tail : {T : Type 0} (x : T) (xs : List T) (y : T) → Contains xs y → Contains (x ∷ xs) y
contains_tail x xs y h = (suc h.0, omega (arith, h.1), h.2)

-- after a refusal, the rest of the list does not change it
pub all_refused : {T C : Type 0} (joined : T → T → Result T C) (c : C) (ys : List T) → all_joined joined (Err c) ys ≡ Err c
all_refused joined c [] = refl
all_refused joined c (y ∷ ys) = all_refused joined c ys

-- the elements of a list are merged into x, from the left
abbrev pub merged_from : {T : Type 0} → (T → T → T) → T → List T → T
merged_from merged x [] = x
merged_from merged x (y ∷ ys) = merged_from merged (merged x y) ys

module _ {T C : Type 0} {nothing : T} {joined : T → T → Result T C} {merged : T → T → T} {agree : T → T → Type 0} {is_value : T → Type 0} (laws : JoinLaws nothing joined merged agree is_value) where
  swap_last : (x y z : T) → merged (merged x y) z ≡ merged (merged x z) y
  swap_last x y z = laws.merged_assoc x y z ∙ ap (merged x) (laws.merged_comm y z) ∙ sym (laws.merged_assoc x z y)

  again_last : (x y : T) → merged (merged x y) y ≡ merged x y
  again_last x y = laws.merged_comm _ _ ∙ ap (merged y) (laws.merged_comm x y) ∙ laws.merged_again y x ∙ laws.merged_comm y x

  merged_from-merged : (x y : T) (ys : List T) → merged_from merged (merged x y) ys ≡ merged (merged_from merged x ys) y
  merged_from-merged x y [] = refl
  merged_from-merged x y (z ∷ zs) = ap (λ w. merged_from merged w zs) (swap_last x y z) ∙ merged_from-merged (merged x z) y zs

  absorbs : (x y : T) (ys : List T) → Contains ys y → merged (merged_from merged x ys) y ≡ merged_from merged x ys
  absorbs x y [] h = absurd (omega (arith, h.1))
  absorbs x y (z ∷ zs) h =
      elim (contains_cases z zs y h) [
        | inl e ↦ sym (merged_from-merged (merged x z) y zs)
            ∙ ap (λ w. merged_from merged w zs) (ap (merged (merged x z)) (sym e) ∙ again_last x z)
        | inr e ↦ absorbs (merged x z) y zs e
      ]

  absorbs_all : (z : T) (ys : List T) → ((y : T) → Contains ys y → merged z y ≡ z) → merged_from merged z ys ≡ z
  absorbs_all z [] h = refl
  absorbs_all z (y ∷ ys) h = ap (λ w. merged_from merged w ys) (h y (contains_head y ys)) ∙ absorbs_all z ys (λ w k. h w (contains_tail y ys w k))

  lists_swap : (x : T) (xs ys : List T) → merged_from merged (merged_from merged x xs) ys ≡ merged_from merged (merged_from merged x ys) xs
  lists_swap x xs [] = refl
  lists_swap x xs (y ∷ ys) = ap (λ w. merged_from merged w ys) (sym (merged_from-merged x y xs)) ∙ lists_swap (merged x y) xs ys

  order_free : (x : T) (xs ys : List T) → SameMembers xs ys → merged_from merged x xs ≡ merged_from merged x ys
  order_free x xs ys same =
      sym (absorbs_all (merged_from merged x xs) ys (λ y h. absorbs x y xs ((same y).1 h)))
      ∙ lists_swap x xs ys
      ∙ absorbs_all (merged_from merged x ys) xs (λ y h. absorbs x y ys ((same y).0 h))

  joins_from : (x : T) (ys : List T) → ((y : T) → Contains ys y → agree x y) → AllAgree agree ys → all_joined joined (Ok x) ys ≡ Ok (merged_from merged x ys)
  joins_from x [] with all = refl
  joins_from x (y ∷ ys) with all =
      let first : agree x y = with y (contains_head y ys) in
      ap (λ r. all_joined joined r ys) (laws.agreed x y first)
      ∙ joins_from (merged x y) ys
      (λ z h. laws.agree_merged x y z first (with z (contains_tail y ys z h)) (all y z (contains_head y ys) (contains_tail y ys z h)))
      (λ z w h k. all z w (contains_tail y ys z h) (contains_tail y ys w k))

  -- the join of a list of values that agree is their merge
  pub joins : (xs : List T) → AllAgree agree xs → all_joined joined (Ok nothing) xs ≡ Ok (merged_from merged nothing xs)
  joins xs all = joins_from nothing xs (λ y h. laws.agree_nothing y (all y y h h)) all

  pub agreement : (xs : List T) → AllAgree agree xs → (r : T) × (all_joined joined (Ok nothing) xs ≡ Ok r)
  agreement xs all = (merged_from merged nothing xs, joins xs all)

  pub order : (xs ys : List T) → AllAgree agree xs → SameMembers xs ys → all_joined joined (Ok nothing) xs ≡ all_joined joined (Ok nothing) ys
  order xs ys all same =
      joins xs all ∙ ap Ok (order_free nothing xs ys same)
      ∙ sym (joins ys (λ x y h k. all x y ((same x).1 h) ((same y).1 k)))

  pub one : (x : T) → is_value x → all_joined joined (Ok nothing) (x ∷ []) ≡ Ok x
  one x is = laws.neutral x is

  pub joined_three : (x y z : T) → agree x y → agree x z → agree y z → joined_both joined (joined x y) (Ok z) ≡ Ok (merged (merged x y) z)
  joined_three x y z a b c = ap (λ r. joined_both joined r (Ok z)) (laws.agreed x y a) ∙ laws.agreed (merged x y) z (laws.agree_merged x y z a b c)

  pub associative : (x y z : T) → agree x y → agree x z → agree y z → joined_both joined (joined x y) (Ok z) ≡ joined_both joined (Ok x) (joined y z)
  associative x y z a b c =
      let last : agree x (merged y z) = laws.agree_comm _ _ (laws.agree_merged y z x c (laws.agree_comm x y a) (laws.agree_comm x z b)) in
      joined_three x y z a b c
      ∙ ap Ok (laws.merged_assoc x y z)
      ∙ sym (ap (joined_both joined (Ok x)) (laws.agreed y z c) ∙ laws.agreed x (merged y z) last)

-- if joining the element at index i is refused, joining the suffix from i is refused
pub refused_at : {T C : Type 0} (joined : T → T → Result T C) (a x : T) (c : C) (xs : List T) (i : ℕ) → x ≡ get_or xs i x → i < length xs → joined a x ≡ Err c → all_joined joined (Ok a) (drop i xs) ≡ Err c
refused_at joined a x c [] i e h r = absurd (omega arith)
refused_at joined a x c (y ∷ ys) zero e h r = ap (λ w. all_joined joined (joined a w) ys) (sym e) ∙ ap (λ w. all_joined joined w ys) r ∙ all_refused joined c ys
refused_at joined a x c (y ∷ ys) (suc i) e h r = refused_at joined a x c ys i e (omega arith) r

-- the only element is refused; or the second one is, after the first
pub refused_first : {T C : Type 0} (joined : T → T → Result T C) (a x : T) (c : C) (xs rest : List T) → xs ≡ x ∷ rest → length rest ≡ 0 → joined a x ≡ Err c → all_joined joined (Ok a) xs ≡ Err c
refused_first joined a x c xs [] e n r = ap (all_joined joined (Ok a)) e ∙ r
refused_first joined a x c xs (y ∷ ys) e n r = absurd (omega arith)

pub refused_second : {T C : Type 0} (joined : T → T → Result T C) (a x y : T) (c : C) (xs rest others : List T) → xs ≡ x ∷ rest → rest ≡ y ∷ others → joined a x ≡ Ok x → joined x y ≡ Err c → all_joined joined (Ok a) xs ≡ Err c
refused_second joined a x y c xs rest others e f first r =
    ap (all_joined joined (Ok a)) (e ∙ ap (λ l. x ∷ l) f)
    ∙ ap (λ w. all_joined joined (joined_with joined w y) others) first
    ∙ ap (λ w. all_joined joined w others) r
    ∙ all_refused joined c others
