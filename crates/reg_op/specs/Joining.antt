-- The laws of joining, and the join of a list.
use Rattle.std.specs.Prelude.{◌≡◌, List, [], ◌∷◌, ◌↔◌, Result, Ok, Err, Contains}

-- the join commutes, refusals included; for values that agree it is an associative merge in which a value counts once;
-- a value that agrees with two agreeing values agrees with their merge
pub record JoinLaws {T C : Type 0} (nothing : T) (joined : T → T → Result T C) (merged : T → T → T) (agree : T → T → Type 0) (is_value : T → Type 0) : Type 0 where
  pub agreed : (x y : T) → agree x y → joined x y ≡ Ok (merged x y)
  pub refused : (x y z : T) → joined x y ≡ Ok z → agree x y
  pub comm : (x y : T) → joined x y ≡ joined y x
  pub merged_comm : (x y : T) → merged x y ≡ merged y x
  pub merged_assoc : (x y z : T) → merged (merged x y) z ≡ merged x (merged y z)
  pub merged_again : (x y : T) → merged x (merged x y) ≡ merged x y
  pub itself : (x : T) → is_value x → joined x x ≡ Ok x
  pub neutral : (x : T) → is_value x → joined nothing x ≡ Ok x
  pub agree_nothing : (x : T) → agree x x → agree nothing x
  pub agree_comm : (x y : T) → agree x y → agree y x
  pub agree_merged : (x y z : T) → agree x y → agree x z → agree y z → agree (merged x y) z
  pub value_nothing : is_value nothing
  pub value_joined : (x y z : T) → is_value x → is_value y → joined x y ≡ Ok z → is_value z

-- one more value is joined to a result
abbrev pub joined_with : {T C : Type 0} → (T → T → Result T C) → Result T C → T → Result T C
joined_with joined (Ok x) y = joined x y
joined_with joined (Err c) y = Err c

-- the join of two, where one may already be a refusal
abbrev pub joined_both : {T C : Type 0} → (T → T → Result T C) → Result T C → Result T C → Result T C
joined_both joined (Ok x) (Ok y) = joined x y
joined_both joined (Ok x) (Err c) = Err c
joined_both joined (Err c) r = Err c

-- all joined, from the left: the refusal of the first step that has one
abbrev pub all_joined : {T C : Type 0} → (T → T → Result T C) → Result T C → List T → Result T C
all_joined joined r [] = r
all_joined joined r (y ∷ ys) = all_joined joined (joined_with joined r y) ys

-- any two values of the list agree
abbrev pub AllAgree : {T : Type 0} → (T → T → Type 0) → List T → Type 0
AllAgree {T} agree xs = (x y : T) → Contains xs x → Contains xs y → agree x y

-- the same members, in any order and number
abbrev pub SameMembers : {T : Type 0} → List T → List T → Type 0
SameMembers {T} xs ys = (x : T) → Contains xs x ↔ Contains ys x
