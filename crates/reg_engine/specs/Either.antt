-- A store of one kind or of another.
use Rattle.reg_engine.specs.Store.{Around, Admission}
use Rattle.reg_engine.specs.declared.kinds.Either.{Either}
use Rattle.reg_engine.specs.declared.kinds.Either.TheVariants as either

-- what is known of the one store, or of the other
abbrev pub of_either : {A : Type 0} → {B : Type 0} → {R : Type 0} → (A → R) → (B → R) → Either A B → R
of_either a b (either.One s) = a s
of_either a b (either.Other s) = b s

abbrev pub admission_either : {A : Type 0} → {B : Type 0} → (A → Admission) → (B → Admission) → Either A B → Admission
admission_either a b (either.One s) = a s
admission_either a b (either.Other s) = b s

-- nothing happens between stores of two kinds
abbrev pub never : Around
never = record { came = λ x. ⊥; none = λ f. ⊥; left = λ x y. ⊥; unleft = λ x y f. ⊥ }

abbrev pub around_either : {A : Type 0} → {B : Type 0} → (A → A → Around) → (B → B → Around) → Either A B → Either A B → Around
around_either a b (either.One s) (either.One t) = a s t
around_either a b (either.Other s) (either.Other t) = b s t
around_either a b s t = never

-- a store stays of its kind
abbrev pub same_either : {A : Type 0} → {B : Type 0} → (A → A → Type 0) → (B → B → Type 0) → Either A B → Either A B → Type 0
same_either a b (either.One s) (either.One t) = a s t
same_either a b (either.Other s) (either.Other t) = b s t
same_either a b s t = ⊥

pub still_either : {A : Type 0} → {B : Type 0} → (a : A → A → Type 0) → (b : B → B → Type 0) → ((r s t : A) → a r s → a s t → a r t) → ((r s t : B) → b r s → b s t → b r t)
    → (r s t : Either A B) → same_either a b r s → same_either a b s t → same_either a b r t
still_either a b f g (either.One r) (either.One s) (either.One t) h i = f r s t h i
still_either a b f g (either.Other r) (either.Other s) (either.Other t) h i = g r s t h i
still_either a b f g (either.One r) (either.One s) (either.Other t) h i = i
still_either a b f g (either.Other r) (either.Other s) (either.One t) h i = i
still_either a b f g (either.One r) (either.Other s) t h i = absurd h
still_either a b f g (either.Other r) (either.One s) t h i = absurd h
