-- The first condition that fails, over each reference system in turn.
use Rattle.std.proofs.Common.{◌≡◌, Bool, cond, true, false, List, [], ◌∷◌, ◌++◌, Option, None, Some, refl, ap, ◌∙◌}
use Rattle.std.specs.Prelude.{not, map}
use Rattle.std.specs.List.{find}
use Rattle.std.specs.Option.{option_map, option_or}
use Rattle.std.proofs.lemmas.List.Folds.{find-append}
use Rattle.std.proofs.lemmas.Bool.{not-false}
use Rattle.crs_part.specs.declared.crs.Single.{Single}
use Rattle.crs_part.specs.declared.crs.Compound.{Compound}
use Rattle.crs_part.specs.declared.crs.CrsParts.{CrsParts}
use Rattle.crs_part.specs.declared.crs.CrsParts.TheVariants as parts
use Rattle.crs_value.specs.Checking.{holds, holds_of_compound, holds_in, HasConditions, conditions, each_of, checks, first_broken}
use Rattle.crs_value.specs.declared.broken.Condition.{Condition}
use Rattle.crs_value.specs.declared.broken.Condition.TheVariants.{C1, C2, C3, C4, C5, C6, C7, C8}
use Rattle.crs_value.specs.declared.broken.Whose.{Whose}
use Rattle.crs_value.specs.declared.broken.Whose.TheVariants.{First, Second, Whole}
use Rattle.crs_value.specs.declared.broken.Broken.{Broken}

map_step : {X Y : Type 0} (f : X → Y) (b : Bool) (x : X) (mapped : Option Y) (found : Option X) → mapped ≡ option_map f found → cond b (Some (f x)) mapped ≡ option_map f (cond b (Some x) found)
map_step f true x mapped found e = refl
map_step f false x mapped found e = e

find-map : {X Y : Type 0} (test : Y → Bool) (f : X → Y) (xs : List X) → find test (map f xs) ≡ option_map f (find (λ x. test (f x)) xs)
find-map test f [] = refl
find-map test f (x ∷ xs) = map_step f (test (f x)) x (find test (map f xs)) (find (λ y. test (f y)) xs) (find-map test f xs)

-- a condition that fails, together with the reference system that it fails for
abbrev pub first_of : Whose → Option Condition → Option Broken
first_of who condition = option_map (λ which. record { whose = who; condition = which }) condition

first_in : (crs : CrsParts) (who : Whose) → find (λ check. not (holds_in crs check.whose check.condition)) (each_of who) ≡ first_of who (find (λ condition. not (holds_in crs who condition)) conditions)
first_in crs who = find-map (λ check. not (holds_in crs check.whose check.condition)) (λ which. record { whose = who; condition = which }) conditions

pub first_of_single : (crs : Single) → first_broken (parts.Single crs) ≡ first_of Whole (find (λ condition. not (holds crs condition)) conditions)
unfolding first_broken
first_of_single crs = first_in (parts.Single crs) Whole

pub first_of_compound : (crs : Compound) → first_broken (parts.Compound crs) ≡ option_or (option_or (first_of First (find (λ condition. not (holds crs.first condition)) conditions)) (first_of Second (find (λ condition. not (holds crs.second condition)) conditions))) (first_of Whole (find (λ condition. not (holds_of_compound crs condition)) conditions))
unfolding first_broken
first_of_compound crs =
    let whole = parts.Compound crs in
    let fails = λ (check : Broken). not (holds_in whole check.whose check.condition) in
    find-append fails (each_of First ++ each_of Second) (each_of Whole)
    ∙ (ap (λ found. option_or found (find fails (each_of Whole))) (find-append fails (each_of First) (each_of Second))
    ∙ (λ i. option_or (option_or (first_in whole First i) (first_in whole Second i)) (first_in whole Whole i)))

abbrev Each : {X : Type 0} → (X → Type 0) → List X → Type 0
Each P [] = Unit {0}
Each P (x ∷ xs) = P x × Each P xs

none_step : {X : Type 0} (b : Bool) (x : X) (found : Option X) → cond b (Some x) found ≡ None → (b ≡ false) × (found ≡ None)
none_step true x found e = cc
none_step false x found e = (refl, e)

none_found : {X : Type 0} (test : X → Bool) (xs : List X) → find test xs ≡ None → Each (λ x. test x ≡ false) xs
none_found test [] e = tt
none_found test (x ∷ xs) e = let s = none_step (test x) x (find test xs) e in (s.0, none_found test xs s.1)

find_none : {X : Type 0} (test : X → Bool) → ((x : X) → test x ≡ false) → (xs : List X) → find test xs ≡ None
find_none test h [] = refl
find_none test h (x ∷ xs) = ap (λ b. cond b (Some x) (find test xs)) (h x) ∙ find_none test h xs

all_split : {X : Type 0} (P : X → Type 0) (xs ys : List X) → Each P (xs ++ ys) → Each P xs × Each P ys
all_split P [] ys h = (tt, h)
all_split P (x ∷ xs) ys h = let s = all_split P xs ys h.1 in ((h.0, s.0), s.1)

each : (P : Broken → Type 0) (who : Whose) → Each P (each_of who) → (which : Condition) → P (record { whose = who; condition = which })
each P who h C1 = h.0
each P who h C2 = h.1.0
each P who h C3 = h.1.1.0
each P who h C4 = h.1.1.1.0
each P who h C5 = h.1.1.1.1.0
each P who h C6 = h.1.1.1.1.1.0
each P who h C7 = h.1.1.1.1.1.1.0
each P who h C8 = h.1.1.1.1.1.1.1.0

every : (P : Broken → Type 0) → Each P checks → (who : Whose) (which : Condition) → P (record { whose = who; condition = which })
every P h First = each P First (all_split P (each_of First) (each_of Second) (all_split P (each_of First ++ each_of Second) (each_of Whole) h).0).0
every P h Second = each P Second (all_split P (each_of First) (each_of Second) (all_split P (each_of First ++ each_of Second) (each_of Whole) h).0).1
every P h Whole = each P Whole (all_split P (each_of First ++ each_of Second) (each_of Whole) h).1

pub conditions_hold : (crs : CrsParts) → first_broken crs ≡ None → HasConditions crs
unfolding first_broken
conditions_hold crs e = λ who which. not-false (holds_in crs who which) (every (λ check. not (holds_in crs check.whose check.condition) ≡ false) (none_found (λ check. not (holds_in crs check.whose check.condition)) checks e) who which)

pub none_broken : (crs : CrsParts) → HasConditions crs → first_broken crs ≡ None
unfolding first_broken
none_broken crs h = find_none (λ check. not (holds_in crs check.whose check.condition)) (λ check. ap not (h check.whose check.condition)) checks
