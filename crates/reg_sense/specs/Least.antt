-- The least of a list.
use Rattle.std.specs.Prelude.{Bool, not, List, Option, Some, None, if◌then◌else◌}
use Rattle.std.specs.List.{find, list_any}

-- the first that no other is less than
abbrev pub least : {X : Type 0} → (X → X → Bool) → List X → Option X
least less xs = find (λ x. not (list_any (λ y. less y x) xs)) xs

-- the least of an element in front and the least of the others
abbrev pub lesser : {X : Type 0} → (X → X → Bool) → X → Option X → X
lesser less x None = x
lesser less x (Some c) = if less c x then c else x
