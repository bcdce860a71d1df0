-- Commands that only add, and the ids that stay.
use Rattle.std.specs.Prelude.{◌≡◌, ℕ, Bool, true, false, List, [], ◌∷◌, Some}
use Rattle.reg_writers.specs.Path.{Content, NewFile, Stage, Replaced, HasPrinted, FoundSame, Ended, World, Event, Goes, Clears}

-- any commands, by number, over ids of any type
pub record Commands (I : Type 0) : Type 0 where
  -- the bytes that each makes of the content that it read
  pub change : ℕ → Content → List ℕ
  -- whether it gives an id then, which it prints
  pub gives : ℕ → Content → I → Bool
  -- whether a content has seen an id
  pub seen : Content → I → Bool

-- ids that were seen stay seen; an id that is given was not seen before, and is seen then
pub record OnlyAdd {I : Type 0} (c : Commands I) : Type 0 where
  pub grows : (k : ℕ) (x : Content) (i : I) → c.seen x i ≡ true → c.seen (Some (c.change k x)) i ≡ true
  pub not_before : (k : ℕ) (x : Content) (i : I) → c.gives k x i ≡ true → c.seen x i ≡ false
  pub seen_then : (k : ℕ) (x : Content) (i : I) → c.gives k x i ≡ true → c.seen (Some (c.change k x)) i ≡ true

-- whether a command has replaced OUT and so given an id, which it may have printed
abbrev pub gave : {I : Type 0} → Commands I → ℕ → Stage → I → Bool
gave c k (Replaced x) i = c.gives k x i
gave c k (HasPrinted x) i = c.gives k x i
gave c k s i = false

-- a command replaced the very content that it had read by the bytes that it makes of it
pub record IsReplacedBy (change : ℕ → Content → List ℕ) (k : ℕ) (old new : World) : Type 0 where
  pub found : old.stage k ≡ FoundSame old.stands
  pub made : new.stands ≡ Some (change k old.stands)
  pub done : new.stage k ≡ Replaced old.stands

-- OUT.new exists, and its maker takes no further step
pub record IsLeft (w : World) (n : NewFile) : Type 0 where
  pub there : w.beside ≡ Some n
  pub ended : w.stage n.maker ≡ Ended

-- nobody removes the file that a stopped command left
abbrev pub NoneClears : List Event → Type 0
NoneClears [] = Unit {0}
NoneClears (Clears ∷ es) = ⊥
NoneClears (e ∷ es) = NoneClears es

-- the six steps of one command
abbrev pub six_steps : ℕ → List Event
six_steps k = Goes k ∷ Goes k ∷ Goes k ∷ Goes k ∷ Goes k ∷ Goes k ∷ []
