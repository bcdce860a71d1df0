-- The commands of one office, on any registers: each replaces the office file before it replaces its register.
use Rattle.std.specs.Prelude.{◌≡◌, ℕ, ◌+◌, ◌==◌, max, nat_lt, nat_le, ◌&&◌, Bool, true, false, List, [], ◌∷◌, Some, if◌then◌else◌}
use Rattle.reg_writers.specs.Path.{Content, is_same, Stage, FoundSame, Replaced, HasPrinted, World, start, Event, Goes, Locks, happens}
use Rattle.reg_writers.specs.Writers.{Commands}

-- an office file has the last number that its office gave
pub record Office : Type 0 where
  -- the number in an office file, and the office file of a number
  pub last : Content → ℕ
  pub file : ℕ → List ℕ
  -- the greatest number of the office in the register that a command begins with, which may be an old one; and how many
  -- numbers the command wants
  pub begins_with : ℕ → ℕ
  pub wants : ℕ → ℕ

-- a written office file is read as its number
abbrev pub IsRead : Office → Type 0
IsRead o = (n : ℕ) → o.last (Some (o.file n)) ≡ n

-- a command gives the numbers above the greater of the two
abbrev pub given_up_to : Office → ℕ → Content → ℕ
given_up_to o k x = max (o.last x) (o.begins_with k)

-- the commands of the office, as commands that replace the office file
abbrev pub numbers : Office → Commands ℕ
numbers o = record {
  change = λ k x. o.file (given_up_to o k x + o.wants k);
  gives = λ k x n. nat_lt (given_up_to o k x) n && nat_le n (given_up_to o k x + o.wants k);
  seen = λ x n. nat_le n (o.last x);
}

-- the office file, and all registers by number, old copies included
pub record Desk : Type 0 where
  pub office : World
  pub registers : ℕ → World

pub data DeskEvent : Type 0 where
  AtOffice : (e : Event) → DeskEvent
  AtRegister : (p : ℕ) (e : Event) → DeskEvent

abbrev pub has_replaced : Stage → Bool
has_replaced (Replaced x) = true
has_replaced (HasPrinted x) = true
has_replaced s = false

-- a command has replaced the office file, in which it had read x
abbrev pub has_noted : Stage → Content → Bool
has_noted (Replaced y) x = is_same y x
has_noted (HasPrinted y) x = is_same y x
has_noted s x = false

abbrev pub may_go : Stage → Bool → Bool
may_go (FoundSame x) noted = noted
may_go s noted = true

-- command k has read `from k` in the office file; it replaces no register before it has replaced that file
abbrev pub may_come : (ℕ → Content) → World → World → Event → Bool
may_come from office register (Goes k) = may_go (register.stage k) (has_noted (office.stage k) (from k))
may_come from office register e = true

abbrev pub at_register : (ℕ → World) → ℕ → World → ℕ → World
at_register registers p w q = if q == p then w else registers q

abbrev pub desk_happens : Office → (ℕ → Content → List ℕ) → (ℕ → Content) → Desk → DeskEvent → Desk
desk_happens o change from d (AtOffice e) = record { office = happens (numbers o).change d.office e; registers = d.registers }
desk_happens o change from d (AtRegister p e) = record {
  office = d.office;
  registers = at_register d.registers p (if may_come from d.office (d.registers p) e then happens change (d.registers p) e else d.registers p);
}

abbrev pub desk_after : Office → (ℕ → Content → List ℕ) → (ℕ → Content) → List DeskEvent → Desk → Desk
desk_after o change from [] d = d
desk_after o change from (e ∷ es) d = desk_after o change from es (desk_happens o change from d e)

-- no command has begun
abbrev pub desk_start : Content → (ℕ → Content) → Desk
desk_start office registers = record { office = start office; registers = λ p. start (registers p) }

-- all steps of one command: it makes the new office file, and reads the office file; it makes the new register whole, and
-- finds the old one unchanged; then it replaces the office file, and then the register
abbrev pub all_steps : ℕ → ℕ → List DeskEvent
all_steps p k =
    AtOffice (Locks k) ∷ AtOffice (Goes k)
    ∷ AtRegister p (Goes k) ∷ AtRegister p (Goes k) ∷ AtRegister p (Goes k) ∷ AtRegister p (Goes k)
    ∷ AtOffice (Goes k) ∷ AtOffice (Goes k)
    ∷ AtRegister p (Goes k) ∷ AtRegister p (Goes k) ∷ []
