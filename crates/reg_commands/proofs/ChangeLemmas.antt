-- The results of the commands of an office, from those of their steps.
use Rattle.std.proofs.Common.{◌≡◌, ◌⊎◌, ◌∷◌, [], ℕ, List, Bool, true, false, Some, None, Err, refl, sym, subst, inl, inr, if◌then◌else◌}
use Rattle.byte_io.specs.Device.{SourceState}
use Rattle.crs_value.specs.declared.crs.Crs.{Crs}
use Rattle.wkt_crs.specs.Spells.{canon}
use Rattle.wkt_crs.specs.Definition.{IsDefinition}
use Rattle.wkt_crs.specs.Source.{Finds, FindsCanon, FindsDefinition, RunsOut}
use Rattle.wkt_crs.proofs.Verdicts.{spelled_is_grammatical}
use Rattle.reg_op.specs.Ids.{Id}
use Rattle.reg_op.specs.Contents.{Content}
use Rattle.reg_op.specs.Operations.{Op}
use Rattle.reg_op.specs.declared.operation.OpBody.{OpBody as Body}
use Rattle.reg_op.specs.declared.operation.OpBody.TheVariants.{Enter}
use Rattle.reg_office.specs.declared.fault.OfficeFault.{OfficeFault}
use Rattle.reg_office.specs.declared.fault.OfficeFault.TheVariants as office
use Rattle.reg_office.specs.Making.{made, made_unless, else_next}
use Rattle.reg_office.specs.Commands.{Does}
use Rattle.reg_engine.specs.declared.fault.Refusal.{Refusal}
use Rattle.reg_engine.specs.declared.fault.Refusal.TheVariants as refusal
use Rattle.reg_engine.specs.declared.fault.CliFault.{CliFault}
use Rattle.reg_engine.specs.declared.fault.CliFault.TheVariants as cli
use Rattle.reg_engine.specs.Fault.{office_fault}
use Rattle.reg_engine.specs.Outputs.{id_lines}
use Rattle.reg_commands.specs.Change.{Makes, IsRefused, CannotMake, ReadsDefinition, Enters, CannotEnter}

-- a fault of the office that is reported as a refusal is why the office makes nothing
pub refused_for : (x : Content) (replica note : List ℕ) (bodies : List Body) (f : OfficeFault) (r : Refusal) → office_fault f ≡ cli.Refused r
    → (made x replica note bodies ≡ Err f) ⊎ (f ≡ office.Memory) → IsRefused x replica note bodies r
refused_for x replica note bodies f r is (inl e) = (f, e, is)
refused_for x replica note bodies f r is (inr e) = absurd (never (subst (λ k. office_fault k ≡ cli.Refused r) e is))
  where
    never : ◌≡◌ {A = CliFault} cli.Memory (cli.Refused r) → ⊥
    never h = cc

-- ---- an entry

-- memory may run out over a source whose text spells a value
pub part_of_found : (o n : SourceState) (v : Crs) → Finds o n v → RunsOut o n
part_of_found o n v (text, read, spells) = inr (text, read, spelled_is_grammatical text v spells)

-- the same if the canonical text of the value was found
pub part_of_canon : (o n : SourceState) (canonical : List ℕ) → FindsCanon o n canonical → RunsOut o n
part_of_canon o n canonical (text, read, found) = part_of_found o n found.value (text, read, found.spells)

-- the value whose canonical text is the definition
abbrev pub value_of : {o n : SourceState} {d : List ℕ} → FindsDefinition o n d → Crs
value_of h = h.0.2.value

pub defined_is : {o n : SourceState} {d : List ℕ} (h : FindsDefinition o n d) → d ≡ canon (value_of h)
defined_is h = h.0.2.is

pub reads_definition : (old new : SourceState) (d : List ℕ) → (h : FindsDefinition old new d) → ReadsDefinition (value_of h) old new
reads_definition old new d h = ((h.0.0, h.0.1, h.0.2.spells), subst (λ b. IsDefinition b) (defined_is h) h.1)

-- the faults of an office that enters a definition
abbrev pub IsOfEntry : OfficeFault → Type 0
IsOfEntry office.NoteTooLong = Unit {0}
IsOfEntry office.CountSpent = Unit {0}
IsOfEntry office.Memory = Unit {0}
IsOfEntry f = ⊥

as_told : (f g : OfficeFault) → f ≡ g → IsOfEntry f → IsOfEntry g
as_told f g e is = subst IsOfEntry e is

enter_stops : (long spent : Bool) (os : List Op) (f : OfficeFault) → made_unless (else_next (if long then Some office.NoteTooLong else None) None) spent os ≡ Err f → IsOfEntry f
enter_stops true spent os f h = as_told office.NoteTooLong f (cc) tt
enter_stops false true os f h = as_told office.CountSpent f (cc) tt
enter_stops false false os f h = absurd (cc)

pub enter_only : (x : Content) (replica note : List ℕ) (text : List ℕ) (f : OfficeFault) → (made x replica note (Enter text ∷ []) ≡ Err f) ⊎ (f ≡ office.Memory) → IsOfEntry f
enter_only x replica note text f (inl e) = enter_stops _ _ _ f e
enter_only x replica note text f (inr e) = as_told office.Memory f (sym e) tt

pub cannot_enter : (replica note : List ℕ) (number : ℕ) (old new : SourceState) (x : Content) (v : Crs) (f : OfficeFault) → ReadsDefinition v old new
    → (made x replica note (Enter (canon v) ∷ []) ≡ Err f) ⊎ (f ≡ office.Memory) → CannotEnter replica note number old new x (office_fault f)
cannot_enter replica note number old new x v office.NoteTooLong both h = (v, both, refused_for x replica note (Enter (canon v) ∷ []) office.NoteTooLong (refusal.Office office.NoteTooLong) refl h)
cannot_enter replica note number old new x v office.CountSpent both h = (v, both, refused_for x replica note (Enter (canon v) ∷ []) office.CountSpent (refusal.Office office.CountSpent) refl h)
cannot_enter replica note number old new x v office.Memory both h = part_of_found old new v both.0
cannot_enter replica note number old new x v f both h = absurd (enter_only x replica note (canon v) f h)

-- ---- an entry, by its definition

unentered : (replica note : List ℕ) (number : ℕ) (old new : SourceState) (d : List ℕ) (x : Content) (f : CliFault) → FindsDefinition old new d
    → CannotMake replica note (Enter d ∷ []) x f → CannotEnter replica note number old new x f
unentered replica note number old new d x (cli.Refused r) found (o, e, is) =
    subst (CannotEnter replica note number old new x) is (cannot_enter replica note number old new x (value_of found) o (reads_definition old new d found)
    (inl (subst (λ (k : List ℕ). made x replica note (Enter k ∷ []) ≡ Err o) (defined_is found) e)))
unentered replica note number old new d x (cli.File k g) found h = absurd h
unentered replica note number old new d x (cli.Out g) found h = absurd h
unentered replica note number old new d x cli.Memory found h = part_of_found old new (value_of found) (found.0.0, found.0.1, found.0.2.spells)
unentered replica note number old new d x (cli.Shelf p) found h = absurd h
unentered replica note number old new d x (cli.Office t) found h = absurd h

-- the same by an office that is equal to the command's
pub unentered_as : (r s n m : List ℕ) (number : ℕ) (old new : SourceState) (d : List ℕ) (x : Content) (f : CliFault) → s ≡ r → m ≡ n → FindsDefinition old new d
    → CannotMake s m (Enter d ∷ []) x f → CannotEnter r n number old new x f
unentered_as r s n m number old new d x f e g found h =
    unentered r n number old new d x f found (subst (λ (k : List ℕ). CannotMake k n (Enter d ∷ []) x f) e (subst (λ (k : List ℕ). CannotMake s k (Enter d ∷ []) x f) g h))

pub entered_as : (r s n m : List ℕ) (old new : SourceState) (d : List ℕ) (x y : Content) (lines : List ℕ) → s ≡ r → m ≡ n → FindsDefinition old new d
    → Makes s m (Enter d ∷ []) x y lines → Enters r n old new x y lines
entered_as r s n m old new d x y lines e g found h = (
  value_of found,
  reads_definition old new d found,
  subst (λ (k : List ℕ). Makes r n (Enter k ∷ []) x y lines) (defined_is found)
      (subst (λ (k : List ℕ). Makes k n (Enter d ∷ []) x y lines) e (subst (λ (k : List ℕ). Makes s k (Enter d ∷ []) x y lines) g h)),
)
