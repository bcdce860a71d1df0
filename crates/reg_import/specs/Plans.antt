-- The import of texts into a content, and why it is refused.
use Rattle.std.specs.Prelude.{◌≡◌, ℕ, ◌+◌, ◌<◌, ◌≤◌, Bool, false, not, ◌&&◌, List, [], ◌∷◌, ◌++◌, map, length, take, slice_get, Some}
use Rattle.std.specs.BTreeMap.{BTreeMap}
use Rattle.reg_op.specs.Ids.{Id}
use Rattle.reg_op.specs.Operations.{Op}
use Rattle.reg_op.specs.declared.operation.OpBody.{OpBody as Body}
use Rattle.reg_op.specs.declared.operation.OpBody.TheVariants.{Retire}
use Rattle.reg_op.specs.Contents.{Content}
use Rattle.reg_office.specs.Making.{greatest, numbered}
use Rattle.reg_office.specs.Commands.{Does}
use Rattle.reg_import.specs.declared.standing_entry.StandingEntry.{StandingEntry}
use Rattle.reg_import.specs.declared.reading.ReadText.{ReadText}
use Rattle.reg_import.specs.declared.action.Differs.{Differs}
use Rattle.reg_import.specs.declared.action.Problem.{Problem}
use Rattle.reg_import.specs.declared.action.TextAction.{TextAction}
use Rattle.reg_import.specs.declared.action.TextAction.TheVariants as told
use Rattle.reg_import.specs.declared.import.ImportRefusal.{ImportRefusal}
use Rattle.reg_import.specs.declared.import.ImportRefusal.TheVariants as refusal
use Rattle.reg_import.specs.declared.indexed_key.IndexedKey.{IndexedKey}
use Rattle.reg_import.specs.declared.entries_of_key.EntriesOfKey.{EntriesOfKey}
use Rattle.reg_import.specs.Known.{At, AreStanding, by_key}
use Rattle.reg_import.specs.Index.{Indexes}
use Rattle.reg_import.specs.Readings.{is_unread}
use Rattle.reg_import.specs.Imports.{told_at, bodies_at, then_at, Step, imports, tolds, effects, NoneRefused, NoneSpent}

abbrev pub retired : List StandingEntry → List Body
retired entries = map (λ (e : StandingEntry). Retire e.entry) entries

-- the steps of importing texts into a content; operations are numbered from the count after the greatest own one seen
abbrev pub AreSteps : Content → List ℕ → Differs → List ReadText → List Step → Type 0
AreSteps x replica differs readings steps =
    (es : List StandingEntry) × AreStanding x.ops es × (steps ≡ imports differs replica (greatest replica x.seen + 1) (by_key es) readings)

-- the actions, and the operations of all, with their note
pub record Lists (replica : List ℕ) (first : ℕ) (note : List ℕ) (steps : List Step) (ts : List TextAction) (ops : List Op) : Type 0 where
  pub told : ts ≡ tolds steps
  pub made : ops ≡ numbered replica first note (effects steps)

abbrev pub Plans : Content → List ℕ → List ℕ → Differs → List ReadText → List TextAction → List Op → Type 0
Plans x replica note differs readings ts ops =
    (steps : List Step) × AreSteps x replica differs readings steps × Lists replica (greatest replica x.seen + 1) note steps ts ops

-- one more text: this is its action, its operations are appended, and the index has the entries of its key afterwards
pub record StepsOn (differs : Differs) (replica : List ℕ) (count : ℕ) (note : List ℕ) (text : ReadText) (at : At) (m : BTreeMap IndexedKey EntriesOfKey) (old new : List Op) (t : TextAction) : Type 0 where
  pub told : t ≡ told_at differs replica count at text
  pub made : new ≡ old ++ numbered replica count note (bodies_at t at text)
  pub index : Indexes m (then_at t at text)

-- the operations have consecutive counts from the first, and one note
abbrev pub AreNumbered : List ℕ → ℕ → List Op → Type 0
AreNumbered replica first ops = (note : List ℕ) × ((bodies : List Body) × (ops ≡ numbered replica first note bodies))

-- the text at this place is the first that is refused, for this reason
pub record IsFirstRefused (ts : List TextAction) (at : ℕ) (p : Problem) : Type 0 where
  pub refused : slice_get ts at ≡ Some (told.Refused p)
  pub first : NoneRefused (take at ts)

-- none is refused, unless refused ones are passed over
abbrev pub PassesAll : Bool → List TextAction → Type 0
PassesAll keep_going ts = keep_going ≡ false → NoneRefused ts

-- why a plan is refused, and one that is not
abbrev pub IsRefusedPlan : Bool → List TextAction → ImportRefusal → Type 0
IsRefusedPlan keep_going ts refusal.NoteTooLong = ⊥
IsRefusedPlan keep_going ts (refusal.Refused at p) = (keep_going ≡ false) × IsFirstRefused ts at p
IsRefusedPlan keep_going ts refusal.CountSpent = PassesAll keep_going ts × ¬ (NoneSpent ts)
IsRefusedPlan keep_going ts refusal.Memory = ⊥

abbrev pub IsPassedPlan : Bool → List TextAction → Type 0
IsPassedPlan keep_going ts = PassesAll keep_going ts × NoneSpent ts

-- the texts are imported: the operations of the steps have joined the content, these are the actions, and there were enough
-- numbers
pub record Imports (x : Content) (replica note : List ℕ) (differs : Differs) (keep_going : Bool) (readings : List ReadText) (new : Content) (ts : List TextAction) : Type 0 where
  pub steps : List Step
  pub are_steps : AreSteps x replica differs readings steps
  pub told : ts ≡ tolds steps
  pub passes : PassesAll keep_going ts
  pub none_spent : NoneSpent ts
  pub ids : List Id
  pub does : Does x replica note (effects steps) new ids

-- the first text is no definition
abbrev pub begins_unread : List ReadText → Bool
begins_unread [] = false
begins_unread (r ∷ rs) = is_unread r

-- memory may run out: the note is not too long, and the import does not end at its first text, whatever the register is
abbrev pub MayRunOut : List ℕ → Bool → List ReadText → Type 0
MayRunOut note keep_going readings = (length note ≤ 200) × ((not keep_going && begins_unread readings) ≡ false)

-- why they are not: the note, then the first text that is refused and not passed over, then the numbers; or memory ran out
abbrev pub IsImportRefusal : Content → List ℕ → List ℕ → Differs → Bool → List ReadText → ImportRefusal → Type 0
IsImportRefusal x replica note differs keep_going readings refusal.NoteTooLong = 200 < length note
IsImportRefusal x replica note differs keep_going readings (refusal.Refused at p) = (length note ≤ 200)
    × ((steps : List Step) × AreSteps x replica differs readings steps × IsRefusedPlan keep_going (tolds steps) (refusal.Refused at p))
IsImportRefusal x replica note differs keep_going readings refusal.CountSpent = (length note ≤ 200)
    × ((steps : List Step) × AreSteps x replica differs readings steps × IsRefusedPlan keep_going (tolds steps) refusal.CountSpent)
IsImportRefusal x replica note differs keep_going readings refusal.Memory = MayRunOut note keep_going readings
