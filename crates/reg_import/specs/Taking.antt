-- An import that takes readings one after another.
use Rattle.std.specs.Prelude.{◌≡◌, ℕ, ◌+◌, ◌≤◌, List, ◌++◌, length}
use Rattle.std.specs.List.{list_any}
use Rattle.reg_op.specs.Contents.{Content}
use Rattle.reg_office.specs.Making.{greatest, numbered}
use Rattle.reg_import.specs.declared.standing_entry.StandingEntry.{StandingEntry}
use Rattle.reg_import.specs.declared.reading.ReadText.{ReadText}
use Rattle.reg_import.specs.declared.action.Differs.{Differs}
use Rattle.reg_import.specs.declared.action.TextAction.{TextAction}
use Rattle.reg_import.specs.declared.import.Importing.{Importing}
use Rattle.reg_import.specs.Known.{At, AreStanding, by_key}
use Rattle.reg_import.specs.Index.{Indexes}
use Rattle.reg_import.specs.Imports.{Step, imports, tolds, effects, is_spent}

-- these readings were taken into the content, as the replica, with the note, and these are the actions. The operations are those of the
-- steps, and the steps of any further readings go on from the entries of each key that there are by now
pub record HasTaken (x : Content) (replica note : List ℕ) (differs : Differs) (rs : List ReadText) (ts : List TextAction) (m : Importing) : Type 0 where
  pub es : List StandingEntry
  pub standing : AreStanding x.ops es
  pub steps : List Step
  pub at : At
  pub go_on : (more : List ReadText) → imports differs replica m.first (by_key es) (rs ++ more) ≡ steps ++ imports differs replica (m.first + length m.made.ops.items) at more
  pub told : ts ≡ tolds steps
  pub made : m.made.ops.items ≡ numbered replica m.first note (effects steps)
  pub index : Indexes m.made.index at
  pub spent : m.is_spent ≡ list_any is_spent ts
  pub short : length note ≤ 200
  pub first : m.first ≡ greatest replica x.seen + 1
  pub of : m.replica ≡ replica
  pub mode : m.differs ≡ differs
  pub noted : m.note ≡ note
