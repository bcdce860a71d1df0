-- Notes of operations.
use Rattle.std.specs.Prelude.{ℕ, ◌<◌, ◌≤◌, List, [], Option, Some, None, length, codes, IsUtf8}
use Rattle.reg_op.specs.declared.note.NoteFault.{NoteFault}
use Rattle.reg_op.specs.declared.note.NoteFault.TheVariants.{NoteTooLong, NoteNotUtf8, Memory}

-- UTF-8 of at most 200 bytes
pub record IsNote (bytes : List ℕ) : Type 0 where
  pub utf8 : IsUtf8 bytes
  pub short : length bytes ≤ 200

-- the length is checked first. Only for a note can an allocation fail
abbrev pub IsNoteFault : List ℕ → NoteFault → Type 0
IsNoteFault bytes NoteTooLong = 200 < length bytes
IsNoteFault bytes NoteNotUtf8 = (length bytes ≤ 200) × (¬ (IsUtf8 bytes))
IsNoteFault bytes Memory = IsNote bytes

-- the bytes of a value, or none without a value
abbrev pub bytes_in : {X : Type 0} → (X → List ℕ) → Option X → List ℕ
bytes_in bytes None = []
bytes_in bytes (Some x) = bytes x

-- the name of a fault
abbrev pub fault_name : NoteFault → List ℕ
fault_name NoteTooLong = codes "NoteTooLong"
fault_name NoteNotUtf8 = codes "NoteNotUtf8"
fault_name Memory = codes "Memory"
