-- The text of an office file: two lines, and the file of a register.
use Rattle.std.specs.Prelude.{◌≡◌, ℕ, ◌+◌, ◌<◌, ◌≤◌, ◌^◌, List, [], ◌∷◌, ◌++◌, All, length, decimal}
use Rattle.uuid.specs.Text.{hyphenated_text, lower}
use Rattle.byte_io.specs.Device.{SourceState}
use Rattle.byte_io.specs.Whole.{FailsAfter, GivesAtMost}
use Rattle.reg_file.specs.Files.{IsFileOf, most, ReadsBytes}
use Rattle.reg_journal.specs.Journal.{Journal, IsOffice}
use Rattle.reg_journal.specs.declared.head.Head.{Head}
use Rattle.reg_journal.specs.declared.fault.OpenFault.{OpenFault}
use Rattle.reg_journal.specs.declared.fault.OpenFault.TheVariants as opening

-- a number without leading zeros, and the end of its line
abbrev pub line_text : ℕ → List ℕ
line_text n = decimal n ++ (10 ∷ [])

-- the UUID in small letters, a colon and the last number; and the number that stood in a register
abbrev pub head_text : Head → List ℕ
head_text h = hyphenated_text lower h.replica ++ (58 ∷ (line_text h.last ++ line_text h.stood))

-- sixteen bytes, and two numbers from 0 to 4,294,967,295
pub record IsHead (h : Head) : Type 0 where
  pub long : length h.replica ≡ 16
  pub bytes : All (λ b. b < 256) h.replica
  pub last_fits : h.last < 2 ^ 32
  pub stood_fits : h.stood < 2 ^ 32

abbrev pub head_of : Journal → Head
head_of f = record { replica = f.replica; last = f.last; stood = f.stood }

-- the two lines, and then the file of the operations
pub record IsTextOf (f : Journal) (text : List ℕ) : Type 0 where
  pub file : List ℕ
  pub is_file : IsFileOf f.made file
  pub whole : text ≡ head_text (head_of f) ++ file

-- the text is the office file
pub record HoldsOffice (text : List ℕ) (f : Journal) : Type 0 where
  pub office : IsOffice f
  pub text_is : IsTextOf f text
  pub short : length text ≤ most

-- the text begins with the two lines of an office file, and then with these bytes
abbrev pub BeginsOffice : List ℕ → List ℕ → Type 0
BeginsOffice file text = (h : Head) × (rest : List ℕ) × IsHead h × (text ≡ head_text h ++ (file ++ rest))

-- its text has too many bytes
abbrev pub IsOfficeTooLarge : Journal → Type 0
IsOfficeTooLarge f = (text : List ℕ) × IsTextOf f text × (most < length text)

-- why a text is not read: it is too long; or it is no office file; or memory ran out
abbrev pub IsUnread : List ℕ → OpenFault → Type 0
IsUnread text (opening.ReadFailed n) = ⊥
IsUnread text opening.TooLarge = most < length text
IsUnread text opening.NotOffice = (length text ≤ most) × ((f : Journal) → ¬ (HoldsOffice text f))
IsUnread text opening.Memory = Unit {0}

-- the source gave the text of the office file
abbrev pub FindsOffice : SourceState → SourceState → Journal → Type 0
FindsOffice old new f = (text : List ℕ) × ReadsBytes old new text × HoldsOffice text f

-- the source failed after n bytes; or memory ran out; or what it gave is not read, for this reason
abbrev pub IsUnfound : SourceState → SourceState → OpenFault → Type 0
IsUnfound old new (opening.ReadFailed n) = FailsAfter n (most + 1) old new
IsUnfound old new opening.Memory = GivesAtMost (most + 1) old new
IsUnfound old new opening.TooLarge = (text : List ℕ) × ReadsBytes old new text × (most < length text)
IsUnfound old new opening.NotOffice = (text : List ℕ) × ReadsBytes old new text × (length text ≤ most) × ((f : Journal) → ¬ (HoldsOffice text f))
