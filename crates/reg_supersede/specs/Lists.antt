-- What a list of supersessions does, line by line.
use Rattle.std.specs.Prelude.{◌≡◌, ◌⊎◌, ◌+◌, ◌++◌, [], ◌∷◌, ℕ, Bool, true, false, ◌&&◌, ◌||◌, List, map, Err, if◌then◌else◌}
use Rattle.std.specs.List.{list_any}
use Rattle.reg_op.specs.Ids.{Id, is_same}
use Rattle.reg_op.specs.Rows.{Row, rows}
use Rattle.reg_op.specs.Operations.{Ops}
use Rattle.reg_op.specs.Status.{is_replaced_by}
use Rattle.reg_op.specs.declared.operation.OpBody.{OpBody as Body}
use Rattle.reg_op.specs.declared.operation.OpBody.TheVariants.{Supersede}
use Rattle.reg_op.specs.Contents.{Content}
use Rattle.reg_office.specs.declared.fault.OfficeFault.{OfficeFault}
use Rattle.reg_office.specs.Making.{made}
use Rattle.reg_office.specs.Commands.{Does}
use Rattle.reg_keys.specs.declared.fault.KeyFault.{KeyFault}
use Rattle.reg_keys.specs.declared.fault.KeyFault.TheVariants as key
use Rattle.reg_keys.specs.Named.{IsObjection}
use Rattle.reg_keys.specs.Every.{StandsForEvery, StandForEach, FailsAt}
use Rattle.reg_supersede.specs.declared.pair.Pair.{Pair}
use Rattle.reg_supersede.specs.declared.fault.LineWord.{LineWord}
use Rattle.reg_supersede.specs.declared.fault.LineWord.TheVariants.{Old, By}
use Rattle.reg_supersede.specs.declared.fault.LineFault.{LineFault}
use Rattle.reg_supersede.specs.declared.fault.LineFault.TheVariants as line
use Rattle.reg_supersede.specs.declared.fault.RefusedLine.{RefusedLine}
use Rattle.reg_supersede.specs.Lines.{words}

-- the office and its note; whether keys are taken, the rows in which they are looked up, and whether refused lines are left out
pub record Task : Type 0 where
  pub replica : List ℕ
  pub note : List ℕ
  pub keys : Bool
  pub rows : List Row
  pub keep_going : Bool

-- keys are looked up in the register before the first line; without keys there are no rows, so only ids name entries
abbrev pub rows_if : Bool → Content → List Row
rows_if keys x = if keys then rows x.ops else []

-- ---- the pairs of a line

abbrev pub pair_of : Id → Id → Pair
pair_of old newer = record { old = old; newer = newer }

-- each old entry with each that supersedes it
abbrev pub pairs_of : List Id → List Id → List Pair
pairs_of [] newer = []
pairs_of (old ∷ olds) newer = map (pair_of old) newer ++ pairs_of olds newer

abbrev pub is_pair : Pair → Pair → Bool
is_pair p q = is_same p.old q.old && is_same p.newer q.newer

-- the old entry, which is not retired, is superseded by the newer one already. Either may be awaited
abbrev pub is_there : Ops → Pair → Bool
is_there ops p = is_replaced_by ops p.old p.newer

-- the pairs that are not there yet, each once (`before`: earlier ones of the line)
abbrev pub lacking : Ops → List Pair → List Pair → List Pair
lacking ops before [] = []
lacking ops before (p ∷ ps) = if is_there ops p || list_any (is_pair p) before then lacking ops before ps else p ∷ lacking ops (before ++ p ∷ []) ps

abbrev pub bodies_of : List Pair → List Body
bodies_of ps = map (λ (p : Pair). Supersede p.old p.newer) ps

-- the effects of a line whose words stand for these entries
abbrev pub effects_of : Ops → List Id → List Id → List Body
effects_of ops olds newer = bodies_of (lacking ops [] (pairs_of olds newer))

-- ---- one line

-- words: all entries that the first one stands for are superseded by those of the others, except for pairs that are there already.
-- A blank line does nothing
abbrev pub DoesFor : Task → Content → List (List ℕ) → Content → List Id → Type 0
DoesFor t x [] y ids = (y ≡ x) × (ids ≡ [])
DoesFor t x (w ∷ []) y ids = ⊥
DoesFor t x (w ∷ v ∷ ws) y ids = (olds : List Id) × (newer : List Id) × StandsForEvery t.rows w olds × StandForEach t.rows (v ∷ ws) newer
    × Does x t.replica t.note (effects_of x.ops olds newer) y ids

-- this word is the first that stands for no entry, for this reason
abbrev pub FailsLine : List Row → List ℕ → List (List ℕ) → LineWord → KeyFault → Type 0
FailsLine rs w ws Old f = IsObjection rs w f
FailsLine rs w ws (By k) f = (olds : List Id) × StandsForEvery rs w olds × FailsAt rs 0 ws k f

-- why a word stands for no entry; without keys it is not an id
abbrev pub word_fault : Bool → LineWord → KeyFault → LineFault
word_fault keys w key.NoEntry = if keys then line.NoEntry w else line.BadId w
word_fault keys w (key.Several id) = line.Several w id
word_fault keys w key.Memory = line.Memory

-- a word stands for no entry; or there is only one word; or the office refuses the effects
abbrev pub RefusesFor : Task → Content → List (List ℕ) → LineFault → Type 0
RefusesFor t x [] f = ⊥
RefusesFor t x (w ∷ []) f = ((at : LineWord) × (k : KeyFault) × FailsLine t.rows w [] at k × (word_fault t.keys at k ≡ f)) ⊎ (f ≡ line.BadId Old)
RefusesFor t x (w ∷ v ∷ ws) f = ((at : LineWord) × (k : KeyFault) × FailsLine t.rows w (v ∷ ws) at k × (word_fault t.keys at k ≡ f))
    ⊎ ((olds : List Id) × (newer : List Id) × StandsForEvery t.rows w olds × StandForEach t.rows (v ∷ ws) newer
    × ((g : OfficeFault) × (made x t.replica t.note (effects_of x.ops olds newer) ≡ Err g) × (f ≡ line.Office g)))

-- running out of memory is not a refusal
abbrev pub IsRefusal : LineFault → Type 0
IsRefusal line.Memory = ⊥
IsRefusal f = Unit {0}

-- the line leads from the first content to the second, with these new ids
abbrev pub DoesLine : Task → Content → List ℕ → Content → List Id → Type 0
DoesLine t x text y ids = DoesFor t x (words text) y ids

abbrev pub RefusesLine : Task → Content → List ℕ → LineFault → Type 0
RefusesLine t x text f = IsRefusal f × RefusesFor t x (words text) f

-- ---- all lines

-- one after the other, from this number on: each is done on what the lines before it made, or is refused and left out
abbrev pub DoesAll : Task → ℕ → Content → List (List ℕ) → Content → List Id → List RefusedLine → Type 0
DoesAll t n x [] y ids left = (y ≡ x) × (ids ≡ []) × (left ≡ [])
DoesAll t n x (line ∷ lines) y ids left =
    ((z : Content) × (now : List Id) × (later : List Id) × DoesLine t x line z now × DoesAll t (n + 1) z lines y later left × (ids ≡ now ++ later))
    ⊎ ((f : LineFault) × (more : List RefusedLine) × (t.keep_going ≡ true) × RefusesLine t x line f × DoesAll t (n + 1) x lines y ids more
    × (left ≡ record { line = n; fault = f } ∷ more))

-- the first line that is refused, after those before it were done
abbrev pub StopsAt : Task → ℕ → Content → List (List ℕ) → RefusedLine → Type 0
StopsAt t n x [] f = ⊥
StopsAt t n x (line ∷ lines) f = (RefusesLine t x line f.fault × (f.line ≡ n))
    ⊎ ((z : Content) × (now : List Id) × DoesLine t x line z now × StopsAt t (n + 1) z lines f)

-- no line is left out, and this one refuses the list
abbrev pub RefusesAll : Task → Content → List (List ℕ) → RefusedLine → Type 0
RefusesAll t x lines f = (t.keep_going ≡ false) × StopsAt t 1 x lines f
