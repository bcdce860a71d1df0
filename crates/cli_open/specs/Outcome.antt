-- How a command ends: what is reported of it, and its exit status.
use Rattle.std.specs.Prelude.{◌≡◌, ◌&&◌, ℕ, Bool, true, false, List, [], ◌∷◌, Option, Some, None, Result, Ok, Err}
use Rattle.cli_open.specs.declared.ending.outcome.Done.{Done}
use Rattle.cli_open.specs.declared.ending.outcome.NotDone.{NotDone}
use Rattle.cli_open.specs.declared.ending.outcome.NotDone.TheVariants as stop

-- ---- what is reported, from one moment to another

-- each of these, in order, and nothing else
abbrev pub TellsEach : {S : Type 0} → {L : Type 0} → (S → L → S → Type 0) → List L → S → S → Type 0
TellsEach {S} TellsLeft [] old new = new ≡ old
TellsEach {S} TellsLeft (l ∷ ls) old new = (now : S) × TellsLeft old l now × TellsEach TellsLeft ls now new

-- of a command that is done: each thing that it left out, in order, and then what it brought
abbrev pub TellsDone : {S : Type 0} → {L : Type 0} → {B : Type 0} → (S → L → S → Type 0) → (S → B → S → Type 0) → Done L B → S → S → Type 0
TellsDone {S} TellsLeft TellsBrought d old new = (now : S) × TellsEach TellsLeft d.left.items old now × TellsBrought now d.brought new

-- of one that is not: the fault and nothing else, or what is wrong with the command line
abbrev pub Tells : {S : Type 0} → {F : Type 0} → {L : Type 0} → {B : Type 0} → (S → F → S → Type 0) → (S → List ℕ → S → Type 0)
    → (S → L → S → Type 0) → (S → B → S → Type 0) → Result (Done L B) (NotDone F) → S → S → Type 0
Tells TellsFault TellsMisuse TellsLeft TellsBrought (Ok d) old new = TellsDone TellsLeft TellsBrought d old new
Tells TellsFault TellsMisuse TellsLeft TellsBrought (Err (stop.Fault f)) old new = TellsFault old f new
Tells TellsFault TellsMisuse TellsLeft TellsBrought (Err (stop.Misuse line)) old new = TellsMisuse old line.now new

-- of a command with an answer: what it brought, or the fault and nothing else
abbrev pub TellsAnswer : {S : Type 0} → {F : Type 0} → {B : Type 0} → (S → F → S → Type 0) → (S → B → S → Type 0) → Result B F → S → S → Type 0
TellsAnswer TellsFault TellsBrought (Ok b) old new = TellsBrought old b new
TellsAnswer TellsFault TellsBrought (Err f) old new = TellsFault old f new

-- ---- the exit status

-- that of the first thing that was left out
abbrev pub left_out_status : {L : Type 0} → (L → ℕ) → List L → Option ℕ
left_out_status status [] = None
left_out_status status (l ∷ ls) = Some (status l)

-- otherwise 1 for a difference that is to be reported, and 0 without one
abbrev pub whole_status : Bool → ℕ
whole_status true = 1
whole_status false = 0

abbrev pub status_or : Option ℕ → ℕ → ℕ
status_or (Some n) m = n
status_or None m = m

abbrev pub done_status : {L : Type 0} → {B : Type 0} → (L → ℕ) → Done L B → ℕ
done_status status d = status_or (left_out_status status d.left.items) (whole_status d.differs)

abbrev pub exit_status : {F : Type 0} → {L : Type 0} → {B : Type 0} → (F → ℕ) → (L → ℕ) → Result (Done L B) (NotDone F) → ℕ
exit_status fault left (Ok d) = done_status left d
exit_status fault left (Err (stop.Fault f)) = fault f
exit_status fault left (Err (stop.Misuse line)) = 2

-- that of a command with an answer
abbrev pub answer_status : {F : Type 0} → {B : Type 0} → (F → ℕ) → Result B F → ℕ
answer_status fault (Ok b) = 0
answer_status fault (Err f) = fault f

-- the command is done, left nothing out, and has no difference to report
abbrev pub IsAllDone : {F : Type 0} → {L : Type 0} → {B : Type 0} → Result (Done L B) (NotDone F) → Type 0
IsAllDone (Ok d) = (d.left.items ≡ []) × (d.differs ≡ false)
IsAllDone (Err s) = ⊥

-- ---- outcomes of answers

-- a command with an answer is done, and left these things out; a fault stays this fault
abbrev pub IsPart : {F : Type 0} → {L : Type 0} → {A : Type 0} → {B : Type 0} → (A → List L) → Result A F → Result (Done L B) (NotDone F) → Type 0
IsPart left (Ok a) (Ok d) = (d.left.items ≡ left a) × (d.differs ≡ false)
IsPart left (Err f) (Err (stop.Fault g)) = g ≡ f
IsPart left answer outcome = ⊥

-- it left nothing out
abbrev pub IsEnded : {F : Type 0} → {L : Type 0} → {A : Type 0} → {B : Type 0} → Result A F → Result (Done L B) (NotDone F) → Type 0
IsEnded answer outcome = IsPart (λ a. []) answer outcome

-- the same for one whose answer has a difference or not, which is reported if that is asked for
abbrev pub IsComparedBy : {F : Type 0} → {L : Type 0} → {A : Type 0} → {B : Type 0} → (A → Bool) → Bool → Result A F → Result (Done L B) (NotDone F) → Type 0
IsComparedBy differs asked (Ok a) (Ok d) = (d.left.items ≡ []) × (d.differs ≡ (asked && differs a))
IsComparedBy differs asked (Err f) (Err (stop.Fault g)) = g ≡ f
IsComparedBy differs asked answer outcome = ⊥

-- the answer itself says whether there is one
abbrev pub IsCompared : {F : Type 0} → {L : Type 0} → {B : Type 0} → Bool → Result Bool F → Result (Done L B) (NotDone F) → Type 0
IsCompared asked answer outcome = IsComparedBy (λ (b : Bool). b) asked answer outcome
