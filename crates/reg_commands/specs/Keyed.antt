-- Commands on the entries that words name.
use Rattle.std.specs.Prelude.{◌≡◌, ◌⊎◌, ◌++◌, ℕ, List, [], ◌∷◌}
use Rattle.reg_op.specs.Ids.{Id}
use Rattle.reg_op.specs.Contents.{Content}
use Rattle.reg_op.specs.Rows.{rows}
use Rattle.reg_op.specs.declared.operation.OpBody.{OpBody as Body}
use Rattle.reg_office.specs.Commands.{supersessions}
use Rattle.reg_keys.specs.declared.fault.KeyFault.{KeyFault}
use Rattle.reg_keys.specs.declared.fault.KeyFault.TheVariants as key
use Rattle.reg_keys.specs.Named.{StandsFor, IsObjection}
use Rattle.reg_commands.specs.Meaning.{MeanBoth, AreMeaningless}
use Rattle.reg_commands.specs.Change.{Makes, CannotMake}
use Rattle.reg_engine.specs.declared.fault.Refusal.TheVariants as refusal
use Rattle.reg_engine.specs.declared.fault.CliFault.{CliFault}
use Rattle.reg_engine.specs.declared.fault.CliFault.TheVariants as cli

-- the fault of a word that names no entry
abbrev pub key_fault : KeyFault → CliFault
key_fault key.NoEntry = cli.Refused refusal.NoEntry
key_fault (key.Several id) = cli.Refused (refusal.Several id)
key_fault key.Memory = cli.Memory

-- the fault is that of an objection
abbrev pub IsUnnamed : (KeyFault → Type 0) → CliFault → Type 0
IsUnnamed Objects f = (k : KeyFault) × Objects k × (key_fault k ≡ f)

-- ---- a command on one entry

-- the text is the one that the command prints for the entry that the word names
abbrev pub PrintsFor : (Id → Content → List ℕ → Type 0) → List ℕ → Content → List ℕ → Type 0
PrintsFor Prints word x text = (e : Id) × StandsFor (rows x.ops) word e × Prints e x text

-- the word names no entry; or the command prints nothing for the one that it names
abbrev pub RefusesFor : (Id → Content → CliFault → Type 0) → List ℕ → Content → CliFault → Type 0
RefusesFor Refuses word x f = IsUnnamed (IsObjection (rows x.ops) word) f ⊎ ((e : Id) × StandsFor (rows x.ops) word e × Refuses e x f)

-- ---- a command that changes some entries, maybe by others: the register x was read, and it works on the join z

-- the content and the lines are those that the command makes with the entries that the words mean
abbrev pub MakesFor : (List Id → List Id → Content → Content → Content → List ℕ → Type 0) → List (List ℕ) → List (List ℕ) → Content → Content → Content → List ℕ → Type 0
MakesFor Makes every each x z y lines = (es : List Id) × (fs : List Id) × MeanBoth (rows x.ops) (rows z.ops) every each es fs × Makes es fs x z y lines

-- memory ran out; or a word means no entry; or the command makes nothing with those that they mean
abbrev pub CannotMakeFor : (List Id → List Id → Content → Content → CliFault → Type 0) → List (List ℕ) → List (List ℕ) → Content → Content → CliFault → Type 0
CannotMakeFor Refuses every each x z f = (f ≡ cli.Memory) ⊎ (IsUnnamed (AreMeaningless (rows x.ops) (rows z.ops) every each) f
    ⊎ ((es : List Id) × (fs : List Id) × MeanBoth (rows x.ops) (rows z.ops) every each es fs × Refuses es fs x z f))

-- ---- `supersede` for one old entry after the other

-- each old entry is superseded by the newer ones, as by the command supersede on the content that the earlier ones left; these are
-- the lines of all new ids
abbrev pub SupersedesEach : List ℕ → List ℕ → List Id → List Id → Content → Content → List ℕ → Type 0
SupersedesEach replica note [] newer x y lines = (y ≡ x) × (lines ≡ [])
SupersedesEach replica note (old ∷ olds) newer x y lines = (z : Content) × (now : List ℕ) × (later : List ℕ)
    × Makes replica note (supersessions old newer) x z now × SupersedesEach replica note olds newer z y later × (lines ≡ now ++ later)

-- why the first of them that is refused is
abbrev pub CannotSupersedeEach : List ℕ → List ℕ → List Id → List Id → Content → CliFault → Type 0
CannotSupersedeEach replica note [] newer x f = ⊥
CannotSupersedeEach replica note (old ∷ olds) newer x f = CannotMake replica note (supersessions old newer) x f
    ⊎ ((z : Content) × (now : List ℕ) × Makes replica note (supersessions old newer) x z now × CannotSupersedeEach replica note olds newer z f)

-- all their effects
abbrev pub each_superseded : List Id → List Id → List Body
each_superseded [] newer = []
each_superseded (old ∷ olds) newer = supersessions old newer ++ each_superseded olds newer
