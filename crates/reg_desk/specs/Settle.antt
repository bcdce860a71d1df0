-- Settling: its input and output.
use Rattle.std.specs.Prelude.{◌≡◌, ◌≤◌, ◌<◌, ◌⊎◌, ℕ, List, length}
use Rattle.reg_op.specs.Ids.{Id}
use Rattle.reg_op.specs.Contents.{Content}
use Rattle.reg_op.specs.Rows.{rows}
use Rattle.reg_office.specs.declared.fault.OfficeFault.{OfficeFault}
use Rattle.reg_office.specs.declared.fault.OfficeFault.TheVariants as office
use Rattle.reg_disorder.specs.declared.settling.fault.SettleFault.{SettleFault}
use Rattle.reg_disorder.specs.declared.settling.fault.SettleFault.TheVariants as settle
use Rattle.reg_disorder.specs.Settling.{IsSettled, IsUnsettled}
use Rattle.reg_disorder.specs.Doubles.{AreDoubles}
use Rattle.reg_engine.specs.declared.fault.Refusal.{Refusal}
use Rattle.reg_engine.specs.declared.fault.Refusal.TheVariants as refusal
use Rattle.reg_engine.specs.declared.fault.CliFault.{CliFault}
use Rattle.reg_engine.specs.declared.fault.CliFault.TheVariants as cli
use Rattle.reg_engine.specs.Fault.{office_fault}
use Rattle.reg_engine.specs.Outputs.{id_lines}
use Rattle.reg_disorder.specs.Retiring.{RetiresFor, CannotRetireFor}

-- the fault of an entry that cannot be kept
abbrev pub settle_fault : SettleFault → CliFault
settle_fault (settle.UnknownEntry id) = cli.Refused (refusal.Office (office.UnknownEntry id))
settle_fault (settle.AlreadyRetired id) = cli.Refused (refusal.Office (office.AlreadyRetired id))
settle_fault (settle.KeyTaken id) = cli.Refused (refusal.KeyTaken id)
settle_fault settle.Memory = cli.Memory

-- ---- the entries of a content that are retired

-- so that these are kept
abbrev pub SettlesFor : List Id → Content → List Id → Type 0
SettlesFor keeps x list = IsSettled (rows x.ops) keeps list

-- why these cannot be kept
abbrev pub CannotKeep : List Id → Content → Refusal → Type 0
CannotKeep keeps x r = (f : SettleFault) × IsUnsettled (rows x.ops) keeps f × (settle_fault f ≡ cli.Refused r)

-- so that each text is entered once; which is never refused
abbrev pub SettlesEqual : Content → List Id → Type 0
SettlesEqual x list = AreDoubles (rows x.ops) list

abbrev pub NeverRefuses : Content → Refusal → Type 0
NeverRefuses x r = ⊥

-- ---- the effect of retiring them

-- the entries that are listed for the content are retired, and their links pass on to the entries that stay; the lines are those
-- of the new ids
pub record Retires (Lists : Content → List Id → Type 0) (replica note : List ℕ) (x y : Content) (lines : List ℕ) : Type 0 where
  pub list : List Id
  pub lists : Lists x list
  pub ids : List Id
  pub retires : RetiresFor x replica note list y ids
  pub lines_are : lines ≡ id_lines ids

-- why none are: first a note is too long; then nothing is listed; then the office refuses; or there is no memory
pub record IsRefusedAfter (Lists : Content → List Id → Type 0) (replica note : List ℕ) (x : Content) (r : Refusal) : Type 0 where
  pub list : List Id
  pub lists : Lists x list
  pub fault : OfficeFault
  pub refused : CannotRetireFor x replica note list fault
  pub is : office_fault fault ≡ cli.Refused r

abbrev pub IsUnretired : (Content → List Id → Type 0) → (Content → Refusal → Type 0) → List ℕ → List ℕ → Content → CliFault → Type 0
IsUnretired Lists Refuses replica note x (cli.Refused r) = ((r ≡ refusal.Office office.NoteTooLong) × (200 < length note))
    ⊎ (((length note ≤ 200) × Refuses x r) ⊎ ((length note ≤ 200) × IsRefusedAfter Lists replica note x r))
IsUnretired Lists Refuses replica note x cli.Memory = Unit {0}
IsUnretired Lists Refuses replica note x f = ⊥
