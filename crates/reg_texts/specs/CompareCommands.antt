-- Texts of entries that are compared.
use Rattle.std.specs.Prelude.{◌≡◌, ℕ, List, Option, Some, None}
use Rattle.std.specs.Global.{Vec}
use Rattle.reg_op.specs.Ids.{Id}
use Rattle.reg_op.specs.Contents.{Content}
use Rattle.reg_office.specs.declared.fault.OfficeFault.TheVariants as office
use Rattle.reg_engine.specs.declared.fault.Refusal.TheVariants as refusal
use Rattle.reg_engine.specs.declared.fault.CliFault.{CliFault}
use Rattle.reg_engine.specs.declared.fault.CliFault.TheVariants as cli
use Rattle.reg_commands.specs.Keyed.{PrintsFor, RefusesFor}
use Rattle.reg_texts.specs.declared.compare.Uncompared.{Uncompared}
use Rattle.reg_texts.specs.declared.compare.Uncompared.TheVariants as why
use Rattle.reg_texts.specs.Compare.{IsCompared, IsUncompared, IsKeyCompared}

-- the fault of entries that are not compared
abbrev pub uncompared_fault : Uncompared → CliFault
uncompared_fault (why.UnknownEntry id) = cli.Refused (refusal.Office (office.UnknownEntry id))
uncompared_fault why.Memory = cli.Memory

-- one of the two entries is not in the register, so the command is refused; or memory ran out
abbrev pub CannotCompare : Id → Id → Content → CliFault → Type 0
CannotCompare i j x f = (w : Uncompared) × IsUncompared i j x w × (uncompared_fault w ≡ f)

-- what differs between an entry and the one that a word names
abbrev pub IsComparedWith : Id → List ℕ → Content → List ℕ → Type 0
IsComparedWith i word x text = PrintsFor (IsCompared i) word x text

abbrev pub CannotCompareWith : Id → List ℕ → Content → CliFault → Type 0
CannotCompareWith i word x f = RefusesFor (CannotCompare i) word x f

-- what differs between the entries of a key that are not retired
abbrev pub IsKeyComparedText : List ℕ → Content → List ℕ → Type 0
IsKeyComparedText key x text = (v : Vec ℕ) × IsKeyCompared key x (Some v) × (text ≡ v.items)

-- there is no such entry, so the command is refused; or memory ran out
abbrev pub HasNoEntry : List ℕ → Content → CliFault → Type 0
HasNoEntry key x (cli.Refused refusal.NoEntry) = IsKeyCompared key x None
HasNoEntry key x cli.Memory = Unit {0}
HasNoEntry key x f = ⊥
