-- Logs, and why there is none.
use Rattle.std.specs.Prelude.{◌≡◌, ◌⊎◌, ℕ, true, List, Some, None}
use Rattle.std.specs.List.{list_any}
use Rattle.reg_op.specs.Set as set
use Rattle.reg_op.specs.Ids.{Id, is_same}
use Rattle.reg_op.specs.Contents.{Content}
use Rattle.reg_op.specs.Rows.{rows}
use Rattle.reg_office.specs.declared.fault.OfficeFault.TheVariants as office
use Rattle.reg_keys.specs.Told.{TellOf, AreUntold}
use Rattle.reg_query.specs.Asked.{first_unlogged}
use Rattle.reg_query.specs.LogLines.{IsLog}
use Rattle.reg_engine.specs.declared.fault.Refusal.TheVariants as refusal
use Rattle.reg_engine.specs.declared.fault.CliFault.{CliFault}
use Rattle.reg_engine.specs.declared.fault.CliFault.TheVariants as cli
use Rattle.reg_commands.specs.Keyed.{IsUnnamed}

-- the log of all entries
abbrev pub LogsAll : Content → List ℕ → Type 0
LogsAll x text = IsLog (λ e. true) x.ops text

-- the log of these entries, each with an operation
abbrev pub LogsOf : List Id → Content → List ℕ → Type 0
LogsOf es x text = (first_unlogged (set.items x.ops) es ≡ None) × IsLog (λ e. list_any (is_same e) es) x.ops text

-- the first of them without an operation has this id; or memory ran out
abbrev pub CannotLog : List Id → Content → CliFault → Type 0
CannotLog es x (cli.Refused (refusal.Office (office.UnknownEntry id))) = first_unlogged (set.items x.ops) es ≡ Some id
CannotLog es x cli.Memory = Unit {0}
CannotLog es x f = ⊥

-- the log of the entries that words select
abbrev pub LogsFor : List (List ℕ) → Content → List ℕ → Type 0
LogsFor words x text = (es : List Id) × TellOf (rows x.ops) words es × LogsOf es x text

-- a word selects none; or there is no log of those that they select
abbrev pub CannotLogFor : List (List ℕ) → Content → CliFault → Type 0
CannotLogFor words x f = IsUnnamed (AreUntold (rows x.ops) words) f ⊎ ((es : List Id) × TellOf (rows x.ops) words es × CannotLog es x f)
