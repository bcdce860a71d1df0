-- Searches for entries.
use Rattle.std.specs.Prelude.{◌≡◌, ◌≢◌, ℕ, List, []}
use Rattle.reg_op.specs.Ids.{Id}
use Rattle.reg_op.specs.Contents.{Content}
use Rattle.reg_engine.specs.declared.fault.Refusal.TheVariants as refusal
use Rattle.reg_engine.specs.declared.fault.CliFault.{CliFault}
use Rattle.reg_engine.specs.declared.fault.CliFault.TheVariants as cli
use Rattle.reg_engine.specs.Outputs.{id_lines}
use Rattle.reg_query.specs.declared.find.query.Query.{Query}
use Rattle.reg_query.specs.Found.{AreFoundIds}

-- the ids of the entries that match, at least one, one a line
abbrev pub AreFoundLines : Query → Content → List ℕ → Type 0
AreFoundLines q x text = (ids : List Id) × AreFoundIds q x ids × (ids ≢ []) × (text ≡ id_lines ids)

-- there is none, which is refused; or memory ran out
abbrev pub FindsNone : Query → Content → CliFault → Type 0
FindsNone q x (cli.Refused refusal.NoEntry) = AreFoundIds q x []
FindsNone q x cli.Memory = Unit {0}
FindsNone q x f = ⊥
