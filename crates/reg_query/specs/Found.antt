-- The entries that meet a query.
use Rattle.std.specs.Prelude.{◌≡◌, ◌↔◌, ℕ, Bool, IsTrue, List, [], ◌∷◌, map, if◌then◌else◌}
use Rattle.crs_part.specs.Slots.{name_of}
use Rattle.crs_value.specs.declared.crs.Crs.{Crs}
use Rattle.crs_value.specs.declared.key.Key.{Key}
use Rattle.wkt_crs.specs.Definition.{IsCrsOf, IsKeyIn}
use Rattle.reg_op.specs.Contents.{Content}
use Rattle.reg_op.specs.Ids.{Id}
use Rattle.reg_op.specs.Rows.{Row, rows}
use Rattle.reg_report.specs.Conflicts.{bytes_of}
use Rattle.reg_report.specs.Lines.{entries_header, IsEntryLine, IsSheet}
use Rattle.reg_query.specs.declared.find.query.Query.{Query}
use Rattle.reg_query.specs.Queries.{MeetsTitle, MeetsValue}

-- whether an entry among rows meets the query, by its key, its reference system and its status
pub record IsMet (rs : List Row) (q : Query) (r : Row) (met : Bool) : Type 0 where
  pub key : Key
  pub crs : Crs
  pub keyed : IsKeyIn key r.definition
  pub spelled : IsCrsOf crs r.definition
  pub told : IsTrue met ↔ (MeetsTitle rs q (bytes_of key) (name_of crs.parts).bytes r.status × MeetsValue q crs.parts)

-- of these rows, those that meet it, in order
abbrev pub AreFound : List Row → Query → List Row → List Row → Type 0
AreFound rs q [] found = found ≡ []
AreFound rs q (r ∷ some) found = (met : Bool) × (rest : List Row) × IsMet rs q r met × AreFound rs q some rest × (found ≡ (if met then r ∷ rest else rest))

-- all rows of a content that meet it
abbrev pub AreFoundIn : Content → Query → List Row → Type 0
AreFoundIn x q found = AreFound (rows x.ops) q (rows x.ops) found

-- the ids of the entries of a content that meet it
abbrev pub AreFoundIds : Query → Content → List Id → Type 0
AreFoundIds q x ids = (found : List Row) × AreFoundIn x q found × (ids ≡ map (λ r. r.entry) found)

-- the report's header, and the lines of these entries
abbrev pub IsFoundText : Query → Content → List ℕ → Type 0
IsFoundText q x text = (found : List Row) × AreFoundIn x q found × IsSheet entries_header IsEntryLine found text
