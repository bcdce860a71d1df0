-- The titles of rows.
use Rattle.std.specs.Prelude.{◌≡◌, ◌++◌, List, [], ◌∷◌}
use Rattle.crs_part.specs.declared.text.Text.{Text}
use Rattle.wkt_crs.specs.Definition.{IsNameIn}
use Rattle.reg_op.specs.Rows.{Row}
use Rattle.reg_op.specs.Text.{printed}
use Rattle.reg_report.specs.Conflicts.{HasKey}
use Rattle.reg_report.specs.Lines.{status_word}
use Rattle.crs_export.specs.declared.title.Title.{Title}
use Rattle.text_hidden.specs.Short.{short}

-- the id, the key, the name and the status of the row's entry
pub record IsTitle (r : Row) (t : Title) : Type 0 where
  pub entry : t.entry.now ≡ printed r.entry
  pub keyed : HasKey r.definition (record { authority = t.authority.now; code = t.code.now })
  pub name : Text
  pub is_name : IsNameIn name r.definition
  pub named : t.name.now ≡ name.bytes
  pub status : t.status.now ≡ status_word r.status

-- the same, where the key and the name have 200 characters at most, as Graphviz has a limit for labels
pub record IsLabel (r : Row) (t : Title) : Type 0 where
  pub whole : Title
  pub is_title : IsTitle r whole
  pub entry : t.entry.now ≡ whole.entry.now
  pub authority : t.authority.now ≡ short whole.authority.now
  pub code : t.code.now ≡ short whole.code.now
  pub name : t.name.now ≡ short whole.name.now
  pub status : t.status.now ≡ whole.status.now

-- what each of some rows gives, one after another
module _ {Y : Type 0} (Gives : Row → List Y → Type 0) where
  abbrev pub Each : List Row → List Y → Type 0
  Each [] ys = ys ≡ []
  Each (r ∷ rs) ys = (mine : List Y) × (later : List Y) × Gives r mine × Each rs later × (ys ≡ mine ++ later)
