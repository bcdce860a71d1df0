-- What a row of the page shows of the register, and the order of rows.
use Rattle.std.specs.Prelude.{◌≡◌, ℕ, true, List, Contains, Option, Some, None}
use Rattle.std.specs.declared.cmp.Ordering.{Ordering}
use Rattle.std.specs.Ordering.{nat_cmp, ordering_then}
use Rattle.std.specs.Cmp.Lexicographic.{slice_cmp}
use Rattle.crs_part.specs.Slots.{name_of}
use Rattle.crs_value.specs.declared.crs.Crs.{Crs}
use Rattle.crs_value.specs.declared.key.Key.{Key}
use Rattle.crs_value.specs.Kinds.{kind_of}
use Rattle.crs_value.specs.Usages.{usages_of}
use Rattle.wkt_crs.specs.Spells.{pretty}
use Rattle.wkt_crs.specs.Definition.{IsCrsOf, IsKeyIn}
use Rattle.html_page.specs.Shown as shown
use Rattle.crs_sense.specs.declared.rule.Rule.{Rule}
use Rattle.reg_lint.specs.Questions.{questions_of}
use Rattle.reg_op.specs.Ids.{Id}
use Rattle.reg_op.specs.Kept.{entering}
use Rattle.reg_op.specs.Operations.{Ops}
use Rattle.reg_op.specs.Set as set
use Rattle.reg_op.specs.Status.{status}
use Rattle.reg_op.specs.Text.{printed}
use Rattle.reg_page.specs.Boxes.{boxes_in}
use Rattle.reg_page.specs.Codes.{code_cmp}
use Rattle.reg_page.specs.Kinds.{kind_word, areas_in}
use Rattle.reg_page.specs.Page.{standing_of}

-- the row is that of an entry of the register: it has the key, the name, the boxes, the areas and the kind of the reference system that
-- the definition spells, the status of the entry, and the indented text, and then what is asked by these rules
pub record ShowsEntry (rules : List Rule) (s : Ops) (e : shown.Entry) : Type 0 where
  pub id : Id
  pub definition : List ℕ
  pub entered : set.contains s (entering id definition e.note) ≡ true
  pub prints : e.id ≡ printed id
  pub key : Key
  pub keyed : IsKeyIn key definition
  pub authority : e.authority ≡ key.authority.bytes
  pub code : e.code ≡ key.code.bytes
  pub crs : Crs
  pub spelled : IsCrsOf crs definition
  pub name : e.name ≡ (name_of crs.parts).bytes
  pub boxes : e.boxes ≡ boxes_in (usages_of crs.parts)
  pub areas : e.areas ≡ areas_in (usages_of crs.parts)
  pub kind : e.kind ≡ kind_word (kind_of crs.parts)
  pub standing : e.standing ≡ standing_of (status s id)
  pub text : e.text ≡ pretty crs
  pub questions : e.questions ≡ questions_of rules crs.parts

-- by the bytes of the authority, and then by the code
abbrev pub entry_cmp : shown.Entry → shown.Entry → Ordering
entry_cmp a b = ordering_then (slice_cmp nat_cmp a.authority b.authority) (code_cmp a.code b.code)

-- the rows have one key and one text
pub record HasSameText (e other : shown.Entry) : Type 0 where
  pub authority : e.authority ≡ other.authority
  pub code : e.code ≡ other.code
  pub text : e.text ≡ other.text

-- none of these rows has the text of the row; or one of them has it, and is the one with this id
abbrev pub IsToldIn : List shown.Entry → shown.Entry → Option (List ℕ) → Type 0
IsToldIn es e None = (other : shown.Entry) → Contains es other → HasSameText e other → ⊥
IsToldIn es e (Some id) = (other : shown.Entry) × Contains es other × (other.id ≡ id) × HasSameText e other
