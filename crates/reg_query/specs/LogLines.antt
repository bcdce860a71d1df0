-- The lines of a log.
use Rattle.std.specs.Prelude.{◌≡◌, ℕ, Bool, List, [], ◌∷◌, codes}
use Rattle.crs_part.specs.Slots.{name_of}
use Rattle.crs_value.specs.declared.crs.Crs.{Crs}
use Rattle.crs_value.specs.declared.key.Key.{Key}
use Rattle.wkt_crs.specs.Definition.{IsCrsOf, IsKeyIn}
use Rattle.reg_op.specs.Ids.{Id}
use Rattle.reg_op.specs.Operations.{Op, Ops}
use Rattle.reg_op.specs.Text.{printed}
use Rattle.reg_op.specs.declared.operation.OpBody.{OpBody as Body}
use Rattle.reg_op.specs.declared.operation.OpBody.TheVariants.{Enter, Supersede, Retire}
use Rattle.reg_report.specs.Lines.{IsSheet}
use Rattle.reg_query.specs.Log.{subject, AreLogged}

abbrev pub log_header : List (List ℕ)
log_header = codes "entry" ∷ codes "authority" ∷ codes "code" ∷ codes "name" ∷ codes "operation" ∷ codes "effect" ∷ codes "replaced_by" ∷ codes "note" ∷ []

abbrev pub effect_word : Body → List ℕ
effect_word (Enter text) = codes "enter"
effect_word (Supersede old newer) = codes "supersede"
effect_word (Retire entry) = codes "retire"

abbrev pub newer_text : Body → List ℕ
newer_text (Enter text) = []
newer_text (Supersede old newer) = printed newer
newer_text (Retire entry) = []

-- the entry with an authority, a code and a name, the operation, its effect, the superseding entry, and the note
abbrev pub log_fields : Op → List ℕ → List ℕ → List ℕ → List (List ℕ)
log_fields o authority code name = printed (subject o) ∷ authority ∷ code ∷ name ∷ printed o.id ∷ effect_word o.body ∷ newer_text o.body ∷ o.note ∷ []

-- the fields have the key and the name of this text
pub record IsTitled (o : Op) (definition : List ℕ) (fields : List (List ℕ)) : Type 0 where
  pub key : Key
  pub crs : Crs
  pub keyed : IsKeyIn key definition
  pub spelled : IsCrsOf crs definition
  pub are : fields ≡ log_fields o key.authority.bytes key.code.bytes (name_of crs.parts).bytes

-- by its effect: only the operation that enters an entry has the key and the name
abbrev pub IsLineOf : Op → Body → List (List ℕ) → Type 0
IsLineOf o (Enter text) fields = IsTitled o text fields
IsLineOf o (Supersede old newer) fields = fields ≡ log_fields o [] [] []
IsLineOf o (Retire entry) fields = fields ≡ log_fields o [] [] []

abbrev pub IsLogLine : Op → List (List ℕ) → Type 0
IsLogLine o fields = IsLineOf o o.body fields

-- a header, and a line for each operation
abbrev pub AreLogLines : List Op → List ℕ → Type 0
AreLogLines os text = IsSheet log_header IsLogLine os text

-- a header, and a line for each operation on the requested entries, in order
abbrev pub IsLog : (Id → Bool) → Ops → List ℕ → Type 0
IsLog asked s text = (os : List Op) × AreLogged asked s os × AreLogLines os text
