-- What is looked at: reference systems, each with what names it in rows.
use Rattle.std.specs.Prelude.{◌≡◌, Bool, true, false, ℕ, List, [], ◌∷◌, filter, Option, Some, None}
use Rattle.std.specs.List.{cons_option}
use Rattle.crs_part.specs.declared.identifiers.Ident.{Ident}
use Rattle.crs_value.specs.declared.crs.Crs.{Crs}
use Rattle.crs_value.specs.Keys.{text_of}
use Rattle.wkt_crs.specs.Definition.{IsCrsOf}
use Rattle.wkt_crs.specs.Spells.{Spells}
use Rattle.reg_op.specs.Contents.{Content}
use Rattle.reg_op.specs.Text.{printed}
use Rattle.reg_op.specs.Rows.{Row, rows}
use Rattle.reg_op.specs.declared.status.Status.{Status}
use Rattle.reg_op.specs.declared.status.Status.TheVariants.{Valid, Superseded, Retired}
use Rattle.reg_lint.specs.declared.kept.KeptForm.{KeptForm}
use Rattle.reg_lint.specs.declared.kept.KeptForm.TheVariants as form
use Rattle.reg_lint.specs.declared.kept.KeptSubject.{KeptSubject}

-- a reference system with what names it in rows: the id of an entry, or a file and an offset
pub record Subject : Type 0 where
  pub label : List ℕ
  pub crs : Crs

-- ---- what is kept of it

-- the value, or a text that spells it
abbrev pub IsForm : KeptForm → Crs → Type 0
IsForm (form.Value v) crs = v.value ≡ crs
IsForm (form.Entry d) crs = Spells d crs
IsForm (form.Text t) crs = Spells t.items crs

abbrev pub IsKept : KeptSubject → Subject → Type 0
IsKept k s = (k.label.items ≡ s.label) × IsForm k.form s.crs

-- those of some, in order
abbrev pub AreKept : List KeptSubject → List Subject → Type 0
AreKept [] [] = Unit {0}
AreKept [] (s ∷ ss) = ⊥
AreKept (k ∷ ks) [] = ⊥
AreKept (k ∷ ks) (s ∷ ss) = IsKept k s × AreKept ks ss

-- ---- keys

-- the authority of the first identifier, or nothing
abbrev pub authority_of : List Ident → List ℕ
authority_of [] = []
authority_of (id ∷ ids) = id.authority.bytes

-- its code, or nothing
abbrev pub code_of : List Ident → List ℕ
code_of [] = []
code_of (id ∷ ids) = text_of id.code

abbrev pub is_retired : Option Status → Bool
is_retired None = false
is_retired (Some Valid) = false
is_retired (Some Superseded) = false
is_retired (Some Retired) = true

-- the entry of a row with the reference system that its text spells, unless it is retired
abbrev pub IsLiveOf : Row → Option Subject → Type 0
IsLiveOf r None = is_retired r.status ≡ true
IsLiveOf r (Some s) = (is_retired r.status ≡ false) × (s.label ≡ printed r.entry) × IsCrsOf s.crs r.definition

-- those of some rows, in order
abbrev pub AreLive : List Row → List Subject → Type 0
AreLive [] subjects = subjects ≡ []
AreLive (r ∷ rs) subjects = (live : Option Subject) × (rest : List Subject) × IsLiveOf r live × AreLive rs rest × (subjects ≡ cons_option live rest)

-- what is kept of the entry of a row, unless it is retired
abbrev pub IsLiveKept : Row → Option KeptSubject → Type 0
IsLiveKept r None = is_retired r.status ≡ true
IsLiveKept r (Some k) = (s : Subject) × IsLiveOf r (Some s) × IsKept k s

-- what is kept is that of such reference systems
abbrev pub AreLiveKept : List Row → List KeptSubject → Type 0
AreLiveKept rs ks = (ss : List Subject) × AreLive rs ss × AreKept ks ss

-- the entries of a content that are not retired, by id
abbrev pub AreLiveIn : Content → List Subject → Type 0
AreLiveIn x subjects = AreLive (rows x.ops) subjects

-- ---- a status that is asked for

abbrev pub is_status : Status → Option Status → Bool
is_status Valid (Some Valid) = true
is_status Superseded (Some Superseded) = true
is_status Retired (Some Retired) = true
is_status wanted status = false

abbrev pub has_status : Status → Row → Bool
has_status wanted r = is_status wanted r.status

-- the rows with the status, if one is asked for
abbrev pub asked : Option Status → List Row → List Row
asked None rs = rs
asked (Some wanted) rs = filter (has_status wanted) rs

-- the entries of a content that are not retired and have the status, if one is asked for, by id
abbrev pub AreLiveWith : Option Status → Content → List Subject → Type 0
AreLiveWith status x subjects = AreLive (asked status (rows x.ops)) subjects
