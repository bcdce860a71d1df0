-- What a register gained that no row shows.
use Rattle.std.specs.Prelude.{◌≡◌, ℕ, ◌-◌, nat_le, Bool, false, not, ◌&&◌, List, [], ◌∷◌, length, Option, Some, None, if◌then◌else◌}
use Rattle.std.specs.List.{count_by, flat_map}
use Rattle.std.specs.Ordering.{is_eq}
use Rattle.reg_op.specs.Set as set
use Rattle.reg_op.specs.Ids.{Id, Ids}
use Rattle.reg_op.specs.Operations.{Op, Ops}
use Rattle.reg_op.specs.declared.operation.OpBody.{OpBody as Body}
use Rattle.reg_op.specs.declared.operation.OpBody.TheVariants.{Enter, Supersede, Retire}
use Rattle.reg_op.specs.Contents.{Content}
use Rattle.reg_op.specs.Pieces.{outside}
use Rattle.reg_op.specs.Rows.{awaited}
use Rattle.reg_op.specs.Status.{enters, retires}
use Rattle.reg_state.specs.Runs.{replica_cmp}
use Rattle.reg_office.specs.Making.{greatest}
use Rattle.reg_file.specs.Files.{Holds, IsTooLarge}
use Rattle.reg_query.specs.declared.figures.office.OfficeFigures.{OfficeFigures}
use Rattle.reg_query.specs.Offices.{AreOffices}
use Rattle.reg_news.specs.declared.gained.risen.Risen.{Risen}
use Rattle.reg_news.specs.declared.gained.hidden.Hidden.{Hidden}

-- what the second content has that the first one has not seen
abbrev pub came : Content → Content → Content
came x y = outside x.seen y

-- the entry is of another office than the operation with this id
abbrev pub is_of_another : Id → Id → Bool
is_of_another i entry = not (is_eq (replica_cmp i.replica entry.replica))

-- it is an entry, and is retired
abbrev pub was_retired : Ops → Id → Bool
was_retired before entry = enters before entry && retires before entry

-- the operation retires an entry of another office that was not retired before
abbrev pub retires_in : Ops → Id → Body → Bool
retires_in before i (Enter text) = false
retires_in before i (Supersede old newer) = false
retires_in before i (Retire entry) = is_of_another i entry && not (was_retired before entry)

abbrev pub retires_of_others : Ops → Op → Bool
retires_of_others before o = retires_in before o.id o.body

-- by how much the greatest number of an office is above what was seen
abbrev pub rise_of : Ids → OfficeFigures → ℕ
rise_of seen o = o.greatest - greatest o.replica seen

-- the office, if this is more than its operations
abbrev pub risen_of : Ids → OfficeFigures → List Risen
risen_of seen o = if nat_le (rise_of seen o) o.kept then [] else (record { office = o.replica; rise = rise_of seen o; came = o.kept } ∷ [])

-- of the offices of what came, those whose greatest number rose by more than their operations, by UUID
abbrev pub AreRisen : Ids → Content → List Risen → Type 0
AreRisen seen c rs = (os : List OfficeFigures) × AreOffices c os × (rs ≡ flat_map (risen_of seen) os)

-- the file of the content has this length; or it would have too many bytes
abbrev pub IsLength : Content → Option ℕ → Type 0
IsLength x (Some n) = (bytes : List ℕ) × Holds bytes x × (n ≡ length bytes)
IsLength x None = IsTooLarge x

pub record IsHidden (x y : Content) (h : Hidden) : Type 0 where
  pub retired : h.retired ≡ count_by (retires_of_others x.ops) (set.items (came x y).ops)
  pub awaited_before : h.awaited_before ≡ length (set.items (awaited x.ops))
  pub awaited : h.awaited ≡ length (set.items (awaited y.ops))
  pub risen : AreRisen x.seen (came x y) h.risen.items
  pub bytes_before : IsLength x h.bytes_before
  pub bytes : IsLength y h.bytes
