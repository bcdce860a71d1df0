-- What the page shows of each entry.
use Rattle.std.specs.Prelude.{◌≡◌, ℕ, true, All, List, filter, map}
use Rattle.std.specs.declared.cmp.Ordering.{Ordering}
use Rattle.std.specs.Ordering.{nat_cmp, ordering_then}
use Rattle.std.specs.Cmp.Lexicographic.{slice_cmp}
use Rattle.std.specs.Global.{Vec}
use Rattle.std.specs.List.Sorted.{IsSorted, IsPermutation}
use Rattle.crs_part.specs.Slots.{name_of}
use Rattle.crs_value.specs.declared.crs.Crs.{Crs}
use Rattle.wkt_crs.specs.Spells.{pretty}
use Rattle.wkt_crs.specs.Definition.{IsCrsOf, IsKeyIn}
use Rattle.std.specs.Borrow.{Bor}
use Rattle.reg_op.specs.Set as set
use Rattle.reg_op.specs.Set.{Ascends}
use Rattle.reg_op.specs.Ids.{Id, id_cmp}
use Rattle.reg_op.specs.Operations.{Op, Ops}
use Rattle.reg_op.specs.Kept.{entering}
use Rattle.reg_op.specs.Status.{is_enter}
use Rattle.reg_page.specs.declared.described.DescribedSystem.{DescribedSystem}
use Rattle.reg_page.specs.declared.described.Described.{Described}
use Rattle.crs_sense.specs.declared.rule.Rule.{Rule}
use Rattle.reg_lint.specs.Questions.{questions_of}
use Rattle.crs_value.specs.Kinds.{kind_of}
use Rattle.crs_value.specs.Usages.{usages_of}
use Rattle.reg_page.specs.Kinds.{areas_in}
use Rattle.reg_page.specs.Boxes.{box_seen, boxes_in}
use Rattle.reg_page.specs.Codes.{code_cmp}

-- what the page shows of a reference system: its name, boxes, areas, kind and indented text, and what is asked by these rules
pub record IsSystemOf (rules : List Rule) (crs : Crs) (d : DescribedSystem) : Type 0 where
  pub name : d.name.items ≡ (name_of crs.parts).bytes
  pub boxes : map box_seen d.boxes.items ≡ boxes_in (usages_of crs.parts)
  pub areas : map (λ (a : Vec ℕ). a.items) d.areas.items ≡ areas_in (usages_of crs.parts)
  pub kind : d.kind ≡ kind_of crs.parts
  pub text : d.text.items ≡ pretty crs
  pub questions : map (λ (q : Vec ℕ). q.items) d.questions.items ≡ questions_of rules crs.parts

-- it describes the reference system that the definition spells
pub record IsSystemIn (rules : List Rule) (definition : List ℕ) (d : DescribedSystem) : Type 0 where
  pub crs : Crs
  pub spelled : IsCrsOf crs definition
  pub shows : IsSystemOf rules crs d

-- what the page shows of an entry with this definition and note
pub record DescribesEntry (rules : List Rule) (entry : Id) (definition written : List ℕ) (t : Described) : Type 0 where
  pub id : t.id ≡ entry
  pub keyed : IsKeyIn t.key definition
  pub note : t.note.items ≡ written
  pub system : IsSystemIn rules definition t.system

-- it describes an entry of the register
pub record IsDescribed (rules : List Rule) (s : Ops) (t : Described) : Type 0 where
  pub definition : List ℕ
  pub note : List ℕ
  pub entered : set.contains s (entering t.id definition note) ≡ true
  pub described : DescribesEntry rules t.id definition note t

-- by the bytes of the authority, then by the code, and then by the id
abbrev pub described_cmp : Described → Described → Ordering
described_cmp a b =
    ordering_then (slice_cmp nat_cmp a.key.authority.bytes b.key.authority.bytes)
    (ordering_then (code_cmp a.key.code.bytes b.key.code.bytes) (id_cmp a.id b.id))

abbrev pub entry_ids : Ops → List Id
entry_ids s = map (λ (o : Op). o.id) (filter (λ (o : Op). is_enter o.body) (set.items s))

-- each entry is described once, by key and then by id
pub record AreDescribed (rules : List Rule) (s : Ops) (ts : List Described) : Type 0 where
  pub each : All (IsDescribed rules s) ts
  pub ids : IsPermutation (entry_ids s) (map (λ (t : Described). t.id) ts)
  pub sorted : IsSorted described_cmp ts

-- the ids ascend
abbrev pub AscendById : List Described → Type 0
AscendById ts = Ascends id_cmp (map (λ (t : Described). t.id) ts)

-- each entry is described once, by id
pub record AreById (rules : List Rule) (s : Ops) (ts : List Described) : Type 0 where
  pub each : All (IsDescribed rules s) ts
  pub ids : map (λ (t : Described). t.id) ts ≡ entry_ids s
  pub ascend : AscendById ts

-- the descriptions behind references
abbrev pub at : List (Bor Described) → List Described
at ts = map (λ (t : Bor Described). t.now) ts

-- the same descriptions, sorted by key and then by id
pub record InOrder (ts rows : List Described) : Type 0 where
  pub same : IsPermutation ts rows
  pub sorted : IsSorted described_cmp rows
