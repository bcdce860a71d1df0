-- What is gathered of a register before its page is made.
use Rattle.std.specs.Prelude.{◌≡◌, List, map}
use Rattle.std.specs.List.Sorted.{IsSortedByKey, IsStableByKey}
use Rattle.crs_sense.specs.declared.rule.Rule.{Rule}
use Rattle.reg_op.specs.Set as set
use Rattle.reg_op.specs.Ids.{id_cmp}
use Rattle.reg_op.specs.Contents.{Content}
use Rattle.reg_op.specs.Rows.{rows, awaited}
use Rattle.reg_report.specs.Conflicts.{AreConflicts}
use Rattle.reg_report.specs.Contenders.{conflict_seen}
use Rattle.reg_page.specs.declared.gathered.Gathered.{Gathered}
use Rattle.reg_page.specs.Descriptions.{AreById}
use Rattle.reg_page.specs.Page.{subject, acts_in}

-- its entries by id, with what is asked by these rules; its supersessions and retirements by entry; its conflicts and awaited ids
pub record IsGathered (rules : List Rule) (x : Content) (g : Gathered) : Type 0 where
  pub described : AreById rules x.ops g.described.items
  pub sorted : IsSortedByKey subject id_cmp g.acts.items
  pub same : IsStableByKey subject id_cmp (acts_in x.ops) g.acts.items
  pub conflicts : AreConflicts (rows x.ops) (map conflict_seen g.conflicts.items)
  pub awaited : g.awaited.items ≡ set.items (awaited x.ops)
