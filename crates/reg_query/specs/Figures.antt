-- The figures of a content: the lengths of its reports.
use Rattle.std.specs.Prelude.{◌≡◌, ℕ, Bool, true, false, List, length, Option, Some}
use Rattle.std.specs.List.{count_by}
use Rattle.reg_op.specs.Set as set
use Rattle.reg_op.specs.Ids.{Ids}
use Rattle.reg_op.specs.Contents.{Content}
use Rattle.reg_op.specs.Rows.{Row, rows, awaited}
use Rattle.reg_op.specs.declared.status.Status.{Status}
use Rattle.reg_op.specs.declared.status.Status.TheVariants.{Valid, Superseded, Retired}
use Rattle.reg_report.specs.declared.gap.Gap.{Gap}
use Rattle.reg_report.specs.Conflicts.{Contested, AreConflicts}
use Rattle.reg_report.specs.Gaps.{AreGaps}
use Rattle.reg_disorder.specs.declared.disorder.Disorder.TheVariants.{Duplicates, Dangling, Withdrawn}
use Rattle.reg_disorder.specs.Disorders.{CountsAmiss}
use Rattle.reg_query.specs.declared.figures.register.DisorderCounts.{DisorderCounts}
use Rattle.reg_query.specs.declared.figures.register.EntryCounts.{EntryCounts}
use Rattle.reg_query.specs.declared.figures.register.Figures.{Figures}

abbrev pub is_status : Status → Option Status → Bool
is_status Valid (Some Valid) = true
is_status Superseded (Some Superseded) = true
is_status Retired (Some Retired) = true
is_status wanted status = false

abbrev pub has_status : Status → Row → Bool
has_status status r = is_status status r.status

-- the number of rows, in all and of each status
pub record AreCounts (rs : List Row) (c : EntryCounts) : Type 0 where
  pub entries : c.entries ≡ length rs
  pub valid : c.valid ≡ count_by (has_status Valid) rs
  pub superseded : c.superseded ≡ count_by (has_status Superseded) rs
  pub retired : c.retired ≡ count_by (has_status Retired) rs

-- this many keys are in conflict
abbrev pub CountsConflicts : List Row → ℕ → Type 0
CountsConflicts rs n = (cs : List Contested) × AreConflicts rs cs × (n ≡ length cs)

-- this many ranges of counts are missing
abbrev pub CountsGaps : Ids → ℕ → Type 0
CountsGaps seen n = (gs : List Gap) × AreGaps seen gs × (n ≡ length gs)

-- the numbers of what is not in order, in each way
pub record AreCountsAmiss (rs : List Row) (a : DisorderCounts) : Type 0 where
  pub duplicates : CountsAmiss Duplicates rs a.duplicates
  pub dangling : CountsAmiss Dangling rs a.dangling
  pub withdrawn : CountsAmiss Withdrawn rs a.withdrawn

-- the length of each list
pub record AreFigures (x : Content) (f : Figures) : Type 0 where
  pub operations : f.operations ≡ length (set.items x.ops)
  pub entries : f.entries ≡ length (rows x.ops)
  pub valid : f.valid ≡ count_by (has_status Valid) (rows x.ops)
  pub superseded : f.superseded ≡ count_by (has_status Superseded) (rows x.ops)
  pub retired : f.retired ≡ count_by (has_status Retired) (rows x.ops)
  pub conflicts : CountsConflicts (rows x.ops) f.conflicts
  pub awaited : f.awaited ≡ length (set.items (awaited x.ops))
  pub gaps : CountsGaps x.seen f.gaps
  pub duplicates : CountsAmiss Duplicates (rows x.ops) f.duplicates
  pub dangling : CountsAmiss Dangling (rows x.ops) f.dangling
  pub withdrawn : CountsAmiss Withdrawn (rows x.ops) f.withdrawn
