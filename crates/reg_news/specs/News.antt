-- What a change of a register brings: from the content x to the content y.
use Rattle.std.specs.Prelude.{◌≡◌, ℕ, Bool, true, false, List, Option, Some, None, map, length}
use Rattle.std.specs.List.{count_by}
use Rattle.reg_op.specs.Set as set
use Rattle.reg_op.specs.Contents.{Content}
use Rattle.reg_op.specs.Rows.{Row, rows, awaited}
use Rattle.reg_report.specs.Conflicts.{KeyBytes, Contested, AreConflicts, bytes_of}
use Rattle.reg_disorder.specs.declared.disorder.Disorder.{Disorder}
use Rattle.reg_disorder.specs.declared.disorder.Disorder.TheVariants.{Duplicates, Dangling, Withdrawn}
use Rattle.reg_disorder.specs.Disorders.{Keyed, AreAmiss}
use Rattle.reg_op.specs.Ids.{Ids}
use Rattle.reg_op.specs.declared.status.Status.{Status}
use Rattle.reg_op.specs.declared.status.Status.TheVariants.{Valid, Superseded, Retired}
use Rattle.reg_report.specs.declared.gap.Gap.{Gap}
use Rattle.reg_report.specs.Gaps.{AreGaps}
use Rattle.reg_news.specs.declared.news.News.{News}
use Rattle.reg_news.specs.Codes.{AreTold, code_seen}
use Rattle.reg_news.specs.Keys.{fresh_keys}

abbrev pub is_status : Status → Status → Bool
is_status Valid Valid = true
is_status Superseded Superseded = true
is_status Retired Retired = true
is_status s t = false

abbrev pub has_status : Status → Option Status → Bool
has_status s None = false
has_status s (Some t) = is_status s t

-- how many of the entries have this status
abbrev pub count_of : Status → List Row → ℕ
count_of s rs = count_by (λ (r : Row). has_status s r.status) rs

-- the number of ranges of missing counts
abbrev pub CountsGaps : Ids → ℕ → Type 0
CountsGaps seen n = (gs : List Gap) × AreGaps seen gs × (n ≡ length gs)

-- the keys in conflict
abbrev pub AreInConflict : List Row → List KeyBytes → Type 0
AreInConflict rs ks = (cs : List Contested) × AreConflicts rs cs × (ks ≡ map (λ (c : Contested). c.key) cs)

-- the keys of entries that are not in order in this way
abbrev pub HaveAmiss : Disorder → List Row → List KeyBytes → Type 0
HaveAmiss way rs ks = (ls : List Keyed) × AreAmiss way rs ls × (ks ≡ map (λ (l : Keyed). l.key) ls)

-- keys of which something is so in the later rows, and of which nothing was so in the earlier ones
abbrev pub AreFresh : (List Row → List KeyBytes → Type 0) → List Row → List Row → List KeyBytes → Type 0
AreFresh Are earlier later ks = (before : List KeyBytes) × (after : List KeyBytes) × Are earlier before × Are later after × (ks ≡ fresh_keys before after)

pub record IsNews (x y : Content) (n : News) : Type 0 where
  pub entries_before : n.entries.before ≡ length (rows x.ops)
  pub entries : n.entries.now ≡ length (rows y.ops)
  pub superseded_before : n.superseded.before ≡ count_of Superseded (rows x.ops)
  pub superseded : n.superseded.now ≡ count_of Superseded (rows y.ops)
  pub retired_before : n.retired.before ≡ count_of Retired (rows x.ops)
  pub retired : n.retired.now ≡ count_of Retired (rows y.ops)
  pub conflicts : AreFresh AreInConflict (rows x.ops) (rows y.ops) (map bytes_of n.conflicts.items)
  pub duplicates : AreFresh (HaveAmiss Duplicates) (rows x.ops) (rows y.ops) (map bytes_of n.duplicates.items)
  pub dangling : AreFresh (HaveAmiss Dangling) (rows x.ops) (rows y.ops) (map bytes_of n.dangling.items)
  pub codes : AreTold (rows x.ops) (rows y.ops) (map code_seen n.codes.items)
  pub withdrawn : AreFresh (HaveAmiss Withdrawn) (rows x.ops) (rows y.ops) (map bytes_of n.withdrawn.items)
  pub awaited_before : n.awaited.before ≡ length (set.items (awaited x.ops))
  pub awaited : n.awaited.now ≡ length (set.items (awaited y.ops))
  pub gaps_before : CountsGaps x.seen n.gaps.before
  pub gaps : CountsGaps y.seen n.gaps.now
