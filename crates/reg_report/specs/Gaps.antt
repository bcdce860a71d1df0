-- The counts that are missing below a replica's greatest count.
use Rattle.std.specs.Prelude.{◌≡◌, ℕ, ◌+◌, ◌-◌, ◌≤◌, ◌<◌, true, false, ◌⊎◌, ◌↔◌, List, [], ◌∷◌, Contains}
use Rattle.reg_op.specs.Set as set
use Rattle.reg_op.specs.Ids.{Ids}
use Rattle.reg_state.specs.Runs.{IsBelow, id_at}
use Rattle.reg_report.specs.declared.gap.Gap.{Gap}

-- counts of a replica that were not seen, up to one that was seen, and down to one that was, or to 1
pub record IsGap (seen : Ids) (g : Gap) : Type 0 where
  pub counts : 1 ≤ g.low
  pub some : g.low ≤ g.high
  pub missing : (n : ℕ) → g.low ≤ n → n ≤ g.high → set.contains seen (id_at g.replica n) ≡ false
  pub below : (g.low ≡ 1) ⊎ (set.contains seen (id_at g.replica (g.low - 1)) ≡ true)
  pub above : set.contains seen (id_at g.replica (g.high + 1)) ≡ true

-- the first is of a lesser replica, or of the same one at lesser counts
abbrev pub ComesFirst : Gap → Gap → Type 0
ComesFirst g h = IsBelow g.replica h.replica ⊎ ((g.replica ≡ h.replica) × (g.high < h.low))

abbrev pub AllLater : Gap → List Gap → Type 0
AllLater g [] = Unit {0}
AllLater g (h ∷ hs) = ComesFirst g h × AllLater g hs

abbrev pub Ascend : List Gap → Type 0
Ascend [] = Unit {0}
Ascend (g ∷ gs) = AllLater g gs × Ascend gs

-- each gap, by replica and then by count
pub record AreGaps (seen : Ids) (gaps : List Gap) : Type 0 where
  pub ascend : Ascend gaps
  pub each : (g : Gap) → Contains gaps g ↔ IsGap seen g
