-- The rows of entries that are new, and of those with a status.
use Rattle.std.proofs.Common.{◌≡◌, Bool, true, false, List, [], ◌∷◌, map, filter, cond, refl, ap}
use Rattle.reg_op.specs.Contents.{Content}
use Rattle.reg_report.specs.declared.row.Row.{Row}
use Rattle.reg_report.specs.Seen.{row_seen}
use Rattle.reg_op.specs.declared.status.Status.{Status}
use Rattle.reg_op.specs.Rows.{Row as RowOf}
use Rattle.reg_lint.specs.Entered.{is_new}
use Rattle.reg_lint.specs.Subjects.{has_status}

-- rows that are kept by what contracts see of them
kept_seen : (p : RowOf → Bool) (rs : List Row) → map row_seen (filter (λ (r : Row). p (row_seen r)) rs) ≡ filter p (map row_seen rs)
kept_seen p [] = refl
kept_seen p (r ∷ rs) =
    elim (p (row_seen r)) as (λ b. map row_seen (cond b (r ∷ filter (λ (s : Row). p (row_seen s)) rs) (filter (λ (s : Row). p (row_seen s)) rs))
    ≡ cond b (row_seen r ∷ filter p (map row_seen rs)) (filter p (map row_seen rs))) [
      | true ↦ ap (λ k. row_seen r ∷ k) (kept_seen p rs)
      | false ↦ kept_seen p rs
    ]

pub new_seen : (x : Content) (rs : List Row) → map row_seen (filter (λ (r : Row). is_new x (row_seen r)) rs) ≡ filter (is_new x) (map row_seen rs)
new_seen x rs = kept_seen (is_new x) rs

pub with_status : (wanted : Status) (rs : List Row) → map row_seen (filter (λ (r : Row). has_status wanted (row_seen r)) rs) ≡ filter (has_status wanted) (map row_seen rs)
with_status wanted rs = kept_seen (has_status wanted) rs
