-- The rows of links, one after another.
use Rattle.std.proofs.Common.{◌≡◌, ℕ, List, [], ◌∷◌, ◌++◌, length, map, refl, sym, ap, ◌∙◌, subst, arith, append_assoc, append-nil}
use Rattle.std.proofs.lemmas.List.{map_push}
use Rattle.std.specs.Borrow.{Bor}
use Rattle.reg_op.specs.Rows.{Row}
use Rattle.reg_report.specs.declared.row.Row.{Row as MadeRow}
use Rattle.reg_report.specs.Seen.{row_seen}
use Rattle.reg_report.specs.Rows.{HasRow}
use Rattle.reg_disorder.specs.declared.linking.link.Link.{Link}
use Rattle.reg_disorder.specs.Rows.{HaveRows}

-- the rows so far, followed by those of the remaining links, are those of all links
pub record RowsSoFar (rs : List Row) (all rest : List Link) (made : List Row) : Type 0 where
  pub completes : (more : List Row) → HaveRows rs rest more → HaveRows rs all (made ++ more)

pub no_rows : (rs : List Row) (all : List Link) → RowsSoFar rs all all []
no_rows rs all = record { completes = λ more h. h }

abbrev seen : Bor MadeRow → Row
seen r = row_seen r.now

pub more_rows : (rs : List Row) (all rest others : List Link) (l : Link) (old : List (Bor MadeRow)) (r : Bor MadeRow) (new : List (Bor MadeRow)) → rest ≡ l ∷ others → HasRow rs l.old (seen r) → new ≡ old ++ r ∷ []
    → RowsSoFar rs all rest (map seen old) → RowsSoFar rs all others (map seen new)
more_rows rs all rest others l old r new e has pushed done = record {
  completes = λ more h.
      subst (λ made. HaveRows rs all (made ++ more)) (sym (ap (map seen) pushed ∙ map_push seen old r))
      (subst (HaveRows rs all) (sym (append_assoc (map seen old) (seen r ∷ []) more))
      (done.completes (seen r ∷ more) (subst (λ ls. HaveRows rs ls (seen r ∷ more)) (sym e) (seen r, more, has, h, refl))));
}

pub all_rows : (rs : List Row) (all rest : List Link) (made : List Row) → length rest ≡ 0 → RowsSoFar rs all rest made → HaveRows rs all made
all_rows rs all [] made e done = subst (HaveRows rs all) (append-nil made) (done.completes [] refl)
all_rows rs all (l ∷ rest) made e done = absurd (omega (arith, e))
