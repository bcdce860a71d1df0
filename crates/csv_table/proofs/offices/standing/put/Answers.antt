use Rattle.std.proofs.Common.{List, ℕ, ap, ◌∙◌, ◌++◌, Some, subst}
use Rattle.std.specs.BTreeMap.{UpdatesBy}
use Rattle.std.specs.Cmp.Lexicographic.{slice_cmp}
use Rattle.std.specs.Global.{Vec}
use Rattle.std.specs.Ordering.{nat_cmp}
use Rattle.csv_table.specs.Standing.{joined}
use Rattle.csv_table.proofs.StandingLemmas.{put_more, copied}
use Rattle.csv_table.proofs.offices.standing.put.Goals as goal

pub returns : goal.returns
returns c = λ later has.
    put_more c.args.key.now c.args.value.now c.args.map.now c.insert.new.self c.joined-one.result later
    (subst (λ (l : List ℕ). UpdatesBy (λ (x y : Vec ℕ). slice_cmp nat_cmp x.items y.items) (λ (k : Vec ℕ). slice_cmp nat_cmp l k.items) c.args.map.now c.insert.new.self (Some c.joined-one.result))
    (c.in_ok-extend_from_slice.ensures.items ∙ ap (λ l. l ++ c.args.key.now) c.new-own.ensures.items) c.in_ok-insert.ensures.updates)
    (c.joined-one.ensures ∙ ap (joined c.args.value.now) (copied c.get.result _ c.get.ensures.value)) has
