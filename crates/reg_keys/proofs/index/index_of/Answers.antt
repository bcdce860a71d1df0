use Rattle.std.proofs.Common.{[], ◌∷◌, map, sym, subst}
use Rattle.std.proofs.lemmas.List.{map-append}
use Rattle.reg_report.specs.Seen.{row_seen}
use Rattle.reg_keys.specs.Index.{Holds}
use Rattle.reg_keys.proofs.IndexLemmas.{nothing_held}
use Rattle.reg_keys.proofs.index.index_of.Goals as goal

pub loop-row-init : goal.loop-row-init
loop-row-init c = nothing_held c.new-by_key.result c.new-by_key.ensures.empty

pub loop-row-preserved : goal.loop-row-preserved
loop-row-preserved c =
    subst (Holds c.put_row.new.by_key) (sym (map-append row_seen c.loop-row.yielded (c.in-Some.row ∷ [])))
    (c.in_ok-put_row.ensures (map row_seen c.loop-row.yielded) c.loop-row.invariant)
