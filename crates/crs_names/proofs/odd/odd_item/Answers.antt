use Rattle.std.proofs.Common.{[], None, refl}
use Rattle.std.specs.Option.{option_map}
use Rattle.crs_exact.specs.Said.{sentence}
use Rattle.crs_names.specs.Nodes.{all_of_single}
use Rattle.crs_names.specs.Odd.{first_odd}
use Rattle.crs_names.proofs.FoundLemmas.{all_met}
use Rattle.crs_names.proofs.odd.odd_item.Goals as goal

pub returns : goal.returns
returns c =
    let nodes = all_of_single c.args.crs.now [] in
    all_met (option_map sentence c.show_single.new.to.found) (first_odd c.args.seek nodes)
    (c.show_single.ensures (record { seek = c.args.seek; found = None }) nodes [] (refl, refl)).1
