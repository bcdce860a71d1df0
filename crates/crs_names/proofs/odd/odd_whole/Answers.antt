use Rattle.std.proofs.Common.{[], None, refl}
use Rattle.std.specs.Option.{option_map}
use Rattle.crs_exact.specs.Said.{sentence}
use Rattle.crs_names.specs.Nodes.{whole_of_compound}
use Rattle.crs_names.specs.Odd.{first_odd}
use Rattle.crs_names.proofs.FoundLemmas.{all_met}
use Rattle.crs_names.proofs.odd.odd_whole.Goals as goal

pub returns : goal.returns
returns c =
    let nodes = whole_of_compound c.args.crs.now [] in
    all_met (option_map sentence c.show_whole.new.to.found) (first_odd c.args.seek nodes)
    (c.show_whole.ensures (record { seek = c.args.seek; found = None }) nodes [] (refl, refl)).1
