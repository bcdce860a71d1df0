use Rattle.std.proofs.Common.{[], map, None, Some, ap, refl}
use Rattle.crs_value.specs.Parts.{lower}
use Rattle.reg_report.specs.Seen.{row_seen}
use Rattle.reg_keys.proofs.IndexLemmas.{found_in}
use Rattle.reg_keys.proofs.index.rows_of_word.Goals as goal

pub returns-in-Some : goal.returns-in-Some
returns-in-Some c = λ rs is.
    found_in c.args.index.now rs (map row_seen c.as_slice.result.now) c.in_ok-spelling.spelling (lower c.args.word.now) (Some c.in-Some.rows.now) is c.in-Some.ensures.value c.in_ok-spelling.ensures
    (ap (map row_seen) c.as_slice.ensures.value)

pub returns : goal.returns
returns c = λ rs is. found_in c.args.index.now rs [] c.in_ok-spelling.spelling (lower c.args.word.now) None is c.in-None.ensures.value c.in_ok-spelling.ensures refl
