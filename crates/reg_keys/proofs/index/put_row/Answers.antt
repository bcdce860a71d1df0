use Rattle.std.proofs.Common.{map, sym, subst}
use Rattle.std.specs.BTreeMap.{get}
use Rattle.std.specs.Ordering.{is_eq}
use Rattle.reg_report.specs.Seen.{row_seen}
use Rattle.reg_keys.specs.Index.{IsSpelled, AreChosen, spelling_cmp, rows_in}
use Rattle.reg_keys.proofs.IndexLemmas.{put_in, twice}
use Rattle.reg_keys.proofs.index.put_row.Goals as goal

pub returns : goal.returns
returns c = λ rs holds q.
    let s = c.in_ok-spelling.spelling in
    let old = get spelling_cmp c.args.by_key.now q in
    let new = get spelling_cmp c.insert.new.self q in
    let before = c.take-rows.result.items in
    put_in (row_seen c.args.row) rs s.bytes.items q.bytes.items (rows_in old) (rows_in new) (map row_seen before) (map row_seen c.push_row.new.rows.items) c.in_ok-spelling.ensures
    (subst (AreChosen (IsSpelled s.bytes.items) rs) (sym c.take-rows.ensures.found) (holds s))
    c.in_ok-push_row.ensures
    (twice (is_eq (spelling_cmp s q)) c.push_row.new.rows new (get spelling_cmp c.take-rows.new.by_key q) old (c.in_ok-insert.ensures.updates.0 q) (c.take-rows.ensures.rest q))
    (holds q)
