use Rattle.std.proofs.Common.{◌≡◌, ◌++◌, ℕ, List, [], refl, ap, map, subst, inl, inr}
use Rattle.crs_export.specs.Features.{listed}
use Rattle.crs_export.specs.declared.markup.TheConstants.{COLLECTION_START, COLLECTION_END}
use Rattle.reg_export.specs.Geojson.{BeginsWith}
use Rattle.reg_export.specs.Kept.{row_at}
use Rattle.reg_export.specs.Written.{IsCutShort}
use Rattle.reg_export.proofs.WrittenLemmas.{begins, left_before}
use Rattle.reg_export.proofs.geojson.write_geojson.Goals as goal

pub returns-in-Err-clause-fault : goal.returns-in-Err-clause-fault
returns-in-Err-clause-fault g c =
    inr (record {
      some = [];
      later = map row_at c.args.rows.now;
      are_first = refl;
      text = COLLECTION_START.now ++ listed [];
      begins = ([], refl, refl);
      stops = left_before (listed []) (begins (g.K.Sink.state c.args.sink.now) COLLECTION_START.now);
    })

pub returns-in-Ok-finish-clause-written : goal.returns-in-Ok-finish-clause-written
returns-in-Ok-finish-clause-written g c =
    let start = c.in-Ok.waiting.items in
    let is : start ≡ COLLECTION_START.now = c.in-Ok.ensures.items_if_clones_equal (λ x y h. h) in
    let made = c.in-Ok-write_rows.ensures.passed in (
      start ++ listed made.0 ++ COLLECTION_END.now,
      (made.0, made.1, ap (λ l. l ++ listed made.0 ++ COLLECTION_END.now) is),
      c.in-Ok-finish.ensures.written (g.K.Sink.state c.args.sink.now) (start ++ listed made.0) made.2,
    )

pub returns-clause-fault : goal.returns-clause-fault
returns-clause-fault g c =
    let start = c.in-Ok.waiting.items in
    let is : start ≡ COLLECTION_START.now = c.in-Ok.ensures.items_if_clones_equal (λ x y h. h) in
    let made = c.in-Ok-write_rows.ensures.passed in
    inl (
      start ++ listed made.0 ++ COLLECTION_END.now,
      (made.0, made.1, ap (λ l. l ++ listed made.0 ++ COLLECTION_END.now) is),
      c.in-Err-finish.ensures.fault (g.K.Sink.state c.args.sink.now) (start ++ listed made.0) made.2,
    )

pub returns-in-Err-write_rows-clause-fault : goal.returns-in-Err-write_rows-clause-fault
returns-in-Err-write_rows-clause-fault g c =
    let is : c.in-Ok.waiting.items ≡ COLLECTION_START.now = c.in-Ok.ensures.items_if_clones_equal (λ x y h. h) in
    inr (subst (λ (start : List ℕ). IsCutShort (BeginsWith start) (map row_at c.args.rows.now) (g.K.Sink.state c.args.sink.now) (g.K.Sink.state c.write_rows.new.sink) c.in-Err-write_rows.fault) is c.in-Err-write_rows.ensures.fault)
