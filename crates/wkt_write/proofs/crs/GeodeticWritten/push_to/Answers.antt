use Rattle.std.proofs.Common.{ap}
use Rattle.std.proofs.lemmas.Result.{on_ok_weaker}
use Rattle.wkt_grammar.specs.Words.{spelling}
use Rattle.wkt_write.proofs.Writes.{also, also_last, also_one, also_some, named, whole}
use Rattle.wkt_write.proofs.crs.GeodeticWritten.push_to.Goals as goal

pub returns : goal.returns
returns c =
    on_ok_weaker c.push_close.result (λ e. whole _ _ _ _ _ (named _ _ _ _ c.in_ok-inside.ensures.text (ap spelling c.geodetic_keyword.ensures)) c.in_ok-inside.ensures.inside c.in_ok-push_to.ensures
    (also_one c.in_ok-push_one.ensures
    (also _ _ c.in_ok-push_maybe.ensures
    (also_one c.in_ok-push_one-2.ensures
    (also_some _ _ c.in_ok-push_some.ensures
    (also _ _ c.in_ok-push_maybe-2.ensures
    (also _ _ c.in_ok-push_each.ensures
    (also _ _ c.in_ok-push_each-2.ensures
    (also_last _ c.in_ok-push_remark.ensures e))))))))) c.push_close.ensures
