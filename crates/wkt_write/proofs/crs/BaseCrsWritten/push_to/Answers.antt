use Rattle.std.proofs.Common.{ap}
use Rattle.std.proofs.lemmas.Result.{on_ok_weaker}
use Rattle.wkt_grammar.specs.Words.{spelling}
use Rattle.wkt_write.proofs.Writes.{also, also_last, also_one, named, whole}
use Rattle.wkt_write.proofs.crs.BaseCrsWritten.push_to.Goals as goal

pub returns : goal.returns
returns c =
    on_ok_weaker c.push_close.result (λ e. whole _ _ _ _ _ (named _ _ _ _ c.in_ok-inside.ensures.text (ap spelling c.base_keyword.ensures)) c.in_ok-inside.ensures.inside c.in_ok-push_to.ensures
    (also_one c.in_ok-push_one.ensures
    (also _ _ c.in_ok-push_maybe.ensures
    (also _ _ c.in_ok-push_maybe-2.ensures
    (also_last _ c.in_ok-push_each.ensures e))))) c.push_close.ensures
