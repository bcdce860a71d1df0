use Rattle.std.proofs.Common.{sym, ◌∙◌}
use Rattle.reg_texts.specs.Listing.{names_successor}
use Rattle.reg_texts.proofs.ListingLemmas.{any_at}
use Rattle.reg_texts.proofs.listing.is_any_named.Goals as goal

pub returns-then-is_named : goal.returns-then-is_named
returns-then-is_named c = sym (any_at names_successor c.args.sayings.now c.loop-saying.saying-index _ c.loop-saying-test.true (sym c.is_named.ensures ∙ c.if-is_named.true))
