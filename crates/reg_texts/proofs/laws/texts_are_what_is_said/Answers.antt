use Rattle.std.proofs.Common.{sym, subst}
use Rattle.reg_op.specs.Rows.{rows}
use Rattle.reg_texts.specs.Listing.{AreBlocks, runs}
use Rattle.reg_texts.proofs.LawLemmas.{one_listing, one_said}
use Rattle.reg_texts.proofs.laws.texts_are_what_is_said.Goals as goal

pub returns : goal.returns
returns c = λ x y t u same a b. one_listing (runs a.said) t u a.listing (subst (λ ss. AreBlocks (runs ss) u) (sym (one_said (rows x.ops) (rows y.ops) a.said b.said same a.are b.are)) b.listing)
