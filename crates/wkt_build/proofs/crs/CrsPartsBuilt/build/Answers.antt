use Rattle.std.proofs.Common.{sym, ap, ◌∙◌}
use Rattle.wkt_build.specs.Choices.{is_compound}
use Rattle.wkt_build.proofs.Chosen.{compound_placed, root_single}
use Rattle.wkt_build.proofs.crs.CrsPartsBuilt.build.Goals as goal

pub returns-then-is_compound-clause-builds : goal.returns-then-is_compound-clause-builds
returns-then-is_compound-clause-builds c = compound_placed c.args.cursor.now c.build_compound.new.cursor c.in_ok-compound.compound c.in_ok-boxed.boxed c.in_ok-boxed.ensures (ap is_compound (sym c.next_keyword.ensures) ∙ (sym c.is_compound.ensures ∙ c.if-is_compound.true)) c.in_ok-compound.ensures.builds

pub returns-clause-builds : goal.returns-clause-builds
returns-clause-builds c = λ x rest f n. c.in_ok-single.ensures.builds x rest (root_single x c.args.cursor.now rest (ap is_compound (sym c.next_keyword.ensures) ∙ (sym c.is_compound.ensures ∙ c.if-is_compound.false)) f n) n
