use Rattle.std.proofs.Common.{sym, ◌∙◌}
use Rattle.wkt_build.proofs.LeafLemmas.{number_code_made, text_code_made}
use Rattle.wkt_build.proofs.leaves.NumberOrTextBuilt.build.Goals as goal

pub returns-then-number_comes-clause-builds : goal.returns-then-number_comes-clause-builds
returns-then-number_comes-clause-builds c = number_code_made c.args.cursor.now c.take_number.new.cursor c.take_number.result (sym c.number_comes.ensures ∙ c.if-number_comes.true) c.take_number.ensures.takes

pub returns-clause-builds : goal.returns-clause-builds
returns-clause-builds c = text_code_made c.args.cursor.now c.take_text.new.cursor c.in_ok-text.text (sym c.number_comes.ensures ∙ c.if-number_comes.false) c.in_ok-text.ensures.takes
