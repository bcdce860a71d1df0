use Rattle.std.proofs.Common.{map}
use Rattle.std.specs.String.{string_bytes}
use Rattle.reg_import.specs.Lines.{lines_of}
use Rattle.reg_import.proofs.LineLemmas.{one_more}
use Rattle.reg_import.proofs.listing.write_texts.Goals as goal

pub loop-text-preserved : goal.loop-text-preserved
loop-text-preserved c =
    one_more (map string_bytes c.args.listing.now.names.now) c.args.listing.now.changes (lines_of c.args.texts.now c.args.told.now) c.loop-text.texts.now c.in-Some-Some.others.now c.loop-text.told.now c.in-Some-Some.later.now
    c.in-Some-Some.text.now c.in-Some-Some.this.now c.args.wtr.now c.loop-text.wtr c.write_where_shown.new.wtr c.in-Some-Some.ensures.cases.0 c.in-Some-Some.ensures'.cases.0 c.in_ok-write_where_shown.ensures c.loop-text.invariant
