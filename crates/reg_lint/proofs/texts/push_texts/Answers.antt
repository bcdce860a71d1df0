use Rattle.std.proofs.Common.{map, ap, subst}
use Rattle.wkt_compare.specs.Texts.{piece_of}
use Rattle.reg_lint.specs.Texts.{AreTextsKept, IsFirstUnread}
use Rattle.reg_lint.proofs.TextLemmas.{file_unread}
use Rattle.reg_lint.proofs.texts.push_texts.Goals as goal

pub returns-in-Ok-push_cuts-clause-ok : goal.returns-in-Ok-push_cuts-clause-ok
returns-in-Ok-push_cuts-clause-ok c = (
  map piece_of c.in-Ok.cuts.items,
  c.in-Ok.ensures,
  subst (λ l. AreTextsKept c.args.name.now l c.args.kept.now.items c.push_cuts.new.kept.items) (ap (map piece_of) c.deref.ensures.value) c.in-Ok-push_cuts.ensures.ok,
)

pub returns-clause-fault : goal.returns-clause-fault
returns-clause-fault c =
    file_unread c.args.file.now (map piece_of c.in-Ok.cuts.items) c.in-Err.why c.in-Ok.ensures
    (subst (λ l. IsFirstUnread l c.in-Err.why) (ap (map piece_of) c.deref.ensures.value) c.in-Err.ensures.fault)
