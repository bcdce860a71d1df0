use Rattle.std.proofs.Common.{map, ap, subst}
use Rattle.wkt_compare.specs.Texts.{piece_of}
use Rattle.reg_op.specs.Rows.{rows}
use Rattle.reg_texts.specs.Gathered.{Each}
use Rattle.reg_texts.specs.Given.{IsTextAgainst, IsFirstUnread}
use Rattle.reg_texts.proofs.GivenLemmas.{file_unread}
use Rattle.reg_texts.proofs.against.compared_texts.Goals as goal

pub returns-in-Ok-all_against-clause-ok : goal.returns-in-Ok-all_against-clause-ok
returns-in-Ok-all_against-clause-ok c =
    let text = c.in-Ok-all_against.text.items in
    let rs = rows c.args.register.now.ops in (
      map piece_of c.in-Ok-texts.cuts.items,
      c.in-Ok-texts.ensures,
      subst (λ l. Each (IsTextAgainst c.args.name.now rs) l text) (ap (map piece_of) c.deref.ensures.value) (c.in-Ok-all_against.ensures.ok rs c.in-Ok.ensures),
    )

pub returns-clause-fault : goal.returns-clause-fault
returns-clause-fault c =
    file_unread c.args.file.now (map piece_of c.in-Ok-texts.cuts.items) c.in-Err.why c.in-Ok-texts.ensures
    (subst (λ l. IsFirstUnread l c.in-Err.why) (ap (map piece_of) c.deref.ensures.value) c.in-Err.ensures.fault)
