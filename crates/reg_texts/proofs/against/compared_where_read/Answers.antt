use Rattle.std.proofs.Common.{map, ap, subst}
use Rattle.wkt_compare.specs.Texts.{piece_of}
use Rattle.reg_op.specs.Rows.{rows}
use Rattle.reg_texts.specs.Gathered.{Each}
use Rattle.reg_texts.specs.Given.{IsTextOrNone, IsFirstLeft}
use Rattle.reg_texts.proofs.against.compared_where_read.Goals as goal

pub returns : goal.returns
returns c =
    let made = c.in_ok-made.made in
    let cuts = ap (map piece_of) c.deref.ensures.value in
    let rs = rows c.args.register.now.ops in (
      map piece_of c.in_ok-cuts.cuts.items,
      c.in_ok-cuts.ensures,
      subst (λ l. Each (IsTextOrNone c.args.name.now rs) l made.text.items) cuts (c.in_ok-made.ensures.text rs c.in_ok-index.ensures),
      subst (λ l. IsFirstLeft l made.first) cuts c.in_ok-made.ensures.first,
    )
