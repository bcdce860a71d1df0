use Rattle.std.proofs.Common.{List, map, ap, ◌∙◌, subst, sym}
use Rattle.reg_report.specs.Seen.{row_seen}
use Rattle.reg_disorder.specs.declared.listed.ListedEntry.{ListedEntry}
use Rattle.reg_disorder.specs.Disorders.{AreAmiss, how_many}
use Rattle.reg_disorder.specs.Lists.{listed_seen}
use Rattle.reg_disorder.proofs.listing.count_amiss.Goals as goal

pub returns : goal.returns
returns c =
    let rs = map row_seen c.args.rows.now in
    let same = c.deref.ensures.value in (
      map listed_seen c.in_ok-listed.listed.items,
      c.in_ok-listed.ensures,
      c.how_many.ensures rs (subst (λ (l : List ListedEntry). AreAmiss c.args.way rs (map listed_seen l)) (sym same) c.in_ok-listed.ensures) ∙ ap (λ (l : List ListedEntry). how_many c.args.way (map listed_seen l)) same,
    )
