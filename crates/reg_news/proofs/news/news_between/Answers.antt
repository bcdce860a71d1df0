use Rattle.std.proofs.Common.{length, map, ap, sym, ◌∙◌}
use Rattle.std.proofs.lemmas.List.{length-map}
use Rattle.reg_op.specs.declared.status.Status.TheVariants.{Superseded, Retired}
use Rattle.reg_report.specs.Conflicts.{bytes_of}
use Rattle.reg_report.specs.Seen.{row_seen}
use Rattle.reg_disorder.specs.declared.disorder.Disorder.TheVariants.{Duplicates, Dangling, Withdrawn}
use Rattle.reg_news.specs.News.{count_of, HaveAmiss, AreFresh}
use Rattle.reg_news.specs.Codes.{AreTold, code_seen}
use Rattle.reg_news.proofs.KeyLemmas.{of_rows}
use Rattle.reg_news.proofs.news.news_between.Goals as goal

pub returns : goal.returns
returns c =
    let e = c.requires.earlier in
    let l = c.requires.later in
    let x = c.args.old.now in
    let y = c.args.new.now in record {
      entries_before = sym (length-map c.args.earlier.now row_seen) ∙ ap length e;
      entries = sym (length-map c.args.later.now row_seen) ∙ ap length l;
      superseded_before = c.count_superseded.ensures ∙ ap (count_of Superseded) e;
      superseded = c.count_superseded-2.ensures ∙ ap (count_of Superseded) l;
      retired_before = c.count_retired.ensures ∙ ap (count_of Retired) e;
      retired = c.count_retired-2.ensures ∙ ap (count_of Retired) l;
      conflicts = c.in_ok-conflicts.ensures;
      duplicates = of_rows (λ rs ss. AreFresh (HaveAmiss Duplicates) rs ss (map bytes_of c.in_ok-duplicates.duplicates.items)) _ _ _ _ e l c.in_ok-duplicates.ensures;
      dangling = of_rows (λ rs ss. AreFresh (HaveAmiss Dangling) rs ss (map bytes_of c.in_ok-dangling.dangling.items)) _ _ _ _ e l c.in_ok-dangling.ensures;
      codes = of_rows (λ rs ss. AreTold rs ss (map code_seen c.in_ok-codes.codes.items)) _ _ _ _ e l c.in_ok-codes.ensures;
      withdrawn = of_rows (λ rs ss. AreFresh (HaveAmiss Withdrawn) rs ss (map bytes_of c.in_ok-withdrawn.withdrawn.items)) _ _ _ _ e l c.in_ok-withdrawn.ensures;
      awaited_before = c.in_ok-awaited.ensures.before;
      awaited = c.in_ok-awaited.ensures.now;
      gaps_before = c.in_ok-gaps.ensures.before;
      gaps = c.in_ok-gaps.ensures.now;
    }
