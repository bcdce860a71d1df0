use Rattle.std.proofs.Common.{rules, map, ap, ◌∙◌}
use Rattle.std.proofs.lemmas.Fn.{dedup_same}
use Rattle.reg_report.specs.Conflicts.{bytes_of}
use Rattle.reg_news.specs.Keys.{same_key}
use Rattle.reg_news.proofs.KeyLemmas.{dedup_map}
use Rattle.reg_news.proofs.keys.distinct.Goals as goal

pub returns : goal.returns
returns c =
    ap (map bytes_of) (dedup_same _ (λ a b. same_key (bytes_of a) (bytes_of b)) _ (λ x y b f x' y' k. search rules) c.args.keys.items c.dedup_by.new.self.items c.dedup_by.ensures.filtered)
    ∙ dedup_map bytes_of same_key c.args.keys.items
