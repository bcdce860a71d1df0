use Rattle.std.proofs.Common.{rules, map, ap, ◌∙◌}
use Rattle.std.proofs.lemmas.Fn.{dedup_same}
use Rattle.std.proofs.lemmas.List.Sorted.{answers_always, IsPermutation-map}
use Rattle.std.specs.Ordering.{is_lt, is_eq}
use Rattle.reg_report.proofs.SortLemmas.{sorted_items}
use Rattle.reg_disorder.specs.Disorders.{keyed_cmp}
use Rattle.reg_disorder.specs.Lists.{listed_seen}
use Rattle.reg_disorder.proofs.ListLemmas.{keyed_total, keyed_exact, by_order, sorted_map, dedup_map, exact_of}
use Rattle.reg_disorder.proofs.listed.in_order.Goals as goal

pub returns : goal.returns
returns c =
    let xs = c.args.listed.items in
    let ys = c.sort_unstable_by.new.self.items in
    let up = c.sort_unstable_by.ensures.sorted (λ a b. is_lt (keyed_cmp (listed_seen a) (listed_seen b))) by_order (answers_always _ _ _ (λ f a r g h. search rules)) in
    let kept = dedup_same _ (λ a b. is_eq (keyed_cmp (listed_seen a) (listed_seen b))) _ (λ x y b f x' y' k. search rules) ys c.dedup_by.new.self.items c.dedup_by.ensures.filtered in
    sorted_items keyed_total keyed_exact (λ a b. is_eq (keyed_cmp a b)) (exact_of keyed_total keyed_exact) (map listed_seen xs) (map listed_seen ys) (map listed_seen c.dedup_by.new.self.items)
    (IsPermutation-map listed_seen xs ys c.sort_unstable_by.ensures.permutation)
    (sorted_map listed_seen (λ a b. is_lt (keyed_cmp a b)) ys up)
    (ap (map listed_seen) kept ∙ dedup_map listed_seen (λ a b. is_eq (keyed_cmp a b)) ys)
