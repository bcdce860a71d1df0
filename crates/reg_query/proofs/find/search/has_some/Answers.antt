use Rattle.std.proofs.Common.{map, refl, sym, ap, ◌∙◌}
use Rattle.std.proofs.lemmas.Bool.{true≢false}
use Rattle.std.proofs.lemmas.List.{length-map}
use Rattle.crs_value.proofs.AnyLemmas.{first_is, passed, none_is}
use Rattle.reg_keys.specs.Named.{HasWord}
use Rattle.reg_report.specs.Seen.{row_seen}
use Rattle.reg_query.proofs.find.search.has_some.Goals as goal

pub returns-then-has_key : goal.returns-then-has_key
returns-then-has_key c = (
  λ h. c.loop-row.invariant.1 (first_is (HasWord c.args.word.now) (row_seen c.in-Some.row.now) (map row_seen c.loop-row.rest.now) (map row_seen c.in-Some.others.now) (ap (map row_seen) c.in-Some.ensures.cases.0) (c.has_key.ensures.0 c.if-has_key.true)),
  λ h. refl,
)

pub loop-row-preserved : goal.loop-row-preserved
loop-row-preserved c =
    let step = passed (HasWord c.args.word.now) (row_seen c.in-Some.row.now) (map row_seen c.loop-row.rest.now) (map row_seen c.in-Some.others.now) (ap (map row_seen) c.in-Some.ensures.cases.0) (λ p. true≢false (sym (c.has_key.ensures.1 p) ∙ c.if-has_key.false)) in
    (λ h. step.0 (c.loop-row.invariant.0 h), λ h. c.loop-row.invariant.1 (step.1 h))

pub returns : goal.returns
returns c =
    let last = none_is (HasWord c.args.word.now) (map row_seen c.loop-row.rest.now) (length-map c.loop-row.rest.now row_seen ∙ c.in_default.ensures.cases) in
    (λ h. c.loop-row.invariant.1 (last.0 h), λ h. last.1 (c.loop-row.invariant.0 h))
