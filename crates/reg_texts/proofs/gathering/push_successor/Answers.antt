use Rattle.std.proofs.Common.{[], ◌∷◌, map, sym, ap, ◌∙◌, append-nil, refl, inl, inr, arith}
use Rattle.std.proofs.lemmas.List.{map-append}
use Rattle.reg_report.specs.Seen.{row_seen}
use Rattle.reg_texts.specs.Said.{said}
use Rattle.reg_texts.proofs.gathering.push_successor.Goals as goal

pub returns-in_default : goal.returns-in_default
returns-in_default c = ([], inr (c.in_default.ensures.none, refl), sym (append-nil (map said c.args.made.now.items)))

pub returns-then-not-is_live : goal.returns-then-not-is_live
returns-then-not-is_live c = (
  [],
  inl (row_seen c.in-Some.newer.now, c.in-Some.ensures.some, inr (λ s. let t = c.is_live.ensures.1 s in let f = c.if-not-is_live.true in grind arith, refl)),
  sym (append-nil (map said c.args.made.now.items)),
)

pub returns : goal.returns
returns c = (
  said c.successor_of.result ∷ [],
  inl (row_seen c.in-Some.newer.now, c.in-Some.ensures.some, inl (c.is_live.ensures.0 c.if-not-is_live.false, (said c.successor_of.result, c.successor_of.ensures, refl))),
  ap (map said) c.in_ok-push.ensures.items ∙ map-append said c.args.made.now.items (c.successor_of.result ∷ []),
)
