use Rattle.std.proofs.Common.{[], ◌∷◌, sym, ap, ◌∙◌, append-nil, refl, inl, inr, arith}
use Rattle.std.proofs.lemmas.List.{map-append}
use Rattle.reg_report.specs.Seen.{row_seen}
use Rattle.reg_texts.specs.Compare.{seen_rows}
use Rattle.reg_texts.proofs.choice.push_chosen.Goals as goal

pub returns-then-not-takes : goal.returns-then-not-takes
returns-then-not-takes g c = ([], inr (λ s. let t = c.takes.ensures.1 s in let f = c.if-not-takes.true in grind arith, refl), sym (append-nil (seen_rows c.args.found.now.items)))

pub returns : goal.returns
returns g c = (
  row_seen c.args.row.now ∷ [],
  inl (c.takes.ensures.0 c.if-not-takes.false, refl),
  ap seen_rows c.in_ok-push.ensures.items ∙ map-append (λ r. row_seen r.now) c.args.found.now.items _,
)
