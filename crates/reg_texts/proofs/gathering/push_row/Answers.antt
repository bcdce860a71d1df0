use Rattle.std.proofs.Common.{[], ◌∷◌, ◌++◌, map, ap, sym, ◌∙◌, append-nil, append_assoc, refl, inl, inr, arith}
use Rattle.std.proofs.lemmas.List.{map-append}
use Rattle.reg_texts.specs.Said.{said}
use Rattle.reg_texts.proofs.gathering.push_row.Goals as goal

pub returns-then-not-is_live : goal.returns-then-not-is_live
returns-then-not-is_live c = ([], inr (λ s. let t = c.is_live.ensures.1 s in let f = c.if-not-is_live.true in grind arith, refl), sym (append-nil (map said c.args.made.now.items)))

pub returns : goal.returns
returns c =
    let more = c.in_ok-push_successors.ensures in
    let s = said c.status_of.result in (
      s ∷ more.0,
      inl (c.is_live.ensures.0 c.if-not-is_live.false, (s, more.0, c.status_of.ensures, more.1, refl)),
      more.2 ∙ ap (λ l. l ++ more.0) (ap (map said) c.in_ok-push.ensures.items ∙ map-append said c.args.made.now.items (c.status_of.result ∷ [])) ∙ append_assoc (map said c.args.made.now.items) (s ∷ []) more.0,
    )
