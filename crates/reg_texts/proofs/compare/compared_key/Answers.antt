use Rattle.std.proofs.Common.{map, None, Some, ap, sym, ◌∙◌, subst}
use Rattle.std.proofs.lemmas.List.{nil_from_length}
use Rattle.reg_keys.specs.Named.{Answers}
use Rattle.reg_report.specs.Seen.{row_seen}
use Rattle.reg_texts.specs.Gathered.{Each}
use Rattle.reg_texts.specs.Compare.{IsChosen, IsFirstAgainst, seen_rows}
use Rattle.reg_texts.proofs.compare.compared_key.Goals as goal

pub returns-in_default : goal.returns-in_default
returns-in_default c =
    let found = c.in_ok-found.found.items in (
      seen_rows found,
      subst (λ rs. Each (IsChosen (Answers c.args.key.now)) rs (seen_rows found)) (ap (map row_seen) c.deref.ensures.value ∙ c.in_ok-rows.ensures.rows) c.in_ok-found.ensures,
      subst (λ l. IsFirstAgainst (seen_rows l) None) (sym (sym c.deref-2.ensures.value ∙ nil_from_length c.deref-2.result.now c.in_default.ensures.cases)) tt,
    )

pub returns : goal.returns
returns c =
    let found = c.in_ok-found.found.items in (
      seen_rows found,
      subst (λ rs. Each (IsChosen (Answers c.args.key.now)) rs (seen_rows found)) (ap (map row_seen) c.deref.ensures.value ∙ c.in_ok-rows.ensures.rows) c.in_ok-found.ensures,
      subst (λ l. IsFirstAgainst (seen_rows l) (Some c.in_ok-text.text)) (sym (sym c.deref-2.ensures.value ∙ c.in-Some.ensures.cases.0)) c.in_ok-text.ensures,
    )
