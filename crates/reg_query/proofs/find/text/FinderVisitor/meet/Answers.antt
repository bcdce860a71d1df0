use Rattle.std.proofs.Common.{◌↔◌, Option, IsTrue, subst}
use Rattle.crs_part.specs.declared.text.Text.{Text}
use Rattle.crs_names.specs.Nodes.{part_of}
use Rattle.reg_query.specs.Texts.{HasTextPart, IsNamedWith}
use Rattle.reg_query.proofs.TextLemmas.{found_now}
use Rattle.reg_query.proofs.find.text.FinderVisitor.meet.Goals as goal

pub returns-then-not-self : goal.returns-then-not-self
returns-then-not-self c = λ first all rest (same, is).
    let new = c.has_text_part-self.result in
    let has = subst (λ (t : Option Text). IsTrue new ↔ HasTextPart c.args.self.now.part.now t) c.searched_name.ensures c.has_text_part-self.ensures in
    let step = found_now (IsNamedWith first.part.now) c.args.self.now.found new (part_of c.args.node) rest c.if-not-self.true
    (subst (λ p. IsTrue new ↔ IsNamedWith p (part_of c.args.node)) same has) in
    (same, (λ h. is.0 (step.0 h), λ h. step.1 (is.1 h)))
