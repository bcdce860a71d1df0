use Rattle.std.proofs.Common.{ap, ℕ}
use Rattle.std.proofs.lemmas.List.{nil_from_length}
use Rattle.html_page.proofs.JoinLemmas.{leads_init, leads_more}
use Rattle.reg_page.proofs.LoopLemmas.{as_others, mapped}
use Rattle.std.specs.Global.{Vec}
use Rattle.html_page.specs.Templates.{question}
use Rattle.reg_page.proofs.entries.push_questions.Goals as goal

pub loop-one-init : goal.loop-one-init
loop-one-init c = leads_init (λ (a : Vec ℕ). question a.items) c.args.page.now.items c.args.questions.now

pub loop-one-preserved : goal.loop-one-preserved
loop-one-preserved c = leads_more {x = c.in-Some.one.now} c.loop-one.invariant c.in-Some.ensures.cases.0 (as_others _ (question c.in-Some.one.now.items) (ap question c.deref.ensures.value) c.in_ok-push_question.ensures)

pub returns : goal.returns
returns c = mapped question (λ (a : Vec ℕ). a.items) c.args.page.now.items c.args.questions.now c.loop-one.invariant (nil_from_length _ c.in_default.ensures.cases)
