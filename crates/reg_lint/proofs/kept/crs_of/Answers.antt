use Rattle.std.proofs.Common.{ℕ, List, sym, ◌∙◌, subst}
use Rattle.std.proofs.lemmas.Result.{IfOk-weaker}
use Rattle.wkt_crs.specs.Spells.{Spells}
use Rattle.reg_lint.specs.declared.kept.KeptForm.{KeptForm}
use Rattle.reg_lint.specs.Subjects.{IsForm}
use Rattle.reg_lint.proofs.kept.crs_of.Goals as goal

pub returns-in-Value : goal.returns-in-Value
returns-in-Value c = λ s is. IfOk-weaker c.another.result _ _ (λ made e. e ∙ subst (λ (f : KeptForm). IsForm f s.crs) c.in-Value.is is.1) c.another.ensures

pub returns-in-Entry : goal.returns-in-Entry
returns-in-Entry c = λ s is. c.of_entry.ensures s.crs (subst (λ (f : KeptForm). IsForm f s.crs) c.in-Entry.is is.1)

pub returns-in-Text : goal.returns-in-Text
returns-in-Text c = λ s is. c.of_text.ensures s.crs (subst (λ (t : List ℕ). Spells t s.crs) (sym c.deref.ensures.value) (subst (λ (f : KeptForm). IsForm f s.crs) c.in-Text.is is.1))
