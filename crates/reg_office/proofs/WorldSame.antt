-- Offices that have reached the same operations have the same reports.
use Rattle.std.proofs.Common.{◌≡◌, ℕ, List, sym, ap, ◌∙◌, subst}
use Rattle.reg_op.specs.Contents.{Content, state}
use Rattle.reg_report.specs.declared.writing.ReportKind.{ReportKind}
use Rattle.reg_report.specs.Exports.{export}
use Rattle.reg_report.specs.Reports.{IsReport, IsOpsReport}
use Rattle.reg_office.specs.World.{World}
use Rattle.reg_report.proofs.ReportLemmas.{one_report}
use Rattle.reg_office.proofs.WorldInvariant.{Invariant}

module _ (w : World) (inv : Invariant w) (i j : List ℕ) (same : (w.offices i).reached ≡ (w.offices j).reached) where
  same_content : (w.offices i).content ≡ (w.offices j).content
  same_content = inv.content i ∙ ap state same ∙ sym (inv.content j)

  pub same_reports : (kind : ReportKind) (text other : List ℕ) → IsReport kind (w.offices i).content text → IsReport kind (w.offices j).content other → text ≡ other
  same_reports kind text other h k = one_report kind (w.offices i).content text other h (subst (λ x. IsReport kind x other) (sym same_content) k)

  pub same_ops_reports : (text other : List ℕ) → IsOpsReport (w.offices i).content text → IsOpsReport (w.offices j).content other → text ≡ other
  same_ops_reports text other h k = h ∙ sym (subst (λ x. IsOpsReport x other) (sym same_content) k)

  pub same_exports : export (w.offices i).content.ops ≡ export (w.offices j).content.ops
  same_exports = ap (λ (x : Content). export x.ops) same_content
