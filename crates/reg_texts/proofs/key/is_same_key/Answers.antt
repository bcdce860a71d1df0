use Rattle.std.proofs.Common.{ap, arith}
use Rattle.std.proofs.lemmas.Slice.Eq.{slice_eq-Decides}
use Rattle.std.proofs.lemmas.Bool.Decides.{Decides-eqb}
use Rattle.reg_report.specs.Conflicts.{KeyBytes}
use Rattle.reg_texts.proofs.key.is_same_key.Goals as goal

pub returns-then-eq : goal.returns-then-eq
returns-then-eq c =
    let a = slice_eq-Decides Decides-eqb _ _ _ c.eq.ensures in
    let b = slice_eq-Decides Decides-eqb _ _ _ c.eq-then-eq.ensures in (
      λ h j. record { authority = a.0 c.if-eq.true j; code = b.0 h j },
      λ e. b.1 (ap (λ (k : KeyBytes). k.code) e),
    )

pub returns-else-eq : goal.returns-else-eq
returns-else-eq c =
    let a = slice_eq-Decides Decides-eqb _ _ _ c.eq.ensures in
    let f = c.if-eq.false in (
      λ h. absurd (grind arith),
      λ e. let t = a.1 (ap (λ (k : KeyBytes). k.authority) e) in grind arith,
    )
