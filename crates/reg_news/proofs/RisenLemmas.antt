-- Offices that rose by more than what came of them.
use Rattle.std.proofs.Common.{◌≡◌, List, Result, Ok, Err, ap, ◌∙◌}
use Rattle.std.specs.Prelude.{IfOk}
use Rattle.std.specs.List.{flat_map}
use Rattle.reg_op.specs.Ids.{Ids}
use Rattle.reg_op.specs.Contents.{Content}
use Rattle.reg_query.specs.declared.figures.office.OfficeFigures.{OfficeFigures}
use Rattle.reg_query.specs.Offices.{AreOffices}
use Rattle.reg_news.specs.declared.gained.risen.Risen.{Risen}
use Rattle.reg_news.specs.Hidden.{risen_of, AreRisen}

pub are_risen : {V E : Type 0} (view : V → List Risen) (seen : Ids) (c : Content) (os given : List OfficeFigures) (r : Result V E) → AreOffices c os → given ≡ os
    → IfOk r (λ v. view v ≡ flat_map (risen_of seen) given) → IfOk r (λ v. AreRisen seen c (view v))
are_risen view seen c os given (Ok v) are same is = (os, are, is ∙ ap (flat_map (risen_of seen)) same)
are_risen view seen c os given (Err e) are same is = tt
