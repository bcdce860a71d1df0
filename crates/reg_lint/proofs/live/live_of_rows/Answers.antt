use Rattle.std.proofs.Common.{List, [], refl, sym, subst}
use Rattle.reg_lint.specs.declared.kept.KeptSubject.{KeptSubject}
use Rattle.reg_lint.specs.Subjects.{AreKept}
use Rattle.reg_lint.proofs.LiveLemmas.{more_lives}
use Rattle.reg_lint.proofs.live.live_of_rows.Goals as goal

pub loop-row-init : goal.loop-row-init
loop-row-init c = ([], refl, subst (λ (ks : List KeptSubject). AreKept ks []) (sym c.in_ok-kept.ensures.items) tt)

pub loop-row-preserved : goal.loop-row-preserved
loop-row-preserved c = more_lives c.loop-row.yielded c.in-Some.row c.in_ok-live.live c.loop-row.kept.items c.push_some.new.kept.items
    c.in_ok-live.ensures c.in_ok-push_some.ensures c.loop-row.invariant
