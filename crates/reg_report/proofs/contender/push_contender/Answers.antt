use Rattle.std.proofs.Common.{rules, ◌≡◌, inr, refl}
use Rattle.reg_op.specs.declared.status.Status.{Status}
use Rattle.reg_op.specs.declared.status.Status.TheVariants.{Retired}
use Rattle.reg_report.proofs.contender.push_contender.Goals as goal

pub returns : goal.returns
returns c =
    let row = c.args.row.now in
    let stands : ◌≡◌ {A = Status} row.status Retired → ⊥ = search rules in
    inr (
      λ e. stands (let same : ◌≡◌ {A = Status} row.status Retired = cc in same),
      (
        record { key = c.in_ok-key.key; definition = c.in_ok-definition.definition; entry = row.entry },
        record { entry = refl; definition = c.in_ok-definition.ensures; keyed = c.in_ok-key.ensures },
        c.in_ok-push.ensures.items,
      ),
    )
