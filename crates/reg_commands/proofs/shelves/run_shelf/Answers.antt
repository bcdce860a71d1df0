use Rattle.std.proofs.Common.{◌≡◌, Bool, IsTrue, true, subst, ◌∙◌, rules}
use Rattle.reg_commands.proofs.shelves.run_shelf.Goals as goal

pub returns-in-Ok-clause-made : goal.returns-in-Ok-clause-made
returns-in-Ok-clause-made g c =
    let sized : c.is_size.result ≡ true = search rules in
    let before : IsTrue (g.D.Disk.tells c.format.new.disk) → IsTrue (g.D.Disk.tells c.open.new.self) = λ told. subst (λ (b : Bool). IsTrue b) c.in-Ok.ensures.tells told in record {
      between = c.open.new.self;
      emptied = record { opened = c.in_default.ensures.counts.1; quiet = c.in_default.ensures.counts.0; empty = c.in_default.ensures.empty };
      quiet = c.in-Ok.ensures.counts ∙ c.in_default.ensures.counts.0;
      sized = c.is_size.ensures.0 sized;
      has = λ told. (c.in-Ok.ensures.done (before told)).1;
      sure = λ told. (c.in-Ok.ensures.done (before told)).0;
    }
