use Rattle.std.proofs.Common.{map, ℕ, List, inr}
use Rattle.std.specs.Borrow.{Bor}
use Rattle.reg_op.specs.Rows.{rows}
use Rattle.reg_commands.proofs.KeyedLemmas.{first_fails, other_fails}
use Rattle.reg_commands.proofs.words.meaning.entries_meant.Goals as goal

pub returns-in-Some-clause-ok : goal.returns-in-Some-clause-ok
returns-in-Some-clause-ok c = c.in-Some.ensures (rows c.args.loaded.now.ops) (rows c.args.register.now.ops) c.in-Ok.ensures

pub returns-in-Err-every_of-clause-fault : goal.returns-in-Err-every_of-clause-fault
returns-in-Err-every_of-clause-fault c =
    let xs = rows c.args.loaded.now.ops in
    let zs = rows c.args.register.now.ops in
    inr (first_fails xs zs (map (λ (w : Bor (List ℕ)). w.now) c.args.words.now) (map (λ (w : Bor (List ℕ)). w.now) c.args.newer.now) c.in-Err-every_of.fault c.fault_of.result
    (c.in-Err-every_of.ensures.fault xs zs c.in-Ok-index_of_register.ensures c.in-Ok.ensures) c.fault_of.ensures)

pub returns-clause-fault : goal.returns-clause-fault
returns-clause-fault c =
    let xs = rows c.args.loaded.now.ops in
    let zs = rows c.args.register.now.ops in
    inr (other_fails xs zs (map (λ (w : Bor (List ℕ)). w.now) c.args.words.now) (map (λ (w : Bor (List ℕ)). w.now) c.args.newer.now) c.in-Ok-every_of.changed.items c.in-Err-each_of.fault
    c.fault_of-in-Err-each_of.result (c.in-Ok-every_of.ensures.ok xs zs c.in-Ok-index_of_register.ensures c.in-Ok.ensures)
    (c.in-Err-each_of.ensures.fault xs zs c.in-Ok-index_of_register.ensures c.in-Ok.ensures) c.fault_of-in-Err-each_of.ensures)
