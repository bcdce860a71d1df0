use Rattle.std.proofs.Common.{ℕ, ◌≤◌, List, length, Vec, Global, Option, Some, None}
use Rattle.std.specs.Prelude.{IfSome}
use Rattle.wkt_write.specs.Condensed.{IsCondensed}
use Rattle.wkt_write.specs.CondensedLaw.{IsReadAs}
use Rattle.wkt_write.proofs.Rebuilding.{read_as}
use Rattle.wkt_write.proofs.condensing.walk.condense.Goals as goal

some_written : (bytes : List ℕ) (r : Option (Vec ℕ Global)) → length bytes ≤ 1048576 → IfSome r (λ v. IsCondensed bytes v.items) → IfSome r (λ v. IsReadAs bytes v.items)
some_written bytes None short h = h
some_written bytes (Some v) short h = read_as bytes v.items short h

pub returns-clause-reads : goal.returns-clause-reads
returns-clause-reads c = some_written c.args.text.now c.go_over.result c.if-text-gt-MAX_TEXT.false c.go_over.ensures
