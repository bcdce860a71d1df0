-- The lock of a shelf.
use Rattle.std.specs.Prelude.{Bool, true, false, Option, Some, None}
use Rattle.byte_out.specs.declared.lock.Lock.{Lock}
use Rattle.byte_out.specs.declared.lock.Lock.TheVariants as lock
use Rattle.reg_engine.specs.declared.fault.ShelfProblem.{ShelfProblem}
use Rattle.reg_engine.specs.declared.fault.ShelfProblem.TheVariants as problem

-- why a shelf is not used, if asking for its lock ended so, and whether the command changes it. One that another command has is busy.
-- Where the file system has no locks, a shelf is read, and not changed
abbrev pub lock_problem : Lock → Bool → Option ShelfProblem
lock_problem lock.Taken changes = None
lock_problem lock.Held changes = Some problem.Busy
lock_problem lock.Missing true = Some problem.NotLocked
lock_problem lock.Missing false = None
