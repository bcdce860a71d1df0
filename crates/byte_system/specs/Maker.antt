-- Whether the command that made a lock file has ended for sure.
use Rattle.std.specs.Prelude.{ℕ, Bool, not, ◌&&◌, ◌||◌, List, codes, bytes_eq}

-- where a command runs: the machine, what the machine was started as, and the device of the folder, each as a word
pub record Where : Type 0 where
  pub machine : List ℕ
  pub boot : List ℕ
  pub device : List ℕ

-- the word is one of the system, and not what stands for one that cannot be read
abbrev pub is_known : List ℕ → Bool
is_known word = not (bytes_eq word (codes "-"))

-- on one device, and since one start of a machine, a lock tells whether its command lives
abbrev pub is_here : Where → Where → Bool
is_here left own = bytes_eq left.boot own.boot && bytes_eq left.device own.device && is_known left.boot && is_known left.device

-- the machine was started anew in between
abbrev pub is_restarted : List ℕ → List ℕ → Bool
is_restarted left own = not (bytes_eq left own) && is_known left && is_known own

-- no command outlives the start of its machine
abbrev pub is_earlier : Where → Where → Bool
is_earlier left own = bytes_eq left.machine own.machine && is_known left.machine && is_restarted left.boot own.boot

-- whoever gets its lock knows that its command has ended
abbrev pub is_proof : Where → Where → Bool
is_proof left own = is_here left own || is_earlier left own
