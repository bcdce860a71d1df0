use Rattle.std.proofs.Common.{◌≡◌, ℕ, map, take}
use Rattle.std.specs.Global.{Vec}
use Rattle.reg_export.specs.KeyFiles.{keyed, plain_name}
use Rattle.reg_export.proofs.files.plain_names.Given as goal

abbrev pub invariant-loop-text : goal.invariant-loop-text
invariant-loop-text l = map (λ (n : Vec ℕ). n.items) l.names.items ≡ map plain_name (map keyed (take l.text-index l.texts))
