-- How a file is written.
use Rattle.std.specs.Prelude.{◌≡◌, Bool, true, false, ℕ, ◌≤◌, List}
use Rattle.byte_out.specs.declared.fault.PutFault.{PutFault}
use Rattle.byte_out.specs.declared.fault.PutFault.TheVariants as put
use Rattle.byte_place.specs.declared.progress.At.{At}
use Rattle.byte_place.specs.declared.progress.At.TheVariants as at
use Rattle.byte_place.specs.declared.path_place.Way.{Way}
use Rattle.byte_place.specs.declared.path_place.Way.TheVariants as way

-- by a new file, which takes the place of the old one
abbrev pub is_beside : Way → Bool
is_beside way.Closed = false
is_beside way.Beside = true
is_beside way.Direct = false

-- at most as many bytes were written as there are
abbrev pub FitsIn : PutFault → ℕ → Type 0
FitsIn (put.WriteFailed n) whole = n ≤ whole
FitsIn f whole = Unit {0}

-- the bytes were put in this way: the new file has the name of the old one; or the device got exactly these bytes
abbrev pub HasPut : Way → At → List ℕ → List ℕ → Type 0
HasPut way.Closed a got bytes = ⊥
HasPut way.Beside a got bytes = a ≡ at.Put
HasPut way.Direct a got bytes = got ≡ bytes
