-- Sources that may be the file which a command replaces.
use Rattle.std.specs.Prelude.{ℕ, Bool, [], ◌∷◌, List, Option, Some, None, if◌then◌else◌}
use Rattle.byte_io.specs.Device.{SourceState}

-- the bytes that the source gave, if it keeps them: it is the file that the command replaces
abbrev pub kept_of : Bool → SourceState → Option (List ℕ)
kept_of keeps s = if keeps then Some s.given else None

-- the bytes that were given by the first of several sources that keeps its bytes
abbrev pub first_kept : List (Option (List ℕ)) → Option (List ℕ)
first_kept [] = None
first_kept (None ∷ rest) = first_kept rest
first_kept (Some bytes ∷ rest) = Some bytes

-- the source, which has given nothing yet
abbrev pub anew : SourceState → SourceState
anew s = record { left = s.left; given = []; failures = s.failures; ends = s.ends }
