-- The registers and pieces that files gave, and their join.
use Rattle.std.proofs.Common.{◌≡◌, ◌∷◌, [], List, ℕ, refl, ap, sym, append-nil, arith, Some, None, ◌∙◌}
use Rattle.std.specs.declared.option.Option.{Option}
use Rattle.std.specs.Io.KnownBytes.{Consumes}
use Rattle.byte_io.specs.Device.{SourceState}
use Rattle.reg_op.specs.Contents.{Content}
use Rattle.reg_engine.specs.Inputs.{NoneFails}

-- ---- files that were read

consumes_none : (left : Option (List ℕ)) → Consumes left left []
consumes_none None = tt
consumes_none (Some xs) = refl

pub none_given : (os : List SourceState) → NoneFails os os
none_given [] = tt
none_given (o ∷ os) = (([], sym (append-nil o.given), consumes_none o.left, omega (arith), refl), none_given os)

-- ---- the first of the registers

abbrev head_of : Content → List Content → Content
head_of d [] = d
head_of d (x ∷ xs) = x

pub first_is : (x first : Content) (xs ys later : List Content) → xs ≡ x ∷ ys → xs ≡ first ∷ later → first ≡ x
first_is x first xs ys later e h = ap (head_of x) (sym h ∙ e)
