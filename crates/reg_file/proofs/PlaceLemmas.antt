-- The places of operations: the number of bytes from each one to the end of the file.
use Rattle.std.proofs.Common.{◌≡◌, ℕ, List, [], ◌∷◌, ◌++◌, length, sym, ap, ◌∙◌, append_assoc}
use Rattle.std.specs.List.{flat_map}
use Rattle.std.proofs.lemmas.List.{append-nil}
use Rattle.std.proofs.lemmas.List.Concat.{flat_map-cons}
use Rattle.reg_op.specs.Ids.{Id}
use Rattle.reg_op.specs.Operations.{Op}
use Rattle.reg_file.specs.declared.op_offset.OpOffset.{OpOffset}
use Rattle.reg_file.specs.Layout.{op_bytes}
use Rattle.reg_file.specs.Reading.{places_of}

abbrev place_at : Id → ℕ → OpOffset
place_at id left = record { id = id; left = left }

pub flat-push : (version : ℕ) (os : List Op) (o : Op) (rest : List ℕ) → flat_map (op_bytes version) (os ++ o ∷ []) ++ rest ≡ flat_map (op_bytes version) os ++ (op_bytes version o ++ rest)
flat-push version [] o rest = ap (λ (t : List ℕ). t ++ rest) (flat_map-cons (op_bytes version) o [] ∙ append-nil (op_bytes version o))
flat-push version (x ∷ os) o rest =
    ap (λ (t : List ℕ). t ++ rest) (flat_map-cons (op_bytes version) x (os ++ o ∷ [])) ∙ append_assoc (op_bytes version x) (flat_map (op_bytes version) (os ++ o ∷ [])) rest
    ∙ ap (λ (t : List ℕ). op_bytes version x ++ t) (flat-push version os o rest)
    ∙ sym (ap (λ (t : List ℕ). t ++ (op_bytes version o ++ rest)) (flat_map-cons (op_bytes version) x os) ∙ append_assoc (op_bytes version x) (flat_map (op_bytes version) os) (op_bytes version o ++ rest))

pub places-push : (version : ℕ) (os : List Op) (o : Op) (rest : List ℕ) → places_of version (os ++ o ∷ []) rest ≡ places_of version os (op_bytes version o ++ rest) ++ place_at o.id (length (op_bytes version o ++ rest)) ∷ []
places-push version [] o rest = ap (λ (t : List ℕ). place_at o.id (length t) ∷ []) (flat-push version [] o rest)
places-push version (x ∷ os) o rest = λ k. place_at x.id (length (flat-push version (x ∷ os) o rest k)) ∷ places-push version os o rest k
