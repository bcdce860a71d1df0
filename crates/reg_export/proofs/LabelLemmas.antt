-- Without names of offices, no id has a label.
use Rattle.std.proofs.Common.{◌≡◌, ℕ, Bool, true, false, List, [], if◌then◌else◌, refl, ap}
use Rattle.std.specs.Str.{bytes_eq}
use Rattle.std.proofs.lemmas.Slice.Eq.{bytes_eq-Decides}
use Rattle.csv_table.specs.Shown.{shown}
use Rattle.crs_export.specs.Graphs.{caption}
use Rattle.reg_op.specs.Ids.{Id}
use Rattle.reg_op.specs.Operations.{Ops}
use Rattle.reg_op.specs.Status.{enters}
use Rattle.reg_op.specs.Text.{printed}
use Rattle.reg_export.specs.Graph.{named, label_for, label_of}

pub no_label : ((keeps : Bool) (text : List ℕ) → shown keeps [] text ≡ text) → (s : Ops) (i : Id) → label_of [] s i ≡ []
no_label as_is s i =
    let same : bytes_eq (named [] i) (printed i) ≡ true = (bytes_eq-Decides (named [] i) (printed i)).1 (as_is false (printed i)) in
    elim (enters s i) as (λ b. (if b then [] else label_for (printed i) (named [] i)) ≡ []) [
      | true ↦ refl
      | false ↦ ap (λ b. if b then [] else caption (printed i) (named [] i)) same
    ]
