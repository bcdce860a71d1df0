-- The row that a slot assigns to a keyword.
use Rattle.std.proofs.Common.{◌≡◌, ℕ, ◌<◌, List, length, get_or, sym, subst}
use Rattle.std.specs.Prelude.{Some}
use Rattle.wkt_grammar.specs.declared.table.Edition.{Edition}
use Rattle.wkt_grammar.specs.declared.table.Node.{Node}
use Rattle.wkt_grammar.specs.declared.table.Keyword.{Keyword}
use Rattle.wkt_grammar.specs.declared.table.Slot.{Slot}
use Rattle.wkt_grammar.specs.Rows.{enters, row_in, row_of}
use Rattle.wkt_grammar.proofs.Tables.{decides}

-- the row that a slot assigns to a keyword is the one that the whole row assigns to it
pub entered : (e : Edition) (n m : Node) (row : List Slot) (i : ℕ) (d : Slot) (k : Keyword) → row ≡ row_of e n → i < length row → enters (get_or row i d).takes k ≡ Some m → Some m ≡ row_in (row_of e n) k
entered e n m row i d k is =
    subst (λ r. i < length r → enters (get_or r i d).takes k ≡ Some m → Some m ≡ row_in (row_of e n) k) (sym is) (λ h g. sym (decides e n m i d k h g))
