-- Registers that make the same statements have equal listings.
use Rattle.std.proofs.Common.{◌≡◌, ◌↔◌, ℕ, List, [], ◌∷◌, ◌++◌, ap, sym, ◌∙◌}
use Rattle.wkt_crs.specs.Spells.{pretty}
use Rattle.wkt_crs.proofs.Texts.{one_value}
use Rattle.reg_op.specs.Rows.{Row}
use Rattle.reg_report.proofs.OrderLemmas.{same_elements}
use Rattle.reg_texts.specs.Said.{Said, AreSaid, Says}
use Rattle.reg_texts.specs.Listing.{Run, IsBlock, AreBlocks, key_text, status_text}
use Rattle.reg_texts.proofs.SayingLemmas.{said_total}

one_block : (s : Said) (others : List Said) (a b : List ℕ) → IsBlock s others a → IsBlock s others b → a ≡ b
one_block s others a b h k =
    let same = one_value s.text h.crs k.crs h.spelled k.spelled in
    h.is ∙ ap (λ c. key_text s.key ++ (32 ∷ (status_text s others ++ (10 ∷ (pretty c ++ (10 ∷ 10 ∷ [])))))) same ∙ sym k.is

pub one_listing : (rs : List Run) (a b : List ℕ) → AreBlocks rs a → AreBlocks rs b → a ≡ b
one_listing [] a b h k = h ∙ sym k
one_listing (r ∷ rs) a b (block, rest, is, others, e) (block2, rest2, is2, others2, e2) =
    e ∙ (λ j. one_block r.first r.others block block2 is is2 j ++ one_listing rs rest rest2 others others2 j) ∙ sym e2

pub one_said : (rs qs : List Row) (ss ts : List Said) → ((s : Said) → Says rs s ↔ Says qs s) → AreSaid rs ss → AreSaid qs ts → ss ≡ ts
one_said rs qs ss ts same a b =
    same_elements said_total ss ts a.ascend b.ascend (λ s. (λ h. (b.each s).1 ((same s).0 ((a.each s).0 h)), λ h. (a.each s).1 ((same s).1 ((b.each s).0 h))))
