-- A text spells at most one value, and none if it has a fault.
use Rattle.std.proofs.Common.{◌≡◌, ℕ, suc, List, Some, sym, ap, ◌∙◌, subst, arith}
use Rattle.std.proofs.Common.{inl, inr}
use Rattle.crs_part.specs.declared.crs.CrsParts.{CrsParts}
use Rattle.crs_value.specs.declared.crs.Crs.{Crs}
use Rattle.crs_value.proofs.Wholes.{same_crs}
use Rattle.wkt_tree.specs.declared.token.Delimiter.{Delimiter}
use Rattle.wkt_tree.specs.Tree.{Piece, Tok, Item, Items, node, tokens}
use Rattle.wkt_tree.specs.Tokens.{Cut}
use Rattle.wkt_tree.specs.Faults.{IsOutline}
use Rattle.wkt_tree.proofs.Cuts.{one_cut}
use Rattle.wkt_tree.proofs.OneTree.{one_tree}
use Rattle.wkt_grammar.specs.declared.table.Edition.TheVariants as editions
use Rattle.wkt_grammar.specs.declared.fault.SlotFault.{SlotFault}
use Rattle.wkt_grammar.specs.Slots.{whole, HasFault, IsClean, IsFirst}
use Rattle.wkt_grammar.specs.Bare.{bare}
use Rattle.wkt_grammar.specs.Denotes.{DenotesParts}
use Rattle.wkt_grammar.proofs.Nodes.{parts_law}
use Rattle.wkt_crs.specs.Spells.{Spells}
use Rattle.wkt_crs.specs.Faults.{FirstSlot, FirstBroken}
use Rattle.wkt_crs.specs.Passing.{TellsPlace}
use Rattle.wkt_crs.proofs.Systems.{told_place}
use Rattle.wkt_tree.specs.Cut.{cut}
use Rattle.crs_value.specs.declared.broken.Broken.{Broken}
use Rattle.crs_value.specs.Checking.{first_broken}
use Rattle.wkt_grammar.proofs.Clean.{fits_clean}

pub one_item : (text : List ℕ) (i j : Item) → Cut 0 text (tokens i) → Cut 0 text (tokens j) → i ≡ j
one_item text i j f g = one_tree i j (one_cut text (tokens i) (tokens j) f g)

-- the tree of a text denotes the parts of the value that the text spells
pub one_parts : (text : List ℕ) (v : Crs) (i : Item) (parts : CrsParts) → Spells text v → Cut 0 text (tokens i) → DenotesParts (bare i) parts → v.parts ≡ parts
one_parts text v i parts s cut d = parts_law.once (bare i) v.parts parts (subst (λ j. DenotesParts (bare j) v.parts) (one_item text s.item i s.outline.cut cut) s.denotes) d

pub one_value : (text : List ℕ) (v w : Crs) → Spells text v → Spells text w → v ≡ w
one_value text v w s t = same_crs v w (one_parts text v t.item w.parts s t.outline.cut t.denotes)

-- the text has the tokens of a tree that denotes the parts
pub record Denoted (text : List ℕ) (parts : CrsParts) : Type 0 where
  pub item : Item
  pub outline : IsOutline text (tokens item)
  pub denotes : DenotesParts (bare item) parts

-- a tree that denotes a value has no slot fault
denoted_clean : (text : List ℕ) (parts : CrsParts) (k : Piece) (d : Delimiter) (o : Piece) (items : Items) (c : Piece) → Denoted text parts → Cut 0 text (tokens (node k d o items c)) → (f : SlotFault) → HasFault editions.Second (whole (node k d o items c) (suc c.place)) f → ⊥
denoted_clean text parts k d o items c s cut =
    fits_clean editions.Second text k d o items c cut (parts_law.fits (bare (node k d o items c)) parts (subst (λ j. DenotesParts (bare j) parts) (one_item text s.item (node k d o items c) s.outline.cut cut) s.denotes))

pub no_slot_fault : (text : List ℕ) (parts : CrsParts) (f : SlotFault) → Denoted text parts → FirstSlot text f → ⊥
no_slot_fault text parts f s h =
    let t = h.outline.tree in
    denoted_clean text parts t.keyword t.delimiter t.opening t.items t.closing s (subst (λ ts. Cut 0 text ts) t.spelled h.outline.cut) f (h.first t.keyword t.delimiter t.opening t.items t.closing t.spelled).0

pub of_spells : (text : List ℕ) (v : Crs) → Spells text v → Denoted text v.parts
of_spells text v s = record { item = s.item; outline = s.outline; denotes = s.denotes }

pub no_slot : (text : List ℕ) (v : Crs) (f : SlotFault) → Spells text v → FirstSlot text f → ⊥
no_slot text v f s h = no_slot_fault text v.parts f (of_spells text v s) h

pub not_clean : (text : List ℕ) (ts : List Tok) (f : SlotFault) → Cut 0 text ts → IsClean editions.Second ts → FirstSlot text f → ⊥
not_clean text ts f cut clean h =
    let t = h.outline.tree in
    clean t.keyword t.delimiter t.opening t.items t.closing (one_cut text ts h.toks cut h.outline.cut ∙ t.spelled) f (h.first t.keyword t.delimiter t.opening t.items t.closing t.spelled).0

pub one_slot : (text : List ℕ) (f g : SlotFault) → FirstSlot text f → FirstSlot text g → f ≡ g
one_slot text f g a b =
    let t = a.outline.tree in
    let same : b.toks ≡ tokens (node t.keyword t.delimiter t.opening t.items t.closing) = one_cut text b.toks a.toks b.outline.cut a.outline.cut ∙ t.spelled in
    let x = a.first t.keyword t.delimiter t.opening t.items t.closing t.spelled in
    let y = b.first t.keyword t.delimiter t.opening t.items t.closing same in
    elim (y.1 f x.0) [
      | inl e ↦ e
      | inr less ↦ elim (x.1 g y.0) [
        | inl e ↦ sym e
        | inr more ↦ absurd (omega (arith, less, more))
      ]
    ]

-- ---- the results of the steps of reading

pub slot_told : (text outline : List ℕ) (f : SlotFault) → outline ≡ text → IsOutline text (cut 0 text) → IsFirst editions.Second (cut 0 outline) f → FirstSlot text f
slot_told text outline f e o h = record { toks = cut 0 text; outline = o; first = subst (λ b. IsFirst editions.Second (cut 0 b) f) e h }

pub clean_told : (text outline : List ℕ) (f : SlotFault) → outline ≡ text → IsOutline text (cut 0 text) → IsClean editions.Second (cut 0 outline) → FirstSlot text f → ⊥
clean_told text outline f e o h s = not_clean text (cut 0 text) f o.cut (subst (λ b. IsClean editions.Second (cut 0 b)) e h) s

-- a text that spells a value has no slot fault
pub spelled_clean : (text outline : List ℕ) (v : Crs) → outline ≡ text → IsOutline text (cut 0 text) → Spells text v → IsClean editions.Second (cut 0 outline)
spelled_clean text outline v e o s = λ k d q items c is f h.
    denoted_clean text v.parts k d q items c (of_spells text v s) (subst (λ ts. Cut 0 text ts) (sym (ap (cut 0) e) ∙ is) o.cut) f h

pub denoted : (text outline : List ℕ) (parts : CrsParts) → outline ≡ text → IsOutline text (cut 0 text) → IsClean editions.Second (cut 0 outline)
    → ((k : Piece) (d : Delimiter) (o : Piece) (items : Items) (c : Piece) → cut 0 outline ≡ tokens (node k d o items c) → IsClean editions.Second (cut 0 outline) → DenotesParts (bare (node k d o items c)) parts)
    → Denoted text parts
denoted text outline parts e o clean builds =
    let t = o.tree in
    record {
      item = node t.keyword t.delimiter t.opening t.items t.closing;
      outline = subst (λ ts. IsOutline text ts) t.spelled o;
      denotes = builds t.keyword t.delimiter t.opening t.items t.closing (ap (cut 0) e ∙ t.spelled) clean;
    }

pub spells_of : (text : List ℕ) (parts : CrsParts) (crs : Crs) → Denoted text parts → crs.parts ≡ parts → Spells text crs
spells_of text parts crs d e = record { item = d.item; outline = d.outline; denotes = subst (λ p. DenotesParts (bare d.item) p) (sym e) d.denotes }

pub parts_of : (text : List ℕ) (parts : CrsParts) (v : Crs) → Denoted text parts → Spells text v → v.parts ≡ parts
parts_of text parts v d s = one_parts text v d.item parts s d.outline.cut d.denotes

-- the first condition that fails, and its place
pub broken_told : (text outline : List ℕ) (parts : CrsParts) (b : Broken) (at : ℕ) → outline ≡ text → IsOutline text (cut 0 text) → Denoted text parts → first_broken parts ≡ Some b → TellsPlace (cut 0 outline) b.whose at → FirstBroken text b.condition at
broken_told text outline parts b at e o d broken h =
    let same : cut 0 outline ≡ tokens d.item = ap (cut 0) e ∙ one_cut text (cut 0 text) (tokens d.item) o.cut d.outline.cut in
    record {
      item = d.item;
      outline = d.outline;
      value = parts;
      denotes = d.denotes;
      whose = b.whose;
      broken = broken;
      place = told_place d.item parts b.whose b.condition at d.denotes broken (subst (λ ts. TellsPlace ts b.whose at) same h);
    }
