-- The result for a whole tree.
use Rattle.std.proofs.Common.{◌≡◌, ℕ, suc, ◌≤◌, ◌<◌, Bool, true, false, cond, List, [], ◌∷◌, ◌++◌, length, Some, None, refl, sym, ap, ◌∙◌, subst, append-nil, arith}
use Rattle.std.specs.Prelude.{◌⊎◌, ◌&&◌, Ok, Err}
use Rattle.wkt_tree.specs.declared.token.Delimiter.{Delimiter}
use Rattle.wkt_tree.specs.declared.token.TokenKind.TheVariants.{Word, Close, Open}
use Rattle.wkt_tree.specs.Tree.{Piece, Tok, tok, Items, node, last, tokens, all_tokens}
use Rattle.wkt_tree.specs.Tokens.{First, Front, Cut, end_of}
use Rattle.wkt_grammar.specs.declared.table.Edition.{Edition}
use Rattle.wkt_grammar.specs.declared.table.Slot.{Slot}
use Rattle.wkt_grammar.specs.declared.table.Takes.TheVariants as kinds
use Rattle.std.specs.Option.{option_map}
use Rattle.wkt_grammar.specs.declared.fault.SlotFault.TheVariants.{Missing}
use Rattle.wkt_grammar.specs.declared.table.Argument.{Argument}
use Rattle.wkt_grammar.specs.declared.table.Node.TheVariants as nodes
use Rattle.wkt_grammar.specs.declared.walk.RowPosition.{RowPosition}
use Rattle.wkt_grammar.specs.Rows.{row_of, takes}
use Rattle.wkt_grammar.specs.Walk.{next, missing}
use Rattle.wkt_grammar.specs.declared.fault.SlotFault.{SlotFault}
use Rattle.wkt_grammar.specs.Slots.{argument, begin, whole, IsClean, IsFirst, place}
use Rattle.wkt_grammar.specs.First.{refusal, missing_fault, item_fault, items_fault, rest_at, AnswersItem}
use Rattle.wkt_grammar.proofs.Steps.{start, taken_ok, taken_err}
use Rattle.wkt_grammar.proofs.Found.{Rising, items_sound, items_found}
use Rattle.wkt_grammar.proofs.Reach.{items_has, fault_in}

-- ---- the places of tokens ascend

first_rises : (place : ℕ) (bytes : List ℕ) (t : Tok) (rest : List ℕ) → First place bytes t rest → place ≤ t.piece.place
first_rises place bytes t rest f = let e = f.blank.moved in omega (arith, e)

front_rises : (ts : List Tok) (lo place : ℕ) (bytes : List ℕ) (place' : ℕ) (rest : List ℕ) → lo ≤ place → Front place bytes ts place' rest → Rising lo ts place'
front_rises [] lo place bytes place' rest h f = let e = f.0 in omega (arith, e, h)
front_rises (t ∷ ts) lo place bytes place' rest h f =
    let a = first_rises place bytes t f.0 f.1 in
    let n = ap length f.1.lexeme.parts in
    (omega (arith, a, h), front_rises ts (suc t.piece.place) (end_of t) f.0 place' rest (omega (arith, n)) f.2)

-- the upper bound can be lowered to the place after that of the last token
rising_last : (ts : List Tok) (t : Tok) (lo hi : ℕ) → Rising lo (ts ++ t ∷ []) hi → Rising lo (ts ++ t ∷ []) (suc t.piece.place)
rising_last [] t lo hi r = (r.0, omega arith)
rising_last (x ∷ ts) t lo hi r = (r.0, rising_last ts t (suc x.piece.place) hi r.1)

pub cut_rises : (bytes : List ℕ) (ts : List Tok) → Cut 0 bytes ts → (k : Piece) (d : Delimiter) (o : Piece) (items : Items) (c : Piece) → ts ≡ tokens (node k d o items c) → Rising 0 (tokens (node k d o items c)) (suc c.place)
cut_rises bytes ts cut k d o items c e =
    rising_last (tok Word k ∷ tok (Open d) o ∷ all_tokens items) (tok (Close d) c) 0 cut.place' (subst (λ l. Rising 0 l cut.place') e (front_rises ts 0 0 bytes cut.place' cut.rest (omega arith) cut.front))

-- ---- the row of the root

root_end : (ed : Edition) (a : Argument) (l : List Slot) → next (row_of ed nodes.Root) false a ≡ Some l → missing l true ≡ None
root_end ed a l e = elim (takes_root a) as (λ b. cond (b && true) (Some (row_of ed nodes.Root)) None ≡ Some l → missing l true ≡ None) [
  | true ↦ λ g. let same : row_of ed nodes.Root ≡ l = cc in subst (λ x. missing x true ≡ None) same refl
  | false ↦ λ g. absurd cc
] e
  where
    takes_root : Argument → Bool
    takes_root a = takes kinds.AnyCrs a

-- ---- the theorems

append-nil_at : (ts : List Tok) → ts ≡ ts ++ []
append-nil_at ts = sym (append-nil ts)

module _ (ed : Edition) (bytes : List ℕ) (ts : List Tok) (cut : Cut 0 bytes ts) (old new : List Tok) (same : old ≡ ts) where
  pub clean : (p : RowPosition) → AnswersItem ed nodes.Root start old new (Ok p) → IsClean ed ts
  clean p ans k d o items c e f h =
      let t = node k d o items c in
      let a = ans t [] (same ∙ (e ∙ append-nil_at (tokens t))) refl in
      let none : items_fault ed nodes.Root (row_of ed nodes.Root) false (last t) (suc c.place) ≡ None = taken_ok (refusal (row_of ed nodes.Root) false (argument t) (begin t)) (item_fault ed nodes.Root t) (λ l. missing_fault l (suc c.place)) (next (row_of ed nodes.Root) false (argument t)) (rest_at ed nodes.Root p) a.1 a.3
      ∙ ap (λ x. option_map (λ s. Missing s (suc c.place)) x) (root_end ed (argument t) (rest_at ed nodes.Root p) a.1) in
      let g = items_found ed (last t) nodes.Root (row_of ed nodes.Root) false 0 (suc c.place) f (cut_rises bytes ts cut k d o items c e) (fault_in ed (whole t (suc c.place)) f (last t) refl h) in
      let x = sym none ∙ g.1 in
      absurd cc

  pub first_is : (f : SlotFault) → AnswersItem ed nodes.Root start old new (Err f) → IsFirst ed ts f
  first_is f ans k d o items c e =
      let t = node k d o items c in
      let a = ans t [] (same ∙ (e ∙ append-nil_at (tokens t))) refl in
      let some : items_fault ed nodes.Root (row_of ed nodes.Root) false (last t) (suc c.place) ≡ Some f = taken_err (refusal (row_of ed nodes.Root) false (argument t) (begin t)) f (item_fault ed nodes.Root t) (λ l. missing_fault l (suc c.place)) (next (row_of ed nodes.Root) false (argument t)) a in (
        items_has ed (last t) nodes.Root (row_of ed nodes.Root) false (suc c.place) f [] refl (items_sound ed (last t) nodes.Root (row_of ed nodes.Root) false (suc c.place) f some),
        λ g h.
            let x = items_found ed (last t) nodes.Root (row_of ed nodes.Root) false 0 (suc c.place) g (cut_rises bytes ts cut k d o items c e) (fault_in ed (whole t (suc c.place)) g (last t) refl h) in
            let q = sym some ∙ x.1 in
            let eq : f ≡ x.0 = cc in
            subst (λ y. (g ≡ y) ⊎ (place y < place g)) (sym eq) x.2,
      )
