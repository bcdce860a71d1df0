use Rattle.std.proofs.lemmas.Bool.{true≢false}
use Rattle.std.specs.Str.Parse.{digits_value}
use Rattle.std.proofs.lemmas.Fmt.{decimal_is_IsNumeral}
use Rattle.std.proofs.Common.{arith, ◌∷◌, ◌<◌, ◌^◌, ◌↔◌, Option, Some, None, IsSome, IfSome, ◌≡◌, List, ℕ, take, drop, false, true, sym, ◌∙◌, ap, subst}
use Rattle.std.proofs.lemmas.List.{take_at, drop_at}
use Rattle.std.proofs.lemmas.Option.{same_Some}
use Rattle.uuid.specs.Text.{parsed}
use Rattle.reg_op.specs.Ids.{Id}
use Rattle.reg_op.specs.Text.{Spells, IsCount}
use Rattle.reg_op.proofs.op_id.OpId.parse.Goals as goal

-- in a text that spells an id, the first 36 bytes are the UUID, and the count is the suffix after them
front_is : (text : List ℕ) (i : Id) (h : Spells text i) → take 36 text ≡ h.front
front_is text i h = ap (λ (t : List ℕ). take 36 t) h.whole ∙ take_at h.front h.back 36 h.long

back_is : (text : List ℕ) (i : Id) (h : Spells text i) → drop 36 text ≡ h.back
back_is text i h = ap (λ (t : List ℕ). drop 36 t) h.whole ∙ drop_at h.front h.back 36 h.long

pub returns-in_default-clause-only : goal.returns-in_default-clause-only
returns-in_default-clause-only c = λ i h.
    let e : false ≡ true = c.in_default.ensures.ok.1 (i.replica, ap parsed (c.split_at.ensures.front ∙ front_is c.args.text.now i h) ∙ h.replica_is) in
    absurd cc

pub returns-in_default-count_of-clause-only : goal.returns-in_default-count_of-clause-only
returns-in_default-count_of-clause-only c = λ i h.
    absurd (c.in_default-count_of.ensures.none i.count (let P : List ℕ → Type 0 = λ t. IsCount t i.count in subst P (sym (c.split_at.ensures.back ∙ back_is c.args.text.now i h)) h.count_is))

pub returns-clause-only : goal.returns-clause-only
returns-clause-only c = λ i h.
    made c.new.result i c.in-Ok.replica c.in-Some.count c.new.ensures.some c.new.ensures.value
    (same_Some _ _ (c.in-Ok.ensures.bytes ∙ ap parsed (c.split_at.ensures.front ∙ front_is c.args.text.now i h) ∙ h.replica_is))
    (one_count (c.split_at.result.1.now) c.in-Some.count i.count c.in-Some.ensures.found
    (let P : List ℕ → Type 0 = λ t. IsCount t i.count in subst P (sym (c.split_at.ensures.back ∙ back_is c.args.text.now i h)) h.count_is))
    h.count_is.numeral.positive
  where
    one_rest : (a b : List ℕ) → ◌≡◌ {A = List ℕ} (58 ∷ a) (58 ∷ b) → a ≡ b
    one_rest a b h = cc

    one_count : (t : List ℕ) (m n : ℕ) → IsCount t m → IsCount t n → m ≡ n
    one_count t m n h k =
        let low : m < 2 ^ 64 = lower m h.numeral.fits in
        let low' : n < 2 ^ 64 = lower n k.numeral.fits in
        sym (decimal_is_IsNumeral m low).1
        ∙ ap (digits_value 10) (sym h.numeral.digits ∙ one_rest _ _ (sym h.whole ∙ k.whole) ∙ k.numeral.digits)
        ∙ (decimal_is_IsNumeral n low').1
      where
        lower : (n : ℕ) → n < 2 ^ 32 → n < 2 ^ 64
        lower n h = omega arith

    made : (o : Option Id) (i : Id) (r : List ℕ) (n : ℕ) → IsSome o ↔ (0 < n) → IfSome o (λ j. j ≡ record { replica = r; count = n }) → r ≡ i.replica → n ≡ i.count → 0 < i.count → o ≡ Some i
    made None i r n some is e f p = absurd (true≢false (sym (some.1 (omega (arith, f)))))
    made (Some j) i r n some is e f p = ap Some (is ∙ (λ k. record { replica = e k; count = f k }))
