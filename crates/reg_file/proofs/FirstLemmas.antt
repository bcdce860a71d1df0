-- The file of version 1, for registers in which no operation has a note.
use Rattle.std.proofs.Common.{◌≡◌, ℕ, Bool, true, false, cond, eqb, List, [], ◌∷◌, length, Some, None, refl, sym, ap, subst, ◌∙◌, arith, inl, inr}
use Rattle.std.proofs.lemmas.Bool.{true≢false, or_cases}
use Rattle.std.proofs.lemmas.Option.{none-some}
use Rattle.std.specs.Ordering.{eq_by_cmp}
use Rattle.reg_op.specs.Set as set
use Rattle.reg_op.specs.Set.{contains-items}
use Rattle.reg_op.specs.Operations.{Op, Ops, op_cmp}
use Rattle.reg_op.specs.Lists.{has}
use Rattle.byte_io.specs.Device.{SinkState}
use Rattle.reg_op.specs.Contents.{Content}
use Rattle.reg_file.specs.declared.fault.FirstFileFault.TheVariants as first
use Rattle.reg_file.specs.declared.fault.WriteFileFault.{WriteFileFault}
use Rattle.reg_file.specs.declared.fault.WriteFileFault.TheVariants as writing
use Rattle.reg_file.specs.Files.{AreUnnoted, HoldsIn, WritesBy, IsWriteFaultBy, WritesFirst, IsFirstFault, first_in, first_noted}
use Rattle.reg_file.proofs.ListLemmas.{is_it}
use Rattle.reg_file.proofs.FieldLemmas.{not_zero}

pub some_bytes : (note : List ℕ) → (note ≡ [] → ⊥) → eqb (length note) 0 ≡ false
some_bytes [] some = absurd (some refl)
some_bytes (b ∷ note) some = not_zero (length (b ∷ note)) (omega arith)

pub no_bytes : (note : List ℕ) → eqb (length note) 0 ≡ true → note ≡ []
no_bytes [] h = refl
no_bytes (b ∷ note) h = absurd (true≢false (sym h ∙ not_zero (length (b ∷ note)) (omega arith)))

pub first_later : (o : Op) (os : List Op) → o.note ≡ [] → first_in (o ∷ os) ≡ first_in os
first_later o os none = ap (λ n. cond (eqb (length n) 0) (first_in os) (Some o.id)) none

pub none_noted : (os : List Op) → first_in os ≡ None → (o : Op) → has os o ≡ true → o.note ≡ []
none_noted [] none o h = absurd (true≢false (sym h))
none_noted (x ∷ os) none o h = from (eqb (length x.note) 0) refl (λ e k. none_noted os e o k)
  where
    from : (b : Bool) → eqb (length x.note) 0 ≡ b → (first_in os ≡ None → has os o ≡ true → o.note ≡ []) → o.note ≡ []
    from true e others = elim (or_cases (eq_by_cmp op_cmp o x) (has os o) h) [
      | inl same ↦ subst (λ (y : Op). y.note ≡ []) (is_it o x same) (no_bytes x.note e)
      | inr there ↦ others (sym (first_later x os (no_bytes x.note e)) ∙ none) there
    ]
    from false e others = absurd (none-some x.id (sym none ∙ ap (λ b. cond b (first_in os) (Some x.id)) e))

pub unnoted : (s : Ops) → first_noted s ≡ None → AreUnnoted s
unnoted s none o h = none_noted (set.items s) none o (sym (contains-items s o) ∙ h)

-- ---- over a sink

module _ (x : Content) (old new : SinkState) (plain : AreUnnoted x.ops) where
  pub writes_first : WritesBy (λ bytes. HoldsIn 1 bytes x) old new → WritesFirst x old new
  writes_first w = (w.0, (w.1, plain), w.2)

  pub first_fault : (f : WriteFileFault) → IsWriteFaultBy (λ bytes. HoldsIn 1 bytes x) old new f → IsFirstFault x old new (first.Write f)
  first_fault writing.TooLarge h = h
  first_fault writing.Memory h = h
  first_fault (writing.WriteFailed n) h = (h.0, (h.1, plain), h.2)
