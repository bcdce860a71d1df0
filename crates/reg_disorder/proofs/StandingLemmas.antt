-- The marks of a key say how it stands.
use Rattle.std.proofs.Common.{◌≡◌, ◌↔◌, ◌⊎◌, Bool, true, false, not, IsTrue, List, Option, Some, None, refl, ap, sym, ◌∙◌, inl, inr}
use Rattle.std.specs.List.{Contains}
use Rattle.std.proofs.lemmas.Bool.{true≢false}
use Rattle.reg_op.specs.Rows.{Row}
use Rattle.reg_op.specs.declared.status.Status.{Status}
use Rattle.reg_op.specs.declared.status.Status.TheVariants as status
use Rattle.reg_report.specs.Conflicts.{KeyBytes}
use Rattle.reg_report.specs.Exports.{is_retired}
use Rattle.reg_disorder.specs.declared.code.Standing.{Standing}
use Rattle.reg_disorder.specs.declared.code.Standing.TheVariants.{Absent, Withdrawn, Valid, Superseded}
use Rattle.reg_disorder.specs.Keys.{IsLive}
use Rattle.reg_disorder.specs.Marks.{Mark, IsOwn, IsMark}
use Rattle.reg_disorder.specs.Standings.{HasEntry, IsSuperseded, IsStanding}

abbrev pub status_mark : KeyBytes → Bool → Bool → Mark
status_mark k l s = record { key = k; live = l; superseded = s; by = None }

no_some : (k : KeyBytes) → ◌≡◌ {A = Option KeyBytes} None (Some k) → ⊥
no_some k e = cc

superseded_or : (s : Option Status) → (s ≡ Some status.Superseded) ⊎ (s ≡ Some status.Superseded → ⊥)
superseded_or None = inr (λ e. cc)
superseded_or (Some status.Superseded) = inl refl
superseded_or (Some status.Valid) = inr (λ e. cc)
superseded_or (Some status.Retired) = inr (λ e. cc)

module _ (rs : List Row) (k : KeyBytes) where
  own_of : (l s : Bool) → IsMark rs (status_mark k l s) → (r : Row) × Contains rs r × IsOwn r (status_mark k l s)
  own_of l s (r, there, inl own) = (r, there, own)
  own_of l s (r, there, inr by) = absurd (no_some by.2.3.by.0 by.2.3.by.1)

  superseded_of : IsMark rs (status_mark k true true) → IsSuperseded rs k
  superseded_of m = let f = own_of true true m in record { row = f.0; there = f.1; superseded = f.2.superseded.0 refl; key = f.2.key }

  superseded_mark : IsSuperseded rs k → IsMark rs (status_mark k true true)
  superseded_mark s = (
    s.row,
    s.there,
    inl (record {
      key = s.key;
      live = sym (ap (λ t. not (is_retired t)) s.superseded);
      superseded = (λ _. s.superseded, λ _. refl);
      by = refl;
    }),
  )

  live_of : IsMark rs (status_mark k true false) → IsLive rs k
  live_of m = let f = own_of true false m in record { row = f.0; there = f.1; stands = stands (is_retired f.0.status) f.2.live; key = f.2.key }
    where
      stands : (b : Bool) → true ≡ not b → b ≡ false
      stands false e = refl
      stands true e = e

  live_mark : IsLive rs k → IsMark rs (status_mark k true true) ⊎ IsMark rs (status_mark k true false)
  live_mark l =
      let live : true ≡ not (is_retired l.row.status) = sym (ap not l.stands) in
      elim (superseded_or l.row.status) [
        | inl is ↦ inl (l.row, l.there, inl (record { key = l.key; live = live; superseded = (λ _. is, λ _. refl); by = refl }))
        | inr never ↦ inr (l.row, l.there, inl (record { key = l.key; live = live; superseded = (λ h. absurd (true≢false (sym h)), λ e. absurd (never e)); by = refl }))
      ]

  entry_of : IsMark rs (status_mark k false false) → HasEntry rs k
  entry_of m = let f = own_of false false m in record { row = f.0; there = f.1; key = f.2.key }

  entry_mark : HasEntry rs k → IsLive rs k ⊎ IsMark rs (status_mark k false false)
  entry_mark h = elim (is_retired h.row.status) as (λ b. is_retired h.row.status ≡ b → IsLive rs k ⊎ IsMark rs (status_mark k false false)) [
    | true ↦ λ e. inr (
      h.row,
      h.there,
      inl (record {
        key = h.key;
        live = sym (ap not e);
        superseded = (λ t. absurd (true≢false (sym t)), λ is. absurd (true≢false (sym e ∙ ap is_retired is)));
        by = refl;
      }),
    )
    | false ↦ λ e. inl (record { row = h.row; there = h.there; stands = e; key = h.key })
  ] refl

  module _ (Has : Mark → Type 0) (each : (m : Mark) → Has m ↔ IsMark rs m) where
    missing : (b l s : Bool) → IsTrue b ↔ Has (status_mark k l s) → b ≡ false → ¬ (IsMark rs (status_mark k l s))
    missing b l s is e m = true≢false (sym (is.1 ((each (status_mark k l s)).1 m)) ∙ e)

    there : (b l s : Bool) → IsTrue b ↔ Has (status_mark k l s) → b ≡ true → IsMark rs (status_mark k l s)
    there b l s is e = (each (status_mark k l s)).0 (is.0 e)

    module _ (a : Bool) (is_a : IsTrue a ↔ Has (status_mark k true true)) where
      pub superseded_is : a ≡ true → IsStanding Superseded rs k
      superseded_is e = superseded_of (there a true true is_a e)

      module _ (no_a : a ≡ false) (b : Bool) (is_b : IsTrue b ↔ Has (status_mark k true false)) where
        pub valid_is : b ≡ true → IsStanding Valid rs k
        valid_is e = (live_of (there b true false is_b e), λ s. missing a true true is_a no_a (superseded_mark s))

        module _ (no_b : b ≡ false) (c : Bool) (is_c : IsTrue c ↔ Has (status_mark k false false)) where
          none_live : ¬ (IsLive rs k)
          none_live l = elim (live_mark l) [ inl s ↦ missing a true true is_a no_a s | inr v ↦ missing b true false is_b no_b v ]

          pub withdrawn_is : c ≡ true → IsStanding Withdrawn rs k
          withdrawn_is e = (entry_of (there c false false is_c e), none_live)

          pub absent_is : c ≡ false → IsStanding Absent rs k
          absent_is e h = elim (entry_mark h) [ inl l ↦ none_live l | inr m ↦ missing c false false is_c e m ]

-- ---- a key has one standing

superseded_live : (rs : List Row) (k : KeyBytes) → IsSuperseded rs k → IsLive rs k
superseded_live rs k s = record { row = s.row; there = s.there; stands = ap is_retired s.superseded; key = s.key }

live_entry : (rs : List Row) (k : KeyBytes) → IsLive rs k → HasEntry rs k
live_entry rs k l = record { row = l.row; there = l.there; key = l.key }

pub one_standing : (rs : List Row) (k : KeyBytes) (s t : Standing) → IsStanding s rs k → IsStanding t rs k → s ≡ t
one_standing rs k Absent Absent a b = refl
one_standing rs k Absent Withdrawn a b = absurd (a b.0)
one_standing rs k Absent Valid a b = absurd (a (live_entry rs k b.0))
one_standing rs k Absent Superseded a b = absurd (a (live_entry rs k (superseded_live rs k b)))
one_standing rs k Withdrawn Absent a b = absurd (b a.0)
one_standing rs k Withdrawn Withdrawn a b = refl
one_standing rs k Withdrawn Valid a b = absurd (a.1 b.0)
one_standing rs k Withdrawn Superseded a b = absurd (a.1 (superseded_live rs k b))
one_standing rs k Valid Absent a b = absurd (b (live_entry rs k a.0))
one_standing rs k Valid Withdrawn a b = absurd (b.1 a.0)
one_standing rs k Valid Valid a b = refl
one_standing rs k Valid Superseded a b = absurd (a.1 b)
one_standing rs k Superseded Absent a b = absurd (b (live_entry rs k (superseded_live rs k a)))
one_standing rs k Superseded Withdrawn a b = absurd (b.1 (superseded_live rs k a))
one_standing rs k Superseded Valid a b = absurd (b.1 a)
one_standing rs k Superseded Superseded a b = refl
