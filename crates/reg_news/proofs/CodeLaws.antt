-- A code that stands otherwise is told once.
use Rattle.std.proofs.Common.{◌≡◌, ◌⊎◌, ◌↔◌, true, false, not, List, Option, Some, None, refl, ap, sym, subst, ◌∙◌, inl, inr}
use Rattle.reg_op.specs.Rows.{Row}
use Rattle.reg_op.specs.declared.status.Status.TheVariants as status
use Rattle.reg_report.specs.Conflicts.{KeyBytes}
use Rattle.reg_report.specs.Exports.{is_retired}
use Rattle.reg_disorder.specs.declared.code.Standing.{Standing}
use Rattle.reg_disorder.specs.declared.code.Standing.TheVariants.{Absent, Withdrawn, Valid, Superseded}
use Rattle.reg_disorder.specs.Marks.{Mark, IsMark}
use Rattle.reg_disorder.specs.Standings.{IsSuperseded, IsStanding}
use Rattle.reg_disorder.proofs.StandingLemmas.{status_mark, one_standing}
use Rattle.reg_news.specs.Codes.{WasOff, IsAgain, IsSaidOnlyBy, IsSaidByOne, IsSupersededAnew, IsGone, IsToldOnce}

no_some : (k : KeyBytes) → ◌≡◌ {A = Option KeyBytes} None (Some k) → ⊥
no_some k e = cc

module _ (rs : List Row) (k : KeyBytes) where
  superseded_of : IsMark rs (status_mark k true true) → IsSuperseded rs k
  superseded_of (r, there, inl own) = record { row = r; there = there; superseded = own.superseded.0 refl; key = own.key }
  superseded_of (r, there, inr by) = absurd (no_some by.2.3.by.0 by.2.3.by.1)

  superseded_mark : IsSuperseded rs k → IsMark rs (status_mark k true true)
  superseded_mark s = (
    s.row,
    s.there,
    inl (record {
      key = s.key;
      live = sym (ap (λ t. not (is_retired t)) s.superseded);
      superseded = (λ _. s.superseded, λ _. refl);
      by = refl;
    }),
  )

module _ (rs ss : List Row) (k : KeyBytes) where
  again_alone : IsAgain rs ss k → IsToldOnce rs ss k
  again_alone a = inl (a, (λ s. absurd (never (one_standing ss k Valid Superseded a.0 s.0))), (λ g. absurd (gone (one_standing ss k Valid Withdrawn a.0 g.0))))
    where
      never : Valid ≡ Superseded → ⊥
      never e = cc

      gone : Valid ≡ Withdrawn → ⊥
      gone e = cc

  anew_alone : IsSupersededAnew rs ss k → IsToldOnce rs ss k
  anew_alone s = inr (inl ((λ a. absurd (never (one_standing ss k Superseded Valid s.0 a.0))), s, (λ g. absurd (gone (one_standing ss k Superseded Withdrawn s.0 g.0)))))
    where
      never : Superseded ≡ Valid → ⊥
      never e = cc

      gone : Superseded ≡ Withdrawn → ⊥
      gone e = cc

  gone_alone : IsGone rs ss k → IsToldOnce rs ss k
  gone_alone g = inr (inr ((λ a. absurd (never (one_standing ss k Withdrawn Valid g.0 a.0))), (λ s. absurd (gone (one_standing ss k Withdrawn Superseded g.0 s.0))), g))
    where
      never : Withdrawn ≡ Valid → ⊥
      never e = cc

      gone : Withdrawn ≡ Superseded → ⊥
      gone e = cc

  off : (s : Standing) → IsStanding s rs k → (s ≡ Absent → ⊥) → (s ≡ Valid → ⊥) → WasOff rs k
  off Absent is absent valid = absurd (absent refl)
  off Withdrawn is absent valid = inl is
  off Valid is absent valid = absurd (valid refl)
  off Superseded is absent valid = inr is

  pub told_once : (s t : Standing) → IsStanding s rs k → IsStanding t ss k → (s ≡ Absent → ⊥) → (t ≡ Absent → ⊥) → (s ≡ t → ⊥) → IsToldOnce rs ss k
  told_once s Absent a b old new other = absurd (new refl)
  told_once s Withdrawn a b old new other = gone_alone (b, λ w. other (one_standing rs k s Withdrawn a w))
  told_once s Valid a b old new other = again_alone (b, off s a old other)
  told_once s Superseded a b old new other =
      anew_alone (
        b,
        inr (record {
          mark = status_mark k true true;
          key = refl;
          superseded = refl;
          said = superseded_mark ss k b;
          unsaid = λ m. other (one_standing rs k s Superseded a (superseded_of rs k m));
        }),
      )

  pub told_others : IsStanding Superseded ss k → IsSaidByOne rs ss k → IsToldOnce rs ss k
  told_others b by = anew_alone (b, by)

  pub told_alike : (s : Standing) → IsStanding s rs k → IsStanding s ss k → IsToldOnce rs ss k → s ≡ Superseded
  told_alike s a b (inl (again, not_anew, not_gone)) =
      let is = one_standing ss k s Valid b again.0 in
      elim again.1 [ inl w ↦ absurd (never (sym is ∙ one_standing rs k s Withdrawn a w)) | inr v ↦ one_standing rs k s Superseded a v ]
    where
      never : Valid ≡ Withdrawn → ⊥
      never e = cc
  told_alike s a b (inr (inl (not_again, anew, not_gone))) = one_standing ss k s Superseded b anew.0
  told_alike s a b (inr (inr (not_again, not_anew, gone))) = absurd (gone.1 (back (one_standing ss k s Withdrawn b gone.0) a))
    where
      back : s ≡ Withdrawn → IsStanding s rs k → IsStanding Withdrawn rs k
      back e h = subst (λ u. IsStanding u rs k) e h
