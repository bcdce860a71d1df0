-- A call after events of other processes.
use Rattle.std.proofs.Common.{◌≡◌, ◌≢◌, ℕ, List, [], ◌∷◌, ◌++◌, Some, true, eqb, inl, inr, refl, sym, ◌∙◌, ap, subst, cond, arith}
use Rattle.std.proofs.lemmas.Bool.Decides.{eqb_tells, nat_tests}
use Rattle.byte_system.specs.Disk.{Event, Call, Honest, no_files}
use Rattle.byte_system.specs.System.{own, Took}
use Rattle.byte_system.specs.Quiet.{IsOne, IsQuiet}

own_here : (k : ℕ) (c : Call) (es : List Event) → own k (record { by = k; call = c } ∷ es) ≡ c ∷ own k es
own_here k c es = let same : eqb k k ≡ true = grind (arith, nat_tests) in ap (λ b. cond b (c ∷ own k es) (own k es)) same

own_other : (k m : ℕ) (c : Call) (es : List Event) → m ≢ k → own k (record { by = m; call = c } ∷ es) ≡ own k es
own_other k m c es ne =
    elim (eqb_tells m k) [
      | inl (t, same) ↦ absurd (ne same)
      | inr (f, other) ↦ ap (λ b. cond b (c ∷ own k es) (own k es)) f
    ]

pub took : (me : ℕ) (c : Call) (old mid new : List Event) → IsQuiet me old mid → new ≡ record { by = me; call = c } ∷ mid → Honest no_files new
    → Took c (record { me = me; first = Some no_files; trace = old }) (record { me = me; first = Some no_files; trace = new })
took me c old mid new q e honest = record {
  same_me = refl;
  same_first = refl;
  mine = ap (own me) e ∙ own_here me c mid ∙ ap (λ cs. c ∷ cs) q.mine;
  past = (q.between, e ∙ ap (λ es. record { by = me; call = c } ∷ es) q.is);
  honest = honest;
}

pub quiet_none : (me : ℕ) (old : List Event) → IsQuiet me old old
quiet_none me old = record { between = []; is = refl; mine = refl }

pub quiet_more : (me by : ℕ) (c : Call) (old mid new : List Event) → by ≢ me → IsQuiet me old mid → new ≡ record { by = by; call = c } ∷ mid → IsQuiet me old new
quiet_more me by c old mid new ne q e = record {
  between = record { by = by; call = c } ∷ q.between;
  is = e ∙ ap (λ es. record { by = by; call = c } ∷ es) q.is;
  mine = ap (own me) e ∙ own_other me by c mid ne ∙ q.mine;
}

pub took_at : (me now : ℕ) (c : Call) (old mid new : List Event) → now ≡ me → IsQuiet me old mid → new ≡ record { by = now; call = c } ∷ mid → Honest no_files new
    → Took c (record { me = me; first = Some no_files; trace = old }) (record { me = now; first = Some no_files; trace = new })
took_at me now c old mid new same q e h =
    subst (λ k. Took c (record { me = me; first = Some no_files; trace = old }) (record { me = k; first = Some no_files; trace = new })) (sym same)
    (took me c old mid new q (e ∙ ap (λ k. record { by = k; call = c } ∷ mid) same) h)

append_more : (a b c : List Event) → (a ++ b) ++ c ≡ a ++ (b ++ c)
append_more [] b c = refl
append_more (x ∷ a) b c = ap (λ t. x ∷ t) (append_more a b c)

pub quiet_then : (me : ℕ) (a b c : List Event) → IsQuiet me a b → IsQuiet me b c → IsQuiet me a c
quiet_then me a b c p q = record {
  between = q.between ++ p.between;
  is = q.is ∙ ap (λ t. q.between ++ t) p.is ∙ sym (append_more q.between p.between a);
  mine = q.mine ∙ p.mine;
}

pub one_quiet : (me by : ℕ) (a b : List Event) → by ≢ me → IsOne by a b → IsQuiet me a b
one_quiet me by a b ne o = quiet_more me by o.call a a b ne (quiet_none me a) o.is
