-- Loops that pick entries, and that settle entries or refuse one.
use Rattle.std.specs.Prelude.{◌↔◌, IsTrue, if◌then◌else◌}
use Rattle.std.proofs.Common.{◌≡◌, ℕ, suc, ◌+◌, ◌<◌, ◌≤◌, length, take, drop, get_or, map, arith, Bool, true, false, List, [], ◌∷◌, ◌++◌, sym, ap, ◌∙◌, subst, inl, inr, append_assoc, append-nil, refl}
use Rattle.std.proofs.Math.Seq.{drop-cons}
use Rattle.std.proofs.lemmas.List.{take_more, drop_all}
use Rattle.reg_op.specs.Ids.{Id}
use Rattle.reg_op.specs.Rows.{Row}
use Rattle.reg_disorder.specs.declared.settling.fault.SettleFault.{SettleFault}
use Rattle.reg_disorder.specs.Settling.{Picks, IsKept, IsRival, Settles, IsObjection, Refuses}

-- ---- the end of a loop

pub none_left : {X Y : Type 0} (f : X → Y) (xs : List X) → length xs ≡ 0 → map f xs ≡ []
none_left f [] e = refl
none_left f (x ∷ xs) e = absurd (omega (arith, e))

pub not_both : (t : Bool) → t ≡ true → t ≡ false → ⊥
not_both t e f = let no : true ≡ false = sym e ∙ f in absurd cc

-- ---- picking

-- `made` followed by anything picked from `rest` is picked from `all`
abbrev pub Completes : (Row → Type 0) → List Row → List Row → List Id → Type 0
Completes P all rest made = (more : List Id) → Picks P rest more → Picks P all (made ++ more)

pub picks_one : (P : Row → Type 0) (all rest others : List Row) (x : Row) (made new : List Id) → rest ≡ x ∷ others → P x → new ≡ made ++ x.entry ∷ [] → Completes P all rest made → Completes P all others new
picks_one P all rest others x made new e p pushed c more m =
    subst (λ l. Picks P all l) (sym (ap (λ l. l ++ more) pushed ∙ append_assoc made (x.entry ∷ []) more))
    (c (x.entry ∷ more) (subst (λ l. Picks P l (x.entry ∷ more)) (sym e) (inl (p, (more, m, refl)))))

pub picks_none : (P : Row → Type 0) (all rest others : List Row) (x : Row) (made : List Id) → rest ≡ x ∷ others → ¬ (P x) → Completes P all rest made → Completes P all others made
picks_none P all rest others x made e p c more m = c more (subst (λ l. Picks P l more) (sym e) (inr (p, m)))

pub picks_step : (P : Row → Type 0) (all rest others : List Row) (x : Row) (made new : List Id) (picked : Bool) → rest ≡ x ∷ others → IsTrue picked ↔ P x
    → new ≡ made ++ (if picked then x.entry ∷ [] else []) → Completes P all rest made → Completes P all others new
picks_step P all rest others x made new true e is pushed c = picks_one P all rest others x made new e (is.0 refl) pushed c
picks_step P all rest others x made new false e is pushed c =
    subst (λ l. Completes P all others l) (sym (pushed ∙ append-nil made)) (picks_none P all rest others x made e (λ p. let no : false ≡ true = is.1 p in absurd cc) c)

pub picks_all : (P : Row → Type 0) (all rest : List Row) (made : List Id) → rest ≡ [] → Completes P all rest made → Picks P all made
picks_all P all rest made e c = subst (λ l. Picks P all l) (append-nil made) (c [] (subst (λ l. Picks P l []) (sym e) refl))

-- ---- settling

-- settling `rest` settles all of `keeps`, and what refuses an entry of `rest` refuses `keeps`
pub record Goes (rs : List Row) (keeps before rest retired : List Id) : Type 0 where
  pub settles : (all : List Id) → Settles rs keeps before rest retired all → Settles rs keeps [] keeps [] all
  pub refuses : (f : SettleFault) → Refuses rs before rest f → Refuses rs [] keeps f

pub goes_on : (rs : List Row) (keeps before before' rest others retired retired' mine : List Id) (k : Id) (keep : Row) → rest ≡ k ∷ others → before' ≡ before ++ k ∷ [] → retired' ≡ retired ++ mine
    → IsKept rs before k keep → Picks (IsRival keeps retired keep) rs mine → Goes rs keeps before rest retired → Goes rs keeps before' others retired'
goes_on rs keeps before before' rest others retired retired' mine k keep e b r kept picks g = record {
  settles = λ all s. g.settles all (subst (λ l. Settles rs keeps before l retired all) (sym e)
      (keep, kept, (mine, picks, subst (λ l. Settles rs keeps (before ++ k ∷ []) others l all) r (subst (λ l. Settles rs keeps l others retired' all) b s))));
  refuses = λ f s. g.refuses f (subst (λ l. Refuses rs before l f) (sym e) (inr (keep, kept, subst (λ l. Refuses rs l others f) b s)));
}

pub goes_wrong : (rs : List Row) (keeps before rest others retired : List Id) (k : Id) (f : SettleFault) → rest ≡ k ∷ others → IsObjection rs before k f → Goes rs keeps before rest retired → Refuses rs [] keeps f
goes_wrong rs keeps before rest others retired k f e o g = g.refuses f (subst (λ l. Refuses rs before l f) (sym e) (inl o))

pub goes_home : (rs : List Row) (keeps before rest retired : List Id) → rest ≡ [] → Goes rs keeps before rest retired → Settles rs keeps [] keeps [] retired
goes_home rs keeps before rest retired e g = g.settles retired (subst (λ l. Settles rs keeps before l retired retired) (sym e) refl)

pub goes_next : (rs : List Row) (keeps retired retired' mine : List Id) (at : ℕ) (k : Id) (keep : Row) → at < length keeps → k ≡ get_or keeps at k → retired' ≡ retired ++ mine
    → IsKept rs (take at keeps) k keep → Picks (IsRival keeps retired keep) rs mine → Goes rs keeps (take at keeps) (drop at keeps) retired
    → Goes rs keeps (take (at + 1) keeps) (drop (at + 1) keeps) retired'
goes_next rs keeps retired retired' mine at k keep l is r kept picks g =
    let up : suc at ≡ at + 1 = omega arith in
    goes_on rs keeps (take at keeps) (take (at + 1) keeps) (drop at keeps) (drop (at + 1) keeps) retired retired' mine k keep
    (drop-cons keeps at k l ∙ (ap (λ x. x ∷ drop (suc at) keeps) (sym is) ∙ ap (λ n. k ∷ drop n keeps) up))
    (take_more keeps at k l ∙ ap (λ x. take at keeps ++ x ∷ []) (sym is)) r kept picks g

pub goes_refused : (rs : List Row) (keeps retired : List Id) (at : ℕ) (k : Id) (f : SettleFault) → at < length keeps → k ≡ get_or keeps at k → IsObjection rs (take at keeps) k f → Goes rs keeps (take at keeps) (drop at keeps) retired → Refuses rs [] keeps f
goes_refused rs keeps retired at k f l is o g = goes_wrong rs keeps (take at keeps) (drop at keeps) (drop (suc at) keeps) retired k f (drop-cons keeps at k l ∙ ap (λ x. x ∷ drop (suc at) keeps) (sym is)) o g

pub goes_through : (rs : List Row) (keeps retired : List Id) (at : ℕ) → length keeps ≤ at → Goes rs keeps (take at keeps) (drop at keeps) retired → Settles rs keeps [] keeps [] retired
goes_through rs keeps retired at h g = goes_home rs keeps (take at keeps) (drop at keeps) retired (drop_all at keeps h) g

pub nothing_gone : (rs : List Row) (keeps ids : List Id) → ids ≡ [] → Goes rs keeps [] keeps ids
nothing_gone rs keeps ids e = subst (λ l. Goes rs keeps [] keeps l) (sym e) (record { settles = λ all s. s; refuses = λ f s. s })
