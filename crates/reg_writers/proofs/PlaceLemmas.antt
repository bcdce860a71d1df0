-- Each call of a place is an event of the model.
use Rattle.std.proofs.Common.{◌≡◌, ℕ, Bool, true, false, List, [], ◌∷◌, length, take, take_all, le_refl, Option, Some, None, Ok, Err, IsSome, refl, sym, ◌∙◌, ap, subst, cond}
use Rattle.std.proofs.lemmas.Bool.{false_from_ne_true}
use Rattle.std.specs.declared.result.Result.{Result}
use Rattle.std.specs.Io.KnownBytes.{Appends}
use lib.Pointwise.{bytes_decides}
use Rattle.byte_io.specs.declared.fault.WriteFault.{WriteFault}
use Rattle.byte_out.specs.declared.fault.MakeFault.{MakeFault}
use Rattle.byte_out.specs.declared.fault.MakeFault.TheVariants as make
use Rattle.byte_out.specs.declared.fault.CompareFault.{CompareFault}
use Rattle.byte_out.specs.declared.fault.CompareFault.TheVariants as other
use Rattle.byte_out.specs.declared.fault.PutFault.{PutFault}
use Rattle.byte_out.specs.declared.fault.PutFault.TheVariants as fault
use Rattle.byte_out.specs.Place.{Files, IsMade, IsFilled, IsSynced as IsSyncedBy, IsCompared, IsPut, IsLanded, IsRemoved}
use Rattle.reg_writers.specs.Path.{Content, is_same, NewFile, Stage, HasRead, Writes, IsSynced, FoundSame, Withdraws, Replaced, Ended, World, Goes, Fails, Fills, at_stage, comes_to, makes, puts, goes, fills, failed, happens, after}
use Rattle.reg_writers.specs.Steps.{bytes_of, IsAt, IsReached, make_event, make_stage, compare_event, compare_stage}
use Rattle.reg_writers.proofs.Kept.{Fits, Holds, Makes, always, same_number, filled_own, same_content}
use Rattle.reg_writers.proofs.Left.{any_of, any_adds}

own : (stages : ℕ → Stage) (k : ℕ) (s : Stage) → at_stage stages k s k ≡ s
own stages k s = ap (λ b. cond b s (stages k)) (same_number k)

comes : (w : World) (k : ℕ) (from s : Stage) (f g : Files) → IsAt w k from f → g.stands ≡ f.stands → g.beside ≡ f.beside → IsAt (comes_to w k s) k s g
comes w k from s f g at stands beside = record { stage = own w.stage k s; stands = stands ∙ at.stands; beside = beside ∙ at.beside }

reached : (change : ℕ → Content → List ℕ) (w : World) → IsReached change w → Holds (any_of change) w
reached change w r = subst (Holds (any_of change)) (sym r.led) (always (any_of change) (any_adds change) r.first r.events)

fits : (change : ℕ → Content → List ℕ) (w : World) (k : ℕ) (s : Stage) (f : Files) → IsReached change w → IsAt w k s f → Fits (any_of change) k w.stands w.beside s
fits change w k s f r at = subst (Fits (any_of change) k w.stands w.beside) at.stage ((reached change w r).each k)

made : (w : World) (k : ℕ) (x : Content) (f g : Files) (new : Option NewFile) → f.stands ≡ w.stands → f.beside ≡ bytes_of new → f.beside ≡ None
    → g.stands ≡ f.stands → g.beside ≡ Some [] → IsAt (makes w k (Writes x) new) k (Writes x) g
made w k x f g None fs fb none gs gb = record { stage = own w.stage k (Writes x); stands = gs ∙ fs; beside = gb }
made w k x f g (Some n) fs fb none gs gb = absurd (let e = sym fb ∙ none in cc)

blocked : (w : World) (k : ℕ) (x : Content) (f g : Files) (new : Option NewFile) → w.beside ≡ new → IsAt w k (HasRead x) f → IsSome f.beside → g ≡ f
    → IsAt (makes w k (Writes x) new) k Ended g
blocked w k x f g None is at some same = absurd (let e = subst IsSome (at.beside ∙ ap bytes_of is) some in cc)
blocked w k x f g (Some n) is at some same = comes w k (HasRead x) Ended f g at (ap (λ h. h.stands) same) (ap (λ h. h.beside) same)

pub making : {T : Type 0} (change : ℕ → Content → List ℕ) (w : World) (k : ℕ) (x : Content) (f g : Files) (r : Result T MakeFault)
    → IsAt w k (HasRead x) f → IsMade r f g → IsAt (happens change w (make_event k r)) k (make_stage x r) g
making change w k x f g (Ok t) at m =
    subst (λ s. IsAt (goes change w k s) k (Writes x) g) (sym at.stage) (made w k x f g w.beside at.stands at.beside m.1 m.0.same_file m.2)
making change w k x f g (Err make.Exists) at m = subst (λ s. IsAt (goes change w k s) k Ended g) (sym at.stage) (blocked w k x f g w.beside refl at m.1 m.0)
making change w k x f g (Err make.NotOpened) at m =
    subst (λ s. IsAt (comes_to w k (failed s)) k Ended g) (sym at.stage) (comes w k (HasRead x) Ended f g at (ap (λ h. h.stands) m.0) (ap (λ h. h.beside) m.0))

appended : (new : Option (List ℕ)) (bs : List ℕ) → Appends (Some []) new bs → new ≡ Some bs
appended None bs a = absurd a
appended (Some ys) bs a = ap Some a

pub writing : {T : Type 0} (change : ℕ → Content → List ℕ) (w : World) (k : ℕ) (x : Content) (f g : Files) (t : T)
    → IsReached change w → IsAt w k (Writes x) f → f.beside ≡ Some [] → IsFilled (Ok t) (change k x) f g
    → IsAt (happens change w (Fills k (length (change k x)))) k (Writes x) g
writing change w k x f g t r at empty m =
    let bs = change k x in
    let full : g.beside ≡ Some bs = appended g.beside bs (subst (λ old. Appends old g.beside bs) empty m.1) in
    let now = filled_own k (take (length bs) bs) w.beside (fits change w k (Writes x) f r at) in
    subst (λ s. IsAt (fills change w k (length bs) s) k (Writes x) g) (sym at.stage) (record {
      stage = at.stage;
      stands = m.0.same_file ∙ at.stands;
      beside = full ∙ sym (ap bytes_of now ∙ ap Some (take_all (length bs) bs (le_refl (length bs))));
    })

pub syncing : {T E : Type 0} (change : ℕ → Content → List ℕ) (w : World) (k : ℕ) (x : Content) (f g : Files) (r : Result T E) (t : T)
    → IsReached change w → IsAt w k (Writes x) f → f.beside ≡ Some (change k x) → r ≡ Ok t → IsSyncedBy r f g
    → IsAt (happens change w (Goes k)) k (IsSynced x) g
syncing {T} {E} change w k x f g r t led at full ok m =
    let m : IsSyncedBy {T = T} {E = E} (Ok t) f g = subst (λ q. IsSyncedBy q f g) ok m in
    let now = filled_own k (change k x) w.beside (fits change w k (Writes x) f led at) in
    subst (λ s. IsAt (goes change w k s) k (IsSynced x) g) (sym at.stage) (record {
      stage = own w.stage k (IsSynced x);
      stands = m.0.same_file ∙ at.stands;
      beside = m.1 ∙ full ∙ sym (ap bytes_of now);
    })

-- OUT has the bytes that were read; or it has not
is_same_as : (out : Content) (read : List ℕ) → out ≡ Some read → is_same out (Some read) ≡ true
is_same_as out read e = subst (λ o. is_same o (Some read) ≡ true) (sym e) ((bytes_decides read read).1 refl)

is_other : (out : Content) (read : List ℕ) → (out ≡ Some read → ⊥) → is_same out (Some read) ≡ false
is_other out read never = false_from_ne_true (is_same out (Some read)) (λ e. never (same_content out (Some read) e))

looked : (change : ℕ → Content → List ℕ) (w : World) (k : ℕ) (read : List ℕ) (f g : Files) (same : Bool)
    → IsAt w k (IsSynced (Some read)) f → g.stands ≡ f.stands → g.beside ≡ f.beside → is_same w.stands (Some read) ≡ same
    → IsAt (happens change w (Goes k)) k (cond same (FoundSame (Some read)) Withdraws) g
looked change w k read f g same at stands beside found =
    subst (λ s. IsAt (goes change w k s) k (cond same (FoundSame (Some read)) Withdraws) g) (sym at.stage)
    (subst (λ b. IsAt (comes_to w k (cond b (FoundSame (Some read)) Withdraws)) k (cond same (FoundSame (Some read)) Withdraws) g) (sym found)
    (comes w k (IsSynced (Some read)) (cond same (FoundSame (Some read)) Withdraws) f g at stands beside))

unlooked : (change : ℕ → Content → List ℕ) (w : World) (k : ℕ) (read : List ℕ) (f g : Files)
    → IsAt w k (IsSynced (Some read)) f → g.stands ≡ f.stands → g.beside ≡ f.beside → IsAt (happens change w (Fails k)) k Withdraws g
unlooked change w k read f g at stands beside =
    subst (λ s. IsAt (comes_to w k (failed s)) k Withdraws g) (sym at.stage) (comes w k (IsSynced (Some read)) Withdraws f g at stands beside)

pub comparing : {T : Type 0} (change : ℕ → Content → List ℕ) (w : World) (k : ℕ) (read : List ℕ) (f g : Files) (r : Result T CompareFault)
    → IsAt w k (IsSynced (Some read)) f → IsCompared r read f g
    → IsAt (happens change w (compare_event k r)) k (compare_stage (Some read) r) g
comparing change w k read f g (Ok t) at m = looked change w k read f g true at m.0.0.same_file m.0.1 (is_same_as w.stands read (sym at.stands ∙ m.1))
comparing change w k read f g (Err other.Changed) at m =
    looked change w k read f g false at m.0.0.same_file m.0.1 (is_other w.stands read (λ e. m.1 (at.stands ∙ e)))
comparing change w k read f g (Err other.NotOpened) at m = unlooked change w k read f g at m.0.0.same_file m.0.1
comparing change w k read f g (Err (other.ReadFailed n)) at m = unlooked change w k read f g at m.0.0.same_file m.0.1

put : (w : World) (k : ℕ) (x : Content) (g : Files) (new : Option NewFile) → Makes k new → g.stands ≡ bytes_of new → g.beside ≡ None → IsAt (puts w k x new) k (Replaced x) g
put w k x g None m stands beside = absurd (let e = m.1 in cc)
put w k x g (Some n) m stands beside = record { stage = own w.stage k (Replaced x); stands = stands; beside = beside }

pub putting : {T : Type 0} (change : ℕ → Content → List ℕ) (w : World) (k : ℕ) (x : Content) (f g : Files) (r : Result T PutFault) (t : T)
    → IsReached change w → IsAt w k (FoundSame x) f → r ≡ Ok t → IsPut r f g → IsAt (happens change w (Goes k)) k (Replaced x) g
putting {T} change w k x f g r t led at ok m =
    let m : IsPut {T = T} (Ok t) f g = subst (λ q. IsPut q f g) ok m in
    let fit : Fits (any_of change) k w.stands w.beside (FoundSame x) = fits change w k (FoundSame x) f led at in
    subst (λ s. IsAt (goes change w k s) k (Replaced x) g) (sym at.stage) (put w k x g w.beside (change k x, fit.0) (m.0 ∙ at.beside) m.1)

unput : (T : Type 0) (w : World) (k : ℕ) (x : Content) (f g : Files) (e : PutFault) → IsAt w k (FoundSame x) f → IsPut {T = T} (Err e) f g
    → IsAt (comes_to w k Withdraws) k Withdraws g
unput T w k x f g fault.NotOpened at m = comes w k (FoundSame x) Withdraws f g at m.0 m.1
unput T w k x f g fault.Changed at m = absurd m
unput T w k x f g (fault.WriteFailed n) at m = absurd m

pub not_put : {T : Type 0} (change : ℕ → Content → List ℕ) (w : World) (k : ℕ) (x : Content) (f g : Files) (r : Result T PutFault) (e : PutFault)
    → IsAt w k (FoundSame x) f → r ≡ Err e → IsPut r f g → IsAt (happens change w (Fails k)) k Withdraws g
not_put {T} change w k x f g r e at err m =
    let m : IsPut {T = T} (Err e) f g = subst (λ q. IsPut q f g) err m in
    subst (λ s. IsAt (comes_to w k (failed s)) k Withdraws g) (sym at.stage) (unput T w k x f g e at m)

pub landing : {T E : Type 0} (w : World) (k : ℕ) (x : Content) (f g : Files) (r : Result T E) → IsAt w k (Replaced x) f → IsLanded r f g → IsAt w k (Replaced x) g
landing w k x f g (Ok t) at m = record { stage = at.stage; stands = m.0 ∙ at.stands; beside = m.1 ∙ at.beside }
landing w k x f g (Err e) at m = subst (IsAt w k (Replaced x)) (sym m) at

pub removing : (change : ℕ → Content → List ℕ) (w : World) (k : ℕ) (f g : Files) → IsAt w k Withdraws f → IsRemoved f g → g.beside ≡ None
    → IsAt (happens change w (Goes k)) k Ended g
removing change w k f g at m none =
    subst (λ s. IsAt (goes change w k s) k Ended g) (sym at.stage) (record { stage = own w.stage k Ended; stands = m.0.same_file ∙ at.stands; beside = none })

pub failing : {T : Type 0} (change : ℕ → Content → List ℕ) (w : World) (k : ℕ) (x : Content) (f g h : Files) (r : Result T WriteFault) (e : WriteFault)
    → IsAt w k (Writes x) f → r ≡ Err e → IsFilled r (change k x) f g → IsRemoved g h → h.beside ≡ None
    → IsAt (after change (Fails k ∷ Goes k ∷ []) w) k Ended h
failing {T} change w k x f g h r e at err m gone none =
    let m : IsFilled {T = T} (Err e) (change k x) f g = subst (λ q. IsFilled q (change k x) f g) err m in
    let w1 = comes_to w k Withdraws in
    subst (λ s. IsAt (happens change (comes_to w k (failed s)) (Goes k)) k Ended h) (sym at.stage)
    (subst (λ s. IsAt (goes change w1 k s) k Ended h) (sym (own w.stage k Withdraws))
    (record { stage = own w1.stage k Ended; stands = gone.0.same_file ∙ m.0.same_file ∙ at.stands; beside = none }))
