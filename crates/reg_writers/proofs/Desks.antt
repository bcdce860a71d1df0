-- What each event preserves of the files of an office.
use Rattle.std.proofs.Common.{◌≡◌, ◌⊎◌, inl, inr, ℕ, Bool, true, false, List, [], ◌∷◌, Option, Some, None, refl, sym, ap, subst, cond}
use Rattle.std.proofs.lemmas.Bool.Decides.{eqb_tells}
use Rattle.reg_writers.specs.Path.{Content, is_same, NewFile, Stage, Begins, HasRead, Writes, IsSynced, HasLocked, Keeps, FoundSame, Withdraws, Replaced, HasPrinted, Ended, World, Event, Goes, Locks, Fills, Fails, Stops, Clears, at_stage, makes, puts, goes, fills, locks, failed, stopped, happens}
use Rattle.reg_writers.specs.Writers.{Commands}
use Rattle.reg_writers.specs.Desk.{Office, IsRead, numbers, Desk, DeskEvent, AtOffice, AtRegister, has_replaced, has_noted, may_go, may_come, desk_happens, desk_after, desk_start}
use Rattle.reg_writers.proofs.Kept.{Gave, Holds, at_each, same_content, happens_keeps, start_holds}
use Rattle.reg_writers.proofs.Numbers.{many, many_add, numbers_add}

-- if a command comes to a stage that keeps what it has noted, all commands keep what they have noted
noted_at : (w : World) (k : ℕ) (t : Stage) → ((x : Content) → has_noted (w.stage k) x ≡ true → has_noted t x ≡ true)
    → (j : ℕ) (x : Content) → has_noted (w.stage j) x ≡ true → has_noted (at_stage w.stage k t j) x ≡ true
noted_at w k t on = at_each (λ j s. (x : Content) → has_noted (w.stage j) x ≡ true → has_noted s x ≡ true) w.stage k t on (λ j ne x h. h)

noted_makes : (w : World) (k : ℕ) (s : Stage) (new : Option NewFile) → ((x : Content) → has_noted (w.stage k) x ≡ true → ⊥) → (j : ℕ) (x : Content) → has_noted (w.stage j) x ≡ true → has_noted ((makes w k s new).stage j) x ≡ true
noted_makes w k s None not = noted_at w k s (λ x h. absurd (not x h))
noted_makes w k s (Some n) not = noted_at w k Ended (λ x h. absurd (not x h))

noted_puts : (w : World) (k : ℕ) (y : Content) (new : Option NewFile) → w.stage k ≡ FoundSame y → (j : ℕ) (x : Content) → has_noted (w.stage j) x ≡ true → has_noted ((puts w k y new).stage j) x ≡ true
noted_puts w k y None at = noted_at w k Withdraws (λ x h. absurd (let e = ap (λ s. has_noted s x) at in cc))
noted_puts w k y (Some n) at = noted_at w k (Replaced y) (λ x h. absurd (let e = ap (λ s. has_noted s x) at in cc))

noted_goes : (change : ℕ → Content → List ℕ) (w : World) (k : ℕ) (s : Stage) → w.stage k ≡ s → (j : ℕ) (x : Content) → has_noted (w.stage j) x ≡ true → has_noted ((goes change w k s).stage j) x ≡ true
noted_goes change w k Begins at = noted_at w k (HasRead w.stands) (λ x h. absurd (let e = ap (λ s. has_noted s x) at in cc))
noted_goes change w k (HasRead y) at = noted_makes w k (Writes y) w.beside (λ x h. let e = ap (λ s. has_noted s x) at in cc)
noted_goes change w k (Writes y) at = noted_at w k (IsSynced y) (λ x h. absurd (let e = ap (λ s. has_noted s x) at in cc))
noted_goes change w k (IsSynced y) at = noted_at w k (cond (is_same w.stands y) (FoundSame y) Withdraws) (λ x h. absurd (let e = ap (λ s. has_noted s x) at in cc))
noted_goes change w k HasLocked at = noted_at w k (Keeps w.stands) (λ x h. absurd (let e = ap (λ s. has_noted s x) at in cc))
noted_goes change w k (Keeps y) at = noted_at w k (FoundSame y) (λ x h. absurd (let e = ap (λ s. has_noted s x) at in cc))
noted_goes change w k (FoundSame y) at = noted_puts w k y w.beside at
noted_goes change w k Withdraws at = noted_at w k Ended (λ x h. absurd (let e = ap (λ s. has_noted s x) at in cc))
noted_goes change w k (Replaced y) at = noted_at w k (HasPrinted y) (λ x h. subst (λ s. has_noted s x ≡ true) at h)
noted_goes change w k (HasPrinted y) at = λ j x h. h
noted_goes change w k Ended at = λ j x h. h

noted_locks : (w : World) (k : ℕ) (s : Stage) → w.stage k ≡ s → (j : ℕ) (x : Content) → has_noted (w.stage j) x ≡ true → has_noted ((locks w k s).stage j) x ≡ true
noted_locks w k Begins at = noted_makes w k HasLocked w.beside (λ x h. let e = ap (λ s. has_noted s x) at in cc)
noted_locks w k (HasRead y) at = λ j x h. h
noted_locks w k (Writes y) at = λ j x h. h
noted_locks w k (IsSynced y) at = λ j x h. h
noted_locks w k HasLocked at = λ j x h. h
noted_locks w k (Keeps y) at = λ j x h. h
noted_locks w k (FoundSame y) at = λ j x h. h
noted_locks w k Withdraws at = λ j x h. h
noted_locks w k (Replaced y) at = λ j x h. h
noted_locks w k (HasPrinted y) at = λ j x h. h
noted_locks w k Ended at = λ j x h. h

fills_stage : (change : ℕ → Content → List ℕ) (w : World) (k n : ℕ) (s : Stage) → (fills change w k n s).stage ≡ w.stage
fills_stage change w k n (Writes y) = refl
fills_stage change w k n Begins = refl
fills_stage change w k n (HasRead y) = refl
fills_stage change w k n (IsSynced y) = refl
fills_stage change w k n HasLocked = refl
fills_stage change w k n (Keeps y) = refl
fills_stage change w k n (FoundSame y) = refl
fills_stage change w k n Withdraws = refl
fills_stage change w k n (Replaced y) = refl
fills_stage change w k n (HasPrinted y) = refl
fills_stage change w k n Ended = refl

noted_fails : (s : Stage) (x : Content) → has_noted s x ≡ true → has_noted (failed s) x ≡ true
noted_fails Begins x h = cc
noted_fails (HasRead y) x h = cc
noted_fails (Writes y) x h = cc
noted_fails (IsSynced y) x h = cc
noted_fails HasLocked x h = cc
noted_fails (Keeps y) x h = cc
noted_fails (FoundSame y) x h = cc
noted_fails Withdraws x h = cc
noted_fails (Replaced y) x h = h
noted_fails (HasPrinted y) x h = h
noted_fails Ended x h = cc

noted_stops : (s : Stage) (x : Content) → has_noted s x ≡ true → has_noted (stopped s) x ≡ true
noted_stops Begins x h = cc
noted_stops (HasRead y) x h = cc
noted_stops (Writes y) x h = cc
noted_stops (IsSynced y) x h = cc
noted_stops HasLocked x h = cc
noted_stops (Keeps y) x h = cc
noted_stops (FoundSame y) x h = cc
noted_stops Withdraws x h = cc
noted_stops (Replaced y) x h = h
noted_stops (HasPrinted y) x h = h
noted_stops Ended x h = cc

pub noted_on : (change : ℕ → Content → List ℕ) (w : World) (e : Event) (j : ℕ) (x : Content) → has_noted (w.stage j) x ≡ true → has_noted ((happens change w e).stage j) x ≡ true
noted_on change w (Goes k) = noted_goes change w k (w.stage k) refl
noted_on change w (Locks k) = noted_locks w k (w.stage k) refl
noted_on change w (Fills k n) = λ j x h. subst (λ (f : ℕ → Stage). has_noted (f j) x ≡ true) (sym (fills_stage change w k n (w.stage k))) h
noted_on change w (Fails k) = noted_at w k (failed (w.stage k)) (noted_fails (w.stage k))
noted_on change w (Stops k) = noted_at w k (stopped (w.stage k)) (noted_stops (w.stage k))
noted_on change w Clears = λ j x h. h

-- the command had replaced the file before, or this event is its next step after it found the file unchanged
abbrev pub WasReady : (ℕ → Stage) → Event → ℕ → Type 0
WasReady stages e j = (has_replaced (stages j) ≡ true) ⊎ ((e ≡ Goes j) × ((y : Content) × (stages j ≡ FoundSame y)))

ready_at : (w : World) (e : Event) (k : ℕ) (t : Stage) → (has_replaced t ≡ true → WasReady w.stage e k)
    → (j : ℕ) → has_replaced (at_stage w.stage k t j) ≡ true → WasReady w.stage e j
ready_at w e k t here = at_each (λ j s. has_replaced s ≡ true → WasReady w.stage e j) w.stage k t here (λ j ne h. inl h)

ready_makes : (w : World) (e : Event) (k : ℕ) (s : Stage) (new : Option NewFile) → (has_replaced s ≡ true → ⊥) → (j : ℕ) → has_replaced ((makes w k s new).stage j) ≡ true → WasReady w.stage e j
ready_makes w e k s None not = ready_at w e k s (λ h. absurd (not h))
ready_makes w e k s (Some n) not = ready_at w e k Ended (λ h. absurd (cc))

ready_puts : (w : World) (k : ℕ) (y : Content) (new : Option NewFile) → w.stage k ≡ FoundSame y → (j : ℕ) → has_replaced ((puts w k y new).stage j) ≡ true → WasReady w.stage (Goes k) j
ready_puts w k y None at = ready_at w (Goes k) k Withdraws (λ h. absurd (cc))
ready_puts w k y (Some n) at = ready_at w (Goes k) k (Replaced y) (λ h. inr (refl, (y, at)))

none_found : (b : Bool) (y : Content) → has_replaced (cond b (FoundSame y) Withdraws) ≡ true → ⊥
none_found true y h = cc
none_found false y h = cc

ready_goes : (change : ℕ → Content → List ℕ) (w : World) (k : ℕ) (s : Stage) → w.stage k ≡ s → (j : ℕ) → has_replaced ((goes change w k s).stage j) ≡ true → WasReady w.stage (Goes k) j
ready_goes change w k Begins at = ready_at w (Goes k) k (HasRead w.stands) (λ h. absurd (cc))
ready_goes change w k (HasRead y) at = ready_makes w (Goes k) k (Writes y) w.beside (λ h. cc)
ready_goes change w k (Writes y) at = ready_at w (Goes k) k (IsSynced y) (λ h. absurd (cc))
ready_goes change w k (IsSynced y) at = ready_at w (Goes k) k (cond (is_same w.stands y) (FoundSame y) Withdraws) (λ h. absurd (none_found (is_same w.stands y) y h))
ready_goes change w k HasLocked at = ready_at w (Goes k) k (Keeps w.stands) (λ h. absurd (cc))
ready_goes change w k (Keeps y) at = ready_at w (Goes k) k (FoundSame y) (λ h. absurd (cc))
ready_goes change w k (FoundSame y) at = ready_puts w k y w.beside at
ready_goes change w k Withdraws at = ready_at w (Goes k) k Ended (λ h. absurd (cc))
ready_goes change w k (Replaced y) at = ready_at w (Goes k) k (HasPrinted y) (λ h. inl (ap has_replaced at))
ready_goes change w k (HasPrinted y) at = λ j h. inl h
ready_goes change w k Ended at = λ j h. inl h

ready_locks : (w : World) (k : ℕ) (s : Stage) (j : ℕ) → has_replaced ((locks w k s).stage j) ≡ true → WasReady w.stage (Locks k) j
ready_locks w k Begins = ready_makes w (Locks k) k HasLocked w.beside (λ h. cc)
ready_locks w k (HasRead y) = λ j h. inl h
ready_locks w k (Writes y) = λ j h. inl h
ready_locks w k (IsSynced y) = λ j h. inl h
ready_locks w k HasLocked = λ j h. inl h
ready_locks w k (Keeps y) = λ j h. inl h
ready_locks w k (FoundSame y) = λ j h. inl h
ready_locks w k Withdraws = λ j h. inl h
ready_locks w k (Replaced y) = λ j h. inl h
ready_locks w k (HasPrinted y) = λ j h. inl h
ready_locks w k Ended = λ j h. inl h

replaced_fails : (s : Stage) → has_replaced (failed s) ≡ true → has_replaced s ≡ true
replaced_fails Begins h = cc
replaced_fails (HasRead y) h = cc
replaced_fails (Writes y) h = cc
replaced_fails (IsSynced y) h = cc
replaced_fails HasLocked h = cc
replaced_fails (Keeps y) h = cc
replaced_fails (FoundSame y) h = cc
replaced_fails Withdraws h = cc
replaced_fails (Replaced y) h = h
replaced_fails (HasPrinted y) h = h
replaced_fails Ended h = cc

replaced_stops : (s : Stage) → has_replaced (stopped s) ≡ true → has_replaced s ≡ true
replaced_stops Begins h = cc
replaced_stops (HasRead y) h = cc
replaced_stops (Writes y) h = cc
replaced_stops (IsSynced y) h = cc
replaced_stops HasLocked h = cc
replaced_stops (Keeps y) h = cc
replaced_stops (FoundSame y) h = cc
replaced_stops Withdraws h = cc
replaced_stops (Replaced y) h = h
replaced_stops (HasPrinted y) h = h
replaced_stops Ended h = cc

pub ready : (change : ℕ → Content → List ℕ) (w : World) (e : Event) (j : ℕ) → has_replaced ((happens change w e).stage j) ≡ true → WasReady w.stage e j
ready change w (Goes k) = ready_goes change w k (w.stage k) refl
ready change w (Locks k) = ready_locks w k (w.stage k)
ready change w (Fills k n) = λ j h. inl (subst (λ (f : ℕ → Stage). has_replaced (f j) ≡ true) (fills_stage change w k n (w.stage k)) h)
ready change w (Fails k) = ready_at w (Fails k) k (failed (w.stage k)) (λ h. inl (replaced_fails (w.stage k) h))
ready change w (Stops k) = ready_at w (Stops k) k (stopped (w.stage k)) (λ h. inl (replaced_stops (w.stage k) h))
ready change w Clears = λ j h. inl h

-- a command that has replaced a register has noted its numbers
pub record DeskHolds (o : Office) (from : ℕ → Content) (d : Desk) : Type 0 where
  pub office : Holds (many (numbers o)) d.office
  pub noted : (p j : ℕ) → has_replaced ((d.registers p).stage j) ≡ true → has_noted (d.office.stage j) (from j) ≡ true

went : (from : ℕ → Content) (office register : World) (e : Event) (j : ℕ) (y : Content) → e ≡ Goes j → register.stage j ≡ FoundSame y → may_come from office register e ≡ true → has_noted (office.stage j) (from j) ≡ true
went from office register e j y is at may =
    let m : may_go (register.stage j) (has_noted (office.stage j) (from j)) ≡ true = subst (λ f. may_come from office register f ≡ true) is may in
    subst (λ s. may_go s (has_noted (office.stage j) (from j)) ≡ true) at m

register_keeps : (o : Office) (change : ℕ → Content → List ℕ) (from : ℕ → Content) (d : Desk) (p : ℕ) (e : Event) (b : Bool) → may_come from d.office (d.registers p) e ≡ b → DeskHolds o from d
    → (j : ℕ) → has_replaced ((cond b (happens change (d.registers p) e) (d.registers p)).stage j) ≡ true → has_noted (d.office.stage j) (from j) ≡ true
register_keeps o change from d p e false may h j r = h.noted p j r
register_keeps o change from d p e true may h j r =
    elim (ready change (d.registers p) e j r) [
      | inl before ↦ h.noted p j before
      | inr (is, (y, at)) ↦ went from d.office (d.registers p) e j y is at may
    ]

pub desk_keeps : (o : Office) → IsRead o → (change : ℕ → Content → List ℕ) (from : ℕ → Content) (d : Desk) (e : DeskEvent) → DeskHolds o from d → DeskHolds o from (desk_happens o change from d e)
desk_keeps o reads change from d (AtOffice e) h = record {
  office = happens_keeps (many (numbers o)) (many_add (numbers o) (numbers_add o reads)) d.office e h.office;
  noted = λ p j r. noted_on (numbers o).change d.office e j (from j) (h.noted p j r);
}
desk_keeps o reads change from d (AtRegister p e) h = record {
  office = h.office;
  noted = λ q j. elim (eqb_tells q p) [
    | inl (t, same) ↦ (λ r. register_keeps o change from d p e (may_come from d.office (d.registers p) e) refl h j
        (subst (λ b. has_replaced ((cond b (cond (may_come from d.office (d.registers p) e) (happens change (d.registers p) e) (d.registers p)) (d.registers q)).stage j) ≡ true) t r))
    | inr (f, ne) ↦ (λ r. h.noted q j
        (subst (λ b. has_replaced ((cond b (cond (may_come from d.office (d.registers p) e) (happens change (d.registers p) e) (d.registers p)) (d.registers q)).stage j) ≡ true) f r))
  ];
}

pub desk_after_keeps : (o : Office) → IsRead o → (change : ℕ → Content → List ℕ) (from : ℕ → Content) (es : List DeskEvent) (d : Desk) → DeskHolds o from d → DeskHolds o from (desk_after o change from es d)
desk_after_keeps o reads change from [] d h = h
desk_after_keeps o reads change from (e ∷ es) d h = desk_after_keeps o reads change from es (desk_happens o change from d e) (desk_keeps o reads change from d e h)

pub desk_always : (o : Office) → IsRead o → (change : ℕ → Content → List ℕ) (from : ℕ → Content) (es : List DeskEvent) (x : Content) (xs : ℕ → Content) → DeskHolds o from (desk_after o change from es (desk_start x xs))
desk_always o reads change from es x xs = desk_after_keeps o reads change from es (desk_start x xs) (record { office = start_holds (many (numbers o)) x; noted = λ p j r. absurd (cc) })

-- a command that has noted numbers gave them
gave_noted : {I : Type 0} (c : Commands I) (k : ℕ) (s : Stage) (x : Content) (i : I) → has_noted s x ≡ true → c.gives k x i ≡ true → Gave (many c) k s i
gave_noted c k Begins x i n g = cc
gave_noted c k (HasRead y) x i n g = cc
gave_noted c k (Writes y) x i n g = cc
gave_noted c k (IsSynced y) x i n g = cc
gave_noted c k HasLocked x i n g = cc
gave_noted c k (Keeps y) x i n g = cc
gave_noted c k (FoundSame y) x i n g = cc
gave_noted c k Withdraws x i n g = cc
gave_noted c k (Replaced y) x i n g = subst (λ z. c.gives k z i ≡ true) (sym (same_content y x n)) g
gave_noted c k (HasPrinted y) x i n g = subst (λ z. c.gives k z i ≡ true) (sym (same_content y x n)) g
gave_noted c k Ended x i n g = cc

pub given_once : (o : Office) (from : ℕ → Content) (d : Desk) → DeskHolds o from d → (p q j k i : ℕ)
    → has_replaced ((d.registers p).stage j) ≡ true → has_replaced ((d.registers q).stage k) ≡ true
    → (numbers o).gives j (from j) i ≡ true → (numbers o).gives k (from k) i ≡ true → j ≡ k
given_once o from d h p q j k i rj rk gj gk =
    h.office.one j k i (gave_noted (numbers o) j (d.office.stage j) (from j) i (h.noted p j rj) gj) (gave_noted (numbers o) k (d.office.stage k) (from k) i (h.noted q k rk) gk)
