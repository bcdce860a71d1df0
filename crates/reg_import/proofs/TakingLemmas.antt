-- Readings that an import takes one after another.
use Rattle.std.proofs.Common.{◌≡◌, ℕ, ◌+◌, ◌≤◌, Bool, false, ◌||◌, List, [], ◌∷◌, ◌++◌, append_assoc, append-nil, length, length-append, add-zero, refl, sym, ap, ◌∙◌, subst, arith}
use Rattle.std.specs.List.{list_any}
use Rattle.std.proofs.lemmas.List.{map-append}
use Rattle.std.proofs.lemmas.List.Folds.{list_any-append}
use Rattle.std.proofs.lemmas.Grind.{flat_map-append}
use Rattle.std.proofs.Math.Bool.{or-false}
use Rattle.reg_op.specs.declared.operation.OpBody.{OpBody as Body}
use Rattle.reg_op.specs.Contents.{Content}
use Rattle.reg_office.specs.Making.{greatest, numbered}
use Rattle.reg_import.specs.declared.standing_entry.StandingEntry.{StandingEntry}
use Rattle.reg_import.specs.declared.reading.ReadText.{ReadText}
use Rattle.reg_import.specs.declared.action.Differs.{Differs}
use Rattle.reg_import.specs.declared.action.TextAction.{TextAction}
use Rattle.reg_import.specs.declared.import.Importing.{Importing}
use Rattle.reg_import.specs.Known.{At, AreStanding, by_key}
use Rattle.reg_import.specs.Index.{Indexes}
use Rattle.reg_import.specs.Imports.{told_at, bodies_at, then_at, Step, imports, tolds, effects, is_refused, is_spent}
use Rattle.reg_import.specs.Plans.{AreSteps, StepsOn, Plans, PassesAll, MayRunOut}
use Rattle.reg_import.specs.Taking.{HasTaken}
use Rattle.reg_import.proofs.NumberedLemmas.{numbered_append, length_numbered}
use Rattle.reg_import.proofs.AtOnceLemmas.{not_first}

-- ---- nothing is taken yet

module _ (x : Content) (replica note : List ℕ) (d : Differs) (m : Importing) where
  pub none_taken : length note ≤ 200 → ((es : List StandingEntry) × AreStanding x.ops es × Indexes m.made.index (by_key es)) → m.made.ops.items ≡ [] → m.is_spent ≡ false → m.first ≡ greatest replica x.seen + 1
      → m.replica ≡ replica → m.differs ≡ d → m.note ≡ note → HasTaken x replica note d [] [] m
  none_taken short i ops spent first of mode noted =
      let same : m.first + length m.made.ops.items ≡ m.first = (λ j. m.first + length (ops j)) ∙ add-zero m.first in record {
        es = i.0;
        standing = i.1;
        steps = [];
        at = by_key i.0;
        go_on = λ more. ap (λ n. imports d replica n (by_key i.0) more) (sym same);
        told = refl;
        made = ops;
        index = i.2;
        spent = spent;
        short = short;
        first = first;
        of = of;
        mode = mode;
        noted = noted;
      }

-- ---- one more

module _ (x : Content) (replica note : List ℕ) (d : Differs) (rs : List ReadText) (ts : List TextAction) (m new : Importing) (text : ReadText) (t : TextAction) (h : HasTaken x replica note d rs ts m) where
  pub one_taken : StepsOn m.differs m.replica (m.first + length m.made.ops.items) m.note text h.at new.made.index m.made.ops.items new.made.ops.items t → new.first ≡ m.first → new.replica ≡ m.replica → new.differs ≡ m.differs
      → new.note ≡ m.note → new.is_spent ≡ (m.is_spent || is_spent t) → HasTaken x replica note d (rs ++ text ∷ []) (ts ++ t ∷ []) new
  one_taken given first of mode noted spent =
      let n : ℕ = m.first + length m.made.ops.items in
      let of_note = subst (λ u. StepsOn m.differs m.replica n u text h.at new.made.index m.made.ops.items new.made.ops.items t) h.noted given in
      let of_office = subst (λ r. StepsOn m.differs r n note text h.at new.made.index m.made.ops.items new.made.ops.items t) h.of of_note in
      let s : StepsOn d replica n note text h.at new.made.index m.made.ops.items new.made.ops.items t = subst (λ e. StepsOn e replica n note text h.at new.made.index m.made.ops.items new.made.ops.items t) h.mode of_office in
      let t0 : TextAction = told_at d replica n h.at text in
      let bs : List Body = bodies_at t0 h.at text in
      let now : At = then_at t0 h.at text in
      let step : Step = record { told = t0; bodies = bs } in
      let made_now : new.made.ops.items ≡ m.made.ops.items ++ numbered replica n note bs = subst (λ u. new.made.ops.items ≡ m.made.ops.items ++ numbered replica n note (bodies_at u h.at text)) s.told s.made in
      let long : length new.made.ops.items ≡ length m.made.ops.items + length bs =
      ap length made_now ∙ length-append m.made.ops.items (numbered replica n note bs) ∙ ap (λ k. length m.made.ops.items + k) (length_numbered replica n note bs) in
      let next : new.first + length new.made.ops.items ≡ n + length bs = omega (arith, long, first) in
      let before : length m.made.ops.items ≡ length (effects h.steps) = ap length h.made ∙ length_numbered replica m.first note (effects h.steps) in
      let from : n ≡ m.first + length (effects h.steps) = ap (λ k. m.first + k) before in
      let all : effects (h.steps ++ step ∷ []) ≡ effects h.steps ++ bs = flat_map-append (λ (s : Step). s.bodies) h.steps (step ∷ []) ∙ ap (λ l. effects h.steps ++ l) (append-nil bs) in record {
        es = h.es;
        standing = h.standing;
        steps = h.steps ++ step ∷ [];
        at = now;
        go_on = λ more.
            ap (λ k. imports d replica k (by_key h.es) ((rs ++ text ∷ []) ++ more)) first
            ∙ ap (imports d replica m.first (by_key h.es)) (append_assoc rs (text ∷ []) more)
            ∙ h.go_on (text ∷ more)
            ∙ sym (append_assoc h.steps (step ∷ []) (imports d replica (n + length bs) now more))
            ∙ ap (λ k. (h.steps ++ step ∷ []) ++ imports d replica k now more) (sym next);
        told = (λ j. h.told j ++ s.told j ∷ []) ∙ sym (map-append (λ (s : Step). s.told) h.steps (step ∷ []));
        made =
            made_now
            ∙ (λ j. h.made j ++ numbered replica (from j) note bs)
            ∙ sym (numbered_append replica m.first note (effects h.steps) bs)
            ∙ ap (numbered replica m.first note) (sym all)
            ∙ ap (λ k. numbered replica k note (effects (h.steps ++ step ∷ []))) (sym first);
        index = subst (λ u. Indexes new.made.index (then_at u h.at text)) s.told s.index;
        spent = spent ∙ ap (λ b. b || is_spent t) h.spent ∙ ap (λ b. list_any is_spent ts || b) (sym (or-false (is_spent t))) ∙ sym (list_any-append is_spent ts (t ∷ []));
        short = h.short;
        first = first ∙ h.first;
        of = of ∙ h.of;
        mode = mode ∙ h.mode;
        noted = noted ∙ h.noted;
      }

-- ---- all

module _ (x : Content) (replica note : List ℕ) (d : Differs) (rs : List ReadText) (ts : List TextAction) (m : Importing) (h : HasTaken x replica note d rs ts m) where
  abbrev pub taken_steps : AreSteps x replica d rs h.steps
  taken_steps = (
    h.es,
    h.standing,
    sym (append-nil h.steps) ∙ sym (h.go_on []) ∙ ap (imports d replica m.first (by_key h.es)) (append-nil rs) ∙ ap (λ k. imports d replica k (by_key h.es) rs) h.first,
  )

  pub taken_plan : Plans x replica note d rs ts m.made.ops.items
  taken_plan = (h.steps, taken_steps, record { told = h.told; made = h.made ∙ ap (λ k. numbered replica k note (effects h.steps)) h.first })

  -- where no text refuses the import, memory may have run out
  pub taken_may : (keep_going : Bool) → PassesAll keep_going ts → MayRunOut note keep_going rs
  taken_may keep_going passes = (
    h.short,
    not_first d replica (greatest replica x.seen + 1) (by_key h.es) keep_going rs (λ e. subst (λ (l : List TextAction). list_any is_refused l ≡ false) (h.told ∙ ap tolds (taken_steps).2) (passes e)),
  )
