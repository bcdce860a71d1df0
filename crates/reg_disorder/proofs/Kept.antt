-- For each key, all kept rows have one text, and the first of them retires the entries that are not kept.
use Rattle.std.proofs.Common.{◌≡◌, ◌≢◌, ◌⊎◌, ℕ, ◌+◌, ◌<◌, Bool, true, false, cond, List, [], ◌∷◌, ◌++◌, map, filter, length, get_or, take, drop, Option, Some, None, refl, sym, ap, ◌∙◌, subst, inl, inr, append-nil}
use Rattle.std.specs.Prelude.{Contains}
use Rattle.std.specs.Borrow.{Bor}
use Rattle.std.specs.BTreeMap.{BTreeMap}
use Rattle.std.specs.Map.{lookup}
use Rattle.std.proofs.lemmas.List.{take_more}
use Rattle.std.specs.Ordering.{is_eq}
use Rattle.std.proofs.lemmas.List.Elements.{Contains-append_cases, Contains-append_left, Contains-append_right}
use Rattle.reg_op.specs.Ids.{Id}
use Rattle.reg_op.specs.Rows.{Row}
use Rattle.reg_op.specs.Set.{Ascends}
use Rattle.reg_op.specs.declared.status.Status.TheVariants.{Retired}
use Rattle.reg_report.specs.Conflicts.{KeyBytes, key_cmp, HasKey}
use Rattle.reg_report.specs.Rows.{row_cmp, HasRow}
use Rattle.reg_report.proofs.ConflictLemmas.{none_in, in_cons, in_head, in_tail}
use Rattle.reg_report.proofs.ContenderLemmas.{one_key}
use Rattle.reg_report.proofs.FoundLemmas.{OneRow, one_row}
use Rattle.reg_disorder.specs.declared.settling.fault.SettleFault.TheVariants as fault
use Rattle.reg_report.specs.declared.key.KeyText.{KeyText}
use Rattle.reg_report.specs.declared.row.Row.{Row as MadeRow}
use Rattle.reg_report.specs.Keys.{text_cmp}
use Rattle.reg_disorder.specs.declared.settling.rival.Rival.{Rival}
use Rattle.reg_disorder.specs.Settling.{Picks, IsTaken, IsKept, IsRival, IsObjection}
use Rattle.reg_disorder.specs.Keeping.{At, Holds, seen_in, with_row, entry_of, is_of_key, AreRivals, Retires, IsOther}
use Rattle.reg_disorder.proofs.Settled.{is_in, picked, picked_are}
use Rattle.reg_disorder.proofs.Candidates.{same_key, key_itself, picks_of_key}
use Rattle.reg_disorder.proofs.Steps.{Goes, goes_next}

-- what holds for each key after the entries `before` are kept
pub record Kept (rs : List Row) (keeps before retired : List Id) (at : At) : Type 0 where
  -- the row of a key is kept and has the key, and each kept row of the key has its text
  pub some : (k : KeyBytes) (f : Row) → at k ≡ Some f → Contains rs f × Contains before f.entry × HasKey f.definition k
  pub texts : (k : KeyBytes) (f r : Row) → at k ≡ Some f → Contains rs r → Contains before r.entry → HasKey r.definition k → r.definition ≡ f.definition
  -- a key without a row has no kept row
  pub none : (k : KeyBytes) (r : Row) → at k ≡ None → Contains rs r → Contains before r.entry → ¬ (HasKey r.definition k)
  -- `retired` has each entry of a key with a row that is neither retired nor to be kept, and no entry of any other key
  pub gone : (k : KeyBytes) (f r : Row) → at k ≡ Some f → Contains rs r → HasKey r.definition k → r.status ≢ Some Retired → ¬ (Contains keeps r.entry) → Contains retired r.entry
  pub left : (k : KeyBytes) (r : Row) → at k ≡ None → Contains rs r → HasKey r.definition k → ¬ (Contains retired r.entry)

pub nothing_kept : (rs : List Row) (keeps : List Id) → Kept rs keeps [] [] (λ _. None)
nothing_kept rs keeps = record {
  some = λ k f e. let no : ◌≡◌ {A = Option Row} None (Some f) = e in absurd cc;
  texts = λ k f r e there named keyed. absurd (none_in r.entry named);
  none = λ k r e there named keyed. none_in r.entry named;
  gone = λ k f r e. let no : ◌≡◌ {A = Option Row} None (Some f) = e in absurd cc;
  left = λ k r e there keyed gone. none_in r.entry gone;
}

last_is : (before : List Id) (k i : Id) → Contains (before ++ k ∷ []) i → Contains before i ⊎ (i ≡ k)
last_is before k i h = elim (Contains-append_cases before (k ∷ []) i h) [
  | inl b ↦ inl b
  | inr l ↦ elim (in_cons i k [] l) [ inl same ↦ inr same | inr never ↦ absurd (none_in i never) ]
]

module _ (rs : List Row) (keeps before retired : List Id) (at : At) (one : OneRow rs) (kept : Kept rs keeps before retired at) (keep : Row) (there : Contains rs keep) (k : KeyBytes) (keyed : HasKey keep.definition k) where
  same_at : (l : KeyBytes) → HasKey keep.definition l → k ≡ l
  same_at l h = one_key keep.definition k l keyed h

  -- ---- whether the row can be kept

  taken : (f : Row) → at k ≡ Some f → f.definition ≢ keep.definition → IsTaken rs before keep
  taken f e other =
      let s = kept.some k f e in
      record { other = f; there = s.0; takes = record { differs = record { shares = record { key = k; of_one = s.2; of_other = keyed }; differ = other }; kept = s.1 } }

  key_of_taken : (t : IsTaken rs before keep) → HasKey (t.other).definition k
  key_of_taken t = subst (HasKey (t.other).definition) (sym (same_at (t.takes.differs.shares).key (t.takes.differs.shares).of_other)) (t.takes.differs.shares).of_one

  -- the row of the key, if it has one, has the text of `keep`
  abbrev Agrees : Type 0
  Agrees = (f : Row) → at k ≡ Some f → f.definition ≡ keep.definition

  not_taken : Agrees → (o : Option Row) → at k ≡ o → ¬ (IsTaken rs before keep)
  not_taken agree None e t = kept.none k t.other e t.there (t.takes).kept (key_of_taken t)
  not_taken agree (Some f) e t = (t.takes.differs).differ (kept.texts k f t.other e t.there (t.takes).kept (key_of_taken t) ∙ agree f e)

  pub agrees : (mine : List Rival) (old new : List Id) (o : Option Row) → at k ≡ o → Retires o keep mine old new → Agrees
  agrees mine old new None e r f g = let no : ◌≡◌ {A = Option Row} None (Some f) = sym e ∙ g in absurd cc
  agrees mine old new (Some h) e r f g =
      let both : ◌≡◌ {A = Option Row} (Some h) (Some f) = sym e ∙ g in
      let same : h ≡ f = cc in
      sym (ap (λ (q : Row). q.definition) same) ∙ r.0

  pub is_kept : (i : Id) → keep.entry ≡ i → keep.status ≢ Some Retired → Agrees → IsKept rs before i keep
  is_kept i is stands agree = record { there = there; is = is; stands = stands; agrees = not_taken agree (at k) refl }

  pub is_refused : (i : Id) (o : Option Row) → keep.entry ≡ i → keep.status ≢ Some Retired → at k ≡ o → IsOther o keep → IsObjection rs before i (fault.KeyTaken keep.entry)
  is_refused i None is stands e other = absurd other
  is_refused i (Some f) is stands e other = (is, (keep, record { there = there; is = is }, stands, taken f e other))

  -- ---- the entries that are retired for it

  none_picked : (P : Row → Type 0) (qs : List Row) → ((r : Row) → Contains qs r → ¬ (P r)) → Picks P qs []
  none_picked P [] never = refl
  none_picked P (q ∷ qs) never = inr (never q (in_head q qs), none_picked P qs (λ r h. never r (in_tail r q qs h)))

  key_of_rival : (r : Row) → IsRival keeps retired keep r → HasKey r.definition k
  key_of_rival r rival = subst (HasKey r.definition) (sym (same_at (rival.shares).key (rival.shares).of_one)) (rival.shares).of_other

  pub retires_are : (cs : List Rival) → AreRivals keeps rs cs → (o : Option Row) → at k ≡ o → (new : List Id) → Retires o keep (filter (is_of_key k) cs) retired new
      → (mine : List Id) × Picks (IsRival keeps retired keep) rs mine × (new ≡ retired ++ mine)
  retires_are cs are None e new r = (map entry_of (filter (is_of_key k) cs), picks_of_key keeps retired keep k keyed rs cs are (λ q h its. kept.left k q e h its), r)
  retires_are cs are (Some f) e new r = (
    [],
    none_picked (IsRival keeps retired keep) rs (λ q h rival. rival.left (kept.gone k f q e h (key_of_rival q rival) rival.stands rival.no_keep)),
    r.1 ∙ sym (append-nil retired),
  )

  -- ---- what holds for each key after it is kept

  module _ (mine : List Id) (picks : Picks (IsRival keeps retired keep) rs mine) (agree : Agrees) where
    is_keep : (r : Row) → Contains rs r → r.entry ≡ keep.entry → r ≡ keep
    is_keep r h e = one r keep h there e

    -- each kept row of the key has the text of `keep`
    text_of : (r : Row) → Contains rs r → Contains (before ++ keep.entry ∷ []) r.entry → HasKey r.definition k → r.definition ≡ keep.definition
    text_of r h named its = elim (last_is before keep.entry r.entry named) [
      | inl early ↦ by (at k) refl early
      | inr last ↦ ap (λ (q : Row). q.definition) (is_keep r h last)
    ]
      where
        by : (o : Option Row) → at k ≡ o → Contains before r.entry → r.definition ≡ keep.definition
        by None e early = absurd (kept.none k r e h early its)
        by (Some f) e early = kept.texts k f r e h early its ∙ agree f e

    early : (l : KeyBytes) → is_eq (key_cmp k l) ≡ false → (r : Row) → Contains rs r → Contains (before ++ keep.entry ∷ []) r.entry → HasKey r.definition l → Contains before r.entry
    early l other r h named its = elim (last_is before keep.entry r.entry named) [
      | inl b ↦ b
      | inr last ↦
          let same : k ≡ l = same_at l (subst (λ (q : Row). HasKey q.definition l) (is_keep r h last) its) in
          let yes : is_eq (key_cmp k l) ≡ true = key_itself k l same in
          let no : true ≡ false = sym yes ∙ other in
          absurd cc
    ]

    rival_gone : (r : Row) → Contains rs r → HasKey r.definition k → r.status ≢ Some Retired → ¬ (Contains keeps r.entry) → Contains (retired ++ mine) r.entry
    rival_gone r h its stands no_keep = elim (is_in retired r.entry) [
      | inl gone ↦ Contains-append_left retired mine r.entry gone
      | inr left ↦ Contains-append_right retired mine r.entry (picked (IsRival keeps retired keep) rs mine r picks h
          (record { shares = record { key = k; of_one = keyed; of_other = its }; stands = stands; no_keep = no_keep; left = left }))
    ]

    others_left : (l : KeyBytes) → is_eq (key_cmp k l) ≡ false → (r : Row) → at l ≡ None → Contains rs r → HasKey r.definition l → ¬ (Contains (retired ++ mine) r.entry)
    others_left l other r e h its gone = elim (Contains-append_cases retired mine r.entry gone) [
      | inl old ↦ kept.left l r e h its old
      | inr new ↦
          let m = picked_are (IsRival keeps retired keep) rs mine r.entry picks new in
          let its_too : HasKey r.definition k = subst (λ (q : Row). HasKey q.definition k) (one m.0 r m.1 h m.3) (key_of_rival m.0 m.2) in
          let yes : is_eq (key_cmp k l) ≡ true = key_itself k l (one_key r.definition k l its_too its) in
          let no : true ≡ false = sym yes ∙ other in
          absurd cc
    ]

    pub kept_more : Kept rs keeps (before ++ keep.entry ∷ []) (retired ++ mine) (with_row k keep at)
    kept_more = record {
      some = λ l f. some_more l f (is_eq (key_cmp k l)) refl;
      texts = λ l f r. texts_more l f r (is_eq (key_cmp k l)) refl;
      none = λ l r. none_more l r (is_eq (key_cmp k l)) refl;
      gone = λ l f r. gone_more l f r (is_eq (key_cmp k l)) refl;
      left = λ l r. left_more l r (is_eq (key_cmp k l)) refl;
    }
      where
        some_more : (l : KeyBytes) (f : Row) (t : Bool) → is_eq (key_cmp k l) ≡ t → cond t (Some keep) (at l) ≡ Some f → Contains rs f × Contains (before ++ keep.entry ∷ []) f.entry × HasKey f.definition l
        some_more l f true own e =
            let is : keep ≡ f = cc in
            subst (λ (q : Row). Contains rs q × Contains (before ++ keep.entry ∷ []) q.entry × HasKey q.definition l) is
            (there, Contains-append_right before (keep.entry ∷ []) keep.entry (in_head keep.entry []), subst (HasKey keep.definition) (same_key k l own) keyed)
        some_more l f false other e = let s = kept.some l f e in (s.0, Contains-append_left before (keep.entry ∷ []) f.entry s.1, s.2)

        texts_more : (l : KeyBytes) (f r : Row) (t : Bool) → is_eq (key_cmp k l) ≡ t → cond t (Some keep) (at l) ≡ Some f → Contains rs r → Contains (before ++ keep.entry ∷ []) r.entry → HasKey r.definition l
            → r.definition ≡ f.definition
        texts_more l f r true own e h named its =
            let is : keep ≡ f = cc in
            text_of r h named (subst (HasKey r.definition) (sym (same_key k l own)) its) ∙ ap (λ (q : Row). q.definition) is
        texts_more l f r false other e h named its = kept.texts l f r e h (early l other r h named its) its

        none_more : (l : KeyBytes) (r : Row) (t : Bool) → is_eq (key_cmp k l) ≡ t → cond t (Some keep) (at l) ≡ None → Contains rs r → Contains (before ++ keep.entry ∷ []) r.entry → ¬ (HasKey r.definition l)
        none_more l r true own e h named its = let no : ◌≡◌ {A = Option Row} (Some keep) None = e in absurd cc
        none_more l r false other e h named its = kept.none l r e h (early l other r h named its) its

        gone_more : (l : KeyBytes) (f r : Row) (t : Bool) → is_eq (key_cmp k l) ≡ t → cond t (Some keep) (at l) ≡ Some f → Contains rs r → HasKey r.definition l → r.status ≢ Some Retired → ¬ (Contains keeps r.entry)
            → Contains (retired ++ mine) r.entry
        gone_more l f r true own e h its stands no_keep = rival_gone r h (subst (HasKey r.definition) (sym (same_key k l own)) its) stands no_keep
        gone_more l f r false other e h its stands no_keep = Contains-append_left retired mine r.entry (kept.gone l f r e h its stands no_keep)

        left_more : (l : KeyBytes) (r : Row) (t : Bool) → is_eq (key_cmp k l) ≡ t → cond t (Some keep) (at l) ≡ None → Contains rs r → HasKey r.definition l → ¬ (Contains (retired ++ mine) r.entry)
        left_more l r true own e h its = let no : ◌≡◌ {A = Option Row} (Some keep) None = e in absurd cc
        left_more l r false other e h its = others_left l other r e h its

-- ---- one iteration of the loop

pub next_kept : (rs : List Row) (keeps ids new : List Id) (i : ℕ) (e : Id) (at : At) (keep : Row) (k : KeyBytes) (cs : List Rival) → Ascends row_cmp rs → AreRivals keeps rs cs → i < length keeps → e ≡ get_or keeps i e
    → HasRow rs e keep → keep.status ≢ Some Retired → HasKey keep.definition k → Retires (at k) keep (filter (is_of_key k) cs) ids new
    → Goes rs keeps (take i keeps) (drop i keeps) ids → Kept rs keeps (take i keeps) ids at
    → Goes rs keeps (take (i + 1) keeps) (drop (i + 1) keeps) new × Kept rs keeps (take (i + 1) keeps) new (with_row k keep at)
next_kept rs keeps ids new i e at keep k cs up are lt is has stands keyed r goes kept =
    let one : OneRow rs = one_row rs up in
    let agree = agrees rs keeps (take i keeps) ids at one kept keep has.there k keyed (filter (is_of_key k) cs) ids new (at k) refl r in
    let m = retires_are rs keeps (take i keeps) ids at one kept keep has.there k keyed cs are (at k) refl new r in
    let more = kept_more rs keeps (take i keeps) ids at one kept keep has.there k keyed m.0 m.1 agree in
    let before : take i keeps ++ keep.entry ∷ [] ≡ take (i + 1) keeps = sym (take_more keeps i e lt ∙ ap (λ x. take i keeps ++ x ∷ []) (sym is ∙ sym has.is)) in (
      goes_next rs keeps ids new m.0 i e keep lt is m.2 (is_kept rs keeps (take i keeps) ids at one kept keep has.there k keyed e has.is stands agree) m.1 goes,
      subst (λ b. Kept rs keeps b new (with_row k keep at)) before (subst (λ l. Kept rs keeps (take i keeps ++ keep.entry ∷ []) l (with_row k keep at)) (sym m.2) more),
    )

pub nothing_held : (m : BTreeMap KeyText (Bor MadeRow)) → m.entries ≡ [] → Holds m (λ _. None)
nothing_held m e q = ap (λ l. seen_in (lookup (λ k. is_eq (text_cmp q k)) l)) e
