-- What the modes of an import promise.
use Rattle.std.proofs.Common.{◌≡◌, ◌≢◌, ℕ, ◌+◌, nat_le, Bool, true, false, not, cond, ◌||◌, List, [], ◌∷◌, ◌++◌, length, Option, Some, None, refl, sym, ap, ◌∙◌, subst, inl, inr, ◌⊎◌, add-zero, arith}
use Rattle.std.specs.Prelude.{Contains, option_map}
use Rattle.std.specs.Option.{unwrap_or}
use Rattle.std.proofs.lemmas.Bool.{true≢false, false_from_ne_true, or_cases, or_parts}
use Rattle.std.proofs.Math.Bool.{or-false}
use Rattle.crs_value.specs.declared.key.Key.{Key}
use Rattle.wkt_crs.specs.Definition.{IsKeyIn}
use Rattle.reg_op.specs.Ids.{Id}
use Rattle.reg_op.specs.Lists.{has}
use Rattle.reg_op.specs.Kept.{entering}
use Rattle.reg_op.specs.Operations.{Ops}
use Rattle.reg_op.specs.declared.operation.OpBody.{OpBody as Body}
use Rattle.reg_op.specs.declared.operation.OpBody.TheVariants.{Enter}
use Rattle.reg_op.specs.Contents.{Content, IsContent}
use Rattle.reg_op.specs.Rows.{Row, rows}
use Rattle.reg_op.specs.Status.{enters, retires, supersedes}
use Rattle.reg_op.specs.declared.status.Status.{Status}
use Rattle.reg_op.specs.declared.status.Status.TheVariants.{Retired, Superseded, Valid}
use Rattle.reg_state.specs.Runs.{id_at}
use Rattle.reg_report.specs.Conflicts.{KeyBytes, HasKey, bytes_of}
use Rattle.reg_report.specs.Exports.{is_retired}
use Rattle.reg_report.proofs.ConflictLemmas.{none_in, in_cons}
use Rattle.reg_report.proofs.EntryLemmas.{row_is_entered}
use Rattle.reg_report.proofs.PairLemmas.{it_enters}
use Rattle.reg_office.specs.Making.{greatest, numbered}
use Rattle.reg_office.specs.Commands.{Does}
use Rattle.reg_op.proofs.ItemLemmas.{items_by_id}
use Rattle.reg_report.proofs.RowLemmas.{row_status}
use Rattle.reg_office.proofs.LawLemmas.{made_are}
use Rattle.reg_office.proofs.NumberLemmas.{numbered_on}
use Rattle.reg_import.specs.declared.standing_entry.StandingEntry.{StandingEntry}
use Rattle.reg_import.specs.declared.reading.ReadText.{ReadText}
use Rattle.reg_import.specs.declared.reading.ReadText.TheVariants as reading
use Rattle.reg_import.specs.declared.action.Differs.{Differs}
use Rattle.reg_import.specs.declared.action.Differs.TheVariants as differs
use Rattle.reg_import.specs.declared.action.Problem.TheVariants as problem
use Rattle.reg_import.specs.declared.action.TextAction.{TextAction}
use Rattle.reg_import.specs.declared.action.TextAction.TheVariants as told
use Rattle.reg_import.specs.Known.{AreStanding, OfKey, At, is_key, key_of, by_key, with_key}
use Rattle.reg_import.specs.Imports.{least, any_entry, sooner, has_text, has_text_and_is_valid, unless_spent, told_of_new, told_of, bodies_of, entered, then_of, imports, effects}
use Rattle.reg_import.specs.Plans.{Imports}
use Rattle.reg_import.specs.Again.{HasStanding, RetiresNoneAhead, AreReadings}
use Rattle.reg_import.specs.Modes.{MakesNoConflict, RetiresNothing, LeavesOneText}
use Rattle.reg_import.proofs.KnownLemmas.{same_key, key_itself}
use Rattle.reg_import.proofs.FreshLemmas.{imports_once}
use Rattle.reg_import.proofs.TextLemmas.{HasText}
use Rattle.reg_import.proofs.AgainLemmas.{at_key, finally}
use Rattle.reg_import.proofs.StandingLemmas.{in_filter, to_filter, one_key, IsOld, standing_is_old, old_is_standing, entered_stands, standing_entry, gone, was_entered, then_retired}
use Rattle.reg_import.proofs.LawLemmas.{are_keyed}
use Rattle.reg_import.proofs.LastLemmas.{AreKeyed, gone_both, once_gone, old_stay, has_both, enters_there, entered_is}

-- ---- the action for a text, in each mode

module _ (P : TextAction → Type 0) where
  or_else : (f : Id → TextAction) (o : Option Id) (t : TextAction) → ((i : Id) → P (f i)) → P t → P (unwrap_or (option_map f o) t)
  or_else f None t h k = k
  or_else f (Some i) t h k = h i

  has_unless : (last : ℕ) (t : TextAction) → P told.Spent → P t → P (unless_spent last t)
  has_unless last t s h = elim (nat_le last 4294967295) as (λ b. P (cond b t told.Spent)) [ true ↦ h | false ↦ s ]

  -- a property that each of these actions has, the action for a text has
  record Each (new : Id) (there : OfKey) : Type 0 where
    same : (i : Id) → P (told.Same i)
    superseded : (i : Id) → P (told.Superseded i)
    entered : there.known ≡ [] → P (told.Entered new)
    taken : (i : Id) → P (told.Refused (problem.KeyTaken i))
    spent : P told.Spent

  told_has : (d : Differs) (new : Id) (there : OfKey) (text : List ℕ) → Each new there → ((other : Id) → P (told_of_new (Some other) d new there)) → P (told_of d new there text)
  told_has d new there text h some =
      or_else told.Same (least (has_text_and_is_valid text) there.known) _ h.same
      (or_else told.Superseded (least (has_text text) there.known) _ h.superseded (by_known there.known refl))
    where
      by_known : (known : List StandingEntry) → there.known ≡ known → P (told_of_new (least any_entry known) d new there)
      by_known [] e = has_unless new.count (told.Entered new) h.spent (h.entered e)
      by_known (k ∷ ks) e = some (sooner k.entry (least any_entry ks))

  refuse_has : (new : Id) (there : OfKey) (text : List ℕ) → Each new there → P (told_of differs.Refuse new there text)
  refuse_has new there text h = told_has differs.Refuse new there text h h.taken

  beside_has : (new : Id) (there : OfKey) (text : List ℕ) → Each new there → P (told.Beside new) → P (told_of differs.Beside new there text)
  beside_has new there text h b = told_has differs.Beside new there text h (λ other. has_unless new.count (told.Beside new) h.spent b)

  revise_has : (new : Id) (there : OfKey) (text : List ℕ) → Each new there → P (told.Revised new) → P (told_of differs.Revise new there text)
  revise_has new there text h r = told_has differs.Revise new there text h (λ other.
      elim there.ours as (λ b. P (cond b (told.Refused (problem.KeyTaken other)) (unless_spent (new.count + length there.known) (told.Revised new)))) [
        | true ↦ h.taken other
        | false ↦ has_unless (new.count + length there.known) (told.Revised new) h.spent r
      ])

-- ---- nothing is retired, but by `revise`

abbrev pub IsQuiet : Differs → Type 0
IsQuiet d = (i new : Id) (there : OfKey) (text : List ℕ) → gone i (bodies_of (told_of d new there text) text there.known) ≡ false

pub refuse_quiet : IsQuiet differs.Refuse
refuse_quiet i new there text = refuse_has (λ t. gone i (bodies_of t text there.known) ≡ false) new there text (record { same = λ j. refl; superseded = λ j. refl; entered = λ e. refl; taken = λ j. refl; spent = refl })

pub beside_quiet : IsQuiet differs.Beside
beside_quiet i new there text = beside_has (λ t. gone i (bodies_of t text there.known) ≡ false) new there text (record { same = λ j. refl; superseded = λ j. refl; entered = λ e. refl; taken = λ j. refl; spent = refl }) refl

gone_none : (d : Differs) → IsQuiet d → (i : Id) (r : List ℕ) (n : ℕ) (at : At) (texts : List ReadText) → gone i (effects (imports d r n at texts)) ≡ false
gone_none d q i r n at [] = refl
gone_none d q i r n at (reading.Unread f ∷ texts) = gone_none d q i r (n + 0) at texts
gone_none d q i r n at (reading.Defined text key ∷ texts) =
    let there : OfKey = at (bytes_of key) in
    let t : TextAction = told_of d (id_at r n) there text in
    let bs : List Body = bodies_of t text there.known in
    gone_both i bs _ (q i (id_at r n) there text) (gone_none d q i r (n + length bs) (with_key (bytes_of key) (then_of t key text there) at) texts)

-- ---- one text of a key

abbrev pub OneText : List StandingEntry → Type 0
OneText es = (e f : StandingEntry) → Contains es e → Contains es f → e.definition ≡ f.definition

one_alone : (e : StandingEntry) → OneText (e ∷ [])
one_alone e a b c d = ap (λ (g : StandingEntry). g.definition) (it a c ∙ sym (it b d))
  where
    it : (g : StandingEntry) → Contains (e ∷ []) g → g ≡ e
    it g h = elim (in_cons g e [] h) [ inl same ↦ same | inr later ↦ absurd (none_in g later) ]

pushed_alone : (known : List StandingEntry) (e : StandingEntry) → known ≡ [] → OneText (known ++ e ∷ [])
pushed_alone known e none = subst (λ l. OneText (l ++ e ∷ [])) (sym none) (one_alone e)

-- the texts of the key's entries are among those of the first ones, or there is one text
abbrev Kept : OfKey → OfKey → Type 0
Kept first there = ((text : List ℕ) → HasText there.known text → HasText first.known text) ⊎ OneText there.known

refuse_on : (first there : OfKey) (new : Id) (key : Key) (text : List ℕ) → Kept first there → Kept first (then_of (told_of differs.Refuse new there text) key text there)
refuse_on first there new key text k = refuse_has (λ t. Kept first (then_of t key text there)) new there text (record {
  same = λ i. k;
  superseded = λ i. k;
  entered = λ e. inr (pushed_alone there.known (entered new key text) e);
  taken = λ i. k;
  spent = k;
})

refuse_all : (first : OfKey) (k : KeyBytes) (r : List ℕ) (n : ℕ) (at : At) (texts : List ReadText) → Kept first (at k) → Kept first (finally differs.Refuse r n at texts k)
refuse_all first k r n at [] h = h
refuse_all first k r n at (reading.Unread f ∷ texts) h = refuse_all first k r (n + 0) at texts h
refuse_all first k r n at (reading.Defined text key ∷ texts) h =
    let there : OfKey = at (bytes_of key) in
    let t : TextAction = told_of differs.Refuse (id_at r n) there text in
    refuse_all first k r (n + length (bodies_of t text there.known)) (with_key (bytes_of key) (then_of t key text there) at) texts
    (at_key (Kept first) (bytes_of key) k (then_of t key text there) at (λ same. refuse_on first there (id_at r n) key text (subst (λ l. Kept first (at l)) (sym same) h)) (λ _. h))

-- ---- one text stays one text in mode `revise`

revise_on : (there : OfKey) (new : Id) (key : Key) (text : List ℕ) → OneText there.known → OneText (then_of (told_of differs.Revise new there text) key text there).known
revise_on there new key text k = revise_has (λ t. OneText (then_of t key text there).known) new there text (record {
  same = λ i. k;
  superseded = λ i. k;
  entered = λ e. pushed_alone there.known (entered new key text) e;
  taken = λ i. k;
  spent = k;
}) (one_alone (entered new key text))

one_stays : (k : KeyBytes) (r : List ℕ) (n : ℕ) (at : At) (texts : List ReadText) → OneText (at k).known → OneText (finally differs.Revise r n at texts k).known
one_stays k r n at [] h = h
one_stays k r n at (reading.Unread f ∷ texts) h = one_stays k r (n + 0) at texts h
one_stays k r n at (reading.Defined text key ∷ texts) h =
    let there : OfKey = at (bytes_of key) in
    let t : TextAction = told_of differs.Revise (id_at r n) there text in
    one_stays k r (n + length (bodies_of t text there.known)) (with_key (bytes_of key) (then_of t key text there) at) texts
    (at_key (λ o. OneText o.known) (bytes_of key) k (then_of t key text there) at (λ same. revise_on there (id_at r n) key text (subst (λ l. OneText (at l).known) (sym same) h)) (λ _. h))

module _ (r : List ℕ) (note : List ℕ) where
  -- a text that is entered is the only one of its key then
  entered_alone : (n : ℕ) (key : Key) (text : List ℕ) (there : OfKey) (i : Id) (other noted : List ℕ)
      → has (numbered r n note (bodies_of (told_of differs.Revise (id_at r n) there text) text there.known)) (entering i other noted) ≡ true
      → OneText (then_of (told_of differs.Revise (id_at r n) there text) key text there).known
  entered_alone n key text there i other noted = revise_has (λ t. has (numbered r n note (bodies_of t text there.known)) (entering i other noted) ≡ true → OneText (then_of t key text there).known) (id_at r n) there text (record {
    same = λ j h. absurd (true≢false (sym h));
    superseded = λ j h. absurd (true≢false (sym h));
    entered = λ e h. pushed_alone there.known (entered (id_at r n) key text) e;
    taken = λ j h. absurd (true≢false (sym h));
    spent = λ h. absurd (true≢false (sym h));
  }) (λ h. one_alone (entered (id_at r n) key text))

  -- and stays it to the end
  record IsAlone (last : At) (text : List ℕ) : Type 0 where
    key : Key
    keyed : IsKeyIn key text
    alone : OneText (last (bytes_of key)).known

  alone_there : (n : ℕ) (at : At) (texts : List ReadText) (i : Id) (text noted : List ℕ) → AreKeyed texts → has (numbered r n note (effects (imports differs.Revise r n at texts))) (entering i text noted) ≡ true
      → IsAlone (finally differs.Revise r n at texts) text
  alone_there n at [] i text noted keyed h = absurd (true≢false (sym h))
  alone_there n at (reading.Unread f ∷ texts) i text noted keyed h =
      alone_there (n + 0) at texts i text noted keyed.1 (subst (λ m. has (numbered r m note (effects (imports differs.Revise r (n + 0) at texts))) (entering i text noted) ≡ true) (sym (add-zero n)) h)
  alone_there n at (reading.Defined text key ∷ texts) i other noted keyed h =
      let there : OfKey = at (bytes_of key) in
      let t : TextAction = told_of differs.Revise (id_at r n) there text in
      let bs : List Body = bodies_of t text there.known in
      let now : OfKey = then_of t key text there in
      let next : At = with_key (bytes_of key) now at in
      let here : now ≡ next (bytes_of key) = at_key (λ o. now ≡ o) (bytes_of key) (bytes_of key) now at (λ _. refl) (λ no. absurd (true≢false (sym (key_itself (bytes_of key) (bytes_of key) refl) ∙ no))) in
      elim (or_cases (has (numbered r n note bs) (entering i other noted)) (has (numbered r (n + length bs) note (effects (imports differs.Revise r (n + length bs) next texts))) (entering i other noted))
      (sym (has_both r note n bs (effects (imports differs.Revise r (n + length bs) next texts)) (entering i other noted)) ∙ h)) [
        | inl a ↦ record {
          key = key;
          keyed = subst (IsKeyIn key) (sym (entered_is r note differs.Revise n text there i other noted a).0) keyed.0;
          alone = one_stays (bytes_of key) r (n + length bs) next texts (subst (λ (o : OfKey). OneText o.known) here (entered_alone n key text there i other noted a));
        }
        | inr b ↦ alone_there (n + length bs) next texts i other noted keyed.1 b
      ]

-- ---- an import

stands_up : (st : Option Status) → st ≢ Some Retired → not (is_retired st) ≡ true
stands_up None h = refl
stands_up (Some Valid) h = refl
stands_up (Some Superseded) h = refl
stands_up (Some Retired) h = absurd (h refl)

up_stands : (st : Option Status) → not (is_retired st) ≡ true → st ≢ Some Retired
up_stands None h e = cc
up_stands (Some Valid) h e = cc
up_stands (Some Superseded) h e = cc
up_stands (Some Retired) h e = true≢false (sym h)

as_standing : (s : Ops) (r : Row) → Contains (rows s) r → r.status ≢ Some Retired → HasStanding s r.definition
as_standing s r c up = record { row = r; there = c; definition = refl; stands = stands_up r.status up }

module _ (x y : Content) (replica note : List ℕ) (d : Differs) (texts : List ReadText) (es : List StandingEntry) (ids : List Id) (is : IsContent x) (keyed : AreKeyed texts)
    (are : AreStanding x.ops es) (does : Does x replica note (effects (imports d replica (greatest replica x.seen + 1) (by_key es) texts)) y ids) where
  abbrev first : ℕ
  first = greatest replica x.seen + 1

  abbrev all : List Body
  all = effects (imports d replica first (by_key es) texts)

  abbrev last : At
  last = finally d replica first (by_key es) texts

  -- a text of an entry that is not retired afterwards is among the last ones of its key
  in_last : (k : KeyBytes) (text : List ℕ) → HasKey text k → HasStanding y.ops text → HasText (last k).known text
  in_last k text (key, in_text, of_key) h =
      let found = standing_entry y.ops text h in
      let i : Id = found.0 in
      let o = found.1 in
      elim (was_entered x y replica note all ids does (entering i text o.note) o.entered) [
        | inl before ↦
            let parts = or_parts (retires x.ops i) (gone i all) (sym (then_retired x y replica note all ids does i) ∙ o.stands) in
            let e = old_is_standing x.ops es i text o.note are before parts.0 in
            let same : key_of e.e ≡ k = one_key text e.e.key key e.keyed in_text ∙ of_key in
            let there : Contains (by_key es k).known e.e = to_filter (λ (g : StandingEntry). is_key k (key_of g)) es e.e e.there (key_itself k (key_of e.e) (sym same)) in
            (e.e, old_stay d replica first (by_key es) texts k e.e there (subst (λ j. gone j all ≡ false) (sym e.entry) parts.1), e.definition)
        | inr new ↦
            let end = enters_there replica note d first (by_key es) texts i text o.note keyed (subst (λ l. has l (entering i text o.note) ≡ true) (made_are x replica note all does.ops does.are_made) new) in
            subst (λ l. HasText (last l).known text) (one_key text end.key key end.keyed in_text ∙ of_key) end.there
      ]

  pub retires_same : ((i : Id) → gone i all ≡ false) → RetiresNothing x y
  retires_same none i = then_retired x y replica note all ids does i ∙ ap (λ b. retires x.ops i || b) (none i) ∙ or-false (retires x.ops i)

  -- a text of the first entries of a key is that of an entry that is not retired before
  record IsBefore (k : KeyBytes) (text : List ℕ) : Type 0 where
    row : Row
    there : Contains (rows x.ops) row
    stands : row.status ≢ Some Retired
    its : row.definition ≡ text
    of_key : HasKey text k

  before_is : (k : KeyBytes) (text : List ℕ) → HasText (by_key es k).known text → IsBefore k text
  before_is k text (e, c, is_text) =
      let f = in_filter (λ (g : StandingEntry). is_key k (key_of g)) es e c in
      let old : IsOld x e = standing_is_old x es e are f.0 in
      let up = entered_stands x.ops e.entry e.definition old.note old.entered old.stands in
      record { row = _; there = up.0; stands = up_stands _ up.1; its = is_text; of_key = (e.key, subst (IsKeyIn e.key) is_text old.keyed, sym (same_key k (key_of e) f.1)) }

  pub no_conflict : ((k : KeyBytes) → Kept (by_key es k) (last k)) → MakesNoConflict x y
  no_conflict kept k c =
      let one = in_last k c.one.definition c.key_of_one (as_standing y.ops c.one c.has_one c.one_stands) in
      let other = in_last k c.other.definition c.key_of_other (as_standing y.ops c.other c.has_other c.other_stands) in
      elim (kept k) [
        | inl within ↦
            let a = before_is k c.one.definition (within c.one.definition one) in
            let b = before_is k c.other.definition (within c.other.definition other) in
            record {
              one = a.row;
              other = b.row;
              has_one = a.there;
              has_other = b.there;
              one_stands = a.stands;
              other_stands = b.stands;
              key_of_one = subst (λ l. HasKey l k) (sym a.its) a.of_key;
              key_of_other = subst (λ l. HasKey l k) (sym b.its) b.of_key;
              differ = λ e. c.differ (sym a.its ∙ e ∙ b.its);
            }
        | inr alone ↦ absurd (c.differ (sym one.2 ∙ alone one.0 other.0 one.1 other.1 ∙ other.2))
      ]

-- ---- the laws

not_off : (a r u : Bool) → r ≡ false → cond a (Some (cond r Retired (cond u Superseded Valid))) None ≢ Some Retired
not_off a true u h e = true≢false h
not_off true false true h e = cc
not_off true false false h e = cc
not_off false false u h e = cc

pub refuse_makes_none : (x y : Content) (replica note : List ℕ) (texts : List ReadText) (es : List StandingEntry) (ids : List Id) → IsContent x → AreKeyed texts → AreStanding x.ops es
    → Does x replica note (effects (imports differs.Refuse replica (greatest replica x.seen + 1) (by_key es) texts)) y ids → MakesNoConflict x y
refuse_makes_none x y replica note texts es ids is keyed are does =
    no_conflict x y replica note differs.Refuse texts es ids is keyed are does (λ k. refuse_all (by_key es k) k replica (greatest replica x.seen + 1) (by_key es) texts (inl (λ text h. h)))

pub quiet_retires_none : (d : Differs) → IsQuiet d → (x y : Content) (replica note : List ℕ) (texts : List ReadText) (es : List StandingEntry) (ids : List Id) → IsContent x → AreKeyed texts → AreStanding x.ops es
    → Does x replica note (effects (imports d replica (greatest replica x.seen + 1) (by_key es) texts)) y ids → RetiresNothing x y
quiet_retires_none d q x y replica note texts es ids is keyed are does =
    retires_same x y replica note d texts es ids is keyed are does (λ i. gone_none d q i replica (greatest replica x.seen + 1) (by_key es) texts)

pub revise_leaves_one : (x y : Content) (replica note : List ℕ) (texts : List ReadText) (es : List StandingEntry) (ids : List Id) → IsContent x → RetiresNoneAhead x replica → AreKeyed texts → AreStanding x.ops es
    → Does x replica note (effects (imports differs.Revise replica (greatest replica x.seen + 1) (by_key es) texts)) y ids → LeavesOneText x y
revise_leaves_one x y replica note texts es ids is ahead keyed are does row come =
    let at : ℕ = greatest replica x.seen + 1 in
    let bs : List Body = effects (imports differs.Revise replica at (by_key es) texts) in
    let p = row_is_entered y.ops row come.there in
    elim (was_entered x y replica note bs ids does (entering row.entry row.definition p.0) p.1) [
      | inl old ↦ absurd (true≢false (sym (it_enters x.ops (entering row.entry row.definition p.0) row.entry row.definition (Enter row.definition) old refl refl refl) ∙ come.new))
      | inr new ↦
          let made : has (numbered replica at note bs) (entering row.entry row.definition p.0) ≡ true = subst (λ l. has l (entering row.entry row.definition p.0) ≡ true) (made_are x replica note bs does.ops does.are_made) new in
          let on = numbered_on replica at note bs (entering row.entry row.definition p.0) made in
          let id : row.entry ≡ id_at replica row.entry.count = λ j. record { replica = on.0 j; count = row.entry.count } in
          let free : retires x.ops row.entry ≡ false = ap (retires x.ops) id ∙ ahead row.entry.count (omega (arith, on.1)) in
          let stays : gone row.entry bs ≡ false = false_from_ne_true _ (λ g.
          true≢false (sym (once_gone x.ops [] bs row.entry (imports_once x.ops es differs.Revise replica at texts (items_by_id x.ops is.one_body) are) g) ∙ come.new)) in
          let up : retires y.ops row.entry ≡ false = then_retired x y replica note bs ids does row.entry ∙ (λ j. free j || stays j) in
          let alone = alone_there replica note at (by_key es) texts row.entry row.definition p.0 keyed made in
          let end = enters_there replica note differs.Revise at (by_key es) texts row.entry row.definition p.0 keyed made in
          record {
            stands = subst (λ st. st ≢ Some Retired) (sym (row_status y.ops row come.there)) (not_off (enters y.ops row.entry) (retires y.ops row.entry) (supersedes y.ops row.entry) up);
            only = λ k other there stands of_row of_other.
                let last = finally differs.Revise replica at (by_key es) texts in
                let mine = subst (λ l. OneText (last l).known) (one_key row.definition alone.key of_row.0 alone.keyed of_row.1 ∙ of_row.2) alone.alone in
                let a = subst (λ l. HasText (last l).known row.definition) (one_key row.definition end.key of_row.0 end.keyed of_row.1 ∙ of_row.2) end.there in
                let b = in_last x y replica note differs.Revise texts es ids is keyed are does k other.definition of_other (as_standing y.ops other there stands) in
                sym b.2 ∙ mine b.0 a.0 b.1 a.1 ∙ a.2;
          }
    ]

-- ---- of an import of texts

module _ (x y : Content) (replica note : List ℕ) (keep_going : Bool) (texts : List (List ℕ)) (readings : List ReadText) (ts : List TextAction) (is : IsContent x) (are : AreReadings texts readings) where
  abbrev keyed : AreKeyed readings
  keyed = are_keyed texts readings are

  does_of : (d : Differs) (i : Imports x replica note d keep_going readings y ts) → Does x replica note (effects (imports d replica (greatest replica x.seen + 1) (by_key i.are_steps.0) readings)) y i.ids
  does_of d i = subst (λ s. Does x replica note (effects s) y i.ids) i.are_steps.2 i.does

  pub refused : Imports x replica note differs.Refuse keep_going readings y ts → MakesNoConflict x y
  refused i = refuse_makes_none x y replica note readings i.are_steps.0 i.ids is keyed i.are_steps.1 (does_of differs.Refuse i)

  pub refused_quietly : Imports x replica note differs.Refuse keep_going readings y ts → RetiresNothing x y
  refused_quietly i = quiet_retires_none differs.Refuse refuse_quiet x y replica note readings i.are_steps.0 i.ids is keyed i.are_steps.1 (does_of differs.Refuse i)

  pub beside_quietly : Imports x replica note differs.Beside keep_going readings y ts → RetiresNothing x y
  beside_quietly i = quiet_retires_none differs.Beside beside_quiet x y replica note readings i.are_steps.0 i.ids is keyed i.are_steps.1 (does_of differs.Beside i)

  pub revised : RetiresNoneAhead x replica → Imports x replica note differs.Revise keep_going readings y ts → LeavesOneText x y
  revised ahead i = revise_leaves_one x y replica note readings i.are_steps.0 i.ids is ahead keyed i.are_steps.1 (does_of differs.Revise i)
