-- What an operation says, from the keys of the entries that it names.
use Rattle.std.proofs.Common.{◌≡◌, ℕ, ◌+◌, ◌<◌, Bool, true, false, not, ◌&&◌, ◌||◌, List, [], ◌∷◌, ◌++◌, length, get_or, take, Option, Some, None, refl, sym, ap, ◌∙◌, subst, inl, inr}
use Rattle.std.proofs.lemmas.Bool.{and_parts, and_from, not-true, not_from_false, false_from_ne_true, true≢false}
use Rattle.std.specs.Cmp.{both_ways, tied_itself, Equal-is}
use Rattle.std.specs.Ordering.{is_eq, ordering_then}
use Rattle.std.specs.declared.cmp.Ordering.{Ordering}
use Rattle.std.specs.declared.cmp.Ordering.TheVariants.{Less, Equal, Greater}
use Rattle.reg_op.specs.Set.{contains}
use Rattle.reg_op.specs.Ids.{Id, is_same}
use Rattle.reg_op.specs.declared.operation.OpBody.{OpBody as Body}
use Rattle.reg_op.specs.declared.operation.OpBody.TheVariants.{Enter, Supersede, Retire}
use Rattle.reg_op.specs.Operations.{Op, Ops, OneBody}
use Rattle.reg_op.specs.Kept.{entering}
use Rattle.reg_op.specs.Status.{is_enter, enters, retires}
use Rattle.reg_op.proofs.FiniteLemmas.{any_from_member}
use Rattle.reg_op.proofs.OpLemmas.{op_total, op_exact, is_same_exact}
use Rattle.reg_report.specs.Conflicts.{KeyBytes, key_cmp, HasKey}
use Rattle.reg_report.specs.Keys.{key_bytes}
use Rattle.reg_report.specs.declared.key.KeyText.{KeyText}
use Rattle.reg_report.proofs.ConflictLemmas.{key_total, key_exact}
use Rattle.reg_report.proofs.ContenderLemmas.{one_key}
use Rattle.reg_tree.specs.Sayings.{Keys, Saying, By, Withdrawn, enters_key, is_entry, is_in_use, stands, tells}
use Rattle.reg_tree.specs.Voices.{IsRight, AreRight, is_key, saying_cmp}
use Rattle.reg_tree.proofs.WordLemmas.{same_id, entered_from}

pub same_key : (k q : KeyBytes) → is_key k q ≡ true → k ≡ q
same_key k q h = key_exact k q ((Equal-is (key_cmp k q)).0 h)

pub key_itself : (k : KeyBytes) → is_key k k ≡ true
key_itself k = ap is_eq (tied_itself key_total k)

pub right_is : (has : Keys KeyBytes) (text : List ℕ) (key : KeyBytes) → IsRight has text → HasKey text key → (q : KeyBytes) → has text q ≡ is_key key q
right_is has text key right keyed q = both_ways _ _
    (λ h. subst (λ v. is_key key v ≡ true) (one_key text key q keyed ((right q).0 h)) (key_itself key))
    (λ h. (right q).1 (subst (HasKey text) (same_key key q h) keyed))

-- ---- the key of an entry

pub entered : (s : Ops) (e : Id) (text note : List ℕ) → contains s (entering e text note) ≡ true → enters s e ≡ true
entered s e text note there = any_from_member op_total op_exact (λ o. is_same e o.id && is_enter o.body) s (entering e text note) there (and_from _ _ (same_id e) refl)

abbrev text_in : List ℕ → Body → List ℕ
text_in d (Enter text) = text
text_in d (Supersede a b) = d
text_in d (Retire a) = d

pub entry_is : (s : Ops) → OneBody s → (e : Id) (text note : List ℕ) (key : KeyBytes) → contains s (entering e text note) ≡ true → HasKey text key →
    (has : Keys KeyBytes) → AreRight has s → (q : KeyBytes) → is_entry has s q e ≡ is_key key q
entry_is s one e text note key there keyed has right q =
    let is = right_is has text key (right e text note there) keyed q in
    both_ways _ _
    (λ h.
    let r = entered_from has s q e h in
    let same : text ≡ r.text = ap (λ (o : Op). text_in [] o.body) (one (entering e text note) (entering e r.text r.note) there r.entered refl) in
    sym is ∙ subst (λ t. has t q ≡ true) (sym same) r.keyed)
    (λ h. any_from_member op_total op_exact (λ o. is_same e o.id && enters_key has q o.body) s (entering e text note) there (and_from _ _ (same_id e) (is ∙ h)))

pub no_entry : (s : Ops) (e : Id) → enters s e ≡ false → (has : Keys KeyBytes) (q : KeyBytes) → is_entry has s q e ≡ false
no_entry s e none has q = false_from_ne_true _ (λ h. let r = entered_from has s q e h in true≢false (sym (entered s e r.text r.note r.entered) ∙ none))

pub not_standing : (has : Keys KeyBytes) (s : Ops) (q : KeyBytes) (e : Id) → retires s e ≡ true → stands has s q e ≡ false
not_standing has s q e h = ap (λ b. is_entry has s q e && not b) h ∙ and_false (is_entry has s q e)
  where
    and_false : (b : Bool) → (b && false) ≡ false
    and_false true = refl
    and_false false = refl

pub standing : (has : Keys KeyBytes) (s : Ops) (q : KeyBytes) (e : Id) (b : Bool) → retires s e ≡ false → is_entry has s q e ≡ b → stands has s q e ≡ b
standing has s q e b h is = (λ i. is i && not (h i)) ∙ and_true b
  where
    and_true : (c : Bool) → (c && true) ≡ c
    and_true true = refl
    and_true false = refl

-- ---- tests of one key

-- what holds of the key holds wherever the test finds the same key
pub where_same : (k c : KeyBytes) (p : KeyBytes → Bool) (b : Bool) → p k ≡ b → (is_key k c && p c) ≡ (is_key k c && b)
where_same k c p b h = by (is_key k c) refl
  where
    by : (t : Bool) → is_key k c ≡ t → (t && p c) ≡ (t && b)
    by true e = subst (λ v. p v ≡ b) (same_key k c e) h
    by false e = refl

pub then_is : (a b : Ordering) → is_eq (ordering_then a b) ≡ (is_eq a && is_eq b)
then_is Less b = refl
then_is Equal b = refl
then_is Greater b = refl

and_no : (b : Bool) → (b && false) ≡ false
and_no true = refl
and_no false = refl

and_yes : (b : Bool) → (b && true) ≡ b
and_yes true = refl
and_yes false = refl

-- ---- what a supersession says

module _ (has : Keys KeyBytes) (s : Ops) (old newer : Id) where
  pub old_gone : ((q : KeyBytes) → stands has s q old ≡ false) → (q : Saying KeyBytes) → tells has s q (Supersede old newer) ≡ false
  old_gone h (By c d) = (λ i. not (is_entry has s c newer) && (h c i && stands has s d newer)) ∙ and_no (not (is_entry has s c newer))
  old_gone h (Withdrawn c) = refl

  pub newer_gone : ((q : KeyBytes) → stands has s q newer ≡ false) → (q : Saying KeyBytes) → tells has s q (Supersede old newer) ≡ false
  newer_gone h (By c d) = (λ i. not (is_entry has s c newer) && (stands has s c old && h d i)) ∙ (λ i. not (is_entry has s c newer) && and_no (stands has s c old) i) ∙ and_no (not (is_entry has s c newer))
  newer_gone h (Withdrawn c) = refl

  module _ (k b : KeyBytes) (old_is : (q : KeyBytes) → stands has s q old ≡ is_key k q) (newer_is : (q : KeyBytes) → stands has s q newer ≡ is_key b q) (newer_key : (q : KeyBytes) → is_entry has s q newer ≡ is_key b q) where
    turned : (x y z : Bool) → (x && (y && z)) ≡ ((y && x) && z)
    turned true true z = refl
    turned true false z = refl
    turned false true z = refl
    turned false false z = refl

    link_is : (c d : KeyBytes) (t : Bool) → not (is_key b k) ≡ t → tells has s (By c d) (Supersede old newer) ≡ ((is_key k c && t) && is_key b d)
    link_is c d t h =
        (λ i. not (newer_key c i) && (old_is c i && newer_is d i))
        ∙ turned (not (is_key b c)) (is_key k c) (is_key b d)
        ∙ ap (λ v. v && is_key b d) (where_same k c (λ v. not (is_key b v)) t h)

    pub of_itself : is_key k b ≡ true → (q : Saying KeyBytes) → tells has s q (Supersede old newer) ≡ false
    of_itself h (By c d) = link_is c d false (ap not (subst (λ v. is_key b v ≡ true) (sym (same_key k b h)) (key_itself b))) ∙ ap (λ v. v && is_key b d) (and_no (is_key k c))
    of_itself h (Withdrawn c) = refl

    pub of_another : is_key k b ≡ false → (q : Saying KeyBytes) → tells has s q (Supersede old newer) ≡ is_eq (saying_cmp (By k b) q)
    of_another h (By c d) =
        link_is c d true (not_from_false _ (false_from_ne_true _ (λ e. true≢false (sym (subst (λ v. is_key v b ≡ true) (same_key b k e) (key_itself b)) ∙ h))))
        ∙ ap (λ v. v && is_key b d) (and_yes (is_key k c)) ∙ sym (then_is (key_cmp k c) (key_cmp b d))
    of_another h (Withdrawn c) = sym (then_is (key_cmp k c) Greater ∙ and_no (is_key k c))

-- ---- what a retirement says

module _ (has : Keys KeyBytes) (s : Ops) (e : Id) where
  pub not_entered : ((q : KeyBytes) → is_entry has s q e ≡ false) → (q : Saying KeyBytes) → tells has s q (Retire e) ≡ false
  not_entered h (By c d) = refl
  not_entered h (Withdrawn c) = (λ i. h c i && not (is_in_use has s c))

  module _ (k : KeyBytes) (is : (q : KeyBytes) → is_entry has s q e ≡ is_key k q) where
    pub in_use : is_in_use has s k ≡ true → (q : Saying KeyBytes) → tells has s q (Retire e) ≡ false
    in_use h (By c d) = refl
    in_use h (Withdrawn c) = (λ i. is c i && not (is_in_use has s c)) ∙ where_same k c (λ v. not (is_in_use has s v)) false (ap not h) ∙ and_no (is_key k c)

    pub out_of_use : is_in_use has s k ≡ false → (q : Saying KeyBytes) → tells has s q (Retire e) ≡ is_eq (saying_cmp (Withdrawn k) q)
    out_of_use h (By c d) = sym (then_is (key_cmp k c) Less ∙ and_no (is_key k c))
    out_of_use h (Withdrawn c) = (λ i. is c i && not (is_in_use has s c)) ∙ where_same k c (λ v. not (is_in_use has s v)) true (ap not h) ∙ sym (then_is (key_cmp k c) Equal)
