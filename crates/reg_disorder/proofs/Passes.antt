-- The law of links: each link between entries that are not retired passes on to the heirs of its ends, and no other is made.
use Rattle.std.specs.Prelude.{◌↔◌, Contains, Some}
use Rattle.std.proofs.Common.{◌≡◌, ◌≢◌, ◌⊎◌, ℕ, Bool, true, false, not, ◌&&◌, ◌||◌, cond, List, [], ◌∷◌, map, refl, sym, ap, ◌∙◌, subst, inl, inr}
use Rattle.std.proofs.lemmas.Bool.{true≢false, and_parts, and_from, or_cases, or_left, or_right}
use Rattle.std.proofs.lemmas.List.Elements.{Contains-append_cases, Contains-append_left, Contains-append_right}
use Rattle.std.proofs.Math.Bool.{or-false, and-false}
use Rattle.std.specs.List.{list_any, flat_map}
use Rattle.std.specs.Cmp.{Equal-is}
use Rattle.std.specs.Ordering.{eq_by_cmp}
use Rattle.reg_op.specs.Set as set
use Rattle.reg_op.specs.Set.{contains, union, contains-items}
use Rattle.reg_op.specs.Ids.{Id, is_same}
use Rattle.reg_op.specs.Finite.{any}
use Rattle.reg_op.specs.Operations.{Op, Ops, op_cmp, kept}
use Rattle.reg_op.specs.declared.operation.OpBody.{OpBody as Body}
use Rattle.reg_op.specs.declared.operation.OpBody.TheVariants.{Enter, Supersede, Retire}
use Rattle.reg_op.specs.Contents.{Content, state}
use Rattle.reg_op.specs.Status.{enters, retires, supersedes, status, is_enter, is_retirement, is_supersession}
use Rattle.reg_op.specs.declared.status.Status.TheVariants.{Superseded}
use Rattle.reg_op.proofs.OpLemmas.{op_total, op_exact, is_same_exact}
use Rattle.reg_op.proofs.FiniteLemmas.{any-union}
use Rattle.reg_op.proofs.ContentLemmas.{kept-union_right}
use Rattle.reg_op.proofs.OneLemmas.{any-from_list}
use Rattle.reg_op.proofs.StatusLemmas.{enters-kept, retires-kept, replaced_by-kept}
use Rattle.reg_op.proofs.JoinLemmas.{joined_ok}
use Rattle.reg_report.proofs.ConflictLemmas.{none_in, in_cons, in_head, in_tail, member_of_any}
use Rattle.reg_office.specs.Commands.{Does}
use Rattle.reg_office.proofs.LawLemmas.{bodies_are}
use Rattle.reg_office.proofs.BodyLemmas.{same_itself}
use Rattle.reg_disorder.specs.declared.linking.link.Link.{Link}
use Rattle.reg_disorder.specs.Links.{stands, supersedes_by, is_linked, link_in, links_in, link_cmp}
use Rattle.reg_disorder.specs.LinkHeirs.{IsHeir}
use Rattle.reg_disorder.specs.Passing.{is_new, body_of, bodies_of, PassesOn}
use Rattle.reg_disorder.specs.Law.{SupersedesNone, IsHeirOfBoth, WasAwaited}
use Rattle.reg_disorder.proofs.Inheriting.{heir_stands, its_own}
use Rattle.reg_disorder.proofs.Allowed.{link_exact, in_set, stands_parts}

-- ---- Booleans

-- ---- the links of a content

body_links : (s : Ops) (b : Body) (l : Link) → Contains (link_in s b) l → (b ≡ body_of l) × (stands s l.old ≡ true) × (stands s l.newer ≡ true)
body_links s (Enter text) l h = absurd (none_in l h)
body_links s (Retire entry) l h = absurd (none_in l h)
body_links s (Supersede old newer) l h = by (stands s old && stands s newer) refl h
  where
    it : Link
    it = record { old = old; newer = newer }

    by : (t : Bool) → (stands s old && stands s newer) ≡ t → Contains (cond t (it ∷ []) []) l → (Supersede old newer ≡ body_of l) × (stands s l.old ≡ true) × (stands s l.newer ≡ true)
    by false e c = absurd (none_in l c)
    by true e c = elim (in_cons l it [] c) [
      | inl same ↦
          let p = and_parts (stands s old) (stands s newer) e in
          (ap body_of (sym same), subst (λ (m : Link). stands s m.old ≡ true) (sym same) p.0, subst (λ (m : Link). stands s m.newer ≡ true) (sym same) p.1)
      | inr none ↦ absurd (none_in l none)
    ]

links_of : (s : Ops) (os : List Op) (l : Link) → Contains (flat_map (λ (o : Op). link_in s o.body) os) l
    → (list_any (λ (o : Op). is_supersession l.old (is_same l.newer) o.body) os ≡ true) × (stands s l.old ≡ true) × (stands s l.newer ≡ true)
links_of s [] l h = absurd (none_in l h)
links_of s (o ∷ os) l h = elim (Contains-append_cases (link_in s o.body) (flat_map (λ (p : Op). link_in s p.body) os) l h) [
  | inl here ↦
      let q = body_links s o.body l here in
      (or_left _ _ (subst (λ b. is_supersession l.old (is_same l.newer) b ≡ true) (sym q.0) (and_from (is_same l.old l.old) (is_same l.newer l.newer) (same_itself l.old) (same_itself l.newer))), q.1, q.2)
  | inr later ↦ let q = links_of s os l later in (or_right (is_supersession l.old (is_same l.newer) o.body) _ q.0, q.1, q.2)
]

-- each is one
pub is_link : (s : Ops) (l : Link) → Contains (links_in s) l → is_linked s l.old l.newer ≡ true
is_link s l h =
    let q = links_of s (set.items s) l h in
    and_from (stands s l.old) (stands s l.newer && supersedes_by s l.old l.newer) q.1 (and_from (stands s l.newer) (supersedes_by s l.old l.newer) q.2 q.0)

body_has : (s : Ops) (b : Body) (l : Link) → is_supersession l.old (is_same l.newer) b ≡ true → (stands s l.old ≡ true) → (stands s l.newer ≡ true) → Contains (link_in s b) l
body_has s (Enter text) l h a c = absurd (true≢false (sym h))
body_has s (Retire entry) l h a c = absurd (true≢false (sym h))
body_has s (Supersede old newer) l h a c =
    let p = and_parts (is_same l.old old) (is_same l.newer newer) h in
    let e : l.old ≡ old = is_same_exact l.old old p.0 in
    let f : l.newer ≡ newer = is_same_exact l.newer newer p.1 in
    let both : (stands s old && stands s newer) ≡ true = and_from (stands s old) (stands s newer) (subst (λ i. stands s i ≡ true) e a) (subst (λ i. stands s i ≡ true) f c) in
    let it : Link = record { old = old; newer = newer } in
    let same : l ≡ it = λ j. record { old = e j; newer = f j } in
    subst (λ t. Contains (cond t (it ∷ []) []) l) (sym both) (subst (λ m. Contains (it ∷ []) m) (sym same) (in_head it []))

has_link : (s : Ops) (os : List Op) (l : Link) → list_any (λ (o : Op). is_supersession l.old (is_same l.newer) o.body) os ≡ true → (stands s l.old ≡ true) → (stands s l.newer ≡ true)
    → Contains (flat_map (λ (o : Op). link_in s o.body) os) l
has_link s [] l h a c = absurd (true≢false (sym h))
has_link s (o ∷ os) l h a c = elim (or_cases (is_supersession l.old (is_same l.newer) o.body) _ h) [
  | inl here ↦ Contains-append_left (link_in s o.body) _ l (body_has s o.body l here a c)
  | inr later ↦ Contains-append_right (link_in s o.body) _ l (has_link s os l later a c)
]

-- and all are there
pub is_in_links : (s : Ops) (l : Link) → is_linked s l.old l.newer ≡ true → Contains (links_in s) l
is_in_links s l h =
    let p = and_parts (stands s l.old) (stands s l.newer && supersedes_by s l.old l.newer) h in
    let q = and_parts (stands s l.newer) (supersedes_by s l.old l.newer) p.1 in
    has_link s (set.items s) l q.1 p.0 q.0

-- ---- after a command

-- some of these operations supersedes the one by the other; enters the entry; retires it
abbrev some_supersede : List Body → Id → Id → Bool
some_supersede bs old newer = list_any (is_supersession old (is_same newer)) bs

abbrev some_retire : List Body → Id → Bool
some_retire bs i = list_any (is_retirement i) bs

by_body : (t : Body → Bool) (os : List Op) → list_any (λ (o : Op). t o.body) os ≡ list_any t (map (λ (o : Op). o.body) os)
by_body t [] = refl
by_body t (o ∷ os) = ap (λ b. t o.body || b) (by_body t os)

second_of : (r a b : Bool) → r ≡ false → (not r && a) ≡ (not r && b) → a ≡ b
second_of false a b e h = h
second_of true a b e h = absurd (true≢false e)

module _ (x y : Content) (replica note : List ℕ) (bodies : List Body) (ids : List Id) (d : Does x replica note bodies y ids) where
  abbrev fresh : Ops
  fresh = set.from_list {R = op_cmp} d.ops

  abbrev all : Ops
  all = union x.ops fresh

  after_is : y.ops ≡ kept all
  after_is = ap (λ (c : Content). c.ops) (sym (joined_ok x (state fresh) y d.are_joined).1) ∙ kept-union_right x.ops fresh

  of_bodies : (t : Body → Bool) → any (λ (o : Op). t o.body) all ≡ (any (λ (o : Op). t o.body) x.ops || list_any t bodies)
  of_bodies t =
      any-union op_total op_exact (λ (o : Op). t o.body) x.ops fresh
      ∙ ap (λ b. any (λ (o : Op). t o.body) x.ops || b) (any-from_list (λ (o : Op). t o.body) d.ops ∙ by_body t d.ops ∙ ap (list_any t) (bodies_are x replica note bodies d.ops d.are_made))

  pub retires_after : (i : Id) → retires y.ops i ≡ (retires x.ops i || some_retire bodies i)
  retires_after i = ap (λ s. retires s i) after_is ∙ retires-kept all i ∙ of_bodies (is_retirement i)

  pub enters_after : (i : Id) → enters y.ops i ≡ (enters x.ops i || list_any (λ (o : Op). is_same i o.id && is_enter o.body) d.ops)
  enters_after i =
      ap (λ s. enters s i) after_is ∙ enters-kept all i ∙ any-union op_total op_exact (λ (o : Op). is_same i o.id && is_enter o.body) x.ops fresh
      ∙ ap (λ b. enters x.ops i || b) (any-from_list (λ (o : Op). is_same i o.id && is_enter o.body) d.ops)

  pub supersedes_after : (a b : Id) → retires y.ops a ≡ false → supersedes_by y.ops a b ≡ (supersedes_by x.ops a b || some_supersede bodies a b)
  supersedes_after a b none =
      let none_all : retires (kept all) a ≡ false = ap (λ s. retires s a) (sym after_is) ∙ none in
      let same : retires (kept all) a ≡ retires all a = retires-kept all a in
      ap (λ s. supersedes_by s a b) after_is
      ∙ second_of (retires (kept all) a) (supersedes_by (kept all) a b) (supersedes_by all a b) none_all (replaced_by-kept all a b ∙ ap (λ r. not r && supersedes_by all a b) (sym same))
      ∙ of_bodies (is_supersession a (is_same b))

-- ---- effects that supersede nothing, and effects that only supersede

none_supersede : (bs : List Body) → SupersedesNone bs → (a b : Id) → some_supersede bs a b ≡ false
none_supersede [] h a b = refl
none_supersede (Enter text ∷ bs) h a b = none_supersede bs h a b
none_supersede (Retire entry ∷ bs) h a b = none_supersede bs h a b
none_supersede (Supersede old newer ∷ bs) h a b = absurd h

none_retire : (ls : List Link) (i : Id) → some_retire (bodies_of ls) i ≡ false
none_retire [] i = refl
none_retire (l ∷ ls) i = none_retire ls i

none_enter : (ls : List Link) (os : List Op) (i : Id) → map (λ (o : Op). o.body) os ≡ bodies_of ls → list_any (λ (o : Op). is_same i o.id && is_enter o.body) os ≡ false
none_enter ls [] i e = refl
none_enter [] (o ∷ os) i e = cc
none_enter (l ∷ ls) (o ∷ os) i e =
    let head : o.body ≡ body_of l = cc in
    let tail : map (λ (p : Op). p.body) os ≡ bodies_of ls = cc in
    (λ k. (is_same i o.id && is_enter (head k)) || none_enter ls os i tail k) ∙ ap (λ b. b || false) (and-false (is_same i o.id))

one_supersedes : (ls : List Link) (a b : Id) → some_supersede (bodies_of ls) a b ≡ true → Contains ls (record { old = a; newer = b })
one_supersedes [] a b h = absurd (true≢false (sym h))
one_supersedes (l ∷ ls) a b h = elim (or_cases (is_supersession a (is_same b) (body_of l)) (some_supersede (bodies_of ls) a b) h) [
  | inl here ↦
      let p = and_parts (is_same a l.old) (is_same b l.newer) here in
      let e : a ≡ l.old = is_same_exact a l.old p.0 in
      let f : b ≡ l.newer = is_same_exact b l.newer p.1 in
      let it : Link = record { old = a; newer = b } in
      let same : it ≡ l = λ j. record { old = e j; newer = f j } in
      subst (λ m. Contains (l ∷ ls) m) (sym same) (in_head l ls)
  | inr later ↦ in_tail (record { old = a; newer = b }) l ls (one_supersedes ls a b later)
]

has_supersession : (ls : List Link) (a b : Id) → Contains ls (record { old = a; newer = b }) → some_supersede (bodies_of ls) a b ≡ true
has_supersession [] a b c = absurd (none_in (record { old = a; newer = b }) c)
has_supersession (l ∷ ls) a b c = elim (in_cons (record { old = a; newer = b }) l ls c) [
  | inl same ↦ or_left _ _ (subst (λ m. is_supersession a (is_same b) (body_of m) ≡ true) same (and_from (is_same a a) (is_same b b) (same_itself a) (same_itself b)))
  | inr later ↦ or_right (is_supersession a (is_same b) (body_of l)) _ (has_supersession ls a b later)
]

from_set : (all : set.Set link_cmp) (links : List Link) → links ≡ set.items all → (l : Link) → contains all l ≡ true → Contains links l
from_set all links e l h =
    let m = member_of_any (eq_by_cmp link_cmp l) (set.items all) (sym (contains-items all l) ∙ h) in
    let same : l ≡ m.0 = link_exact l m.0 ((Equal-is (link_cmp l m.0)).0 m.2) in
    subst (λ ls. Contains ls l) (sym e) (subst (λ k. Contains (set.items all) k) (sym same) m.1)

-- ---- the law

module _ (x m y : Content) (replica note noted : List ℕ) (bodies : List Body) (made ids : List Id) (links : List Link)
    (d : Does x replica note bodies m made) (plain : SupersedesNone bodies) (p : PassesOn (links_in x.ops) m replica noted y links ids) where
  -- the second command leaves the entries and their retirements as they are
  stands_after : (i : Id) → stands y.ops i ≡ stands m.ops i
  stands_after i =
      let entered : enters y.ops i ≡ enters m.ops i =
      enters_after m y replica noted (bodies_of links) ids p.does i ∙ ap (λ b. enters m.ops i || b) (none_enter links (p.does).ops i (bodies_are m replica noted (bodies_of links) (p.does).ops (p.does).are_made)) ∙ or-false (enters m.ops i) in
      let gone : retires y.ops i ≡ retires m.ops i =
      retires_after m y replica noted (bodies_of links) ids p.does i ∙ ap (λ b. retires m.ops i || b) (none_retire links i) ∙ or-false (retires m.ops i) in
      λ k. entered k && not (gone k)

  -- what supersedes after the command did before
  old_supersedes : (a b : Id) → stands m.ops a ≡ true → supersedes_by m.ops a b ≡ supersedes_by x.ops a b
  old_supersedes a b h =
      supersedes_after x m replica note bodies made d a b (stands_parts m.ops a h).1
      ∙ ap (λ t. supersedes_by x.ops a b || t) (none_supersede bodies plain a b) ∙ or-false (supersedes_by x.ops a b)

  new_supersedes : (a b : Id) → stands m.ops a ≡ true → supersedes_by y.ops a b ≡ (supersedes_by m.ops a b || some_supersede (bodies_of links) a b)
  new_supersedes a b h = supersedes_after m y replica noted (bodies_of links) ids p.does a b (stands_parts y.ops a (stands_after a ∙ h)).1

  linked_from : (a b : Id) → stands m.ops a ≡ true → stands m.ops b ≡ true → supersedes_by y.ops a b ≡ true → is_linked y.ops a b ≡ true
  linked_from a b ha hb s =
      and_from (stands y.ops a) (stands y.ops b && supersedes_by y.ops a b) (stands_after a ∙ ha) (and_from (stands y.ops b) (supersedes_by y.ops a b) (stands_after b ∙ hb) s)

  -- a link that is not cut stays
  module _ (old newer a b : Id) (linked : is_linked x.ops old newer ≡ true) (is_a : IsHeir m.ops old a) (is_b : IsHeir m.ops newer b) where
    abbrev before : Link
    before = record { old = old; newer = newer }

    supersedes_before : supersedes_by x.ops old newer ≡ true
    supersedes_before = (and_parts (stands x.ops newer) (supersedes_by x.ops old newer) (and_parts (stands x.ops old) (stands x.ops newer && supersedes_by x.ops old newer) linked).1).1

    ha : stands m.ops a ≡ true
    ha = heir_stands m.ops old a is_a

    hb : stands m.ops b ≡ true
    hb = heir_stands m.ops newer b is_b

    uncut : (stands m.ops old && stands m.ops newer) ≡ true → supersedes_by m.ops a b ≡ true
    uncut h =
        let q = and_parts (stands m.ops old) (stands m.ops newer) h in
        let ea : a ≡ old = its_own m.ops old a is_a q.0 in
        let eb : b ≡ newer = its_own m.ops newer b is_b q.1 in
        old_supersedes a b ha ∙ (λ k. supersedes_by x.ops (ea k) (eb k)) ∙ supersedes_before

    passed : a ≢ b → (stands m.ops old && stands m.ops newer) ≡ false → supersedes_by m.ops a b ≡ false → some_supersede (bodies_of links) a b ≡ true
    passed differ cut missing =
        let it : Link = record { old = a; newer = b } in
        let apart : is_same a b ≡ false = apart_from (is_same a b) refl in
        let new : is_new m.ops it ≡ true = and_from (not (is_same a b)) (not (supersedes_by m.ops a b)) (ap not apart) (ap not missing) in
        has_supersession links a b (from_set (p.are).all links (p.are).items it (((p.are).each it).1
        (record { link = before; there = is_in_links x.ops before linked; cut = ap not cut; inherits = record { old = is_a; newer = is_b }; new = new })))
      where
        apart_from : (t : Bool) → is_same a b ≡ t → is_same a b ≡ false
        apart_from true e = absurd (differ (is_same_exact a b e))
        apart_from false e = e

    -- a link passes on to the heirs of its ends
    pub passes_on : a ≢ b → is_linked y.ops a b ≡ true
    passes_on differ = linked_from a b ha hb (new_supersedes a b ha ∙ by (supersedes_by m.ops a b) refl)
      where
        by : (t : Bool) → supersedes_by m.ops a b ≡ t → (supersedes_by m.ops a b || some_supersede (bodies_of links) a b) ≡ true
        by true e = or_left (supersedes_by m.ops a b) (some_supersede (bodies_of links) a b) e
        by false e = or_right (supersedes_by m.ops a b) (some_supersede (bodies_of links) a b) (at (stands m.ops old && stands m.ops newer) refl)
          where
            at : (t : Bool) → (stands m.ops old && stands m.ops newer) ≡ t → some_supersede (bodies_of links) a b ≡ true
            at true h = absurd (true≢false (sym (uncut h) ∙ e))
            at false h = passed differ h e

  -- an entry that stands after the command stood before, if it was there
  stood : (i : Id) → stands m.ops i ≡ true → enters x.ops i ≡ true → stands x.ops i ≡ true
  stood i h there = and_from (enters x.ops i) (not (retires x.ops i)) there (ap not (first_of (retires x.ops i) (some_retire bodies i) (sym (retires_after x m replica note bodies made d i) ∙ (stands_parts m.ops i h).1)))
    where
      first_of : (a b : Bool) → (a || b) ≡ false → a ≡ false
      first_of true b k = absurd (true≢false k)
      first_of false b k = refl

  -- no other link is there
  pub comes_from : (a b : Id) → is_linked y.ops a b ≡ true → IsHeirOfBoth x m a b ⊎ WasAwaited x a b
  comes_from a b h =
      let p0 = and_parts (stands y.ops a) (stands y.ops b && supersedes_by y.ops a b) h in
      let p1 = and_parts (stands y.ops b) (supersedes_by y.ops a b) p0.1 in
      let ha : stands m.ops a ≡ true = sym (stands_after a) ∙ p0.0 in
      let hb : stands m.ops b ≡ true = sym (stands_after b) ∙ p1.0 in
      elim (or_cases (supersedes_by m.ops a b) (some_supersede (bodies_of links) a b) (sym (new_supersedes a b ha) ∙ p1.1)) [
        | inl kept_on ↦ old_link ha hb (sym (old_supersedes a b ha) ∙ kept_on) (enters x.ops a && enters x.ops b) refl
        | inr made_now ↦
            let it : Link = record { old = a; newer = b } in
            let q = ((p.are).each it).0 (in_set (p.are).all links (p.are).items it (one_supersedes links a b made_now)) in
            inl (record { old = q.link.old; newer = q.link.newer; linked = is_link x.ops q.link q.there; heir_of_old = q.inherits.old; heir_of_newer = q.inherits.newer })
      ]
    where
      old_link : stands m.ops a ≡ true → stands m.ops b ≡ true → supersedes_by x.ops a b ≡ true → (t : Bool) → (enters x.ops a && enters x.ops b) ≡ t → IsHeirOfBoth x m a b ⊎ WasAwaited x a b
      old_link up_a up_b s true e =
          let e2 = and_parts (enters x.ops a) (enters x.ops b) e in
          let q : (stands x.ops a ≡ true) × (stands x.ops b ≡ true) = (stood a up_a e2.0, stood b up_b e2.1) in
          inl (record {
            old = a;
            newer = b;
            linked = and_from (stands x.ops a) (stands x.ops b && supersedes_by x.ops a b) q.0 (and_from (stands x.ops b) (supersedes_by x.ops a b) q.1 s);
            heir_of_old = inl (up_a, refl);
            heir_of_newer = inl (up_b, refl);
          })
      old_link up_a up_b s false e = inr (record { supersedes = s; missing = e })

  -- if the command enters nothing, the links are those of heirs
  pub same_links : ((i : Id) → enters m.ops i ≡ enters x.ops i) → (a b : Id) → a ≢ b → (is_linked y.ops a b ≡ true) ↔ IsHeirOfBoth x m a b
  same_links same a b differ = (
    λ h. elim (comes_from a b h) [
      | inl heirs ↦ heirs
      | inr w ↦
          let p0 = and_parts (stands y.ops a) (stands y.ops b && supersedes_by y.ops a b) h in
          let p1 = and_parts (stands y.ops b) (supersedes_by y.ops a b) p0.1 in
          let ea : enters x.ops a ≡ true = sym (same a) ∙ (stands_parts m.ops a (sym (stands_after a) ∙ p0.0)).0 in
          let eb : enters x.ops b ≡ true = sym (same b) ∙ (stands_parts m.ops b (sym (stands_after b) ∙ p1.0)).0 in
          absurd (true≢false (sym (and_from (enters x.ops a) (enters x.ops b) ea eb) ∙ w.missing))
    ],
    λ w. passes_on w.old w.newer a b w.linked w.heir_of_old w.heir_of_newer differ,
  )

-- ---- the status of what is superseded

pub linked_is_superseded : (s : Ops) (a b : Id) → is_linked s a b ≡ true → status s a ≡ Some Superseded
linked_is_superseded s a b h =
    let p = and_parts (stands s a) (stands s b && supersedes_by s a b) h in
    let q = stands_parts s a p.0 in
    let there : supersedes s a ≡ true = any_more (set.items s) ((and_parts (stands s b) (supersedes_by s a b) p.1).1) in
    simp (q.0, q.1, there)
  where
    wider : (c : Body) → is_supersession a (is_same b) c ≡ true → is_supersession a (λ n. true) c ≡ true
    wider (Enter text) k = k
    wider (Retire entry) k = k
    wider (Supersede old newer) k = and_from (is_same a old) true (and_parts (is_same a old) (is_same b newer) k).0 refl

    any_more : (os : List Op) → list_any (λ (o : Op). is_supersession a (is_same b) o.body) os ≡ true → list_any (λ (o : Op). is_supersession a (λ n. true) o.body) os ≡ true
    any_more [] k = k
    any_more (o ∷ os) k = elim (or_cases (is_supersession a (is_same b) o.body) _ k) [
      | inl here ↦ or_left _ _ (wider o.body here)
      | inr later ↦ or_right (is_supersession a (λ n. true) o.body) _ (any_more os later)
    ]
