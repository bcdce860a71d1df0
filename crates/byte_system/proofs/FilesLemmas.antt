-- What the entries show after one more call.
use Rattle.std.proofs.Common.{◌≡◌, ◌≢◌, ◌⊎◌, inl, inr, ℕ, ◌+◌, ◌<◌, ◌≤◌, Bool, true, false, List, [], ◌∷◌, ◌++◌, Option, Some, None, IsSome, bytes_eq, eqb, refl, sym, ◌∙◌, ap, subst, cond, arith}
use Rattle.std.proofs.lemmas.Bool.Decides.{eqb_tells}
use lib.Pointwise.{bytes_decides}
use Rattle.byte_system.specs.Disk.{content, content_of, Disk, Event, Call, Makes, Opens, Locks, Compares, Looks, Writes, Renames, Unlinks, Finds, Likens, Ends, Gives, after, step, named, numbered, released, no_files}
use Rattle.byte_system.specs.Entries.{name_from, bytes_from, holder_from, may_lock, is_file}
use Rattle.byte_system.specs.Files.{IsUnused, Shows}
use Rattle.byte_system.specs.declared.entries.Name.{Name}
use Rattle.byte_system.specs.declared.entries.Held.{Held}
use Rattle.byte_system.specs.declared.entries.Lock.{Lock}

no_bytes : (x : Option (List ℕ)) (bs : List ℕ) → x ≡ None → x ≡ Some bs → ⊥
no_bytes x bs a b = cc

abbrev or_none : Option (List ℕ) → List ℕ
or_none None = []
or_none (Some x) = x

abbrev or_zero : Option ℕ → ℕ
or_zero None = 0
or_zero (Some n) = n

some_same : (i j : ℕ) → Some i ≡ Some j → i ≡ j
some_same i j e = ap or_zero e

numbered_other : {A : Type 0} (f : ℕ → A) (i : ℕ) (a : A) (j : ℕ) → j ≢ i → numbered f i a j ≡ f j
numbered_other f i a j ne =
    elim (eqb_tells j i) [
      | inl (t, e) ↦ absurd (ne e)
      | inr (n, e) ↦ ap (λ b. cond b a (f j)) n
    ]

not_equal : (i j c : ℕ) → i < c → c ≤ j → j ≢ i
not_equal i j c l m e = let q : j ≡ i = e in omega (arith, l, m, q)

module _ (ns : List Name) (hs : List Held) (ls : List Lock) (c : ℕ) (es : List Event) (s : Shows ns hs ls c es) (k : ℕ) where
  abbrev d : Disk
  d = after no_files es

  -- a call that changes no file
  pub idle : (call : Call) → step d k call ≡ d → Gives d k call → Shows ns hs ls c (record { by = k; call = call } ∷ es)
  idle call same gives = record {
    names_are = λ p. ap (λ x. x.names p) same ∙ s.names_are p;
    bytes_are = λ i. ap (λ x. x.bytes i) same ∙ s.bytes_are i;
    holders_are = λ i. ap (λ x. x.holder i) same ∙ s.holders_are i;
    below = λ p i e. s.below p i (sym (ap (λ x. x.names p) same) ∙ e);
    unused = λ i le. subst (λ x. IsUnused x i) (sym same) (s.unused i le);
    honest = (s.honest, gives);
  }

  -- nothing was written
  pub wrote_none : (i : ℕ) → Shows ns hs ls c (record { by = k; call = Writes i [] } ∷ es)
  wrote_none i = record {
    names_are = s.names_are;
    bytes_are = λ j. same j ∙ s.bytes_are j;
    holders_are = s.holders_are;
    below = s.below;
    unused = λ j le. record { free = (s.unused j le).free; empty = same j ∙ (s.unused j le).empty; made = (s.unused j le).made };
    honest = (s.honest, tt);
  } where
    none_more : (bs : List ℕ) → bs ++ [] ≡ bs
    none_more [] = refl
    none_more (b ∷ bs) = ap (λ t. b ∷ t) (none_more bs)

    same : (j : ℕ) → numbered d.bytes i (d.bytes i ++ []) j ≡ d.bytes j
    same j =
        elim (eqb_tells j i) [
          | inl (t, e) ↦ ap (λ b. cond b (d.bytes i ++ []) (d.bytes j)) t ∙ none_more (d.bytes i) ∙ sym (ap d.bytes e)
          | inr (n, e) ↦ ap (λ b. cond b (d.bytes i ++ []) (d.bytes j)) n
        ]

  pub wrote : (i : ℕ) (bs : List ℕ) (hs' : List Held) → i < c → ((j : ℕ) → bytes_from [] hs' j ≡ numbered (bytes_from [] hs) i (bytes_from [] hs i ++ bs) j)
      → Shows ns hs' ls c (record { by = k; call = Writes i bs } ∷ es)
  wrote i bs hs' less new = record {
    names_are = s.names_are;
    bytes_are = λ j. ap (λ x. cond (eqb j i) (x ++ bs) (d.bytes j)) (s.bytes_are i) ∙ ap (λ x. cond (eqb j i) (bytes_from [] hs i ++ bs) x) (s.bytes_are j) ∙ sym (new j);
    holders_are = s.holders_are;
    below = s.below;
    unused = λ j le. record {
      free = (s.unused j le).free;
      empty = numbered_other d.bytes i (d.bytes i ++ bs) j (not_equal i j c less le) ∙ (s.unused j le).empty;
      made = (s.unused j le).made;
    };
    honest = (s.honest, tt);
  }

  pub made : (p : List ℕ) (ns' : List Name) → name_from None ns p ≡ None → ((q : List ℕ) → name_from None ns' q ≡ named (name_from None ns) p (Some c) q)
      → Shows ns' hs ls (c + 1) (record { by = k; call = Makes p (Some c) } ∷ es)
  made p ns' free new = record {
    names_are = λ q. ap (λ x. cond (bytes_eq q p) (Some c) x) (s.names_are q) ∙ sym (new q);
    bytes_are = s.bytes_are;
    holders_are = s.holders_are;
    below = λ q i e. either (bytes_eq q p) (d.names q) i (s.below q i) e;
    unused = λ j le. let u = s.unused j (omega (arith, le)) in record {
      free = u.free;
      empty = u.empty;
      made = numbered_other d.maker c (Some k) j (not_equal c j (c + 1) (omega arith) le) ∙ u.made;
    };
    honest = (
      s.honest,
      (
        s.names_are p ∙ free,
        record {
          nameless = λ q e. let l : c < c = s.below q c e in absurd (omega (arith, l));
          free = (s.unused c (omega arith)).free;
          empty = (s.unused c (omega arith)).empty;
          made = (s.unused c (omega arith)).made;
        },
      ),
    );
  } where
    either : (b : Bool) (x : Option ℕ) (i : ℕ) → (x ≡ Some i → i < c) → cond b (Some c) x ≡ Some i → i < c + 1
    either true x i l e = let q : c ≡ i = some_same c i e in omega (arith, q)
    either false x i l e = let q : i < c = l e in omega (arith, q)

  pub locked : (i : ℕ) (ls' : List Lock) → i < c → (holder_from None ls i ≡ None) ⊎ (holder_from None ls i ≡ Some k) → ((j : ℕ) → holder_from None ls' j ≡ numbered (holder_from None ls) i (Some k) j)
      → Shows ns hs ls' c (record { by = k; call = Locks i true } ∷ es)
  locked i ls' less free new = record {
    names_are = s.names_are;
    bytes_are = s.bytes_are;
    holders_are = λ j. ap (λ x. cond (eqb j i) (Some k) x) (s.holders_are j) ∙ sym (new j);
    below = s.below;
    unused = λ j le. record {
      free = numbered_other d.holder i (Some k) j (not_equal i j c less le) ∙ (s.unused j le).free;
      empty = (s.unused j le).empty;
      made = (s.unused j le).made;
    };
    honest = (
      s.honest,
      elim free [
        | inl none ↦ inl (s.holders_are i ∙ none)
        | inr mine ↦ inr (s.holders_are i ∙ mine)
      ],
    );
  }

  some_there : (x y : Option ℕ) (f : ℕ) → x ≡ y → y ≡ Some f → IsSome x
  some_there x y f e g = subst IsSome (sym (e ∙ g)) refl

  pub moved : (p q : List ℕ) (f : ℕ) (ns' : List Name) → name_from None ns p ≡ Some f
      → ((r : List ℕ) → name_from None ns' r ≡ named (named (name_from None ns) q (Some f)) p None r) → Shows ns' hs ls c (record { by = k; call = Renames p q } ∷ es)
  moved p q f ns' there new = record {
    names_are = λ r. ap (λ x. cond (bytes_eq r p) None (cond (bytes_eq r q) x (d.names r))) at_p ∙ ap (λ x. cond (bytes_eq r p) None (cond (bytes_eq r q) (Some f) x)) (s.names_are r) ∙ sym (new r);
    bytes_are = s.bytes_are;
    holders_are = s.holders_are;
    below = λ r i e. either (bytes_eq r p) (bytes_eq r q) r i e;
    unused = λ j le. record { free = (s.unused j le).free; empty = (s.unused j le).empty; made = (s.unused j le).made };
    honest = (s.honest, some_there (d.names p) (name_from None ns p) f (s.names_are p) there);
  } where
    at_p : d.names p ≡ Some f
    at_p = s.names_are p ∙ there

    either : (a b : Bool) (r : List ℕ) (i : ℕ) → cond a None (cond b (d.names p) (d.names r)) ≡ Some i → i < c
    either true b r i e = cc
    either false true r i e = s.below p i e
    either false false r i e = s.below r i e

  pub unlinked : (p : List ℕ) (f : ℕ) (ns' : List Name) → name_from None ns p ≡ Some f → ((r : List ℕ) → name_from None ns' r ≡ named (name_from None ns) p None r)
      → Shows ns' hs ls c (record { by = k; call = Unlinks p } ∷ es)
  unlinked p f ns' there new = record {
    names_are = λ r. ap (λ x. cond (bytes_eq r p) None x) (s.names_are r) ∙ sym (new r);
    bytes_are = s.bytes_are;
    holders_are = s.holders_are;
    below = λ r i e. either (bytes_eq r p) r i e;
    unused = λ j le. record { free = (s.unused j le).free; empty = (s.unused j le).empty; made = (s.unused j le).made };
    honest = (s.honest, some_there (d.names p) (name_from None ns p) f (s.names_are p) there);
  } where
    either : (a : Bool) (r : List ℕ) (i : ℕ) → cond a None (d.names r) ≡ Some i → i < c
    either true r i e = cc
    either false r i e = s.below r i e

  pub ended : (ls' : List Lock) → ((j : ℕ) → holder_from None ls' j ≡ released k (holder_from None ls j)) → Shows ns hs ls' c (record { by = k; call = Ends } ∷ es)
  ended ls' new = record {
    names_are = s.names_are;
    bytes_are = s.bytes_are;
    holders_are = λ j. ap (released k) (s.holders_are j) ∙ sym (new j);
    below = s.below;
    unused = λ j le. record { free = ap (released k) (s.unused j le).free; empty = (s.unused j le).empty; made = (s.unused j le).made };
    honest = (s.honest, tt);
  }

  pub exists : (p : List ℕ) (f : ℕ) → name_from None ns p ≡ Some f → Shows ns hs ls c (record { by = k; call = Makes p None } ∷ es)
  exists p f there = idle (Makes p None) refl (some_there (d.names p) (name_from None ns p) f (s.names_are p) there)

  pub opened : (p : List ℕ) (f : ℕ) → name_from None ns p ≡ Some f → Shows ns hs ls c (record { by = k; call = Opens p (Some f) } ∷ es)
  opened p f there = idle (Opens p (Some f)) refl (s.names_are p ∙ there)

  pub found : (p : List ℕ) (f : ℕ) → name_from None ns p ≡ Some f → Shows ns hs ls c (record { by = k; call = Finds p true } ∷ es)
  found p f there = idle (Finds p true) refl (some_there (d.names p) (name_from None ns p) f (s.names_are p) there)

  pub found_none : (p : List ℕ) → name_from None ns p ≡ None → Shows ns hs ls c (record { by = k; call = Finds p false } ∷ es)
  found_none p none = idle (Finds p false) refl (s.names_are p ∙ none)

  pub likened : (i : ℕ) (p : List ℕ) (f : ℕ) → name_from None ns p ≡ Some f → Shows ns hs ls c (record { by = k; call = Likens i p } ∷ es)
  likened i p f there = idle (Likens i p) refl (some_there (d.names p) (name_from None ns p) f (s.names_are p) there)

  may_lock_false : (x : Option ℕ) → may_lock x k ≡ false → IsSome x
  may_lock_false None e = cc
  may_lock_false (Some j) e = refl

  pub may_lock_true : (x : Option ℕ) → may_lock x k ≡ true → (x ≡ None) ⊎ (x ≡ Some k)
  may_lock_true None e = inl refl
  may_lock_true (Some j) e =
      elim (eqb_tells j k) [
        | inl (t, same) ↦ inr (ap Some same)
        | inr (f, ne) ↦ absurd (let q : true ≡ false = sym e ∙ f in cc)
      ]

  pub refused : (i : ℕ) → may_lock (holder_from None ls i) k ≡ false → Shows ns hs ls c (record { by = k; call = Locks i false } ∷ es)
  refused i held = idle (Locks i false) refl (subst IsSome (sym (s.holders_are i)) (may_lock_false (holder_from None ls i) held))

  is_file_true : (x : Option ℕ) (i : ℕ) → is_file x i ≡ true → x ≡ Some i
  is_file_true None i e = cc
  is_file_true (Some j) i e =
      elim (eqb_tells j i) [
        | inl (t, same) ↦ ap Some same
        | inr (f, ne) ↦ absurd (let q : true ≡ false = sym e ∙ f in cc)
      ]

  is_file_false : (x : Option ℕ) (i : ℕ) → is_file x i ≡ false → x ≢ Some i
  is_file_false None i e q = cc
  is_file_false (Some j) i e q =
      elim (eqb_tells j i) [
        | inl (t, same) ↦ absurd (let r : true ≡ false = sym t ∙ e in cc)
        | inr (f, ne) ↦ ne (some_same j i q)
      ]

  pub looked_same : (p : List ℕ) (i : ℕ) → is_file (name_from None ns p) i ≡ true → Shows ns hs ls c (record { by = k; call = Looks p i true } ∷ es)
  looked_same p i is = idle (Looks p i true) refl (s.names_are p ∙ is_file_true (name_from None ns p) i is)

  pub looked_other : (p : List ℕ) (i : ℕ) → is_file (name_from None ns p) i ≡ false → Shows ns hs ls c (record { by = k; call = Looks p i false } ∷ es)
  looked_other p i is = idle (Looks p i false) refl (λ q. is_file_false (name_from None ns p) i is (sym (s.names_are p) ∙ q))

  content_is : (p : List ℕ) (f : ℕ) → name_from None ns p ≡ Some f → content d p ≡ Some (bytes_from [] hs f)
  content_is p f there = ap (content_of d.bytes) (s.names_are p ∙ there) ∙ ap Some (s.bytes_are f)

  pub had : (p : List ℕ) (f : ℕ) (bs : List ℕ) → name_from None ns p ≡ Some f → bytes_from [] hs f ≡ bs → Shows ns hs ls c (record { by = k; call = Compares p bs true } ∷ es)
  had p f bs there same = idle (Compares p bs true) refl (content_is p f there ∙ ap Some same)

  pub had_other : (p : List ℕ) (f : ℕ) (bs : List ℕ) → name_from None ns p ≡ Some f → bytes_from [] hs f ≢ bs → Shows ns hs ls c (record { by = k; call = Compares p bs false } ∷ es)
  had_other p f bs there other = idle (Compares p bs false) refl (λ q. other (ap or_none (sym (content_is p f there) ∙ q)))

  pub had_none : (p : List ℕ) (bs : List ℕ) → name_from None ns p ≡ None → Shows ns hs ls c (record { by = k; call = Compares p bs false } ∷ es)
  had_none p bs none = idle (Compares p bs false) refl (λ q. no_bytes (content d p) bs (ap (content_of d.bytes) (s.names_are p ∙ none)) q)

-- the same at other names for the same
pub shown : (ns ns' : List Name) (hs hs' : List Held) (ls ls' : List Lock) (c c' : ℕ) (es es' : List Event) → ns' ≡ ns → hs' ≡ hs → ls' ≡ ls → c' ≡ c → es' ≡ es → Shows ns hs ls c es → Shows ns' hs' ls' c' es'
shown ns ns' hs hs' ls ls' c c' es es' a b d f g s =
    subst (λ x. Shows x hs' ls' c' es') (sym a) (subst (λ x. Shows ns x ls' c' es') (sym b) (subst (λ x. Shows ns hs x c' es') (sym d) (subst (λ x. Shows ns hs ls x es') (sym f) (subst (λ x. Shows ns hs ls c x) (sym g) s))))

pub equal : (a b : List ℕ) → bytes_eq a b ≡ true → a ≡ b
equal a b e = (bytes_decides a b).0 e

pub differs : (a b : List ℕ) → bytes_eq a b ≡ false → a ≢ b
differs a b e q = let r : true ≡ false = sym ((bytes_decides a b).1 q) ∙ e in cc
