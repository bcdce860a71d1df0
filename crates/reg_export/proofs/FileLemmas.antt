-- The files of texts: one after another, and in order.
use Rattle.std.proofs.Common.{◌≡◌, ◌↔◌, ◌&&◌, ◌<◌, ◌+◌, ℕ, take, length, get_or, Bool, true, false, not, if◌then◌else◌, List, [], ◌∷◌, ◌++◌, map, refl, sym, ap, ◌∙◌, subst}
use Rattle.std.proofs.lemmas.Bool.{true≢false, and_from, and_parts}
use Rattle.std.proofs.lemmas.Cmp.{nat_list_cmp_total, on_total, then_total, tied_itself}
use Rattle.std.proofs.lemmas.List.Elements.{Contains-append_right}
use Rattle.std.proofs.lemmas.List.Sorted.{Contains-permutation, IsPermutation-sym, IsPermutation-map}
use Rattle.std.proofs.lemmas.List.{map-append, take_more}
use Rattle.std.proofs.lemmas.Map.Lookups.{exact_bytes}
use Rattle.std.proofs.lemmas.Slice.Eq.{bytes_eq-Decides}
use Rattle.std.specs.Cmp.{IsTotalOrder}
use Rattle.std.specs.List.{Contains, filter, dedup, AllByRecursion as ByRecursion}
use Rattle.std.specs.List.Sorted.{IsSorted, IsPermutation, IsStrictlySortedBy}
use Rattle.std.specs.Ordering.{ordering_then}
use Rattle.std.specs.Str.{bytes_eq}
use Rattle.std.specs.declared.cmp.Ordering.{Ordering}
use Rattle.std.specs.declared.cmp.Ordering.TheVariants.{Less, Equal, Greater}
use Rattle.reg_op.proofs.OpLemmas.{both_equal}
use Rattle.byte_folder.specs.declared.file.NamedFile.{NamedFile}
use Rattle.byte_folder.specs.Folder.{File, seen, is_long}
use Rattle.reg_export.specs.declared.files.Keyed.{Keyed}
use Rattle.reg_export.specs.declared.naming.Capitals.{Capitals}
use Rattle.reg_export.specs.declared.naming.Capitals.TheVariants as capitals
use Rattle.reg_export.specs.KeyNames.{name_with}
use Rattle.reg_export.specs.KeyFiles.{KeyedText, keyed, capitals_if, has_twin, plain_name, lower, file_with, file_in, fitting, name_cmp, file_cmp, AreInOrder, AreFilesOf, HaveOneText, HaveBytes}
use Rattle.reg_export.specs.Twins.{At, Tells, file_at}
use Rattle.reg_export.proofs.NameLemmas.{not_shared}
use Rattle.reg_export.proofs.SortLemmas.{rises_once, kept_once}
use Rattle.reg_export.proofs.CaseLemmas.{one_key, plain_alike}
use Rattle.reg_export.proofs.TwinLemmas.{twin_found, twin_is}
use Rattle.reg_report.proofs.ConflictLemmas.{in_head, from_map}

-- ---- in order

file_total : IsTotalOrder file_cmp
file_total = then_total (on_total (λ (f : File). f.name) nat_list_cmp_total) (on_total (λ (f : File). f.bytes) nat_list_cmp_total)

pub one_file : (f g : File) → f.name ≡ g.name → f.bytes ≡ g.bytes → f ≡ g
one_file f g n b = λ j. record { name = n j; bytes = b j }

file_exact : (f g : File) → file_cmp f g ≡ Equal → f ≡ g
file_exact f g e =
    let p = both_equal (name_cmp f.name g.name) _ e in
    one_file f g (exact_bytes f.name g.name p.0) (exact_bytes f.bytes g.bytes p.1)

abbrev named_eq : NamedFile → NamedFile → Bool
named_eq a b = bytes_eq a.name.items b.name.items && bytes_eq a.bytes.items b.bytes.items

eq_exact : (a b : NamedFile) → (named_eq a b ≡ true) ↔ (seen a ≡ seen b)
eq_exact a b = (
  λ h.
      let p = and_parts _ _ h in
      one_file (seen a) (seen b) ((bytes_eq-Decides a.name.items b.name.items).0 p.0) ((bytes_eq-Decides a.bytes.items b.bytes.items).0 p.1),
  λ e. and_from _ _ ((bytes_eq-Decides a.name.items b.name.items).1 (ap (λ (f : File). f.name) e)) ((bytes_eq-Decides a.bytes.items b.bytes.items).1 (ap (λ (f : File). f.bytes) e)),
)

pub in_order : (xs ys zs : List NamedFile) → IsPermutation xs ys → IsSorted (λ a b. file_cmp (seen a) (seen b)) ys → zs ≡ dedup named_eq ys → AreInOrder (map seen xs) (map seen zs)
in_order xs ys zs same sorted distinct = record {
  ascend = subst (λ l. IsStrictlySortedBy file_cmp (map seen l)) (sym distinct) (rises_once file_total file_exact seen named_eq eq_exact ys sorted);
  same = λ f. (
    λ h. Contains-permutation (map seen ys) (map seen xs) f (IsPermutation-map seen ys xs (IsPermutation-sym xs ys same)) ((kept_once file_total file_exact seen named_eq eq_exact ys f).0 (subst (λ l. Contains (map seen l) f) distinct h)),
    λ h. subst (λ l. Contains (map seen l) f) (sym distinct) ((kept_once file_total file_exact seen named_eq eq_exact ys f).1 (Contains-permutation (map seen xs) (map seen ys) f (IsPermutation-map seen xs ys same) h)),
  );
}

-- ---- names that ascend

abbrev pub capitals_in : List KeyedText → KeyedText → Capitals
capitals_in ts t = capitals_if (has_twin ts (plain_name t))

less_of : (r t : Ordering) → ordering_then r t ≡ Less → (r ≡ Equal → ⊥) → r ≡ Less
less_of Less t e out = refl
less_of Equal t e out = absurd (out refl)
less_of Greater t e out = cc

not_less : (f g : File) → file_cmp f g ≡ Less → f ≡ g → ⊥
not_less f g e same = let tied = tied_itself file_total f in let other = ap (file_cmp f) same in cc

before : (f g : File) → file_cmp f g ≡ Less → (f.name ≡ g.name → f ≡ g) → name_cmp f.name g.name ≡ Less
before f g e one = less_of (name_cmp f.name g.name) _ e (λ t. not_less f g e (one (exact_bytes f.name g.name t)))

abbrev pub Single : File → List File → Type 0
Single f gs = (g : File) → Contains gs g → f.name ≡ g.name → f ≡ g

each_before : (f : File) (gs : List File) → Single f gs → ByRecursion (λ g. file_cmp f g ≡ Less) gs → ByRecursion (λ n. name_cmp f.name n ≡ Less) (map (λ (g : File). g.name) gs)
each_before f [] one h = tt
each_before f (g ∷ gs) one h = (before f g h.0 (one g (in_head g gs)), each_before f gs (λ k c. one k (Contains-append_right (g ∷ []) gs k c)) h.1)

ascend : (fs : List File) → ((f : File) → Contains fs f → Single f fs) → IsStrictlySortedBy file_cmp fs → IsStrictlySortedBy name_cmp (map (λ (f : File). f.name) fs)
unfolding IsStrictlySortedBy
ascend [] one h = tt
ascend (f ∷ fs) one h = (
  each_before f fs (λ g c. one f (in_head f fs) g (Contains-append_right (f ∷ []) fs g c)) h.0,
  ascend fs (λ g c k d. one g (Contains-append_right (f ∷ []) fs g c) k (Contains-append_right (f ∷ []) fs k d)) h.1,
)

pub single : (ts : List KeyedText) (fs : List File) → AreFilesOf ts fs → HaveOneText ts → (f : File) → Contains fs f → Single f fs
single ts fs are one f c g d e =
    let t = from_map (file_in ts) ts f ((are.same f).0 c) in
    let u = from_map (file_in ts) ts g ((are.same g).0 d) in
    let keys = not_shared (capitals_in ts t.0) (capitals_in ts u.0) t.0.authority t.0.code u.0.authority u.0.code (ap (λ (h : File). h.name) (sym t.2) ∙ e ∙ ap (λ (h : File). h.name) u.2) in
    let text = one t.0 u.0 t.1 u.1 keys.0 keys.1 in
    one_file f g e (ap (λ (h : File). h.bytes) t.2 ∙ ap (λ bs. bs ++ 10 ∷ []) text ∙ ap (λ (h : File). h.bytes) (sym u.2))

pub names_ascend : (ts : List KeyedText) (fs : List File) → AreFilesOf ts fs → HaveOneText ts → IsStrictlySortedBy name_cmp (map (λ (f : File). f.name) fs)
names_ascend ts fs are one = ascend fs (single ts fs are one) are.ascend

-- ---- names where case does not count

module _ (ts : List KeyedText) (bytes : HaveBytes ts) where
  one_name : (t u : KeyedText) → Contains ts t → Contains ts u → lower (file_in ts t).name ≡ lower (file_in ts u).name → (file_in ts t).name ≡ (file_in ts u).name
  one_name t u of_t of_u e = by (bytes_eq (plain_name t) (plain_name u)) refl
    where
      alike : lower (plain_name t) ≡ lower (plain_name u)
      alike = plain_alike (capitals_in ts t) (capitals_in ts u) t.authority t.code u.authority u.code (bytes t of_t).0 (bytes t of_t).1 (bytes u of_u).0 (bytes u of_u).1 e

      escaped : (p q : Bool) → p ≡ true → q ≡ true → lower (name_with (capitals_if p) t.authority t.code) ≡ lower (name_with (capitals_if q) u.authority u.code)
          → name_with (capitals_if p) t.authority t.code ≡ name_with (capitals_if q) u.authority u.code
      escaped true true f g e =
          let keys = one_key t.authority t.code u.authority u.code (bytes t of_t).0 (bytes t of_t).1 (bytes u of_u).0 (bytes u of_u).1 e in
          λ j. name_with capitals.Escaped (keys.0 j) (keys.1 j)
      escaped true false f g e = cc
      escaped false q f g e = cc

      by : (b : Bool) → bytes_eq (plain_name t) (plain_name u) ≡ b → (file_in ts t).name ≡ (file_in ts u).name
      by true same =
          let name = (bytes_eq-Decides (plain_name t) (plain_name u)).0 same in
          let keys = not_shared capitals.Stay capitals.Stay t.authority t.code u.authority u.code name in
          λ j. name_with (capitals_if (has_twin ts (name j))) (keys.0 j) (keys.1 j)
      by false other =
          let differ : plain_name t ≡ plain_name u → ⊥ = λ same. true≢false (sym ((bytes_eq-Decides (plain_name t) (plain_name u)).1 same) ∙ other) in
          let first = twin_found ts u (plain_name t) of_u (sym alike) (λ same. differ (sym same)) in
          let second = twin_found ts t (plain_name u) of_t alike differ in
          escaped (has_twin ts (plain_name t)) (has_twin ts (plain_name u)) first second e

  pub one_file_alike : (fs : List File) → AreFilesOf ts fs → HaveOneText ts → (f g : File) → Contains fs f → Contains fs g → lower f.name ≡ lower g.name → f ≡ g
  one_file_alike fs are one f g c d e =
      let t = from_map (file_in ts) ts f ((are.same f).0 c) in
      let u = from_map (file_in ts) ts g ((are.same g).0 d) in
      let names = one_name t.0 u.0 t.1 u.1 (ap (λ (h : File). lower h.name) (sym t.2) ∙ e ∙ ap (λ (h : File). lower h.name) u.2) in
      single ts fs are one f c g d (ap (λ (h : File). h.name) t.2 ∙ names ∙ ap (λ (h : File). h.name) (sym u.2))

-- ---- the files by notes

pub by_notes : (ts us : List KeyedText) (at : At) → ((k : List ℕ) → Tells (map plain_name ts) k (at k)) → ((t : KeyedText) → Contains us t → Contains ts t) → map (file_at at) us ≡ map (file_in ts) us
by_notes ts [] at tells within = refl
by_notes ts (u ∷ us) at tells within = λ j.
    file_with (capitals_if (twin_is ts u (at (lower (plain_name u))) (within u (in_head u us)) (tells (lower (plain_name u))) j)) u ∷ by_notes ts us at tells (λ t c. within t (Contains-append_right (u ∷ []) us t c)) j

-- ---- the files that fit

pub kept_alike : (fs : List NamedFile) → map seen (filter (λ f. not (is_long (seen f))) fs) ≡ fitting (map seen fs)
kept_alike [] = refl
kept_alike (f ∷ fs) = by (not (is_long (seen f))) (kept_alike fs)
  where
    by : (t : Bool) → map seen (filter (λ f. not (is_long (seen f))) fs) ≡ fitting (map seen fs)
        → map seen (if t then f ∷ filter (λ f. not (is_long (seen f))) fs else filter (λ f. not (is_long (seen f))) fs) ≡ (if t then seen f ∷ fitting (map seen fs) else fitting (map seen fs))
    by true e = ap (λ l. seen f ∷ l) e
    by false e = e

-- ---- one more file

pub files_more : (at : At) (texts : List Keyed) (ys zs : List NamedFile) (i : ℕ) (d : Keyed) (y : NamedFile) → i < length texts → map seen ys ≡ map (file_at at) (map keyed (take i texts))
    → seen y ≡ file_at at (keyed (get_or texts i d)) → zs ≡ ys ++ y ∷ [] → map seen zs ≡ map (file_at at) (map keyed (take (i + 1) texts))
files_more at texts ys zs i d y within before is pushed =
    let files = ap (map seen) pushed ∙ map-append seen ys (y ∷ []) in
    let more = ap (λ l. map (file_at at) (map keyed l)) (take_more texts i d within) ∙ ap (map (file_at at)) (map-append keyed (take i texts) (get_or texts i d ∷ [])) ∙ map-append (file_at at) (map keyed (take i texts)) (keyed (get_or texts i d) ∷ []) in
    files ∙ (λ j. before j ++ is j ∷ []) ∙ sym more
