-- The listing of statements, one run at a time.
use Rattle.std.proofs.Common.{◌≡◌, ◌<◌, ◌||◌, ℕ, zero, suc, get_or, ◌+◌, Bool, true, false, cond, List, [], ◌∷◌, ◌++◌, map, length, take, drop, refl, ap, sym, ◌∙◌, arith, append_assoc, append-nil, subst, drop-drop}
use Rattle.std.specs.List.{list_any, prefix_len}
use Rattle.std.specs.Str.{bytes_eq}
use Rattle.std.specs.Cmp.Lexicographic.{same_text}
use Rattle.std.proofs.lemmas.List.{take-map, drop-map}
use Rattle.std.proofs.Math.Numerals.{one-add}
use Rattle.std.proofs.Math.Bool.{or-true}
use Rattle.reg_texts.specs.declared.saying.Saying.{Saying}
use Rattle.reg_texts.specs.Said.{Said, said}
use Rattle.reg_texts.specs.Listing.{Run, IsBlock, IsListing, AreBlocks, runs, before_runs, is_about, both_about}

-- the runs of s ∷ ss: s with the longest prefix of ss about its text, then the runs of the suffix after that
abbrev pub first_run : Said → List Said → List Run
first_run s ss = record { first = s; others = take (prefix_len (is_about s) ss) ss } ∷ runs (drop (prefix_len (is_about s) ss) ss)

pub runs_first : (s : Said) (ss : List Said) → runs (s ∷ ss) ≡ first_run s ss
runs_first s [] = refl
runs_first s (t ∷ ts) =
    ap (before_runs s) (runs_first t ts)
    ∙ (elim (is_about s t) as (λ b. is_about s t ≡ b →
    cond b (record { first = s; others = t ∷ take (prefix_len (is_about t) ts) ts } ∷ runs (drop (prefix_len (is_about t) ts) ts)) (record { first = s; others = [] } ∷ first_run t ts)
    ≡ record { first = s; others = take (cond b (1 + prefix_len (is_about s) ts) 0) (t ∷ ts) } ∷ runs (drop (cond b (1 + prefix_len (is_about s) ts) 0) (t ∷ ts))) [
      | true ↦ λ e.
          let one : prefix_len (is_about t) ts ≡ prefix_len (is_about s) ts = ap (λ (x : List ℕ). prefix_len (λ (u : Said). bytes_eq x u.text) ts) (sym (same_text s.text t.text (sym e))) in
          (λ j. record { first = s; others = t ∷ take (one j) ts } ∷ runs (drop (one j) ts))
          ∙ (λ j. record { first = s; others = take (sym (one-add (prefix_len (is_about s) ts)) j) (t ∷ ts) } ∷ runs (drop (sym (one-add (prefix_len (is_about s) ts)) j) (t ∷ ts)))
      | false ↦ λ e. ap (λ rs. record { first = s; others = [] } ∷ rs) (sym (runs_first t ts))
    ] refl)

pub prefix_map : (s : Saying) (ss : List Saying) → prefix_len (both_about s) ss ≡ prefix_len (is_about (said s)) (map said ss)
prefix_map s [] = refl
prefix_map s (t ∷ ts) = ap (λ n. cond (both_about s t) (1 + n) 0) (prefix_map s ts)

-- appends the block of the run that begins at index `at` and has n statements after its first one
pub run_more : (all : List Saying) (at n : ℕ) (s : Saying) (same : List Saying) (before new block : List ℕ)
    → drop at all ≡ s ∷ drop (at + 1) all → n ≡ prefix_len (both_about s) (drop (at + 1) all) → same ≡ take n (drop (at + 1) all)
    → IsBlock (said s) (map said same) block → new ≡ before ++ block
    → ((more : List ℕ) → IsListing (map said (drop at all)) more → IsListing (map said all) (before ++ more)) → (more : List ℕ) → IsListing (map said (drop (at + 1 + n) all)) more → IsListing (map said all) (new ++ more)
run_more all at n s same before new block r m t is e was more left =
    let ss = drop (at + 1) all in
    let count : n ≡ prefix_len (is_about (said s)) (map said ss) = m ∙ prefix_map s ss in
    let behind : drop (prefix_len (is_about (said s)) (map said ss)) (map said ss) ≡ map said (drop (at + 1 + n) all) =
    ap (λ k. drop k (map said ss)) (sym count) ∙ drop-map said n ss ∙ ap (map said) (drop-drop n (at + 1) all) in
    let others : map said same ≡ take (prefix_len (is_about (said s)) (map said ss)) (map said ss) =
    ap (map said) t ∙ sym (take-map said n ss) ∙ ap (λ k. take k (map said ss)) count in
    let here : runs (map said (drop at all)) ≡ first_run (said s) (map said ss) = ap (λ l. runs (map said l)) r ∙ runs_first (said s) (map said ss) in
    subst (IsListing (map said all)) (sym (ap (λ l. l ++ more) e ∙ append_assoc before block more))
    (was (block ++ more) (subst (λ rs. AreBlocks rs (block ++ more)) (sym here)
    (block, more, subst (λ l. IsBlock (said s) l block) others is, subst (λ l. AreBlocks (runs l) more) (sym behind) left, refl)))

pub at_end : (all : List Saying) (at : ℕ) (text : List ℕ) → drop at all ≡ [] → ((more : List ℕ) → IsListing (map said (drop at all)) more → IsListing (map said all) (text ++ more)) → IsListing (map said all) text
at_end all at text e was = subst (IsListing (map said all)) (append-nil text) (was [] (subst (λ l. IsListing (map said l) []) (sym e) refl))

-- ---- a text that is appended part by part

pub six : (t K A S B P C k1 k2 k3 k4 k5 k6 : List ℕ) → k1 ≡ t ++ K → k2 ≡ k1 ++ A → k3 ≡ k2 ++ S → k4 ≡ k3 ++ B → k5 ≡ k4 ++ P → k6 ≡ k5 ++ C
    → k6 ≡ t ++ (K ++ (A ++ (S ++ (B ++ (P ++ C)))))
six t K A S B P C k1 k2 k3 k4 k5 k6 e1 e2 e3 e4 e5 e6 =
    e6 ∙ ap (λ l. l ++ C) (e5 ∙ ap (λ l. l ++ P) (e4 ∙ ap (λ l. l ++ B) (e3 ∙ ap (λ l. l ++ S) (e2 ∙ ap (λ l. l ++ A) e1))))
    ∙ append_assoc ((((t ++ K) ++ A) ++ S) ++ B) P C ∙ append_assoc (((t ++ K) ++ A) ++ S) B (P ++ C) ∙ append_assoc ((t ++ K) ++ A) S (B ++ (P ++ C))
    ∙ append_assoc (t ++ K) A (S ++ (B ++ (P ++ C))) ∙ append_assoc t K (A ++ (S ++ (B ++ (P ++ C))))

pub any_at : (p : Said → Bool) (xs : List Saying) (i : ℕ) (d : Saying) → i < length xs → p (said (get_or xs i d)) ≡ true → list_any p (map said xs) ≡ true
any_at p [] i d h e = absurd (omega (arith, h))
any_at p (x ∷ xs) zero d h e = ap (λ b. b || list_any p (map said xs)) e
any_at p (x ∷ xs) (suc i) d h e = ap (λ b. p (said x) || b) (any_at p xs i d (omega (arith, h)) e) ∙ or-true (p (said x))
