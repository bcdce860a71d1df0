-- The name at the beginning of a text.
use Rattle.std.proofs.Common.{◌≡◌, ◌<◌, ◌-◌, ◌&&◌, ℕ, zero, suc, Bool, true, false, cond, List, [], ◌∷◌, length, take, drop, Option, Some, None, option_map, refl, sym, ap, ◌∙◌, arith}
use Rattle.std.proofs.lemmas.Bool.{and_parts}
use Rattle.std.specs.Cmp.Lexicographic.{nat_list_eq_equiv}
use Rattle.std.specs.List.{find}
use Rattle.std.specs.Str.{bytes_eq}
use Rattle.csv_table.specs.declared.offices.names.Name.{Name}
use Rattle.csv_table.specs.Names.{stands}
use Rattle.csv_table.specs.Shown.{ends, begins, found, put, put_name, left_out}
use Rattle.csv_table.specs.Standing.{standing}
use Rattle.csv_table.proofs.StandingLemmas.{same, found_one}

-- a text that is shorter
pub all_taken : (k : ℕ) (text : List ℕ) → length text < k → take (length text) text ≡ take k text
all_taken zero text e = absurd (omega (arith, e))
all_taken (suc k) [] e = refl
all_taken (suc k) (b ∷ bs) e = let less : length bs < k = omega (arith, e) in ap (λ l. b ∷ l) (all_taken k bs less)

pub none_left : (k : ℕ) (text : List ℕ) → length text < k → drop (length text) text ≡ drop k text
none_left zero text e = absurd (omega (arith, e))
none_left (suc k) [] e = refl
none_left (suc k) (b ∷ bs) e = let less : length bs < k = omega (arith, e) in none_left k bs less

shuffled : (a c e s : Bool) → a ≡ c → ((a && e) && s) ≡ (e && (c && s))
shuffled a c e s g = ap (λ x. (x && e) && s) g ∙ by c e
  where
    by : (x y : Bool) → ((x && y) && s) ≡ (y && (x && s))
    by true true = refl
    by true false = refl
    by false true = refl
    by false false = refl

begins_is : (ns : List Name) (text : List ℕ) (n : Name) → begins ns text n ≡ (ends (drop 36 text) && (bytes_eq n.office.items (take 36 text) && stands ns n))
begins_is ns text n = ap (λ k. (bytes_eq (take k text) n.office.items && ends (drop k text)) && stands ns n) n.long
    ∙ shuffled (bytes_eq (take 36 text) n.office.items) (bytes_eq n.office.items (take 36 text)) (ends (drop 36 text)) (stands ns n) (nat_list_eq_equiv.symm (take 36 text) n.office.items)

find_same : (t u : Name → Bool) → ((n : Name) → t n ≡ u n) → (ns : List Name) → find t ns ≡ find u ns
find_same t u e [] = refl
find_same t u e (n ∷ ns) = ap (λ b. cond b (Some n) (find t ns)) (e n) ∙ ap (cond (u n) (Some n)) (find_same t u e ns)

find_none : (ns : List Name) → find (λ n. false) ns ≡ None
find_none [] = refl
find_none (n ∷ ns) = find_none ns

module _ (ns : List Name) (text : List ℕ) where
  abbrev own : Name → Bool
  own n = bytes_eq n.office.items (take 36 text) && stands ns n

  pub found_at_end : ends (drop 36 text) ≡ true → standing ns (take 36 text) ≡ option_map (λ (n : Name). n.name.items) (found ns text true)
  found_at_end e = ap (option_map (λ (n : Name). n.name.items)) (sym (find_same (begins ns text) own (λ n. begins_is ns text n ∙ ap (λ b. b && own n) e) ns))

  pub not_at_end : ends (drop 36 text) ≡ false → None ≡ option_map (λ (n : Name). n.name.items) (found ns text true)
  not_at_end e = ap (option_map (λ (n : Name). n.name.items)) (sym (find_same (begins ns text) (λ n. false) (λ n. begins_is ns text n ∙ ap (λ b. b && own n) e) ns ∙ find_none ns))

  pub found_some : (starts : Bool) (w : List ℕ) → Some w ≡ option_map (λ (n : Name). n.name.items) (found ns text starts)
      → (n : Name) × (found ns text starts ≡ Some n) × (n.name.items ≡ w) × (n.office.items ≡ take 36 text)
  found_some false w e = absurd cc
  found_some true w e = by (find (begins ns text) ns) refl e
    where
      by : (r : Option Name) → find (begins ns text) ns ≡ r → Some w ≡ option_map (λ (n : Name). n.name.items) r
          → (n : Name) × (find (begins ns text) ns ≡ Some n) × (n.name.items ≡ w) × (n.office.items ≡ take 36 text)
      by None g h = absurd cc
      by (Some n) g h =
          let passed = (found_one (begins ns text) ns n g).0 in
          let both = and_parts (ends (drop 36 text)) (own n) (sym (begins_is ns text n) ∙ passed) in
          let is : n.name.items ≡ w = cc in
          (n, g, is, same n.office.items (take 36 text) (and_parts (bytes_eq n.office.items (take 36 text)) (stands ns n) both.1).0)

-- what stands there
pub left_of : (n : Name) (r : Option Name) (office : List ℕ) → r ≡ Some n → n.office.items ≡ office → length office - 1 ≡ left_out r
left_of n r office e is = ap (λ l. length l - 1) (sym is) ∙ ap left_out (sym e)

pub put_of : (keeps : Bool) (byte : ℕ) (n : Name) (r : Option Name) (name office : List ℕ) → r ≡ Some n → n.name.items ≡ name → n.office.items ≡ office → put_name keeps name office ≡ put keeps r byte
put_of keeps byte n r name office e w o = (λ j. put_name keeps (sym w j) (sym o j)) ∙ ap (λ (x : Option Name). put keeps x byte) (sym e)
