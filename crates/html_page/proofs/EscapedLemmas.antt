-- Escaped texts are inert, and are read back as they were.
use Rattle.std.proofs.Common.{◌≡◌, ℕ, ◌==◌, Bool, true, false, List, [], ◌∷◌, ◌++◌, codes, if◌then◌else◌, refl, sym, ap, ◌∙◌}
use Rattle.std.proofs.lemmas.Bool.Decides.{Decides-eqb}
use Rattle.html_page.specs.Escaped.{escaped, unescaped_after, is_inert}

-- the bytes that a byte is escaped to, by the results of the tests on it
abbrev pub picked : ℕ → Bool → Bool → Bool → Bool → Bool → List ℕ
picked b t u v w x =
    if t then codes "&amp;" else (if u then codes "&lt;" else (if v then codes "&gt;" else (if w then codes "&#34;" else (if x then codes "&#39;" else b ∷ []))))

inert_picked : (b : ℕ) (rest : List ℕ) (t u v w x : Bool) → (b == 38) ≡ t → (b == 60) ≡ u → (b == 62) ≡ v → (b == 34) ≡ w → (b == 39) ≡ x
    → is_inert (picked b t u v w x ++ rest) ≡ is_inert rest
inert_picked b rest true u v w x _ _ _ _ _ = refl
inert_picked b rest false true v w x _ _ _ _ _ = refl
inert_picked b rest false false true w x _ _ _ _ _ = refl
inert_picked b rest false false false true x _ _ _ _ _ = refl
inert_picked b rest false false false false true _ _ _ _ _ = refl
inert_picked b rest false false false false false t u v w x = rw (t, u, v, w, x) refl

pub inert : (text : List ℕ) → is_inert (escaped text) ≡ true
inert [] = refl
inert (b ∷ text) = inert_picked b (escaped text) _ _ _ _ _ refl refl refl refl refl ∙ inert text

is_byte : (b n : ℕ) (rest : List ℕ) → (b == n) ≡ true → n ∷ rest ≡ b ∷ rest
is_byte b n rest e = ap (λ c. c ∷ rest) (sym ((Decides-eqb b n).0 e))

read_picked : (b : ℕ) (rest : List ℕ) (t u v w x : Bool) → (b == 38) ≡ t → (b == 60) ≡ u → (b == 62) ≡ v → (b == 34) ≡ w → (b == 39) ≡ x
    → unescaped_after 0 (picked b t u v w x ++ rest) ≡ b ∷ unescaped_after 0 rest
read_picked b rest true u v w x e _ _ _ _ = is_byte b 38 _ e
read_picked b rest false true v w x _ e _ _ _ = is_byte b 60 _ e
read_picked b rest false false true w x _ _ e _ _ = is_byte b 62 _ e
read_picked b rest false false false true x _ _ _ e _ = is_byte b 34 _ e
read_picked b rest false false false false true _ _ _ _ e = is_byte b 39 _ e
read_picked b rest false false false false false t u v w x = rw t refl

pub read : (text : List ℕ) → unescaped_after 0 (escaped text) ≡ text
read [] = refl
read (b ∷ text) = read_picked b (escaped text) _ _ _ _ _ refl refl refl refl refl ∙ ap (λ cs. b ∷ cs) (read text)
