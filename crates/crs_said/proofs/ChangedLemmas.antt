-- Lists whose elements are changed in place, from a place on.
use Rattle.std.proofs.Common.{◌≡◌, ℕ, ◌+◌, ◌-◌, ◌≤◌, ◌<◌, List, ◌++◌, map, length, take, drop, get_or, set, refl, sym, ap, ◌∙◌, arith, append-nil, length-drop, length-take-le, take-append-drop, take_all}
use Rattle.std.proofs.lemmas.List.{drop_all, get_or-append_right, set-append_right}
use Rattle.std.proofs.lemmas.List.Edits.{map_over_more}

-- those from `start` on that are before `i` are changed
abbrev pub changed : (ℕ → ℕ) → List ℕ → ℕ → ℕ → List ℕ
changed f xs start i = take start xs ++ (map f (take (i - start) (drop start xs)) ++ drop (i - start) (drop start xs))

pub none_changed : (f : ℕ → ℕ) (xs : List ℕ) (start : ℕ) → xs ≡ changed f xs start start
none_changed f xs start =
    let e : 0 ≡ start - start = omega arith in
    sym (take-append-drop start xs)
    ∙ ap (λ n. take start xs ++ (map f (take n (drop start xs)) ++ drop n (drop start xs))) e

pub one_changed : (f : ℕ → ℕ) (xs ys : List ℕ) (start i x : ℕ) → start ≤ i → i < length xs → ys ≡ changed f xs start i → x ≡ get_or ys i x → set ys i (f x) ≡ changed f xs start (i + 1)
one_changed f xs ys start i x h l is at =
    let p = take start xs in
    let zs = drop start xs in
    let j = i - start in
    let q = map f (take j zs) ++ drop j zs in
    let long : length p ≡ start = length-take-le start xs (omega arith) in
    let rest = length-drop start xs in
    let within : j < length zs = omega (arith, rest) in
    let read : x ≡ get_or q j x = at ∙ ap (λ l. get_or l i x) is ∙ get_or-append_right p q start i x long h in
    let next : j + 1 ≡ i + 1 - start = omega arith in
    ap (λ l. set l i (f x)) is
    ∙ set-append_right p q start i (f x) long h
    ∙ ap (λ l. p ++ l) (map_over_more f zs q j x within refl read)
    ∙ ap (λ n. p ++ (map f (take n zs) ++ drop n zs)) next

pub all_changed : (f : ℕ → ℕ) (xs ys : List ℕ) (start n : ℕ) → length xs ≤ n → ys ≡ changed f xs start n → ys ≡ take start xs ++ map f (drop start xs)
all_changed f xs ys start n h is =
    let zs = drop start xs in
    let rest = length-drop start xs in
    let most : length zs ≤ n - start = omega (arith, rest) in
    is
    ∙ (λ j. take start xs ++ (map f (take_all (n - start) zs most j) ++ drop_all (n - start) zs most j))
    ∙ ap (λ l. take start xs ++ l) (append-nil (map f zs))
