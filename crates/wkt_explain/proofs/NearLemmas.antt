-- The part of a line that is shown does not depend on what is far from the place.
use Rattle.std.proofs.Common.{◌≡◌, ◌⊎◌, inl, inr, ℕ, zero, suc, ◌+◌, ◌-◌, ◌≤◌, true, false, cond, List, [], ◌∷◌, ◌++◌, length, take, drop, min, max, refl, ap, sym, ◌∙◌, arith, one-add}
use Rattle.std.specs.List.{prefix_len}
use Rattle.std.proofs.lemmas.List.{length-append, length-take, take-take}
use Rattle.std.proofs.Math.Nat.{min_comm}
use Rattle.std.proofs.Math.Seq.{drop-append-add}
use Rattle.wkt_explain.specs.Characters.{chars}
use Rattle.wkt_explain.specs.Position.{goes_on, first_line, last_line, without_return, line_number, column, feeds, text_in}
use Rattle.wkt_explain.specs.Shown
use Rattle.wkt_explain.specs.Shown.{shown, around, shown_lines}
use Rattle.wkt_explain.specs.Walk.{AreWhole, IsInLine, IsFar}
use Rattle.wkt_explain.proofs.LineLemmas.{line_grows, feeds-append, no_feeds}
use Rattle.wkt_explain.proofs.FrontLemmas.{first_chars_of_front, many_chars}
use Rattle.wkt_explain.proofs.WalkLemmas.{between_is, between_len, up_to}

-- ---- from the place on

-- the first line of a prefix is a prefix of the first line
first_line-front : (n : ℕ) (xs : List ℕ) → first_line (take n xs) ≡ take n (first_line xs)
first_line-front zero xs = refl
first_line-front (suc n) [] = refl
first_line-front (suc n) (x ∷ xs) = elim (goes_on x) as (λ b. goes_on x ≡ b
    → take (cond b (1 + prefix_len goes_on (take n xs)) 0) (x ∷ take n xs) ≡ take (suc n) (take (cond b (1 + prefix_len goes_on xs) 0) (x ∷ xs))) [
      | true ↦ λ e.
          ap (λ k. take k (x ∷ take n xs)) (one-add (prefix_len goes_on (take n xs)))
          ∙ ap (λ (l : List ℕ). x ∷ l) (first_line-front n xs)
          ∙ sym (ap (λ k. take (suc n) (take k (x ∷ xs))) (one-add (prefix_len goes_on xs)))
      | false ↦ λ e. refl
    ] refl

-- a carriage return far behind the front makes no difference at the front
return_far : (n : ℕ) (xs : List ℕ) → take n (without_return (take (suc n) xs)) ≡ take n (without_return xs)
unfolding without_return
return_far zero xs = refl
return_far (suc n) [] = refl
return_far (suc n) (x ∷ []) = refl
return_far (suc n) (x ∷ y ∷ ys) = ap (λ (l : List ℕ). x ∷ l) (return_far n (y ∷ ys))

ahead_shown : (before xs ys : List (List ℕ)) → take 80 xs ≡ take 80 ys → shown_lines before xs ≡ shown_lines before ys
ahead_shown before xs ys e =
    let alike : (k : ℕ) → k ≤ 80 → take k xs ≡ take k ys = λ k le. sym (take-take k 80 xs le) ∙ ap (take k) e ∙ take-take k 80 ys le in
    let count : min (length xs) 40 ≡ min (length ys) 40 = min_comm (length xs) 40 ∙ sym (length-take 40 xs) ∙ ap length (alike 40 (omega arith)) ∙ length-take 40 ys ∙ min_comm 40 (length ys) in
    let n = min (length before) (80 - max (min (length ys) 40) 1) in
    ap (λ m. around (min (length before) (80 - max m 1)) before xs) count
    ∙ ap (λ ahead. shown (drop (length before - n) before) ++ shown ahead ++ 10 ∷ [] ++ Shown.blanks n ++ 94 ∷ 10 ∷ []) (alike (80 - n) (omega arith))

-- ---- before the place

behind_shown : (far near ahead : List (List ℕ)) → (length far ≡ 0) ⊎ (80 ≤ length near) → shown_lines near ahead ≡ shown_lines (far ++ near) ahead
behind_shown [] near ahead h = refl
behind_shown (c ∷ cs) near ahead (inl h) = absurd (omega (arith, h))
behind_shown (c ∷ cs) near ahead (inr h) =
    let far = c ∷ cs in
    let room = 80 - max (min (length ahead) 40) 1 in
    let all : length (far ++ near) ≡ length far + length near = length-append far near in
    let same : min (length near) room ≡ min (length (far ++ near)) room = omega (arith, all, h) in
    let n = min (length near) room in
    let from : length far + (length near - n) ≡ length (far ++ near) - n = omega (arith, all, h) in
    ap (λ back. shown back ++ shown (take (80 - n) ahead) ++ 10 ∷ [] ++ Shown.blanks n ++ 94 ∷ 10 ∷ [])
    (sym (drop-append-add far near (length near - n)) ∙ ap (λ k. drop k (far ++ near)) from)
    ∙ ap (λ m. around m (far ++ near) ahead) same

-- ---- a place, from an earlier one in its line

pub spot_line : (file : List ℕ) (at place line : ℕ) → IsInLine file at place → line ≡ line_number (take at file) → line ≡ line_number (take place file)
spot_line file at place line inside e =
    let all : feeds (take place file) ≡ feeds (take at file) + feeds (text_in file at place) =
    ap feeds (sym (up_to file at place inside.0)) ∙ feeds-append (take at file) (text_in file at place) in
    let none : feeds (text_in file at place) ≡ 0 = no_feeds (text_in file at place) inside.1 in
    omega (arith, e, all, none)

chars_up_to : (file : List ℕ) (at place : ℕ) → IsInLine file at place → AreWhole (last_line (take at file)) (drop at file)
    → chars (last_line (take place file)) ≡ chars (last_line (take at file)) ++ chars (text_in file at place)
chars_up_to file at place inside whole =
    let is = between_is file at place inside.0 in
    ap (λ x. chars (last_line x)) (sym (up_to file at place inside.0))
    ∙ ap chars (line_grows (take at file) (text_in file at place) inside.1)
    ∙ ap (λ x. chars (last_line (take at file) ++ x)) is
    ∙ whole (place - at)
    ∙ ap (λ x. chars (last_line (take at file)) ++ chars x) (sym is)

pub spot_column : (file : List ℕ) (at place passed count : ℕ) → IsInLine file at place → AreWhole (last_line (take at file)) (drop at file)
    → passed ≡ length (chars (last_line (take at file))) → count ≡ length (chars (text_in file at place)) → passed + count + 1 ≡ column (take place file)
spot_column file at place passed count inside whole p k =
    let all : length (chars (last_line (take place file))) ≡ length (chars (last_line (take at file))) + length (chars (text_in file at place)) =
    ap length (chars_up_to file at place inside whole) ∙ length-append (chars (last_line (take at file))) (chars (text_in file at place)) in
    omega (arith, all, p, k)

far_enough : (file : List ℕ) (at place passed : ℕ) → IsInLine file at place → place ≤ length file → IsFar passed at place → passed ≡ length (chars (last_line (take at file)))
    → (length (chars (last_line (take at file))) ≡ 0) ⊎ (80 ≤ length (chars (text_in file at place)))
far_enough file at place passed inside within (inl none) p = inl (sym p ∙ none)
far_enough file at place passed inside within (inr far) p =
    let many = many_chars (text_in file at place) in
    let len = between_len file at place inside.0 within in
    inr (omega (arith, many, len, far))

pub spot_shown : (file : List ℕ) (at place passed : ℕ) (before ahead after : List ℕ) → IsInLine file at place → place ≤ length file → IsFar passed at place
    → AreWhole (last_line (take at file)) (drop at file) → passed ≡ length (chars (last_line (take at file)))
    → before ≡ text_in file at place → ahead ≡ take 321 (drop place file) → after ≡ without_return (first_line ahead)
    → shown_lines (chars before) (chars after) ≡ shown_lines (chars (last_line (take place file))) (chars (without_return (first_line (drop place file))))
spot_shown file at place passed before ahead after inside within far whole p b a l =
    let line = without_return (first_line (drop place file)) in
    let from : after ≡ without_return (take 321 (first_line (drop place file))) = l ∙ ap (λ x. without_return (first_line x)) a ∙ ap without_return (first_line-front 321 (drop place file)) in
    let front : take 320 after ≡ take 320 line = ap (take 320) from ∙ return_far 320 (first_line (drop place file)) in
    let alike : take 80 (chars after) ≡ take 80 (chars line) =
    sym (first_chars_of_front 80 320 after (omega arith)) ∙ ap (λ x. take 80 (chars x)) front ∙ first_chars_of_front 80 320 line (omega arith) in
    ap (λ x. shown_lines (chars x) (chars after)) b
    ∙ ahead_shown (chars (text_in file at place)) (chars after) (chars line) alike
    ∙ behind_shown (chars (last_line (take at file))) (chars (text_in file at place)) (chars line) (far_enough file at place passed inside within far p)
    ∙ ap (λ x. shown_lines x (chars line)) (sym (chars_up_to file at place inside whole))
