-- The bytes outside a written range stay as they are.
use Rattle.std.proofs.Common.{◌≡◌, ℕ, ◌+◌, ◌-◌, ◌≤◌, ◌<◌, min, List, length, take, drop, sym, ap, ◌∙◌, arith, length-drop}
use Rattle.std.proofs.lemmas.List.{drop-take, drop-drop, length-take, take-take}
use Rattle.byte_disk.specs.Disk.{Torn}
use Rattle.byte_shelf.specs.Shelf.{StandAt}

window_before : (s c : List ℕ) (q m j : ℕ) → take j c ≡ take j s → q + m ≤ j → take m (drop q c) ≡ take m (drop q s)
window_before s c q m j same le =
    sym (drop-take q m c) ∙ ap (λ (t : List ℕ). drop q t) (sym (take-take (q + m) j c le) ∙ ap (λ (t : List ℕ). take (q + m) t) same ∙ take-take (q + m) j s le) ∙ drop-take q m s

window_after : (s c : List ℕ) (q m j : ℕ) → drop j c ≡ drop j s → j ≤ q → take m (drop q c) ≡ take m (drop q s)
window_after s c q m j same le =
    let k : j + (q - j) ≡ q = omega arith in
    let there : (t : List ℕ) → drop q t ≡ drop (q - j) (drop j t) = λ t. ap (λ (n : ℕ). drop n t) (sym k) ∙ sym (drop-drop (q - j) j t) in
    ap (λ (t : List ℕ). take m t) (there c ∙ ap (λ (t : List ℕ). drop (q - j) t) same ∙ sym (there s))

-- bytes that are at a place end within the image
pub within_length : (s bytes : List ℕ) (q : ℕ) → 0 < length bytes → StandAt s q bytes → q + length bytes ≤ length s
within_length s bytes q some stands = omega (arith, some, ap length stands, length-take (length bytes) (drop q s), length-drop q s)

pub stays_before : (s c bytes : List ℕ) (q at n : ℕ) → 0 < length bytes → Torn at n s c → StandAt s q bytes → q + length bytes ≤ at → StandAt c q bytes
stays_before s c bytes q at n some torn stands le =
    let long = within_length s bytes q some stands in
    window_before s c q (length bytes) (min at (length s)) torn.before (omega (arith, le, long)) ∙ stands

pub stays_after : (s c bytes : List ℕ) (q at n : ℕ) → Torn at n s c → StandAt s q bytes → at + n ≤ q → StandAt c q bytes
stays_after s c bytes q at n torn stands le = window_after s c q (length bytes) (at + n) torn.after le ∙ stands
