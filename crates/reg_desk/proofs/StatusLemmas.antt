-- The lines of a report of files, one file at a time, and the fault that is reported.
use Rattle.std.proofs.Common.{◌≡◌, ℕ, ◌+◌, ◌<◌, ◌≤◌, min, Bor, List, [], ◌∷◌, ◌++◌, append_assoc, append-nil, length, length-drop, map, drop, get_or, arith, refl, sym, ap, ◌∙◌, subst, inl, inr, ◌⊎◌, None}
use Rattle.std.proofs.lemmas.Bool.{cases_lt}
use Rattle.std.proofs.lemmas.List.{drop_more, length-map}
use Rattle.std.proofs.lemmas.List.Elements.{All-push}
use Rattle.csv.specs.Writing.{row_text, default_writer}
use Rattle.reg_desk.specs.declared.look.Look.{Look}
use Rattle.reg_desk.specs.declared.look.Look.TheVariants as look
use Rattle.reg_desk.specs.Status.{IsStatusLine, AreStatusLines, IsStatusText, fault_at, IsGood, AreGood}

abbrev pub text_of : Bor (List ℕ) → List ℕ
text_of n = n.now

-- `text` followed by any lines for the remaining files is the report
abbrev pub Completes : List (List ℕ) → List Look → List (List ℕ) → List Look → List ℕ → Type 0
Completes names looks ns ls text = (more : List ℕ) → AreStatusLines ns ls more → IsStatusText names looks (text ++ more)

pub line_more : (names : List (List ℕ)) (looks : List Look) (ns ms : List (List ℕ)) (ls ks : List Look) (n : List ℕ) (l : Look) (old new : List ℕ) (fields : List (List ℕ))
    → ns ≡ n ∷ ms → ls ≡ l ∷ ks → IsStatusLine n l fields → new ≡ old ++ row_text default_writer fields → Completes names looks ns ls old → Completes names looks ms ks new
line_more names looks ns ms ls ks n l old new fields e d is h done more lines =
    subst (IsStatusText names looks) (sym (append_assoc old (row_text default_writer fields) more) ∙ ap (λ t. t ++ more) (sym h))
    (done (row_text default_writer fields ++ more) (subst (λ xs. AreStatusLines xs ls (row_text default_writer fields ++ more)) (sym e)
    (subst (λ ys. AreStatusLines (n ∷ ms) ys (row_text default_writer fields ++ more)) (sym d) (fields, more, is, lines, refl))))

pub line_at : (names : List (Bor (List ℕ))) (looks : List Look) (i : ℕ) (d : Bor (List ℕ)) (e : Look) (old new : List ℕ) (fields : List (List ℕ)) → i < length names → i < length looks
    → IsStatusLine (get_or names i d).now (get_or looks i e) fields → new ≡ old ++ row_text default_writer fields
    → Completes (map text_of names) looks (map text_of (drop i names)) (drop i looks) old
    → Completes (map text_of names) looks (map text_of (drop (i + 1) names)) (drop (i + 1) looks) new
line_at names looks i d e old new fields within inside is h done =
    line_more (map text_of names) looks (map text_of (drop i names)) (map text_of (drop (i + 1) names)) (drop i looks) (drop (i + 1) looks) (get_or names i d).now (get_or looks i e) old new fields
    (ap (map text_of) (drop_more names i d within)) (drop_more looks i e inside) is h done

no_more : (ns : List (List ℕ)) (ls : List Look) → (length ns ≡ 0) ⊎ (length ls ≡ 0) → AreStatusLines ns ls []
no_more [] ls h = refl
no_more (n ∷ ns) [] h = refl
no_more (n ∷ ns) (l ∷ ls) (inl h) = absurd (omega arith)
no_more (n ∷ ns) (l ∷ ls) (inr h) = absurd (omega arith)

pub lines_done : (names : List (Bor (List ℕ))) (looks : List Look) (i : ℕ) (text out : List ℕ) → min (length names) (length looks) ≤ i → out ≡ text
    → Completes (map text_of names) looks (map text_of (drop i names)) (drop i looks) text → IsStatusText (map text_of names) looks out
lines_done names looks i text out past h done =
    subst (IsStatusText (map text_of names) looks) (append-nil text ∙ sym h) (done [] (no_more (map text_of (drop i names)) (drop i looks) (elim (cases_lt (length names) (length looks)) [
      | inl l ↦ inl (length-map (drop i names) text_of ∙ length-drop i names ∙ omega (arith, l, past))
      | inr l ↦ inr (length-drop i looks ∙ omega (arith, l, past))
    ])))

-- ---- the first that is not a register

-- all looks before `rest` are good
abbrev pub Passed : List Look → List Look → Type 0
Passed looks rest = (before : List Look) × (looks ≡ before ++ rest) × AreGood before

good_of : (k : ℕ) (l : Look) → fault_at k l ≡ None → IsGood l
good_of k (look.Figures n f) e = tt
good_of k (look.NoRegister n f) e = absurd (cc)
good_of k (look.Unread f) e = absurd (cc)
good_of k (look.NoShelf p) e = absurd (cc)

pub passed_more : (looks rest others : List Look) (l : Look) (number : ℕ) → rest ≡ l ∷ others → fault_at number l ≡ None → Passed looks rest → Passed looks others
passed_more looks rest others l number e is (before, all, good) = (
  before ++ l ∷ [],
  all ∙ ap (λ r. before ++ r) e ∙ sym (append_assoc before (l ∷ []) others),
  All-push IsGood before l good (good_of number l is),
)
