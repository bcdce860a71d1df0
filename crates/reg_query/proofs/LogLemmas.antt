-- Loops over the operations of a log, and the order of operations.
use Rattle.std.proofs.Common.{◌≡◌, ℕ, Bool, true, false, cond, List, [], ◌∷◌, ◌++◌, filter, append_assoc, append-nil, length, arith, refl, sym, ap, ◌∙◌, subst}
use Rattle.std.specs.Cmp.{IsTotalOrder, IsStrictWeakOrder, then_total, on_total, nat_cmp_total}
use Rattle.std.specs.Ordering.{is_lt}
use Rattle.std.proofs.lemmas.List.Sorted.{ranks_by}
use Rattle.csv.specs.Writing.{row_text, default_writer}
use Rattle.reg_op.specs.Operations.{Op}
use Rattle.reg_op.proofs.OpLemmas.{id_total}
use Rattle.reg_report.specs.Lines.{AreLines}
use Rattle.reg_query.specs.LogLines.{IsLogLine, AreLogLines}
use Rattle.reg_query.specs.Log.{subject, rank, log_cmp}

-- ---- the requested operations

-- `made` followed by the matching elements of `rest` is the list of those of `all`
abbrev pub Picks : (Op → Bool) → List Op → List Op → List Op → Type 0
Picks p all rest made = filter p all ≡ made ++ filter p rest

pub picks_more : (p : Op → Bool) (all rest others : List Op) (o : Op) (old new : List Op) → rest ≡ o ∷ others → new ≡ old ++ cond (p o) (o ∷ []) [] → Picks p all rest old → Picks p all others new
picks_more p all rest others o old new first is h = h ∙ ap (λ t. old ++ t) (ap (filter p) first ∙ one) ∙ sym (append_assoc old (cond (p o) (o ∷ []) []) (filter p others)) ∙ ap (λ (t : List Op). t ++ filter p others) (sym is)
  where
    one : filter p (o ∷ others) ≡ cond (p o) (o ∷ []) [] ++ filter p others
    one = elim (p o) as (λ b. cond b (o ∷ filter p others) (filter p others) ≡ cond b (o ∷ []) [] ++ filter p others) [ true ↦ refl | false ↦ refl ]

pub picks_all : (p : Op → Bool) (all rest made : List Op) → length rest ≡ 0 → Picks p all rest made → made ≡ filter p all
picks_all p all [] made e h = sym (append-nil made) ∙ sym h
picks_all p all (o ∷ rest) made e h = absurd (omega arith)

pub filter_all : {X : Type 0} (xs : List X) → filter (λ x. true) xs ≡ xs
filter_all [] = refl
filter_all (x ∷ xs) = ap (λ t. x ∷ t) (filter_all xs)

-- ---- the order of operations

pub log_total : IsTotalOrder log_cmp
log_total = then_total (on_total subject id_total) (then_total (on_total (λ (o : Op). rank o.body) nat_cmp_total) (on_total (λ (o : Op). o.id) id_total))

pub by_log : IsStrictWeakOrder (λ (a b : Op). is_lt (log_cmp a b))
by_log = ranks_by log_total (λ (o : Op). o)

-- ---- lines

-- `text` followed by any lines for `rest` is a header with lines for `all`
abbrev pub Completes : List Op → List Op → List ℕ → Type 0
Completes all rest text = (more : List ℕ) → AreLines IsLogLine rest more → AreLogLines all (text ++ more)

pub line_more : (all rest others : List Op) (o : Op) (old new : List ℕ) (fields : List (List ℕ)) → rest ≡ o ∷ others → IsLogLine o fields → new ≡ old ++ row_text default_writer fields → Completes all rest old → Completes all others new
line_more all rest others o old new fields e is h done more lines =
    subst (AreLogLines all) (sym (append_assoc old (row_text default_writer fields) more) ∙ ap (λ t. t ++ more) (sym h))
    (done (row_text default_writer fields ++ more) (subst (λ l. AreLines IsLogLine l (row_text default_writer fields ++ more)) (sym e) (fields, more, is, lines, refl)))

pub lines_done : (all rest : List Op) (text out : List ℕ) → length rest ≡ 0 → out ≡ text → Completes all rest text → AreLogLines all out
lines_done all [] text out e h done = subst (AreLogLines all) (append-nil text ∙ sym h) (done [] refl)
lines_done all (o ∷ rest) text out e h done = absurd (omega arith)
