-- The loop along two ascending lists of rows that gathers their changes.
use Rattle.std.proofs.Common.{◌≡◌, ◌⊎◌, List, [], ◌∷◌, ◌++◌, append_assoc, append-nil, map, length, refl, sym, ap, ◌∙◌, subst, inl, inr, arith}
use Rattle.std.specs.List.{Contains}
use Rattle.std.specs.Ordering.{nat_cmp, ordering_then, ordering_reverse}
use Rattle.std.specs.declared.cmp.Ordering.TheVariants.{Less, Equal, Greater}
use Rattle.reg_op.specs.Set.{Ascends}
use Rattle.reg_op.specs.Rows.{Row}
use Rattle.reg_report.specs.declared.row.Row.{Row as Declared}
use Rattle.reg_report.specs.Seen.{row_seen}
use Rattle.reg_report.specs.Rows.{row_cmp}
use Rattle.reg_report.proofs.ConflictLemmas.{none_in, in_cons}
use Rattle.reg_report.proofs.OrderLemmas.{Before, never_less, first_before, rest_ascends}
use Rattle.reg_report.proofs.RowLemmas.{row_total}
use Rattle.reg_query.specs.declared.diff.change.Sign.{Sign}
use Rattle.reg_query.specs.declared.diff.change.Sign.TheVariants.{Gone, Come}
use Rattle.reg_query.specs.Changes.{Change, signed, IsChange, change_cmp, AreChanges}
use Rattle.reg_query.specs.DiffWalk.{AddsUnlike}
use Rattle.reg_query.proofs.StepLemmas.{gone, come, before_later, put_gone, put_come, put_both}

-- `made` followed by the changes from `olds` to `news`, the rows not yet read, is the list of changes from `old` to `new`
pub record Walks (old new olds news : List Row) (made : List Change) : Type 0 where
  pub first : Ascends row_cmp olds
  pub second : Ascends row_cmp news
  pub rest : (more : List Change) → AreChanges olds news more → AreChanges old new (made ++ more)

pub walk_start : (old new : List Row) (made : List Change) → made ≡ [] → Ascends row_cmp old → Ascends row_cmp new → Walks old new old new made
walk_start old new made e a b = record { first = a; second = b; rest = λ more h. subst (λ cs. AreChanges old new (cs ++ more)) (sym e) h }

all_before : (r q : Row) (rs : List Row) → row_cmp r q ≡ Less → Ascends row_cmp (q ∷ rs) → Before row_cmp r (q ∷ rs)
all_before r q rs h up p c = elim (in_cons p q rs c) [
  | inl e ↦ subst (λ k. row_cmp r k ≡ Less) (sym e) h
  | inr d ↦ row_total.trans r q p h (first_before row_total q rs up p d)
]

not_among : (r : Row) (rs : List Row) → Before row_cmp r rs → ¬ (Contains rs r)
not_among r rs before h = never_less row_total r (before r h)

pub walk_gone : (old new olds news older newer : List Row) (made made' : List Change) (g c : Row) → olds ≡ g ∷ older → news ≡ c ∷ newer → row_cmp g c ≡ Less
    → made' ≡ made ++ gone g ∷ [] → Walks old new olds news made → Walks old new older news made'
walk_gone old new olds news older newer made made' g c e f less is walk =
    let up : Ascends row_cmp (g ∷ older) = subst (Ascends row_cmp) e walk.first in
    let beyond : Before row_cmp g news = subst (Before row_cmp g) (sym f) (all_before g c newer less (subst (Ascends row_cmp) f walk.second)) in record {
      first = rest_ascends row_total g older up;
      second = walk.second;
      rest = λ more h. subst (AreChanges old new) (sym (append_assoc made (gone g ∷ []) more) ∙ ap (λ cs. cs ++ more) (sym is))
          (walk.rest (gone g ∷ more) (subst (λ rs. AreChanges rs news (gone g ∷ more)) (sym e)
          (put_gone g older news more (not_among g news beyond) (before_later (gone g) older news more (first_before row_total g older up) beyond h) h)));
    }

pub walk_come : (old new olds news older newer : List Row) (made made' : List Change) (g c : Row) → olds ≡ g ∷ older → news ≡ c ∷ newer → row_cmp g c ≡ Greater
    → made' ≡ made ++ come c ∷ [] → Walks old new olds news made → Walks old new olds newer made'
walk_come old new olds news older newer made made' g c e f greater is walk =
    let up : Ascends row_cmp (c ∷ newer) = subst (Ascends row_cmp) f walk.second in
    let less : row_cmp c g ≡ Less = row_total.antisymm c g ∙ ap ordering_reverse greater in
    let beyond : Before row_cmp c olds = subst (Before row_cmp c) (sym e) (all_before c g older less (subst (Ascends row_cmp) e walk.first)) in record {
      first = walk.first;
      second = rest_ascends row_total c newer up;
      rest = λ more h. subst (AreChanges old new) (sym (append_assoc made (come c ∷ []) more) ∙ ap (λ cs. cs ++ more) (sym is))
          (walk.rest (come c ∷ more) (subst (λ rs. AreChanges olds rs (come c ∷ more)) (sym f)
          (put_come c olds newer more (not_among c olds beyond) (before_later (come c) olds newer more beyond (first_before row_total c newer up) h) h)));
    }

pub walk_both : (old new olds news older newer : List Row) (made made' : List Change) (g c : Row) → olds ≡ g ∷ older → news ≡ c ∷ newer → row_cmp g c ≡ Equal
    → AddsUnlike g c made made' → Walks old new olds news made → Walks old new older newer made'
walk_both old new olds news older newer made made' g c e f equal adds walk = record {
  first = rest_ascends row_total g older up;
  second = rest_ascends row_total c newer up';
  rest = λ more h. step more h adds;
}
  where
    up : Ascends row_cmp (g ∷ older)
    up = subst (Ascends row_cmp) e walk.first

    up' : Ascends row_cmp (c ∷ newer)
    up' = subst (Ascends row_cmp) f walk.second

    older_after : Before row_cmp g older
    older_after = first_before row_total g older up

    newer_after : Before row_cmp c newer
    newer_after = first_before row_total c newer up'

    -- g and c have one entry
    newer_after_g : Before row_cmp g newer
    newer_after_g q h = row_total.congr g c q equal ∙ newer_after q h

    older_after_c : Before row_cmp c older
    older_after_c q h = sym (row_total.congr g c q equal) ∙ older_after q h

    back : (more : List Change) → AreChanges (g ∷ older) (c ∷ newer) more → AreChanges olds news more
    back more h = subst (λ rs. AreChanges rs news more) (sym e) (subst (λ rs. AreChanges (g ∷ older) rs more) (sym f) h)

    step : (more : List Change) → AreChanges older newer more → AddsUnlike g c made made' → AreChanges old new (made' ++ more)
    step more h (inl (same, is)) =
        subst (λ cs. AreChanges old new (cs ++ more)) (sym is) (walk.rest more (back more
        (subst (λ r. AreChanges (g ∷ older) (r ∷ newer) more) same (put_both g older newer more older_after newer_after_g h))))
    step more h (inr (other, is)) =
        subst (AreChanges old new) (sym (append_assoc made (gone g ∷ come c ∷ []) more) ∙ ap (λ cs. cs ++ more) (sym is))
        (walk.rest (gone g ∷ come c ∷ more) (back (gone g ∷ come c ∷ more)
        (put_gone g older (c ∷ newer) (come c ∷ more) lacks (before more h)
        (put_come c older newer more (not_among c older older_after_c) (before_later (come c) older newer more older_after_c newer_after h) h))))
      where
        lacks : ¬ (Contains (c ∷ newer) g)
        lacks k = elim (in_cons g c newer k) [ inl same ↦ other same | inr d ↦ not_among g newer newer_after_g d ]

        before : (more : List Change) → AreChanges older newer more → Before change_cmp (gone g) (come c ∷ more)
        before more h d k = elim (in_cons d (come c) more k) [
          | inl same ↦ subst (λ x. change_cmp (gone g) x ≡ Less) (sym same) (ap (λ r. ordering_then r (nat_cmp 0 1)) equal)
          | inr later ↦ before_later (gone g) older newer more older_after newer_after_g h d later
        ]

-- if one list is empty, each row of the other is a change
only_gone : (olds : List Row) → Ascends row_cmp olds → AreChanges olds [] (map gone olds)
only_gone [] up = record { ascend = tt; each = λ c. (λ h. absurd (none_in c h), λ h. none c.sign c.row h) }
  where
    none : (s : Sign) (q : Row) → IsChange s [] [] q → Contains {X = Change} [] (record { sign = s; row = q })
    none Gone q h = absurd (none_in q h.0)
    none Come q h = absurd (none_in q h.0)
only_gone (r ∷ olds) up =
    let rest = only_gone olds (rest_ascends row_total r olds up) in
    put_gone r olds [] (map gone olds) (none_in r) (before_later (gone r) olds [] (map gone olds) (first_before row_total r olds up) (λ q h. absurd (none_in q h)) rest) rest

only_come : (news : List Row) → Ascends row_cmp news → AreChanges [] news (map come news)
only_come [] up = only_gone [] tt
only_come (r ∷ news) up =
    let rest = only_come news (rest_ascends row_total r news up) in
    put_come r [] news (map come news) (none_in r) (before_later (come r) [] news (map come news) (λ q h. absurd (none_in q h)) (first_before row_total r news up) rest) rest

walk_end : (old new olds news : List Row) (made : List Change) → (length olds ≡ 0) ⊎ (length news ≡ 0) → Walks old new olds news made → AreChanges old new (made ++ map gone olds ++ map come news)
walk_end old new [] news made h walk = subst (λ cs. AreChanges old new (cs ++ map come news)) (sym (append-nil made)) (walk.rest (map come news) (only_come news walk.second))
walk_end old new (g ∷ olds) [] made h walk = subst (AreChanges old new) (sym (append-nil (made ++ map gone (g ∷ olds)))) (walk.rest (map gone (g ∷ olds)) (only_gone (g ∷ olds) walk.first))
walk_end old new (g ∷ olds) (c ∷ news) made h walk = absurd (elim h [ inl e ↦ omega arith | inr e ↦ omega arith ])

seen_signed : (s : Sign) (rs : List Declared) → map (λ r. signed s (row_seen r)) rs ≡ map (λ q. signed s q) (map row_seen rs)
seen_signed s [] = refl
seen_signed s (r ∷ rs) = ap (λ (cs : List Change). signed s (row_seen r) ∷ cs) (seen_signed s rs)

seen_length : (rs : List Declared) → length rs ≡ 0 → length (map row_seen rs) ≡ 0
seen_length [] h = refl
seen_length (r ∷ rs) h = absurd (omega arith)

pub walk_done : (old new : List Row) (olds news : List Declared) (made more out : List Change) → (length olds ≡ 0) ⊎ (length news ≡ 0)
    → more ≡ made ++ map (λ r. signed Gone (row_seen r)) olds → out ≡ more ++ map (λ r. signed Come (row_seen r)) news
    → Walks old new (map row_seen olds) (map row_seen news) made → AreChanges old new out
walk_done old new olds news made more out over e f walk =
    subst (AreChanges old new)
    (sym (f ∙ (λ k. (e ∙ ap (λ cs. made ++ cs) (seen_signed Gone olds)) k ++ seen_signed Come news k)))
    (walk_end old new (map row_seen olds) (map row_seen news) made (elim over [ inl h ↦ inl (seen_length olds h) | inr h ↦ inr (seen_length news h) ]) walk)
