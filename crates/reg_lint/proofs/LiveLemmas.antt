-- The entries that are not retired, one row at a time.
use Rattle.std.proofs.Common.{◌≡◌, Option, Some, None, List, [], ◌∷◌, ◌++◌, map, refl, sym, ap, ◌∙◌, subst}
use Rattle.std.proofs.lemmas.List.{map-append, append-nil}
use Rattle.std.specs.List.{cons_option}
use Rattle.reg_op.specs.Rows.{Row as RowOf}
use Rattle.reg_report.specs.declared.row.Row.{Row}
use Rattle.reg_report.specs.Seen.{row_seen}
use Rattle.reg_lint.specs.declared.kept.KeptSubject.{KeptSubject}
use Rattle.reg_lint.specs.Subjects.{Subject, IsLiveOf, IsLiveKept, AreLive, AreLiveKept, AreKept}
use Rattle.reg_lint.proofs.KeptLemmas.{kept_more}

put : (live : Option Subject) (rest more : List Subject) → cons_option live rest ++ more ≡ cons_option live (rest ++ more)
put None rest more = refl
put (Some x) rest more = refl

live_more : (done : List RowOf) (r : RowOf) (live : Option Subject) (old new : List Subject) → IsLiveOf r live → new ≡ old ++ cons_option live [] → AreLive done old → AreLive (done ++ r ∷ []) new
live_more [] r live old new is e none = (live, [], is, refl, e ∙ ap (λ t. t ++ cons_option live []) none)
live_more (d ∷ done) r live old new is e (o, rest, is_o, later, last) = (
  o,
  rest ++ cons_option live [],
  is_o,
  live_more done r live rest (rest ++ cons_option live []) is refl later,
  e ∙ ap (λ t. t ++ cons_option live []) last ∙ put o rest (cons_option live []),
)

-- and what is kept of them
lives_more : (done : List RowOf) (r : RowOf) (live : Option KeptSubject) (old new : List KeptSubject) → IsLiveKept r live → new ≡ old ++ cons_option live [] → AreLiveKept done old → AreLiveKept (done ++ r ∷ []) new
lives_more done r None old new is e (ss, lives, kept) = (
  ss,
  live_more done r None ss ss is (sym (append-nil ss)) lives,
  subst (λ l. AreKept l ss) (sym (e ∙ append-nil old)) kept,
)
lives_more done r (Some k) old new (s, live, is) e (ss, lives, kept) = (
  ss ++ s ∷ [],
  live_more done r (Some s) ss (ss ++ s ∷ []) live refl lives,
  subst (λ l. AreKept l (ss ++ s ∷ [])) (sym e) (kept_more old ss k s kept is),
)

-- the same for rows of the program
pub more_lives : (xs : List Row) (row : Row) (live : Option KeptSubject) (old new : List KeptSubject) → IsLiveKept (row_seen row) live → new ≡ old ++ cons_option live []
    → AreLiveKept (map row_seen xs) old → AreLiveKept (map row_seen (xs ++ row ∷ [])) new
more_lives xs row live old new is e are = subst (λ l. AreLiveKept l new) (sym (map-append row_seen xs (row ∷ []))) (lives_more (map row_seen xs) (row_seen row) live old new is e are)
