-- A list whose pairs are all there makes nothing.
use Rattle.std.proofs.Common.{◌≡◌, ℕ, ◌+◌, ◌≤◌, Bool, List, [], ◌∷◌, ◌++◌, length, None, Result, Ok, Err, refl, sym, ap, ◌∙◌, subst, inl, inr, arith}
use Rattle.reg_op.specs.Ids.{Id}
use Rattle.reg_op.specs.Operations.{Op}
use Rattle.reg_op.specs.declared.operation.OpBody.{OpBody as Body}
use Rattle.reg_op.specs.Contents.{Content, nothing, joined, IsContent}
use Rattle.reg_op.specs.Rows.{Row}
use Rattle.reg_op.proofs.ContentLemmas.{state-empty, joined_comm, joined_nothing}
use Rattle.reg_office.specs.declared.fault.OfficeFault.{OfficeFault}
use Rattle.reg_office.specs.Making.{greatest, else_next, note_fault, is_spent, made_unless, made}
use Rattle.reg_office.specs.Commands.{Does}
use Rattle.reg_office.proofs.LawLemmas.{short_is}
use Rattle.reg_engine.specs.Outputs.{id_lines}
use Rattle.reg_engine.specs.declared.fault.CliFault.{CliFault}
use Rattle.reg_engine.specs.declared.fault.CliFault.TheVariants as cli
use Rattle.reg_keys.specs.declared.fault.KeyFault.{KeyFault}
use Rattle.reg_keys.specs.declared.fault.KeyFault.TheVariants as key
use Rattle.reg_keys.specs.Every.{StandsForEvery, StandForEach}
use Rattle.reg_keys.proofs.LawLemmas as law
use Rattle.reg_keys.proofs.EveryLemmas as every
use Rattle.reg_supersede.specs.declared.fault.LineWord.{LineWord}
use Rattle.reg_supersede.specs.declared.fault.LineWord.TheVariants.{Old, By}
use Rattle.reg_supersede.specs.declared.fault.LineFault.{LineFault}
use Rattle.reg_supersede.specs.declared.fault.RefusedLine.{RefusedLine}
use Rattle.reg_supersede.specs.Lines.{lines, words}
use Rattle.reg_supersede.specs.Lists.{Task, rows_if, pairs_of, bodies_of, effects_of, DoesFor, FailsLine, word_fault, RefusesFor, IsRefusal, DoesAll, StopsAt}
use Rattle.reg_supersede.specs.Engine.{task, DoesList, CannotDoList}
use Rattle.reg_supersede.proofs.AfterLemmas.{merged_none}
use Rattle.reg_supersede.proofs.LineLemmas.{made_is}
use Rattle.reg_supersede.proofs.MadeLemmas.{AllThere, none_lacks, AreMade, AllMade, list_later, list_made, all_too, same_if}

pub no_fault : (rs : List Row) (w : List ℕ) (ws : List (List ℕ)) (olds newer : List Id) (at : LineWord) (k : KeyFault) → StandsForEvery rs w olds → StandForEach rs ws newer → FailsLine rs w ws at k → k ≡ key.Memory
no_fault rs w ws olds newer Old k s u o = let least = every.stands_least rs w olds s in law.no_objection rs w least.0 k least.1 o
no_fault rs w ws olds newer (By i) k s u (ds, h, o) = every.no_fault_each rs ws 0 newer i k u o

pub made_or_not : (f : OfficeFault) (os : List Op) → ◌≡◌ {A = Result (List Op) OfficeFault} (Ok os) (Err f) → ⊥
made_or_not f os e = cc

module _ (t : Task) (y : Content) (is : IsContent y) where
  unmade : (olds newer : List Id) → AllThere y.ops (pairs_of olds newer) → effects_of y.ops olds newer ≡ []
  unmade olds newer all = ap bodies_of (none_lacks y.ops [] (pairs_of olds newer) all)

  unmade_too : (w : List ℕ) (ws : List (List ℕ)) (olds newer ds gs : List Id) → StandsForEvery t.rows w olds → StandForEach t.rows ws newer → AllThere y.ops (pairs_of olds newer)
      → StandsForEvery t.rows w ds → StandForEach t.rows ws gs → effects_of y.ops ds gs ≡ []
  unmade_too w ws olds newer ds gs s u all h k =
      unmade ds gs (subst (λ (l : List Id). AllThere y.ops (pairs_of l gs)) (every.one_every t.rows w olds ds s h) (subst (λ (l : List Id). AllThere y.ops (pairs_of olds l)) (every.one_meaning_each t.rows ws newer gs u k) all))

  makes_none : note_fault t.note ≡ None → made y t.replica t.note [] ≡ Ok []
  makes_none short = λ j. made_unless (else_next (short j) None) (is_spent (greatest t.replica y.seen) 0) []

  does_none : note_fault t.note ≡ None → Does y t.replica t.note [] y []
  does_none short = record { ops = []; are_made = makes_none short; are_joined = ap (joined y) state-empty ∙ joined_comm y nothing ∙ joined_nothing y is; their_ids = refl }

  pub again_line : note_fault t.note ≡ None → (ws : List (List ℕ)) → AreMade t.rows y.ops ws → DoesFor t y ws y []
  again_line short [] h = (refl, refl)
  again_line short (w ∷ []) h = absurd h
  again_line short (w ∷ v ∷ ws) (olds, newer, s, u, all) = (olds, newer, s, u, subst (λ (bs : List Body). Does y t.replica t.note bs y []) (sym (unmade olds newer all)) (does_none short))

  pub nothing_line : (ws : List (List ℕ)) (z : Content) (now : List Id) → AreMade t.rows y.ops ws → DoesFor t y ws z now → (z ≡ y) × (now ≡ [])
  nothing_line [] z now h d = d
  nothing_line (w ∷ []) z now h d = absurd h
  nothing_line (w ∷ v ∷ ws) z now (olds, newer, s, u, all) (ds, gs, h, k, does) =
      let none = unmade_too w (v ∷ ws) olds newer ds gs s u all h k in
      let made = made_is t y z [] now (subst (λ (bs : List Body). Does y t.replica t.note bs z now) none does) in
      (made.0 ∙ merged_none y is.is_kept, made.1)

  never_refused : note_fault t.note ≡ None → (ws : List (List ℕ)) (f : LineFault) → AreMade t.rows y.ops ws → RefusesFor t y ws f → IsRefusal f → ⊥
  never_refused short [] f h r refusal = r
  never_refused short (w ∷ []) f h r refusal = h
  never_refused short (w ∷ v ∷ ws) f (olds, newer, s, u, all) (inl (at, k, o, e)) refusal =
      subst IsRefusal (sym e ∙ ap (word_fault t.keys at) (no_fault t.rows w (v ∷ ws) olds newer at k s u o)) refusal
  never_refused short (w ∷ v ∷ ws) f (olds, newer, s, u, all) (inr (ds, gs, h, k, (g, e, so))) refusal =
      made_or_not g [] (sym (makes_none short) ∙ (λ j. made y t.replica t.note (sym (unmade_too w (v ∷ ws) olds newer ds gs s u all h k) j)) ∙ e)

  pub again_all : note_fault t.note ≡ None → (n : ℕ) (texts : List (List ℕ)) → AllMade t.rows y.ops texts → DoesAll t n y texts y [] []
  again_all short n [] h = (refl, refl, refl)
  again_all short n (text ∷ texts) (h, hs) = inl (y, [], [], again_line short (words text) h, again_all short (n + 1) texts hs, refl)

  pub nothing_all : note_fault t.note ≡ None → (n : ℕ) (texts : List (List ℕ)) (z : Content) (ids : List Id) (left : List RefusedLine) → AllMade t.rows y.ops texts → DoesAll t n y texts z ids left
      → (z ≡ y) × (ids ≡ []) × (left ≡ [])
  nothing_all short n [] z ids left h d = d
  nothing_all short n (text ∷ texts) z ids left (h, hs) (inl (c, now, later, does, ran, e)) =
      let first = nothing_line (words text) c now h does in
      let rest = nothing_all short (n + 1) texts z later left hs (subst (λ (d : Content). DoesAll t (n + 1) d texts z later left) first.0 ran) in
      (rest.0, e ∙ (λ j. first.1 j ++ rest.1 j), rest.2)
  nothing_all short n (text ∷ texts) z ids left (h, hs) (inr (f, more, keep, (refusal, refuses), ran, told)) = absurd (never_refused short (words text) f h refuses refusal)

  pub none_stops : note_fault t.note ≡ None → (n : ℕ) (texts : List (List ℕ)) (f : RefusedLine) → AllMade t.rows y.ops texts → StopsAt t n y texts f → ⊥
  none_stops short n [] f h s = s
  none_stops short n (text ∷ texts) f (h, hs) (inl ((refusal, refuses), at)) = never_refused short (words text) f.fault h refuses refusal
  none_stops short n (text ∷ texts) f (h, hs) (inr (z, now, does, stops)) =
      none_stops short (n + 1) texts f hs (subst (λ (c : Content). StopsAt t (n + 1) c texts f) (nothing_line (words text) z now h does).0 stops)

-- ---- the command, run by one office and then by another one

module _ (r n s m bytes text : List ℕ) (keys g h : Bool) (x y : Content) (is : IsContent y) (did : DoesList (task r n keys g x) bytes x y text []) where
  all_made : AllMade (rows_if keys y) y.ops (lines bytes)
  all_made =
      let ran = did.1.1 in
      all_too (rows_if keys x) (rows_if keys y) (same_if keys x y (list_later (task r n keys g x) 1 x y (lines bytes) did.1.0 [] ran)) y.ops (lines bytes)
      (list_made (task r n keys g x) 1 x y (lines bytes) did.1.0 [] refl ran)

  pub makes_again : length m ≤ 200 → DoesList (task s m keys h y) bytes y y [] []
  makes_again short = (short, ([], again_all (task s m keys h y) y is (short_is 200 (length m) short) 1 (lines bytes) all_made, refl))

  pub makes_nothing : (z : Content) (more : List ℕ) (left : List RefusedLine) → DoesList (task s m keys h y) bytes y z more left → (z ≡ y) × (more ≡ []) × (left ≡ [])
  makes_nothing z more left (short, (ids, ran, e)) =
      let none = nothing_all (task s m keys h y) y is (short_is 200 (length m) short) 1 (lines bytes) z ids left all_made ran in
      (none.0, e ∙ ap id_lines none.1, none.2)

  pub refused_for : length m ≤ 200 → (before told : List RefusedLine) (f : CliFault) → CannotDoList (task s m keys h y) bytes y before told f → f ≡ cli.Memory
  refused_for short before told (cli.Refused c) (inl (long, same, e)) = absurd (omega (arith, short, long))
  refused_for short before told (cli.Refused c) (inr (fits, (f, (keep, stops), added, e))) = absurd (none_stops (task s m keys h y) y is (short_is 200 (length m) short) 1 (lines bytes) f all_made stops)
  refused_for short before told (cli.File k f) c = absurd c
  refused_for short before told (cli.Out f) c = absurd c
  refused_for short before told cli.Memory c = refl
  refused_for short before told (cli.Shelf p) c = absurd c
  refused_for short before told (cli.Office k) c = absurd c
