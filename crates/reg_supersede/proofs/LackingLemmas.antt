-- The pairs of a line that are not there yet, one pair at a time, and why the office refuses one of them.
use Rattle.std.proofs.Common.{◌≡◌, nat_lt, ℕ, ◌+◌, Bool, true, false, ◌&&◌, ◌||◌, cond, List, [], ◌∷◌, ◌++◌, append_assoc, append-nil, length, length-drop, drop, ◌≤◌, Option, Some, None, Err, refl, sym, ap, ◌∙◌, subst, inl, inr, arith}
use Rattle.std.specs.Prelude.{if◌then◌else◌}
use Rattle.std.proofs.lemmas.Bool.Decides.{nat_tests}
use Rattle.std.proofs.lemmas.List.{map-append}
use Rattle.std.proofs.lemmas.List.Folds.{list_any-append}
use Rattle.std.specs.List.{list_any}
use Rattle.std.specs.BTreeSet.{BTreeSet, contains}
use Rattle.std.specs.Cmp.{eq_by_cmp_equiv}
use Rattle.std.specs.Ordering.{is_eq}
use Rattle.std.proofs.lemmas.Bool.{or_parts}
use Rattle.reg_op.specs.Ids.{id_cmp}
use Rattle.reg_op.specs.Operations.{Op, Ops}
use Rattle.reg_op.specs.declared.operation.OpBody.{OpBody as Body}
use Rattle.reg_op.specs.declared.operation.OpBody.TheVariants.{Supersede}
use Rattle.reg_op.specs.Contents.{Content, IsContent}
use Rattle.reg_op.proofs.OpLemmas.{id_total}
use Rattle.reg_state.specs.Runs.{id_at}
use Rattle.reg_office.specs.declared.fault.OfficeFault.{OfficeFault}
use Rattle.reg_office.specs.declared.fault.OfficeFault.TheVariants as fault
use Rattle.reg_office.specs.Making.{greatest, numbered, new_ops, objection, objections, else_next, with_op, note_fault, is_spent, made_unless, made}
use Rattle.reg_office.proofs.NumberLemmas.{length_map}
use Rattle.reg_supersede.specs.declared.pair.Pair.{Pair}
use Rattle.reg_supersede.specs.declared.fault.LineFault.{LineFault}
use Rattle.reg_supersede.specs.declared.fault.LineFault.TheVariants as line
use Rattle.reg_supersede.specs.Lists.{Task, is_there, is_pair, lacking, bodies_of}
use Rattle.reg_supersede.specs.Effects.{after, next, has_pair, pair_cmp, pair_fault, is_known, HasPairs, AddsPair, IsPairFault, IsAddFault, CanMake, CanAdd}
use Rattle.reg_supersede.proofs.AfterLemmas.{ops_of, more_of, objections_more}
use Rattle.reg_supersede.proofs.PairLemmas.{fresh_fault, supersessions_both}
use Rattle.reg_supersede.proofs.LineLemmas.{all_supersede, over_is, refused_at, spent_at, then_eq}

-- the list of pairs has the pair where their effects do
pub has_is : (p : Pair) (ps : List Pair) → list_any (is_pair p) ps ≡ has_pair (bodies_of ps) p.old p.newer
has_is p [] = refl
has_is p (q ∷ ps) = ap (λ b. is_pair p q || b) (has_is p ps)

pub pairs_ended : (ps : List Pair) (i : ℕ) → length ps ≤ i → length (drop i ps) ≡ 0
pairs_ended ps i h = let long = length-drop i ps in omega (arith, long, h)

-- ---- the set of the pairs

pub no_pairs : (s : BTreeSet Pair) (ps : List Pair) → s.keys ≡ [] → ps ≡ [] → HasPairs s ps
no_pairs s ps none e p = (λ j. contains pair_cmp (record { keys = none j }) p) ∙ (λ j. list_any (is_pair p) (sym e j))

pub pair_more : (old new : BTreeSet Pair) (p : Pair) (ps : List Pair) → ((q : Pair) → contains pair_cmp new q ≡ cond (is_eq (pair_cmp p q)) true (contains pair_cmp old q)) → HasPairs old ps → HasPairs new (ps ++ p ∷ [])
pair_more old new p ps put has q =
    put q
    ∙ (λ k. cond (then_eq (id_cmp p.old q.old) (id_cmp p.newer q.newer) k) true (has q k))
    ∙ (λ k. cond ((eq_by_cmp_equiv id_total).symm p.old q.old k && (eq_by_cmp_equiv id_total).symm p.newer q.newer k) true (list_any (is_pair q) ps))
    ∙ turned (is_pair q p) (list_any (is_pair q) ps)
    ∙ sym (list_any-append (is_pair q) ps (p ∷ []))
  where
    turned : (a b : Bool) → cond a true b ≡ (b || (a || false))
    turned true true = refl
    turned true false = refl
    turned false true = refl
    turned false false = refl

-- ---- the pairs so far, `rest` being the others

module _ (now : Ops) where
  abbrev pub Leads : List Pair → List Pair → List Pair → Type 0
  Leads all rest ps = lacking now [] all ≡ ps ++ lacking now ps rest

  pub leads_first : (all ps : List Pair) → ps ≡ [] → Leads all all ps
  leads_first all ps e = λ k. sym e k ++ lacking now (sym e k) all

  pub known_is : (p : Pair) (ps others : List Pair) → is_known now p ps ≡ true → lacking now ps (p ∷ others) ≡ lacking now ps others
  known_is p ps others h = λ k. if h k then lacking now ps others else p ∷ lacking now (ps ++ p ∷ []) others

  pub new_is : (p : Pair) (ps others : List Pair) → is_known now p ps ≡ false → lacking now ps (p ∷ others) ≡ p ∷ lacking now (ps ++ p ∷ []) others
  new_is p ps others h = λ k. if h k then lacking now ps others else p ∷ lacking now (ps ++ p ∷ []) others

  pub leads_more : (before : Ops) (all rest others old new : List Pair) (p : Pair) → rest ≡ p ∷ others → AddsPair before now p old new → Leads all rest old → Leads all others new
  leads_more before all rest others old new p first (inl (known, same)) l =
      l ∙ ap (λ r. old ++ lacking now old r) first ∙ ap (λ z. old ++ z) (known_is p old others known) ∙ (λ k. sym same k ++ lacking now (sym same k) others)
  leads_more before all rest others old new p first (inr (fresh, none, is)) l =
      l ∙ ap (λ r. old ++ lacking now old r) first ∙ ap (λ z. old ++ z) (new_is p old others fresh)
      ∙ sym (append_assoc old (p ∷ []) (lacking now (old ++ p ∷ []) others)) ∙ (λ k. sym is k ++ lacking now (sym is k) others)

  pub leads_end : (all rest ps : List Pair) → length rest ≡ 0 → Leads all rest ps → ps ≡ lacking now [] all
  leads_end all [] ps e l = sym (append-nil ps) ∙ sym l
  leads_end all (p ∷ rest) ps e l = absurd (omega arith)

-- ---- nothing is against the pairs so far

first_found : (y : Content) (r : List ℕ) (n : ℕ) (note : List ℕ) (b : Body) (ds : List Body) (g : OfficeFault) → objection y.ops b ≡ Some g → objections y (numbered r n note (b ∷ ds)) ≡ Some g
first_found y r n note b ds g e = ap (λ v. else_next v (objections (with_op y (record { id = id_at r n; body = b; note = note })) (numbered r (n + 1) note ds))) e

module _ (t : Task) (x : Content) (bs : List Body) (is : IsContent x) (make : CanMake t x bs) where
  abbrev now : Ops
  now = (after t x bs).ops

  abbrev more : List Body → Option OfficeFault
  more cs = objections (after t x bs) (numbered t.replica (next t x bs) t.note cs)

  both : (cs : List Body) → objections x (ops_of x t.replica t.note (bs ++ cs)) ≡ more cs
  both cs = objections_more x t.replica t.note is bs cs ∙ (λ k. else_next (make.none_refused k) (more cs))

  -- the objections to some more effects, where there is none to the first ones
  at_last : (cs : List Body) (b : Body) (ds : List Body) → more cs ≡ None → more (cs ++ b ∷ ds) ≡ objections (after t x (bs ++ cs)) (more_of x t.replica t.note (bs ++ cs) (b ∷ ds))
  at_last cs b ds none =
      sym (both (cs ++ b ∷ ds)) ∙ ap (λ l. objections x (ops_of x t.replica t.note l)) (sym (append_assoc bs cs (b ∷ ds))) ∙ objections_more x t.replica t.note is (bs ++ cs) (b ∷ ds)
      ∙ (λ k. else_next ((both cs ∙ none) k) (objections (after t x (bs ++ cs)) (more_of x t.replica t.note (bs ++ cs) (b ∷ ds))))

  -- the objection to a pair that is not known yet
  objection_is : (p : Pair) (ps : List Pair) → is_known now p ps ≡ false → objection (after t x (bs ++ bodies_of ps)).ops (Supersede p.old p.newer) ≡ pair_fault x.ops p
  objection_is p ps fresh =
      let parts = or_parts (is_there now p) (list_any (is_pair p) ps) fresh in
      fresh_fault x t.replica t.note bs (bodies_of ps) make.supersede (supersessions_both bs (bodies_of ps) make.supersede (all_supersede ps)) p parts.0 (sym (has_is p ps) ∙ parts.1)

  pub unrefused_first : (ps : List Pair) → ps ≡ [] → more (bodies_of ps) ≡ None
  unrefused_first ps e = ap (λ l. more (bodies_of l)) e

  pub unrefused_more : (old new : List Pair) (p : Pair) → AddsPair x.ops now p old new → more (bodies_of old) ≡ None → more (bodies_of new) ≡ None
  unrefused_more old new p (inl (known, same)) none = ap (λ l. more (bodies_of l)) same ∙ none
  unrefused_more old new p (inr (fresh, free, e)) none =
      ap (λ l. more (bodies_of l)) e ∙ ap more (map-append (λ (q : Pair). Supersede q.old q.newer) old (p ∷ [])) ∙ at_last (bodies_of old) (Supersede p.old p.newer) [] none
      ∙ (λ k. else_next ((objection_is p old fresh ∙ free) k) None)

  pub fault_here : (all rest others ps : List Pair) (p : Pair) (f : LineFault) → note_fault t.note ≡ None → rest ≡ p ∷ others → IsPairFault x.ops now p ps f → Leads now all rest ps → more (bodies_of ps) ≡ None
      → IsAddFault t (after t x bs) (lacking now [] all) f
  fault_here all rest others ps p f short first why l none refusal =
      let w = why refusal in
      let later : List Pair = lacking now (ps ++ p ∷ []) others in
      let whole : lacking now [] all ≡ ps ++ p ∷ later = l ∙ ap (λ r. ps ++ lacking now ps r) first ∙ ap (λ z. ps ++ z) (new_is now p ps others w.1) in
      let found : more (bodies_of (lacking now [] all)) ≡ Some w.0 =
      ap (λ ls. more (bodies_of ls)) whole ∙ ap more (map-append (λ (q : Pair). Supersede q.old q.newer) ps (p ∷ later)) ∙ at_last (bodies_of ps) (Supersede p.old p.newer) (bodies_of later) none
      ∙ first_found (after t x (bs ++ bodies_of ps)) t.replica (greatest t.replica x.seen + 1 + length (bs ++ bodies_of ps)) t.note (Supersede p.old p.newer) (bodies_of later) w.0 (objection_is p ps w.1 ∙ w.2) in
      (w.0, refused_at t x bs (bodies_of (lacking now [] all)) w.0 short found, w.3)

-- ---- the note, and the numbers

under_is : (a : ℕ) → nat_lt 4294967295 a ≡ false → a ≤ 4294967295
under_is a h = grind (arith, nat_tests)

module _ (t : Task) (x : Content) (bs : List Body) (ps : List Pair) where
  abbrev cs : List Body
  cs = bodies_of ps

  pub note_here : (f : OfficeFault) → note_fault t.note ≡ Some f → IsAddFault t (after t x bs) ps (line.Office f)
  note_here f long refusal =
      let os : List Op = new_ops (after t x bs) t.replica t.note cs in
      (f, ap (λ o. made_unless (else_next o (objections (after t x bs) os)) (is_spent (greatest t.replica (after t x bs).seen) (length cs)) os) long, refl)

  pub spent_here : (added : List Pair) → added ≡ ps → CanMake t x bs → note_fault t.note ≡ None → objections (after t x bs) (numbered t.replica (next t x bs) t.note (bodies_of added)) ≡ None
      → nat_lt 4294967295 (greatest t.replica x.seen + length bs + length added) ≡ true → IsAddFault t (after t x bs) ps (line.Office fault.CountSpent)
  spent_here added same make short none over refusal =
      let long : length (bodies_of added) ≡ length added = length_map (λ (p : Pair). Supersede p.old p.newer) added in
      let fit = make.fit in
      let above = over_is _ over in
      (fault.CountSpent, subst (λ l. made (after t x bs) t.replica t.note (bodies_of l) ≡ Err fault.CountSpent) same (spent_at t x bs (bodies_of added) short none (omega arith) (omega arith)), refl)

  pub can_here : (added : List Pair) → CanMake t x bs → note_fault t.note ≡ None → objections (after t x bs) (numbered t.replica (next t x bs) t.note (bodies_of added)) ≡ None
      → nat_lt 4294967295 (greatest t.replica x.seen + length bs + length added) ≡ false → CanAdd t x bs (bodies_of added)
  can_here added make short none low =
      let long : length (bodies_of added) ≡ length added = length_map (λ (p : Pair). Supersede p.old p.newer) added in
      let under = under_is _ low in
      record { short = short; none_refused = none; fit = omega arith }
