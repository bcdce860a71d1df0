-- The values that the builders of arguments make of the next tokens.
use Rattle.std.proofs.Common.{◌≡◌, ◌<◌, true, false, List, [], ◌∷◌, ◌++◌, length, drop, refl, sym, ap, ◌∙◌, subst, arith, append_assoc, append-nil}
use Rattle.wkt_tree.specs.declared.token.TokenKind.TheVariants.{Comma}
use Rattle.wkt_tree.specs.Tree.{Piece, Tok, tok, Item, tokens}
use Rattle.wkt_tree.specs.Tree as tree
use Rattle.wkt_grammar.specs.declared.table.Takes.{Takes}
use Rattle.wkt_grammar.specs.Rows.{takes}
use Rattle.wkt_grammar.specs.Slots.{argument}
use Rattle.wkt_grammar.specs.Next.{coming, Follows}
use Rattle.wkt_grammar.specs.Bare.{Bare, shape}
use Rattle.wkt_grammar.specs.SecondEdition.{Fitting, AllFitting}
use Rattle.wkt_grammar.proofs.Fitting.{shape-bare}
use Rattle.wkt_grammar.specs.Runs.{Each}
use Rattle.wkt_build.specs.Reads.{Next, Behind, comes}

-- ---- the next argument

coming_item : (i : Item) (rest : List Tok) → Follows rest → coming (tokens i ++ rest) ≡ argument i
coming_item (tree.text p) rest f = refl
coming_item (tree.number p) rest f = refl
coming_item (tree.word p) rest f = rw f refl
coming_item (tree.node k d o items c) rest f = refl

pub coming_next : (x : Bare) (toks rest : List Tok) → Next x toks rest → coming toks ≡ shape x
coming_next x toks rest n = ap coming n.tokens_are ∙ (coming_item n.item rest n.follows ∙ (sym (shape-bare n.item) ∙ ap shape n.is))

pub comes_next : (t : Takes) (c : Piece) (x : Bare) (behind rest : List Tok) → Next x behind rest → comes t (tok Comma c ∷ behind) ≡ takes t (shape x)
comes_next t c x behind rest n = ap (takes t) (coming_next x behind rest n)

-- ---- any number of arguments

-- the arguments of a run that were built, and those that follow
pub record Taken {A : Type 0} (t : Takes) (D : Bare → A → Type 0) (run : List Bare) (items : List A) (toks end : List Tok) : Type 0 where
  pub before : List Bare
  pub after : List Bare
  pub parts : run ≡ before ++ after
  pub made : Each D items before
  pub fit : AllFitting t after
  pub comes_after : Behind after toks end

abbrev pub TakesOn : {A : Type 0} → Takes → (Bare → A → Type 0) → List Tok → List Tok → List A → Type 0
TakesOn t D old toks items = (run : List Bare) (end : List Tok) → AllFitting t run → Behind run old end → Follows end → comes t end ≡ false → Taken t D run items toks end

each_more : {A : Type 0} (D : Bare → A → Type 0) (vs : List A) (xs : List Bare) (v : A) (x : Bare) → Each D vs xs → D x v → Each D (vs ++ v ∷ []) (xs ++ x ∷ [])
each_more D [] [] v x e d = (d, tt)
each_more D [] (y ∷ xs) v x e d = absurd e
each_more D (w ∷ vs) [] v x e d = absurd e
each_more D (w ∷ vs) (y ∷ xs) v x e d = (e.0, each_more D vs xs v x e.1 d)

pub taken_more : {A : Type 0} (t : Takes) (D : Bare → A → Type 0) (old toks new : List Tok) (items items' : List A) (v : A) → TakesOn t D old toks items → comes t toks ≡ true
    → ((x : Bare) (first : Tok) (behind rest : List Tok) → Fitting t x → toks ≡ first ∷ behind → Next x behind rest → D x v × (new ≡ rest)) → items' ≡ items ++ v ∷ [] → TakesOn t D old new items'
taken_more {A} t D old toks new items items' v h c b e run end f g o n = step (h run end f g o n)
  where
    step : Taken t D run items toks end → Taken t D run items' new end
    step w = by w.after w.parts w.fit w.comes_after
      where
        by : (after : List Bare) → run ≡ w.before ++ after → AllFitting t after → Behind after toks end → Taken t D run items' new end
        by [] p q r = absurd (let z = sym c ∙ (ap (comes t) r ∙ n) in cc)
        by (x ∷ after) p q r =
            let made = b x (tok Comma r.0) r.1 r.2 q.0 r.3 r.4 in
            record {
              before = w.before ++ x ∷ [];
              after = after;
              parts = p ∙ sym (append_assoc w.before (x ∷ []) after);
              made = subst (λ vs. Each D vs (w.before ++ x ∷ [])) (sym e) (each_more D items w.before v x w.made made.0);
              fit = q.1;
              comes_after = subst (λ l. Behind after l end) (sym made.1) r.5;
            }

pub taken_all : {A : Type 0} (t : Takes) (D : Bare → A → Type 0) (old toks : List Tok) (items : List A) → TakesOn t D old toks items → comes t toks ≡ false
    → (run : List Bare) (end : List Tok) → AllFitting t run → Behind run old end → Follows end → comes t end ≡ false → Each D items run × (toks ≡ end)
taken_all t D old toks items h c run end f g o n = by w.after w.parts w.fit w.comes_after
  where
    w : Taken t D run items toks end
    w = h run end f g o n

    by : (after : List Bare) → run ≡ w.before ++ after → AllFitting t after → Behind after toks end → Each D items run × (toks ≡ end)
    by [] p q r = (subst (Each D items) (sym (p ∙ append-nil w.before)) w.made, r)
    by (x ∷ after) p q r = absurd (let z = sym c ∙ (ap (comes t) r.3 ∙ (comes_next t r.0 x r.1 r.2 r.4 ∙ q.0.taken)) in cc)

-- without its first token, a list of tokens is shorter
pub shorter_by_one : (t : Takes) (toks : List Tok) → comes t toks ≡ true → length (drop 1 toks) < length toks
shorter_by_one t [] e = absurd cc
shorter_by_one t (x ∷ toks) e = omega arith

-- if v is built from the tokens without the first one, it is built from an argument after that token
pub made_behind : {A : Type 0} (t : Takes) (D : Bare → A → Type 0) (old one new : List Tok) (v : A) → one ≡ drop 1 old → ((x : Bare) (rest : List Tok) → Fitting t x → Next x one rest → D x v × (new ≡ rest))
    → (x : Bare) (first : Tok) (behind rest : List Tok) → Fitting t x → old ≡ first ∷ behind → Next x behind rest → D x v × (new ≡ rest)
made_behind t D old one new v o b x first behind rest f e n = b x rest f (subst (λ l. Next x l rest) (sym (o ∙ ap (drop 1) e)) n)
