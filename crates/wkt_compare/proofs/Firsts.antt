-- The length by the count is that of the first text.
use Rattle.std.proofs.Common.{◌≡◌, ℕ, zero, suc, ◌+◌, ◌<◌, ◌≤◌, ◌⊎◌, Bool, false, List, [], ◌∷◌, length, take, refl, arith, inl, inr, ap, ◌∙◌, sym, subst}
use Rattle.std.specs.Prelude.{count_by}
use Rattle.wkt_compare.specs.Texts.{is_opening, is_closing, outside, IsFirstText}
use Rattle.wkt_compare.specs.Counting.{text_len}
use Rattle.wkt_compare.proofs.CutSteps.{Goes, Stands, does}

-- the bytes are closed, given the numbers of delimiters that were opened and closed before them
record Closed (opened closed : ℕ) (quoted : Bool) (bytes : List ℕ) : Type 0 where
  closes : 0 < closed + count_by is_closing (outside quoted bytes)
  enough : opened + count_by is_opening (outside quoted bytes) ≤ closed + count_by is_closing (outside quoted bytes)

-- the count is the number of open delimiters, and the text is not closed yet
record Going (count opened closed : ℕ) : Type 0 where
  balance : opened ≡ closed + count
  alive : (closed ≡ 0) ⊎ (0 < count)

on : (count o c count' : ℕ) (q q' : Bool) (b up down : ℕ) → Going count o c → Goes count q b count' q' up down → Going count' (o + up) (c + down)
on count o c count' q q' b up down g s = record {
  balance = omega (arith, g.balance, s.balance);
  alive = elim g.alive [
    | inl z ↦ elim s.alive [ inl a ↦ inl (omega (arith, z, a.0)) | inr p ↦ inr p ]
    | inr p ↦ elim s.alive [ inl a ↦ inr (omega (arith, p, a.1)) | inr p' ↦ inr p' ]
  ];
}

nothing : (count o c : ℕ) (q : Bool) → Going count o c → ¬ (Closed o c q [])
nothing count o c q g h = elim g.alive [ inl z ↦ omega (arith, h.closes, z) | inr p ↦ omega (arith, h.enough, g.balance, p) ]

move : (o c : ℕ) (q q' : Bool) (count count' b up down : ℕ) (bs : List ℕ) → Goes count q b count' q' up down → Closed o c q (b ∷ bs) → Closed (o + up) (c + down) q' bs
move o c q q' count count' b up down bs s h = record {
  closes = omega (arith, h.closes, s.closed bs);
  enough = omega (arith, h.enough, s.opened bs, s.closed bs);
}

back : (o c : ℕ) (q q' : Bool) (count count' b up down : ℕ) (bs : List ℕ) → Goes count q b count' q' up down → Closed (o + up) (c + down) q' bs → Closed o c q (b ∷ bs)
back o c q q' count count' b up down bs s h = record {
  closes = omega (arith, h.closes, s.closed bs);
  enough = omega (arith, h.enough, s.opened bs, s.closed bs);
}

within : (bs : List ℕ) (count : ℕ) (q : Bool) → text_len count q bs ≤ length bs
within [] count q = omega arith
within (b ∷ bs) count q = elim (does count q b) [
  | inl p ↦ omega (arith, p.goes.len bs, within bs p.count' p.quoted')
  | inr s ↦ let e : text_len count q (b ∷ bs) ≡ 1 = subst (λ t. text_len count t (b ∷ bs) ≡ 1) (sym s.0) (s.1.len bs) in omega (arith, e)
]

fewest : (bs : List ℕ) (count o c : ℕ) (q : Bool) → Going count o c → (k : ℕ) → k < text_len count q bs → ¬ (Closed o c q (take k bs))
fewest [] count o c q g k l h = absurd (omega (arith, l))
fewest (b ∷ bs) count o c q g zero l h = nothing count o c q g h
fewest (b ∷ bs) count o c q g (suc k) l h = elim (does count q b) [
  | inl p ↦ fewest bs p.count' (o + p.opens) (c + p.closes) p.quoted' (on count o c p.count' q p.quoted' b p.opens p.closes g p.goes) k
      (omega (arith, l, p.goes.len bs)) (move o c q p.quoted' count p.count' b p.opens p.closes (take k bs) p.goes h)
  | inr s ↦ let e : text_len count q (b ∷ bs) ≡ 1 = subst (λ t. text_len count t (b ∷ bs) ≡ 1) (sym s.0) (s.1.len bs) in absurd (omega (arith, e, l))
]

last : (bs : List ℕ) (count o c b : ℕ) → Going count o c → Stands count b → Closed o c false (b ∷ [])
last bs count o c b g s = record { closes = omega (arith, s.closed); enough = omega (arith, s.closed, s.opened, g.balance, s.last) }

ends : (bs : List ℕ) (count o c : ℕ) (q : Bool) → Going count o c → Closed o c q (take (text_len count q bs) bs) ⊎ (text_len count q bs ≡ length bs)
ends [] count o c q g = inr refl
ends (b ∷ bs) count o c q g = elim (does count q b) [
  | inl p ↦ elim (ends bs p.count' (o + p.opens) (c + p.closes) p.quoted' (on count o c p.count' q p.quoted' b p.opens p.closes g p.goes)) [
    | inl h ↦ inl (subst (λ n. Closed o c q (take n (b ∷ bs))) (sym (p.goes.len bs)) (back o c q p.quoted' count p.count' b p.opens p.closes (take (text_len p.count' p.quoted' bs) bs) p.goes h))
    | inr e ↦ inr (p.goes.len bs ∙ ap suc e)
  ]
  | inr s ↦ inl (subst (λ t. Closed o c t (take (text_len count t (b ∷ bs)) (b ∷ bs))) (sym s.0) (subst (λ n. Closed o c false (take n (b ∷ bs))) (sym (s.1.len bs)) (last bs count o c b g s.1)))
]

at_start : Going 0 0 0
at_start = record { balance = refl; alive = inl refl }

pub first_text : (bs : List ℕ) → IsFirstText bs (text_len 0 false bs)
first_text bs = record {
  within = within bs 0 false;
  fewest = λ k l h. fewest bs 0 0 0 false at_start k l (record { closes = omega (arith, h.closes); enough = omega (arith, h.enough) });
  ends = elim (ends bs 0 0 0 false at_start) [
    | inl h ↦ inl (record { closes = omega (arith, h.closes); enough = omega (arith, h.enough) })
    | inr e ↦ inr e
  ];
}
