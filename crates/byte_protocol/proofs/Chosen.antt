-- Paths of all processes of a trace, if each of them has one.
use Rattle.std.proofs.Common.{◌≡◌, inl, inr, ℕ, Bool, true, false, List, [], ◌∷◌, Option, Some, None, eqb, refl, sym, ◌∙◌, ap, subst, cond}
use Rattle.std.proofs.Math.Logic.{∥∥₁_prop, ∥∥₁_map, ∥∥₁_elim}
use Rattle.std.proofs.lemmas.Bool.{false≢true}
use Rattle.std.proofs.lemmas.Bool.Decides.{eqb_tells}
use Rattle.byte_system.specs.Disk.{numbered, Event}
use Rattle.byte_system.specs.System.{own}
use Rattle.byte_protocol.specs.Protocol.{Move, Job, IsPath, AreIdle, calls_of, ArePaths}
use Rattle.byte_protocol.specs.Unread.{HasReadIf}
use Rattle.byte_protocol.proofs.Paths.{own_other}

abbrev is_in : ℕ → List ℕ → Bool
is_in k [] = false
is_in k (n ∷ ns) = cond (eqb k n) true (is_in k ns)

-- lists of moves, one for each of these processes, and none for the others
record Chosen (Q : ℕ → List Move → Type 0) (ns : List ℕ) : Type 0 where
  paths : ℕ → List Move
  here : (k : ℕ) → is_in k ns ≡ true → Q k (paths k)
  none : (k : ℕ) → is_in k ns ≡ false → paths k ≡ []

one_chosen : (Q : ℕ → List Move → Type 0) (n : ℕ) (ns : List ℕ) (ms : List Move) → Q n ms → Chosen Q ns → Chosen Q (n ∷ ns)
one_chosen Q n ns ms q c = record {
  paths = numbered c.paths n ms;
  here = λ k e. elim (eqb_tells k n) [
    | inl (t, same) ↦ subst (λ b. Q k (cond b ms (c.paths k))) (sym t) (subst (λ i. Q i ms) (sym same) q)
    | inr (f, ne) ↦ subst (λ b. Q k (cond b ms (c.paths k))) (sym f) (c.here k (sym (ap (λ b. cond b true (is_in k ns)) f) ∙ e))
  ];
  none = λ k e. elim (eqb_tells k n) [
    | inl (t, same) ↦ absurd (false≢true (sym e ∙ ap (λ b. cond b true (is_in k ns)) t))
    | inr (f, ne) ↦ ap (λ b. cond b ms (c.paths k)) f ∙ c.none k (sym (ap (λ b. cond b true (is_in k ns)) f) ∙ e)
  ];
}

choose : (Q : ℕ → List Move → Type 0) (ns : List ℕ) → ((k : ℕ) → ∥ ((ms : List Move) × Q k ms) ∥₁) → ∥ Chosen Q ns ∥₁
choose Q [] each = ∣ record { paths = λ k. []; here = λ k e. absurd (false≢true e); none = λ k e. refl } ∣₁
choose Q (n ∷ ns) each = ∥∥₁_elim (each n) ∥∥₁_prop (λ m. ∥∥₁_map (choose Q ns each) (λ c. one_chosen Q n ns m.0 m.1 c))

-- the processes of a trace
abbrev bys : List Event → List ℕ
bys [] = []
bys (e ∷ es) = e.by ∷ bys es

own_none : (k : ℕ) (es : List Event) → is_in k (bys es) ≡ false → own k es ≡ []
own_none k [] e = refl
own_none k (v ∷ es) e = elim (eqb_tells k v.by) [
  | inl (t, same) ↦ absurd (false≢true (sym e ∙ ap (λ b. cond b true (is_in k (bys es))) t))
  | inr (f, ne) ↦ own_other k v es (λ q. ne (sym q)) ∙ own_none k es (sym (ap (λ b. cond b true (is_in k (bys es))) f) ∙ e)
]

record HasPath (j : Job) (trace : List Event) (read : ℕ → Option (List ℕ)) (k : ℕ) (ms : List Move) : Type 0 where
  path : IsPath ms
  idle : AreIdle ms
  calls : own k trace ≡ calls_of j k ms
  seen : HasReadIf (read k) ms

nothing_put : (read : Option (List ℕ)) → HasReadIf read []
nothing_put None = tt
nothing_put (Some bytes) = tt

path_of : (j : Job) (trace : List Event) (read : ℕ → Option (List ℕ)) (k : ℕ) (ms : List Move) (b : Bool) → is_in k (bys trace) ≡ b
    → (is_in k (bys trace) ≡ true → HasPath j trace read k ms) → (is_in k (bys trace) ≡ false → ms ≡ []) → HasPath j trace read k ms
path_of j trace read k ms true is here none = here is
path_of j trace read k ms false is here none =
    subst (HasPath j trace read k) (sym (none is)) (record { path = tt; idle = tt; calls = own_none k trace is; seen = nothing_put (read k) })

pub all_paths : (j : Job) (trace : List Event) (read : ℕ → Option (List ℕ))
    → ((k : ℕ) → ∥ ((ms : List Move) × IsPath ms × AreIdle ms × (own k trace ≡ calls_of j k ms) × HasReadIf (read k) ms) ∥₁)
    → ∥ ((paths : ℕ → List Move) × ArePaths j trace paths × ((k : ℕ) → AreIdle (paths k)) × ((k : ℕ) → HasReadIf (read k) (paths k))) ∥₁
all_paths j trace read each =
    ∥∥₁_map (choose (HasPath j trace read) (bys trace) (λ k. ∥∥₁_map (each k) (λ p. (p.0, record { path = p.1; idle = p.2; calls = p.3; seen = p.4 }))))
    (λ c.
    let all : (k : ℕ) → HasPath j trace read k (c.paths k) = λ k. path_of j trace read k (c.paths k) (is_in k (bys trace)) refl (c.here k) (c.none k) in
    (c.paths, record { each = λ k. (all k).path; calls = λ k. (all k).calls }, λ k. (all k).idle, λ k. (all k).seen))
