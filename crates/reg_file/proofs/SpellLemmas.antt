-- Runs that are written one by one have the bytes of their groups by replica.
use Rattle.std.proofs.Common.{◌≡◌, ℕ, suc, ◌+◌, ◌≤◌, Bool, true, false, cond, List, [], ◌∷◌, ◌++◌, length, drop, Option, Some, None, refl, sym, ap, ◌∙◌, append_assoc, arith}
use Rattle.std.specs.List.{flat_map}
use Rattle.std.proofs.Math.ListN.{drop_of_length-le}
use Rattle.std.proofs.lemmas.List.Concat.{flat_map-cons}
use Rattle.std.specs.Ordering.{is_eq}
use Rattle.reg_state.specs.declared.run.Run.{Run}
use Rattle.reg_state.specs.Runs.{replica_cmp}
use Rattle.reg_state.proofs.RunLemmas.{same_replica, replica_itself}
use Rattle.reg_file.specs.declared.span.Span.{Span}
use Rattle.reg_file.specs.Layout.{four, span_bytes, span_of, Group, group_bytes, put, grouped}
use Rattle.reg_file.specs.Spelling.{leading, heading_of, spelled, begun}
use Rattle.reg_file.proofs.GroupLemmas.{put_same, put_other}

abbrev group_of : List ℕ → List Span → Group
group_of replica ss = record { replica = replica; spans = ss }

-- the bytes and counts of the runs after r are those of the other ranges of its group, and of the groups after it
pub record IsSpelledBy (r : Run) (rs : List Run) (spans : List Span) (others : List Group) : Type 0 where
  pub behind : spelled (Some r.replica) rs ≡ flat_map span_bytes spans ++ flat_map group_bytes others
  pub count : leading r.replica rs ≡ length spans
  pub starts : begun (Some r.replica) rs ≡ length others

one_span : (s : Span) (ss : List Span) (more : List ℕ) → four s.low ++ (four s.high ++ (flat_map span_bytes ss ++ more)) ≡ flat_map span_bytes (s ∷ ss) ++ more
one_span s ss more =
    sym (append_assoc (four s.low) (four s.high) (flat_map span_bytes ss ++ more)) ∙ sym (append_assoc (span_bytes s) (flat_map span_bytes ss) more)
    ∙ ap (λ (t : List ℕ). t ++ more) (sym (flat_map-cons span_bytes s ss))

leading_more : (q : List ℕ) (s : Run) (rs : List Run) → is_eq (replica_cmp q s.replica) ≡ true → leading q (s ∷ rs) ≡ suc (leading q rs)
leading_more q s rs h = rw h (let e : 1 + leading q rs ≡ suc (leading q rs) = omega arith in e)

leading_none : (q : List ℕ) (s : Run) (rs : List Run) → is_eq (replica_cmp q s.replica) ≡ false → leading q (s ∷ rs) ≡ 0
leading_none q s rs h = rw h refl

heading_none : (q : List ℕ) (s : Run) (rs : List Run) → is_eq (replica_cmp q s.replica) ≡ true → heading_of (Some q) s rs ≡ []
heading_none q s rs h = rw h refl

heading_some : (q : List ℕ) (s : Run) (rs : List Run) → is_eq (replica_cmp q s.replica) ≡ false → heading_of (Some q) s rs ≡ s.replica ++ four (leading s.replica (s ∷ rs))
heading_some q s rs h = rw h refl

begun_same : (q : List ℕ) (s : Run) (rs : List Run) → is_eq (replica_cmp q s.replica) ≡ true → begun (Some q) (s ∷ rs) ≡ begun (Some s.replica) rs
begun_same q s rs h = ap (λ b. cond b 0 1 + begun (Some s.replica) rs) h ∙ (let e : 0 + begun (Some s.replica) rs ≡ begun (Some s.replica) rs = omega arith in e)

begun_other : (q : List ℕ) (s : Run) (rs : List Run) → is_eq (replica_cmp q s.replica) ≡ false → begun (Some q) (s ∷ rs) ≡ 1 + begun (Some s.replica) rs
begun_other q s rs h = ap (λ b. cond b 0 1 + begun (Some s.replica) rs) h

-- the bytes of a group, from its first run on
whole_group : (s : Run) (rs : List Run) (spans : List Span) (others : List Group) → IsSpelledBy s rs spans others
    → (s.replica ++ four (leading s.replica (s ∷ rs))) ++ (four s.low ++ (four s.high ++ spelled (Some s.replica) rs)) ≡ flat_map group_bytes (group_of s.replica (span_of s ∷ spans) ∷ others)
whole_group s rs spans others is =
    let count : leading s.replica (s ∷ rs) ≡ length (span_of s ∷ spans) = leading_more s.replica s rs (replica_itself s.replica) ∙ ap suc is.count in
    (λ k. (s.replica ++ four (count k)) ++ (four s.low ++ (four s.high ++ is.behind k)))
    ∙ ap (λ (t : List ℕ). (s.replica ++ four (length (span_of s ∷ spans))) ++ t) (one_span (span_of s) spans (flat_map group_bytes others))
    ∙ sym (append_assoc (s.replica ++ four (length (span_of s ∷ spans))) (flat_map span_bytes (span_of s ∷ spans)) (flat_map group_bytes others))
    ∙ ap (λ (t : List ℕ). t ++ flat_map group_bytes others) (append_assoc s.replica (four (length (span_of s ∷ spans))) (flat_map span_bytes (span_of s ∷ spans)))
    ∙ sym (flat_map-cons group_bytes (group_of s.replica (span_of s ∷ spans)) others)

pub spelled_by : (r : Run) (rs : List Run) → (spans : List Span) × (others : List Group) × (grouped (r ∷ rs) ≡ group_of r.replica (span_of r ∷ spans) ∷ others) × IsSpelledBy r rs spans others
spelled_by r [] = ([], [], refl, record { behind = refl; count = refl; starts = refl })
spelled_by r (s ∷ rs) = from (spelled_by s rs) (is_eq (replica_cmp r.replica s.replica)) refl
  where
    from : ((spans : List Span) × (others : List Group) × (grouped (s ∷ rs) ≡ group_of s.replica (span_of s ∷ spans) ∷ others) × IsSpelledBy s rs spans others)
        → (b : Bool) → is_eq (replica_cmp r.replica s.replica) ≡ b
        → (spans : List Span) × (others : List Group) × (grouped (r ∷ s ∷ rs) ≡ group_of r.replica (span_of r ∷ spans) ∷ others) × IsSpelledBy r (s ∷ rs) spans others
    from w true h =
        let same : r.replica ≡ s.replica = same_replica r.replica s.replica h in (
          span_of s ∷ w.0,
          w.1,
          ap (put r) w.2 ∙ put_same r (group_of s.replica (span_of s ∷ w.0)) w.1 h,
          record {
            behind = ap (λ (t : List ℕ). t ++ (four s.low ++ (four s.high ++ spelled (Some s.replica) rs))) (heading_none r.replica s rs h)
                ∙ ap (λ (t : List ℕ). four s.low ++ (four s.high ++ t)) w.3.behind ∙ one_span (span_of s) w.0 (flat_map group_bytes w.1);
            count = leading_more r.replica s rs h ∙ ap (λ q. suc (leading q rs)) same ∙ ap suc w.3.count;
            starts = begun_same r.replica s rs h ∙ w.3.starts;
          },
        )
    from w false h = (
      [],
      group_of s.replica (span_of s ∷ w.0) ∷ w.1,
      ap (put r) w.2 ∙ put_other r (group_of s.replica (span_of s ∷ w.0)) w.1 h,
      record {
        behind = ap (λ (t : List ℕ). t ++ (four s.low ++ (four s.high ++ spelled (Some s.replica) rs))) (heading_some r.replica s rs h) ∙ whole_group s rs w.0 w.1 w.3;
        count = leading_none r.replica s rs h;
        starts = begun_other r.replica s rs h ∙ (let e = w.3.starts in omega arith);
      },
    )

pub spelled_groups : (rs : List Run) → spelled None rs ≡ flat_map group_bytes (grouped rs)
spelled_groups [] = refl
spelled_groups (r ∷ rs) = let w = spelled_by r rs in whole_group r rs w.0 w.1 w.3 ∙ ap (flat_map group_bytes) (sym w.2)

pub begun_groups : (rs : List Run) → begun None rs ≡ length (grouped rs)
begun_groups [] = refl
begun_groups (r ∷ rs) = let w = spelled_by r rs in let e = w.3.starts in let l = ap length w.2 in omega arith

pub counted_groups : (n k : ℕ) (last : Option (List ℕ)) (rs : List Run) → n + begun last (drop k rs) ≡ begun None rs → length rs ≤ k → n ≡ length (grouped rs)
counted_groups n k last rs h past =
    let none : begun last (drop k rs) ≡ 0 = ap (begun last) (drop_of_length-le rs past) in
    let all = begun_groups rs in
    omega arith
