-- The steps of putting a folder in place.
use Rattle.std.proofs.Common.{◌≡◌, ◌⊎◌, ◌<◌, ◌+◌, ◌++◌, ℕ, List, [], ◌∷◌, length, take, Option, Some, None, option_map, inl, inr, sym, ap, ◌∙◌, arith, append-nil, append_assoc, subst}
use Rattle.std.proofs.lemmas.Grind.{flat_map-append}
use Rattle.std.proofs.lemmas.List.{length-append}
use Rattle.std.proofs.Math.Seq.{take-append-add}
use Rattle.std.proofs.lemmas.List.{take-append-le}
use Rattle.byte_io.specs.Publish.{Publishes, IsPublishFault}
use Rattle.byte_io.specs.declared.fault.PublishFault.TheVariants as out
use Rattle.byte_folder.specs.Folder.{File, Folders, FolderState, IfReported, Gains, contents}
use Rattle.byte_folder.specs.Put.{IsFilled, Stays, Adds, IsAddFault}
use Rattle.byte_folder.specs.declared.fault.FolderFault.TheVariants as put

-- ---- folders that a place reports

pub told_then : {P Q R : Folders → Folders → Type 0} → ((f g h : Folders) → P f g → Q g h → R f h) → (a b c : Option Folders) → IfReported P a b → IfReported Q b c → IfReported R a c
told_then both None b c p q = tt
told_then both (Some f) None c p q = absurd p
told_then both (Some f) (Some g) None p q = absurd q
told_then both (Some f) (Some g) (Some h) p q = both f g h p q

-- ---- adding files

contents-append : (fs gs : List File) → contents (fs ++ gs) ≡ contents fs ++ contents gs
contents-append fs gs = flat_map-append (λ (f : File). f.bytes) fs gs

contents-one : (fs : List File) (f : File) → contents (fs ++ f ∷ []) ≡ contents fs ++ f.bytes
contents-one fs f = contents-append fs (f ∷ []) ∙ ap (λ bs. contents fs ++ bs) (append-nil f.bytes)

-- the files `done` are in the new folder, and the files `rest` remain
pub record Added (fs rest : List File) (written : ℕ) (old new : FolderState) : Type 0 where
  pub done : List File
  pub of : fs ≡ done ++ rest
  pub count : written ≡ length (contents done)
  pub adds : Adds done old new

gained_one : (fs : List File) (f : File) (a b c : Option (List File)) → b ≡ option_map (λ gs. gs ++ fs) a → Gains f b c → c ≡ option_map (λ gs. gs ++ (fs ++ f ∷ [])) a
gained_one fs f None b c e g = absurd (subst (λ o. Gains f o c) e g)
gained_one fs f (Some gs) b c e g = subst (λ o. Gains f o c) e g ∙ ap Some (append_assoc gs fs (f ∷ []))

-- after one more file is written, the files after it remain
pub added_more : (fs rest : List File) (f : File) (written : ℕ) (old mid new : FolderState) → Added fs (f ∷ rest) written old mid → Publishes f.bytes mid.sink new.sink
    → IfReported (λ g h. Gains f g.beside h.beside × (h.stands ≡ g.stands) × (h.stuck ≡ g.stuck)) mid.folders new.folders → Added fs rest (written + length f.bytes) old new
added_more fs rest f written old mid new before published told =
    let w = before.adds.0 in
    record {
      done = before.done ++ f ∷ [];
      of = before.of ∙ sym (append_assoc before.done (f ∷ []) rest);
      count = ap (λ n. n + length f.bytes) before.count ∙ sym (length-append (contents before.done) f.bytes) ∙ ap length (sym (contents-one before.done f));
      adds = (
        record {
          taken =
              published.0 ∙ ap (λ bs. bs ++ f.bytes) w.taken ∙ append_assoc old.sink.taken (contents before.done) f.bytes
              ∙ ap (λ bs. old.sink.taken ++ bs) (sym (contents-one before.done f));
          failures = published.2 ∙ w.failures;
          stalls = published.3 ∙ w.stalls;
          openings =
              let opened = published.4 in
              let so_far = w.openings in
              let more = length-append before.done (f ∷ []) in
              omega (arith, opened, so_far, more);
        },
        told_then {Q = λ g h. Gains f g.beside h.beside × (h.stands ≡ g.stands) × (h.stuck ≡ g.stuck)}
            (λ a b c p q. (gained_one before.done f a.beside b.beside c.beside p.0 q.0, q.1 ∙ p.1, q.2 ∙ p.2)) old.folders mid.folders new.folders before.adds.1 told,
      );
    }

stays_then : (fs : List File) (old mid new : Option Folders) → IfReported (IsFilled fs) old mid → IfReported (λ g h. (h.stands ≡ g.stands) × (h.stuck ≡ g.stuck)) mid new → IfReported Stays old new
stays_then fs = told_then {Q = λ g h. (h.stands ≡ g.stands) × (h.stuck ≡ g.stuck)} (λ a b c p q. (q.0 ∙ p.1, q.1 ∙ p.2))

cut_later : (a b : List ℕ) (rest : List File) (n : ℕ) → n < length b → take (length a + n) (a ++ (b ++ contents rest)) ≡ a ++ take n b
cut_later a b rest n short = take-append-add a (b ++ contents rest) n ∙ ap (λ bs. a ++ bs) (take-append-le n b (contents rest) (omega arith))

-- if n bytes of the next file were written, the fault counts these and the bytes of the files before it
pub cut_short : (fs rest : List File) (f : File) (written n : ℕ) (old mid new : FolderState) → Added fs (f ∷ rest) written old mid
    → IsPublishFault f.bytes mid.sink new.sink (out.WriteFailed n) → IfReported (λ g h. (h.stands ≡ g.stands) × (h.stuck ≡ g.stuck)) mid.folders new.folders
    → IsAddFault fs old new (put.WriteFailed (written + n))
cut_short fs rest f written n old mid new before failed told =
    let w = before.adds.0 in
    let whole : contents fs ≡ contents before.done ++ (f.bytes ++ contents rest) = ap contents before.of ∙ contents-append before.done (f ∷ rest) in
    let count = before.count in
    let size = ap length whole ∙ length-append (contents before.done) (f.bytes ++ contents rest) in
    let more = length-append f.bytes (contents rest) in
    let short = failed.2 in
    let first : take (written + n) (contents fs) ≡ contents before.done ++ take n f.bytes =
    ap2 (λ m bs. take (m + n) bs) before.count whole ∙ cut_later (contents before.done) f.bytes rest n failed.2 in (
      record {
        taken = failed.0 ∙ ap (λ bs. bs ++ take n f.bytes) w.taken ∙ append_assoc old.sink.taken (contents before.done) (take n f.bytes) ∙ ap (λ bs. old.sink.taken ++ bs) (sym first);
        short = omega (arith, count, size, more, short);
        cause = caused mid.sink.failures mid.sink.stalls old.sink.failures old.sink.stalls new.sink.failures new.sink.stalls w.failures w.stalls failed.3;
      },
      stays_then before.done old.folders mid.folders new.folders before.adds.1 told,
    )
  where
    ap2 : (g : ℕ → List ℕ → List ℕ) {m n : ℕ} {a b : List ℕ} → m ≡ n → a ≡ b → g m a ≡ g n b
    ap2 g {m = m} {n = n} {a = a} {b = b} d e = ap (λ x. g x a) d ∙ ap (λ x. g n x) e

    caused : (f s a b u v : ℕ) → f ≡ a → s ≡ b → ((u ≡ f + 1) × (v ≡ s)) ⊎ ((u ≡ f) × (v ≡ s + 1)) → ((u ≡ a + 1) × (v ≡ b)) ⊎ ((u ≡ a) × (v ≡ b + 1))
    caused f s a b u v d e (inl h) = inl (h.0 ∙ ap (λ n. n + 1) d, h.1 ∙ e)
    caused f s a b u v d e (inr h) = inr (h.0 ∙ d, h.1 ∙ ap (λ n. n + 1) e)

-- ---- the same statements for the loop, which has the name and the bytes of the next file

one_file : (name bytes : List ℕ) (f : File) → name ≡ f.name → bytes ≡ f.bytes → ◌≡◌ {A = File} f (record { name = name; bytes = bytes })
one_file name bytes f n b = λ j. record { name = sym n j; bytes = sym b j }

pub loop_more : (fs here rest : List File) (f : File) (name bytes : List ℕ) (written len : ℕ) (old mid new : FolderState) → Added fs here written old mid → here ≡ f ∷ rest → name ≡ f.name
    → bytes ≡ f.bytes → len ≡ length bytes → Publishes bytes mid.sink new.sink
    → IfReported (λ g h. Gains (record { name = name; bytes = bytes }) g.beside h.beside × (h.stands ≡ g.stands) × (h.stuck ≡ g.stuck)) mid.folders new.folders
    → Added fs rest (written + len) old new
loop_more fs here rest f name bytes written len old mid new before split n b l published told =
    let f' : File = record { name = name; bytes = bytes } in
    let first : Added fs (f' ∷ rest) written old mid = subst (λ h. Added fs h written old mid) (split ∙ ap (λ (g : File). g ∷ rest) (one_file name bytes f n b)) before in
    subst (λ m. Added fs rest (written + m) old new) (sym l) (added_more fs rest f' written old mid new first published told)

pub loop_cut : (fs here rest : List File) (f : File) (name bytes : List ℕ) (written n : ℕ) (old mid new : FolderState) → Added fs here written old mid → here ≡ f ∷ rest → name ≡ f.name
    → bytes ≡ f.bytes → IsPublishFault bytes mid.sink new.sink (out.WriteFailed n) → IfReported (λ g h. (h.stands ≡ g.stands) × (h.stuck ≡ g.stuck)) mid.folders new.folders
    → IsAddFault fs old new (put.WriteFailed (written + n))
loop_cut fs here rest f name bytes written n old mid new before split e b failed told =
    let f' : File = record { name = name; bytes = bytes } in
    let first : Added fs (f' ∷ rest) written old mid = subst (λ h. Added fs h written old mid) (split ∙ ap (λ (g : File). g ∷ rest) (one_file name bytes f e b)) before in
    cut_short fs rest f' written n old mid new first failed told
