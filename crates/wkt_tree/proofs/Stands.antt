-- The state of a cursor.
use Rattle.std.proofs.Common.{◌≡◌, ℕ, ◌-◌, List, ◌∷◌, length, take, drop, Some, None, Ok, Err, sym, ap, ◌∙◌, subst, arith}
use Rattle.std.specs.Prelude.{All, Option, Result}
use Rattle.std.proofs.lemmas.List.{take_rest}
use Rattle.std.proofs.lemmas.List.Elements.{All-head, All-tail}
use Rattle.wkt_tree.specs.declared.token.Token.{Token}
use Rattle.wkt_tree.specs.declared.fault.TextFault.{TextFault}
use Rattle.wkt_tree.specs.Tree.{Tok}
use Rattle.wkt_tree.specs.Tokens.{end_of, Cut}
use Rattle.wkt_tree.specs.Cut.{cut}
use Rattle.wkt_tree.specs.Faults.{view, Lexes, IsOutline}
use Rattle.wkt_tree.specs.Cursor.{IsSoundToken, tokens_at, tokens_from, IsSoundCut, IsStand}
use Rattle.wkt_tree.proofs.Cuts.{cut_of}
use Rattle.wkt_tree.proofs.Scans.{lexed_passes}
use Rattle.wkt_tree.proofs.Sound.{cut_sound}
use Rattle.wkt_tree.proofs.Unread.{lexed_head, none_left, unreadable_no}

pub lexes_rest : (text : List ℕ) (place : ℕ) (r : Result (Option Token) TextFault) → Lexes place (take (length text - place) (drop place text)) r → Lexes place (drop place text) r
lexes_rest text place r h = subst (λ l. Lexes place l r) (take_rest text place) h

-- if the computed tokens of a text make it an outline, all of them are sound
pub sound_outline : (text : List ℕ) → IsOutline text (cut 0 text) → IsSoundCut 0 text
sound_outline text o = record {
  within = omega arith;
  short = omega (arith, o.short);
  cut = o.cut;
  sound = cut_sound 0 text (cut 0 text) o.cut o.utf8;
}

-- after the token t is read: the tokens from the old place on are t and those after it, and the new state is sound
record Behind (place : ℕ) (text : List ℕ) (t : Token) : Type 0 where
  is : tokens_from (Some t) (end_of (view t)) text ≡ tokens_at place text
  stand : IsStand (Some t) (end_of (view t)) text

behind_token : (place : ℕ) (text : List ℕ) (t : Token) → IsSoundCut place text → Lexes place (drop place text) (Ok (Some t)) → Behind place text t
behind_token place text t s l =
    let p = lexed_passes text place (view t) l.0 s.within l.1 in
    let h = lexed_head place (drop place text) (view t) l.0 (tokens_at place text) l.1 s.cut in
    let c : Cut (end_of (view t)) (drop (end_of (view t)) text) h.0 = subst (λ x. Cut (end_of (view t)) x h.0) p.rest_is h.2 in
    let e = cut_of (end_of (view t)) (drop (end_of (view t)) text) h.0 c in
    let whole : tokens_at place text ≡ view t ∷ tokens_at (end_of (view t)) text = h.1 ∙ ap (λ (x : List Tok). view t ∷ x) (sym e) in
    let all : All IsSoundToken (view t ∷ tokens_at (end_of (view t)) text) = subst (λ x. All IsSoundToken x) whole s.sound in
    record {
      is = sym whole;
      stand = record {
        coming = All-head IsSoundToken (view t) (tokens_at (end_of (view t)) text) all;
        rest = record {
          within = p.within;
          short = s.short;
          cut = subst (λ x. Cut (end_of (view t)) (drop (end_of (view t)) text) x) (sym e) c;
          sound = All-tail IsSoundToken (view t) (tokens_at (end_of (view t)) text) all;
        };
      };
    }

pub stand_at : (place : ℕ) (text : List ℕ) (t : Token) → IsSoundCut place text → Lexes place (drop place text) (Ok (Some t)) → IsStand (Some t) (end_of (view t)) text
stand_at place text t s l = (behind_token place text t s l).stand

pub tokens_come : (place : ℕ) (text : List ℕ) (t : Token) → IsSoundCut place text → Lexes place (drop place text) (Ok (Some t)) → tokens_from (Some t) (end_of (view t)) text ≡ tokens_at place text
tokens_come place text t s l = (behind_token place text t s l).is

pub none_come : (place : ℕ) (text : List ℕ) → IsSoundCut place text → Lexes place (drop place text) (Ok None) → tokens_from None place text ≡ tokens_at place text
none_come place text s l = sym (none_left place (drop place text) (tokens_at place text) l s.cut)

pub lexes_all : (place : ℕ) (text : List ℕ) (fault : TextFault) → IsSoundCut place text → Lexes place (drop place text) (Err fault) → ⊥
lexes_all place text fault s l = unreadable_no place (drop place text) fault (tokens_at place text) l s.cut
