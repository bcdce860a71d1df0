-- Codes and identifiers, and which identifier is the first.
use Rattle.std.proofs.Common.{◌≡◌, ℕ, ◌-◌, List, [], ◌∷◌, ◌++◌, ◌∙◌, map, take, length, refl, sym, ap, subst, arith, length-append}
use Rattle.std.proofs.Math.Seq.{take-append_seam}
use Rattle.std.specs.Prelude.{Some, None}
use Rattle.crs_part.specs.declared.identifiers.NumberOrText.TheVariants as code
use Rattle.wkt_grammar.specs.declared.table.Keyword.TheVariants as keywords
use Rattle.wkt_grammar.specs.Render.{render}
use Rattle.wkt_grammar.specs.Trees.{one, text_tree, number_tree, code_tree, ident_tree, value_tree}
use Rattle.wkt_canonical.specs.declared.identifiers.Identifier.{Identifier}
use Rattle.wkt_canonical.specs.Reads.{ReadsFirst, ReadsOne, ReadsMaybe, ReadsEach, ReadsInside, ReadsText, ReadsCode, ReadsIdentifier, ReadsIdentifiers, any, opening}
use Rattle.wkt_canonical.proofs.Runs.{closed, also, whole, behind_comma_is, no_run, two_runs}

pub code_of_text : {content text inside rest : List ℕ} → text ≡ 44 ∷ inside → ReadsText content inside rest → ReadsCode content text rest
code_of_text {rest = rest} e r = record { value = code.Text r.value; content_is = r.content_is; is = behind_comma_is (text_tree r.value) rest e r.is }

-- a code that is a number counts as the characters up to the rest
pub code_of_number : {content text inside rest : List ℕ} → text ≡ 44 ∷ inside → ReadsFirst any number_tree inside rest → content ≡ take (length inside - length rest) inside → ReadsCode content text rest
code_of_number {inside = inside} {rest = rest} e r f =
    let digits = render (number_tree r.value) in
    record {
      value = code.Number r.value;
      content_is = sym (f ∙ subst (λ t. take (length t - length rest) t ≡ digits) (sym r.is) (front digits rest));
      is = behind_comma_is (number_tree r.value) rest e r.is;
    }
  where
    front : (xs ys : List ℕ) → take (length (xs ++ ys) - length ys) (xs ++ ys) ≡ xs
    front xs ys =
        let n : length (xs ++ ys) - length ys ≡ length xs = omega (arith, length-append xs ys) in
        ap (λ m. take m (xs ++ ys)) n ∙ take-append_seam xs ys

pub any_code : {content text rest : List ℕ} → ReadsCode content text rest → ReadsOne any code_tree text rest
any_code r = record { value = r.value; passes = refl; is = r.is }

pub ident : {name content text a b c d e rest : List ℕ} (seen : Identifier) → seen.authority.now ≡ name → seen.code.now ≡ content → ReadsText name text a → ReadsCode content a b → ReadsMaybe any code_tree b c → ReadsMaybe any (value_tree keywords.Citation) c d → ReadsMaybe any (value_tree keywords.Uri) d e → e ≡ 93 ∷ rest → ReadsIdentifier seen text rest
ident seen n k authority code version citation uri close = record {
  value = record { authority = authority.value; code = code.value; version = version.value; citation = citation.value; uri = uri.value };
  identifies = record { authority = authority.content_is ∙ sym n; code = code.content_is ∙ sym k };
  is = whole keywords.Identifier _ _ authority.is (also _ _ code.is (also _ _ version.is (also _ _ citation.is (also _ _ uri.is (closed close)))));
}

pub any_identifier : {text rest : List ℕ} (seen : Identifier) → ReadsIdentifier seen text rest → ReadsInside any ident_tree keywords.Identifier text rest
any_identifier seen r = record { value = r.value; passes = refl; is = r.is }

pub no_identifiers : (text : List ℕ) → ReadsIdentifiers None text text
no_identifiers text = record { values = []; first_is = refl; is = no_run text }

pub some_identifiers : {text inside mid rest : List ℕ} (seen : Identifier) → text ≡ opening keywords.Identifier ++ inside → ReadsIdentifier seen inside mid → ReadsEach any ident_tree mid rest → ReadsIdentifiers (Some seen) text rest
some_identifiers seen e first others = record {
  values = first.value ∷ others.values;
  first_is = first.identifies;
  is = two_runs (one (ident_tree first.value)) (map ident_tree others.values) _ (e ∙ first.is) others.is;
}
