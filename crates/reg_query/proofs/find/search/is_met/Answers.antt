use Rattle.std.proofs.Common.{◌≡◌, ℕ, List, Some, refl, sym, ap, ◌∙◌, subst}
use Rattle.std.proofs.lemmas.Bool.{true≢false}
use Rattle.crs_part.specs.Slots.{name_of}
use Rattle.crs_part.specs.declared.crs.CrsParts.{CrsParts}
use Rattle.crs_value.specs.declared.crs.Crs.{Crs}
use Rattle.wkt_crs.proofs.Texts.{one_value}
use Rattle.reg_report.specs.Conflicts.{bytes_of}
use Rattle.reg_query.specs.Queries.{MeetsTitle, MeetsValue}
use Rattle.reg_query.proofs.FoundLemmas.{nothing_asked}
use Rattle.reg_query.proofs.find.search.is_met.Goals as goal

pub returns-then-not-meets_title : goal.returns-then-not-meets_title
returns-then-not-meets_title c = λ rs tells.
    let named = c.as_bytes.ensures ∙ c.name-name.ensures.2 in
    record {
      key = c.key-key.result.now;
      crs = c.name-name.ensures.0;
      keyed = c.key-key.ensures;
      spelled = c.name-name.ensures.1;
      told = (
        λ h. absurd (true≢false (sym h)),
        λ (title, value). absurd (true≢false (sym ((c.meets_title.ensures rs tells).1 (subst (λ (n : List ℕ). MeetsTitle rs c.args.query.now (bytes_of c.key-key.result.now) n (Some c.args.row.now.status)) (sym named) title)) ∙ c.if-not-meets_title.true)),
      );
    }

pub returns-then-not-asks_value : goal.returns-then-not-asks_value
returns-then-not-asks_value c = λ rs tells.
    let named = c.as_bytes.ensures ∙ c.name-name.ensures.2 in
    record {
      key = c.key-key.result.now;
      crs = c.name-name.ensures.0;
      keyed = c.key-key.ensures;
      spelled = c.name-name.ensures.1;
      told = (
        λ h. (
          subst (λ (n : List ℕ). MeetsTitle rs c.args.query.now (bytes_of c.key-key.result.now) n (Some c.args.row.now.status)) named ((c.meets_title.ensures rs tells).0 c.if-not-meets_title.false),
          nothing_asked c.args.query.now (c.name-name.ensures.0).parts (sym c.asks_value.ensures ∙ c.if-not-asks_value.true),
        ),
        λ h. refl,
      );
    }

pub returns : goal.returns
returns c = λ rs tells.
    let one : c.name-name.ensures.0 ≡ c.in_ok-crs.crs = one_value c.args.row.now.definition c.name-name.ensures.0 c.in_ok-crs.crs c.name-name.ensures.1.1 c.in_ok-crs.ensures.1 in
    let named = c.as_bytes.ensures ∙ c.name-name.ensures.2 ∙ ap (λ (v : Crs). (name_of v.parts).bytes) one in
    record {
      key = c.key-key.result.now;
      crs = c.in_ok-crs.crs;
      keyed = c.key-key.ensures;
      spelled = c.in_ok-crs.ensures;
      told = (
        λ h. (
          subst (λ (n : List ℕ). MeetsTitle rs c.args.query.now (bytes_of c.key-key.result.now) n (Some c.args.row.now.status)) named ((c.meets_title.ensures rs tells).0 c.if-not-meets_title.false),
          subst (λ (p : CrsParts). MeetsValue c.args.query.now p) c.parts.ensures (c.meets_value.ensures.0 h),
        ),
        λ (title, value). c.meets_value.ensures.1 (subst (λ (p : CrsParts). MeetsValue c.args.query.now p) (sym c.parts.ensures) value),
      );
    }
