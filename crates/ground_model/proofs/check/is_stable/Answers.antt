use Rattle.std.proofs.Common.{◌≡◌, ◌↔◌, ℕ, true, false, List, IsTrue, length, ap, sym, ◌∙◌, subst, subst₂, true≢false, All, rules}
use Rattle.std.specs.List.{list_all}
use Rattle.std.proofs.lemmas.Result.{IfOk-weaker}
use Rattle.definite_rules.specs.Rule.{DefiniteRule, IsBelow}
use Rattle.definite_rules.specs.Least.{IsLeastModel}
use Rattle.ground_model.specs.declared.rule.GroundRule.{GroundRule}
use Rattle.ground_model.specs.Reduct.{reduct}
use Rattle.ground_model.specs.inner.Agreement.{Agree}
use Rattle.ground_model.specs.Duties.{rule_holds, IsStableByTests}
use Rattle.ground_model.specs.World.{world_by}
use Rattle.ground_model.proofs.SizeLemmas.{modest_values, reduct_below, readable_rules}
use Rattle.ground_model.proofs.CheckLemmas.{size_of_candidate, from_agreement, to_agreement}
use Rattle.ground_model.proofs.check.is_stable.Goals as goal

pub reduct-requires-clause-rules : goal.reduct-requires-clause-rules
reduct-requires-clause-rules c = rw c.items.ensures (size_of_candidate c.args.program.now c.args.flags.now c.args.values.now c.requires)

pub reduct-requires-clause-values : goal.reduct-requires-clause-values
reduct-requires-clause-values c = modest_values c.args.program.now.ends c.args.values.now c.requires.valuation.within

pub least_model-requires : goal.least_model-requires
least_model-requires c =
    let program = c.args.program.now in
    subst₂ (λ (n : ℕ) (rules : List DefiniteRule). All (IsBelow n) rules) (sym c.len.ensures) (sym c.in_ok-rules.ensures)
    (reduct_below (length program.atoms) (length program.variables) c.items.result.now (world_by c.args.flags.now c.args.values.now)
    (rw c.items.ensures (readable_rules (length program.symbols) (length program.atoms) (length program.variables) program.ends program.rules program.sound_rules)))

pub returns-then-not-agree : goal.returns-then-not-agree
returns-then-not-agree c =
    let program = c.args.program.now in
    let world = world_by c.args.flags.now c.args.values.now in
    let size : length c.in_ok-least.least ≡ length program.atoms = c.in_ok-least.ensures.length ∙ c.len.ensures in
    let rules_are : c.in_ok-rules.rules ≡ reduct program.rules world = c.in_ok-rules.ensures ∙ ap (λ (rs : List GroundRule). reduct rs world) c.items.ensures in
    let least_is : IsLeastModel (reduct program.rules world) c.in_ok-least.least =
    subst (λ rs. IsLeastModel rs c.in_ok-least.least) rules_are c.in_ok-least.ensures.least in
    let no : c.agree.result ≡ false = search rules in (
      λ f. absurd (true≢false (sym f)),
      λ s.
          let agreed = to_agreement program c.args.flags.now c.args.values.now c.requires c.in_ok-least.least size least_is s in
          absurd (true≢false (sym (c.agree.ensures.1 (subst (λ xs. Agree xs c.args.flags.now) (sym c.items-2.ensures) agreed)) ∙ no)),
    )

pub rules_hold-requires-clause-rules : goal.rules_hold-requires-clause-rules
rules_hold-requires-clause-rules c = rw c.items-3.ensures (size_of_candidate c.args.program.now c.args.flags.now c.args.values.now c.requires)

pub rules_hold-requires-clause-values : goal.rules_hold-requires-clause-values
rules_hold-requires-clause-values c = modest_values c.args.program.now.ends c.args.values.now c.requires.valuation.within

pub returns : goal.returns
returns c =
    let program = c.args.program.now in
    let world = world_by c.args.flags.now c.args.values.now in
    let size : length c.in_ok-least.least ≡ length program.atoms = c.in_ok-least.ensures.length ∙ c.len.ensures in
    let rules_are : c.in_ok-rules.rules ≡ reduct program.rules world = c.in_ok-rules.ensures ∙ ap (λ (rs : List GroundRule). reduct rs world) c.items.ensures in
    let least_is : IsLeastModel (reduct program.rules world) c.in_ok-least.least =
    subst (λ rs. IsLeastModel rs c.in_ok-least.least) rules_are c.in_ok-least.ensures.least in
    let yes : c.agree.result ≡ true = search rules in
    let agreed = subst (λ xs. Agree xs c.args.flags.now) c.items-2.ensures (c.agree.ensures.0 yes) in
    IfOk-weaker c.rules_hold.result (λ hold. hold ≡ list_all (rule_holds world) c.items-3.result.now) (λ yes. IsTrue yes ↔ IsStableByTests program.rules world)
    (λ hold e.
    let is : hold ≡ list_all (rule_holds world) program.rules = e ∙ ap (list_all (rule_holds world)) c.items-3.ensures in (
      λ t. from_agreement program c.args.flags.now c.args.values.now c.requires c.in_ok-least.least size least_is agreed (sym is ∙ t),
      λ s. is ∙ s.duties,
    ))
    c.rules_hold.ensures
