use Rattle.std.proofs.Common.{◌≡◌, ◌-◌, ℕ, true, [], length, ap, sym, ◌∙◌, subst, subst₂, All, List, arith}
use Rattle.std.specs.List.{AllByRecursion}
use Rattle.definite_rules.specs.Rule.{DefiniteRule, IsBelow}
use Rattle.definite_rules.specs.Least.{IsLeastModel}
use Rattle.ground_model.specs.declared.program.GroundProgram.{GroundProgram}
use Rattle.ground_model.specs.declared.rule.GroundRule.{GroundRule}
use Rattle.ground_model.specs.Answers.{IsOnlyAnswer}
use Rattle.ground_model.specs.Definite.{is_definite}
use Rattle.ground_model.specs.Reduct.{reduct}
use Rattle.ground_model.specs.Sizes.{IsReadableRule}
use Rattle.ground_model.specs.World.{world_by, flagged_from}
use Rattle.ground_model.proofs.DefiniteLaw.{no_variables}
use Rattle.ground_model.proofs.SizeLemmas.{readable_rules, reduct_below}
use Rattle.ground_model.proofs.AnswerLemmas.{answer_atoms}
use Rattle.ground_model.proofs.FlagLemmas.{flagged_only}
use Rattle.ground_model.proofs.definite.definite_answer.Goals as goal

readable : (program : GroundProgram) → is_definite program ≡ true → AllByRecursion (IsReadableRule (length program.atoms) 0) program.rules
readable program given =
    subst (λ n. AllByRecursion (IsReadableRule (length program.atoms) n) program.rules) (no_variables program given)
    (readable_rules (length program.symbols) (length program.atoms) (length program.variables) program.ends program.rules program.sound_rules)

pub reduct-requires-clause-rules : goal.reduct-requires-clause-rules
reduct-requires-clause-rules c =
    let n : length c.deref.result.now - 1 ≡ length c.args.program.now.atoms = omega (arith, c.deref.ensures.len, c.in_ok-none.ensures.len, c.len.ensures) in
    rw (n, c.items.ensures) (readable c.args.program.now c.requires)

pub least_model-requires : goal.least_model-requires
least_model-requires c =
    subst₂ (λ (n : ℕ) (rules : List DefiniteRule). All (IsBelow n) rules) (sym c.len-2.ensures) (sym c.in_ok-rules.ensures)
    (reduct_below (length c.args.program.now.atoms) 0 c.items.result.now (world_by c.deref.result.now [])
    (rw c.items.ensures (readable c.args.program.now c.requires)))

only : (c : goal.After-drop-none-2) → IsOnlyAnswer c.args.program.now (record { atoms = c.in_ok-atoms.atoms; values = c.new-values.result })
only c =
    let program = c.args.program.now in
    let world = world_by c.deref.result.now [] in
    let rules : c.in_ok-rules.rules ≡ reduct program.rules world = c.in_ok-rules.ensures ∙ ap (λ (rs : List GroundRule). reduct rs world) c.items.ensures in
    let least : IsLeastModel (reduct program.rules world) c.in_ok-least.least = subst (λ rs. IsLeastModel rs c.in_ok-least.least) rules c.in_ok-least.ensures.least in
    let atoms : c.in_ok-atoms.atoms ≡ flagged_from 1 c.in_ok-least.least = c.in_ok-atoms.ensures ∙ ap (flagged_from 1) c.items-2.ensures in
    subst₂ (λ x y. IsOnlyAnswer program (record { atoms = x; values = y })) (sym atoms) (sym c.new-values.ensures)
    (flagged_only program world c.in_ok-least.least c.requires least)

pub returns-clause-only : goal.returns-clause-only
returns-clause-only c = only c

pub returns-clause-known : goal.returns-clause-known
returns-clause-known c = answer_atoms c.args.program.now (record { atoms = c.in_ok-atoms.atoms; values = c.new-values.result }) (only c).one
