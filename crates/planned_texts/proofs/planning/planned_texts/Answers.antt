use Rattle.std.proofs.Common.{◌≡◌, ◌∙◌, ℕ, List, map, subst, sym}
use Rattle.std.specs.List.{AllZip}
use Rattle.syntax_tree.specs.declared.statement.Statement.{Statement}
use Rattle.syntax_tree.specs.declared.statement.Program.{Program}
use Rattle.rewriting.specs.Rewriting.{IsRewriting}
use Rattle.program_meaning.specs.Read.{rules_read}
use Rattle.safety_meaning.specs.Program.{rules_of}
use Rattle.groundable_texts.specs.Statements.{IsGroundableStatement}
use Rattle.planned_rules.specs.Planned.{rule_of}
use Rattle.planned_texts.specs.declared.planning.PlannedTexts.{PlannedTexts}
use Rattle.planned_texts.proofs.PlanningLemmas.{ok_each, same_rules}
use Rattle.planned_texts.proofs.planning.planned_texts.Goals as goal

pub planned_statements-requires : goal.planned_statements-requires
planned_statements-requires c =
    let program = c.args.program.now in
    let fine = c.requires.1 in
    let law = c.rules_of_texts_are_groundable.ensures.statements c.requires.0 fine.old program fine.are.has fine.tree fine.fine fine.are.rewriting in
    subst (λ (s : List Statement). AllZip IsGroundableStatement s c.items-2.result.now) (sym c.items.ensures)
    (subst (λ (o : List (List ℕ)). AllZip IsGroundableStatement program.program.statements o) (sym c.items-2.ensures) law)

pub returns-clause-rules : goal.returns-clause-rules
returns-clause-rules c =
    let program = c.args.program.now in
    ok_each c.planned_statements.result (λ (planned : PlannedTexts). map rule_of planned.rules ≡ rules_read c.items.result.now c.items-2.result.now)
    (λ (planned : PlannedTexts). (old : Program) → IsRewriting old program → map rule_of planned.rules ≡ rules_of old.statements)
    (λ planned is old rewriting. is ∙ (λ i. rules_read (c.items.ensures i) (c.items-2.ensures i)) ∙ same_rules program old rewriting)
    c.planned_statements.ensures.rules
