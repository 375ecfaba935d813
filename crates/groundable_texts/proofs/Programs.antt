-- The rules of the texts' program can be grounded.
use Rattle.std.proofs.Common.{◌≡◌, ℕ, true, ◌==◌, List, [], ◌∷◌, map, length, inl, inr, refl, sym, subst}
use Rattle.std.specs.List.{AllByRecursion, AllZip, list_all}
use Rattle.syntax_tree.specs.declared.rule.Rule.{Rule}
use Rattle.syntax_tree.specs.declared.statement.Statement.{Statement}
use Rattle.syntax_tree.specs.declared.statement.Statement.TheVariants as statement
use Rattle.syntax_tree.specs.declared.statement.Program.{Program}
use Rattle.syntax_tree.specs.Statements.{is_rule, is_statement, is_program}
use Rattle.ground_model.specs.Members.{IsMember}
use Rattle.ground_model.proofs.Bools.{and_elim}
use Rattle.inputs.specs.Texts.{IsProgram}
use Rattle.rewriting.specs.Rewritten.{rewritten, rewritten_statement}
use Rattle.rewriting.specs.Order.{order_of, order_of_statement}
use Rattle.safety_meaning.specs.Program.{written_rules, rules_of}
use Rattle.safety_meaning.specs.Failures.{HasNoUnsafe, AreFine}
use Rattle.groundable_rules.specs.Groundable.{IsGroundable}
use Rattle.checked_rules.specs.Checked.{IsCheckedRule}
use Rattle.checked_rules.proofs.Rules.{rewritten_law}
use Rattle.checked_rules.proofs.Listing.{groundable_law}
use Rattle.groundable_texts.specs.Statements.{IsGroundableRule, IsGroundableStatement}
use Rattle.groundable_texts.specs.Laws.{RulesLaw, StatementsLaw}
use Rattle.groundable_texts.proofs.Statements.{IsCheckedStatement, statements_checked}

-- no rule of the statements is unsafe
abbrev AreSafe : List Statement → Type 0
AreSafe statements = (rule : Rule) → IsMember (written_rules statements) rule → HasNoUnsafe rule

rest_safe : (next : Statement) (rest : List Statement) → AreSafe (next ∷ rest) → AreSafe rest
rest_safe (statement.Rule one) rest safe rule m = safe rule (inr m)
rest_safe (statement.Constant name term place) rest safe rule m = safe rule m
rest_safe statement.ShowNothing rest safe rule m = safe rule m
rest_safe (statement.Show name arity) rest safe rule m = safe rule m

rule_groundable : (rule : Rule) → is_rule rule ≡ true → IsCheckedRule rule → HasNoUnsafe rule → IsGroundableRule (rewritten rule) (order_of rule)
rule_groundable rule tree checked safe = record { tree = (rewritten_law rule tree checked.checked).0; groundable = groundable_law rule tree checked safe }

one_groundable : (next : Statement) (rest : List Statement) → is_statement next ≡ true → IsCheckedStatement next → AreSafe (next ∷ rest)
    → IsGroundableStatement (rewritten_statement next) (order_of_statement next)
one_groundable (statement.Rule rule) rest tree checked safe = rule_groundable rule tree checked.0 (safe rule (inl refl))
one_groundable (statement.Constant name term place) rest tree checked safe = tt
one_groundable statement.ShowNothing rest tree checked safe = tt
one_groundable (statement.Show name arity) rest tree checked safe = tt

statements_groundable : (statements : List Statement) → list_all is_statement statements ≡ true → AllByRecursion IsCheckedStatement statements → AreSafe statements
    → AllZip IsGroundableStatement (map rewritten_statement statements) (map order_of_statement statements)
statements_groundable [] trees checked safe = tt
statements_groundable (next ∷ rest) trees checked safe =
    let p = and_elim (is_statement next) (list_all is_statement rest) trees in
    (one_groundable next rest p.0 checked.0 safe, statements_groundable rest p.1 checked.1 (rest_safe next rest safe))

rules_groundable : (statements : List Statement) → AllZip IsGroundableStatement (map rewritten_statement statements) (map order_of_statement statements) → AllByRecursion IsGroundable (rules_of statements)
rules_groundable [] all = tt
rules_groundable (statement.Rule rule ∷ rest) all = (all.0.groundable, rules_groundable rest all.1)
rules_groundable (statement.Constant name term place ∷ rest) all = rules_groundable rest all.1
rules_groundable (statement.ShowNothing ∷ rest) all = rules_groundable rest all.1
rules_groundable (statement.Show name arity ∷ rest) all = rules_groundable rest all.1

program_groundable : (texts : List (List ℕ)) (program : Program) → IsProgram texts program → is_program program ≡ true → AreFine program.statements
    → AllZip IsGroundableStatement (map rewritten_statement program.statements) (map order_of_statement program.statements)
program_groundable texts program is tree fine =
    statements_groundable program.statements (and_elim (list_all is_statement program.statements) (length program.files == length program.statements) tree).0 (statements_checked texts program is)
    (λ rule m. (fine rule m).safe)

pub rules_law : RulesLaw
rules_law texts program is tree fine = rules_groundable program.statements (program_groundable texts program is tree fine)

pub statements_law : StatementsLaw
statements_law texts program made is tree fine rewriting =
    subst (λ (s : List Statement). AllZip IsGroundableStatement s made.orders) (sym rewriting.statements)
    (subst (λ (o : List (List ℕ)). AllZip IsGroundableStatement (map rewritten_statement program.statements) o) (sym rewriting.orders) (program_groundable texts program is tree fine))
