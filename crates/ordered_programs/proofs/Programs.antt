-- Statements rewritten and put in order.
use Rattle.std.proofs.Common.{◌≡◌, ℕ, List, [], ◌∷◌, map, refl, sym, ◌∙◌, ap, subst}
use Rattle.std.specs.List.{AllByRecursion, AllZip}
use Rattle.syntax_tree.specs.declared.rule.Rule.{Rule}
use Rattle.syntax_tree.specs.declared.statement.Statement.{Statement}
use Rattle.syntax_tree.specs.declared.statement.Statement.TheVariants as s
use Rattle.program_meaning.specs.Read.{ReadRule, rules_read}
use Rattle.rewriting.specs.Rewritten.{rewritten, rewritten_statement}
use Rattle.rewriting.specs.Order.{order_of_statement}
use Rattle.groundable_rules.specs.Groundable.{IsGroundable}
use Rattle.safety_meaning.specs.Program.{rule_in, rules_of}
use Rattle.safety_meaning.specs.Ordered.{IsOrderedRule}
use Rattle.safety_meaning.specs.Reordered.{IsReordered}
use Rattle.safety_meaning.proofs.Sameness.{ordered_law as same_law}
use Rattle.ordered_bodies.specs.Programs.{IsGroundableIn, AreOrderedIn}
use Rattle.ordered_programs.specs.Laws.{FitLaw, OrderedLaw, ReorderedLaw}

fit : (statements : List Statement) → AllByRecursion IsGroundable (rules_of statements) → AllZip IsGroundableIn (map rewritten_statement statements) (map order_of_statement statements)
fit [] all = tt
fit (s.Rule rule ∷ statements) all = (all.0, fit statements all.1)
fit (s.Constant name term place ∷ statements) all = (tt, fit statements all)
fit (s.ShowNothing ∷ statements) all = (tt, fit statements all)
fit (s.Show name arity ∷ statements) all = (tt, fit statements all)

pub fit_law : FitLaw
fit_law old program rewriting all =
    subst (λ z. AllZip IsGroundableIn z program.orders) (sym rewriting.statements) (subst (λ z. AllZip IsGroundableIn (map rewritten_statement old.statements) z) (sym rewriting.orders) (fit old.statements all))

-- a rule is no other statement
no_rule : (rule : Rule) (other : Statement) → rule_in other ≡ [] → s.Rule rule ≡ other → ⊥
no_rule rule other none e = let h : rule ∷ [] ≡ [] = ap rule_in e ∙ none in absurd cc

-- the rules in order
abbrev InOrder : List Statement → List Statement → List (List ℕ) → Type 0
InOrder statements others orders = AllZip IsOrderedRule (rules_of statements) (rules_read others orders)

ordered : (statements others : List Statement) → AreOrderedIn (map rewritten_statement statements) (map order_of_statement statements) others
    → InOrder statements others (map order_of_statement statements)
ordered [] [] all = tt
ordered [] (other ∷ others) all = absurd all
ordered (s.Rule rule ∷ statements) [] all = absurd all
ordered (s.Rule rule ∷ statements) (s.Rule done ∷ others) all = (all.0, ordered statements others all.1)
ordered (s.Rule rule ∷ statements) (s.Constant name term place ∷ others) all = absurd (no_rule (rewritten rule) (s.Constant name term place) refl all.0)
ordered (s.Rule rule ∷ statements) (s.ShowNothing ∷ others) all = absurd (no_rule (rewritten rule) s.ShowNothing refl all.0)
ordered (s.Rule rule ∷ statements) (s.Show name arity ∷ others) all = absurd (no_rule (rewritten rule) (s.Show name arity) refl all.0)
ordered (s.Constant name term place ∷ statements) [] all = absurd all
ordered (s.Constant name term place ∷ statements) (other ∷ others) all =
    subst (λ z. InOrder statements (z ∷ others) ([] ∷ map order_of_statement statements)) all.0 (ordered statements others all.1)
ordered (s.ShowNothing ∷ statements) [] all = absurd all
ordered (s.ShowNothing ∷ statements) (other ∷ others) all =
    subst (λ z. InOrder statements (z ∷ others) ([] ∷ map order_of_statement statements)) all.0 (ordered statements others all.1)
ordered (s.Show name arity ∷ statements) [] all = absurd all
ordered (s.Show name arity ∷ statements) (other ∷ others) all =
    subst (λ z. InOrder statements (z ∷ others) ([] ∷ map order_of_statement statements)) all.0 (ordered statements others all.1)

pub ordered_law : OrderedLaw
ordered_law old program done rewriting order =
    subst (λ z. InOrder old.statements done.program.statements z) (sym (order.orders ∙ rewriting.orders))
    (ordered old.statements done.program.statements
    (subst (λ z. AreOrderedIn z (map order_of_statement old.statements) done.program.statements) rewriting.statements
    (subst (λ z. AreOrderedIn program.program.statements z done.program.statements) rewriting.orders order.statements)))

alike : (rules others : List ReadRule) → AllZip IsOrderedRule rules others → AllZip IsReordered rules others
alike [] [] all = tt
alike [] (other ∷ others) all = absurd all
alike (rule ∷ rules) [] all = absurd all
alike (rule ∷ rules) (other ∷ others) all = (same_law rule other all.0, alike rules others all.1)

pub reordered_law : ReorderedLaw
reordered_law old program done rewriting order = alike (rules_of old.statements) (rules_read done.program.statements done.orders) (ordered_law old program done rewriting order)
