-- Statements whose rules pass the checks.
use Rattle.std.proofs.Common.{ℕ, List, [], ◌∷◌, map, sym, subst}
use Rattle.std.specs.List.{AllByRecursion}
use Rattle.syntax_tree.specs.declared.statement.Statement.{Statement}
use Rattle.syntax_tree.specs.declared.statement.Statement.TheVariants as statement
use Rattle.syntax_tree.specs.declared.statement.Program.{Program}
use Rattle.ground_model.proofs.OrderedLemmas.{property_append, property_front, property_back}
use Rattle.asp_parser.specs.Replacement.{Constants, replaced_statement}
use Rattle.inputs.specs.Texts.{AreStatements, joined, IsProgram}
use Rattle.safety_meaning.specs.Program.{rule_in, written_rules}
use Rattle.checked_rules.specs.Checked.{IsCheckedRule}
use Rattle.replaced_rules.proofs.Rules.{replaced_law}
use Rattle.parsed_rules.proofs.Rules.{parsed_law}

-- the statement passes the checks where it is a rule
abbrev pub IsCheckedStatement : Statement → Type 0
IsCheckedStatement next = AllByRecursion IsCheckedRule (rule_in next)

by_statement : (statements : List Statement) → AllByRecursion IsCheckedRule (written_rules statements) → AllByRecursion IsCheckedStatement statements
by_statement [] all = tt
by_statement (next ∷ rest) all =
    (property_front IsCheckedRule (rule_in next) (written_rules rest) all, by_statement rest (property_back IsCheckedRule (rule_in next) (written_rules rest) all))

all_parsed : (texts : List (List ℕ)) (parsed : List (List Statement)) → AreStatements texts parsed → AllByRecursion IsCheckedStatement (joined parsed)
all_parsed [] [] are = tt
all_parsed [] (one ∷ rest) are = absurd are
all_parsed (text ∷ texts) [] are = absurd are
all_parsed (text ∷ texts) (one ∷ rest) are =
    property_append IsCheckedStatement one (joined rest) (by_statement one (parsed_law text one are.0)) (all_parsed texts rest are.1)

one_replaced : (constants : Constants) (next : Statement) → IsCheckedStatement next → IsCheckedStatement (replaced_statement constants next)
one_replaced constants (statement.Rule rule) c = (replaced_law constants rule c.0, tt)
one_replaced constants (statement.Constant name term place) c = tt
one_replaced constants statement.ShowNothing c = tt
one_replaced constants (statement.Show name arity) c = tt

all_replaced : (constants : Constants) (statements : List Statement) → AllByRecursion IsCheckedStatement statements → AllByRecursion IsCheckedStatement (map (replaced_statement constants) statements)
all_replaced constants [] all = tt
all_replaced constants (next ∷ rest) all = (one_replaced constants next all.0, all_replaced constants rest all.1)

-- the statements of the texts' program pass the checks
pub statements_checked : (texts : List (List ℕ)) (program : Program) → IsProgram texts program → AllByRecursion IsCheckedStatement program.statements
statements_checked texts program is =
    subst (λ (s : List Statement). AllByRecursion IsCheckedStatement s) (sym is.replaced.statements)
    (all_replaced is.replaced.constants is.written.statements
    (subst (λ (s : List Statement). AllByRecursion IsCheckedStatement s) (sym is.has.statements) (all_parsed texts is.has.parsed is.has.are)))
