-- The variables of a rule in the order in which they first occur in its text, and what has a place there.
use Rattle.std.specs.Prelude.{ℕ, ◌==◌, Bool, false, if◌then◌else◌, List, [], ◌∷◌, filter_map, Option, None, Some}
use Rattle.std.specs.List.{list_any}
use Rattle.syntax_tree.specs.declared.rule.Rule.{Rule}
use Rattle.syntax_tree.specs.declared.statement.Statement.{Statement}
use Rattle.syntax_tree.specs.declared.statement.Statement.TheVariants as statement
use Rattle.rewriting.specs.declared.sight.Sight.{Sight}
use Rattle.rewriting.specs.declared.sight.Sight.TheVariants.{Variable, Anonymous, Interval, Atom}
use Rattle.rewriting.specs.Rewritten.{parts_made}

-- what is seen in a rule, in the order of its text
abbrev pub sights_of : Rule → List Sight
sights_of rule = (parts_made rule).sights

-- the variable that is seen: a named one, or that of a `_` or of an interval
abbrev pub variable_in : Sight → Option ℕ
variable_in (Variable n) = Some n
variable_in (Anonymous n) = Some n
variable_in (Interval n) = Some n
variable_in Atom = None

-- each number where it first stands, but for those that stood before
abbrev pub firsts : List ℕ → List ℕ → List ℕ
firsts before [] = []
firsts before (n ∷ rest) = (if list_any (λ m. m == n) before then firsts before rest else n ∷ firsts (n ∷ before) rest)

-- the variables that are seen, in the order in which they first are
abbrev pub order_in : List Sight → List ℕ
order_in sights = firsts [] (filter_map variable_in sights)

-- all variables of a rule, in the order in which they first occur in its text
abbrev pub order_of : Rule → List ℕ
order_of rule = order_in (sights_of rule)

-- those of a statement, which has none where it is no rule
abbrev pub order_of_statement : Statement → List ℕ
order_of_statement (statement.Rule rule) = order_of rule
order_of_statement statement = []

abbrev pub sights_of_statement : Statement → List Sight
sights_of_statement (statement.Rule rule) = sights_of rule
sights_of_statement statement = []

-- the variable was made for an interval
abbrev pub is_interval_sight : ℕ → Sight → Bool
is_interval_sight n (Interval m) = m == n
is_interval_sight n sight = false

abbrev pub is_interval_variable : Rule → ℕ → Bool
is_interval_variable rule n = list_any (is_interval_sight n) (sights_of rule)
