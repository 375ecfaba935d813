-- The printed text of statements, as a user would write them: brackets stand where an operand needs them and nowhere else.
use Rattle.std.specs.Prelude.{ℕ, zero, suc, ◌-◌, ℤ, pos, negsuc, Bool, true, false, ◌||◌, ◌==◌, nat_le, if◌then◌else◌, List, [], ◌∷◌, ◌++◌, map, length, codes, decimal, Option, Some, None, slice_get}
use Rattle.std.specs.Fmt.{signed_decimal}
use Rattle.symbols.specs.Text.{quoted, closing}
use Rattle.symbols.specs.declared.rel.Rel.{Rel}
use Rattle.symbols.specs.declared.rel.Rel.TheVariants as rel
use Rattle.syntax_tree.specs.declared.term.Op.{Op}
use Rattle.syntax_tree.specs.declared.term.Op.TheVariants as op
use Rattle.syntax_tree.specs.declared.term.Term.{Term}
use Rattle.syntax_tree.specs.declared.term.Term.TheOpen.{Term-F, Part-F}
use Rattle.syntax_tree.specs.declared.term.Term.TheFolds.{fold-Term, fold-Part}
use Rattle.syntax_tree.specs.declared.term.Part.{Part}
use Rattle.syntax_tree.specs.declared.literal.Guard.{Guard}
use Rattle.syntax_tree.specs.declared.literal.Literal.{Literal}
use Rattle.syntax_tree.specs.declared.literal.Literal.TheOpen.{Literal-F, TheoryAtom-F, TheoryElement-F}
use Rattle.syntax_tree.specs.declared.literal.Literal.TheFolds.{fold-Literal, fold-TheoryAtom, fold-TheoryElement}
use Rattle.syntax_tree.specs.declared.literal.TheoryAtom.{TheoryAtom}
use Rattle.syntax_tree.specs.declared.literal.TheoryElement.{TheoryElement}
use Rattle.syntax_tree.specs.declared.literal.TheoryName.{TheoryName}
use Rattle.syntax_tree.specs.declared.literal.TheoryName.TheVariants as theory
use Rattle.syntax_tree.specs.declared.rule.Choice.{Choice}
use Rattle.syntax_tree.specs.declared.rule.ChoiceElement.{ChoiceElement}
use Rattle.syntax_tree.specs.declared.rule.Head.{Head}
use Rattle.syntax_tree.specs.declared.rule.Head.TheVariants as head
use Rattle.syntax_tree.specs.declared.rule.Name.{Name}
use Rattle.syntax_tree.specs.declared.rule.Rule.{Rule}
use Rattle.syntax_tree.specs.declared.statement.Statement.{Statement}
use Rattle.syntax_tree.specs.declared.statement.Statement.TheVariants as statement
use Rattle.syntax_tree.specs.declared.term_text.Joining.{Joining}
use Rattle.syntax_tree.specs.declared.term_text.Joining.TheVariants.{Operand, Product, Sum, Interval}

-- texts, each behind the same mark
abbrev pub each_behind : List ℕ → List (List ℕ) → List ℕ
each_behind mark [] = []
each_behind mark (text ∷ texts) = mark ++ text ++ each_behind mark texts

-- texts with a mark between them
abbrev pub parted : List ℕ → List (List ℕ) → List ℕ
parted mark [] = []
parted mark (text ∷ texts) = text ++ each_behind mark texts

-- ---- terms

-- how loosely what the text holds is joined: an operand is tight, and an interval loosest
abbrev pub looseness : Joining → ℕ
looseness Operand = 0
looseness Product = 1
looseness Sum = 2
looseness Interval = 3

-- the text of a term, and how it is joined
pub record Written : Type 0 where
  pub text : List ℕ
  pub joining : Joining

abbrev pub texts : List Written → List (List ℕ)
texts terms = map (λ term. term.text) terms

-- the text of a term in a place where nothing looser may stand: in brackets where it is looser
abbrev pub within : Joining → Written → List ℕ
within limit term = (if nat_le (looseness term.joining) (looseness limit) then term.text else codes "(" ++ term.text ++ codes ")")

abbrev pub op_text : Op → List ℕ
op_text op.Plus = codes "+"
op_text op.Minus = codes "-"
op_text op.Times = codes "*"
op_text op.Divide = codes "/"
op_text op.Remainder = codes "\\"

-- the least number, which has no digits of its own behind a sign
abbrev pub is_least : ℤ → Bool
is_least (pos n) = false
is_least (negsuc n) = n == 2147483647

-- a number in decimal; a text has no number below 0, so it reads back as a sign and a number, and the least number as a difference
abbrev pub number_written : ℤ → Written
number_written n =
    (if is_least n then record { text = codes "-2147483647-1"; joining = Sum } else record { text = signed_decimal n; joining = Operand })

abbrev pub name_text : Option Name → List ℕ
name_text None = codes "_"
name_text (Some name) = name.text

-- the name of a variable by its number, from 1; `_` where there is none
abbrev pub variable_text : List Name → ℕ → List ℕ
variable_text names number = (if number == 0 then codes "_" else name_text (slice_get names (number - 1)))

-- a name before its arguments in parentheses, or a tuple where the name is empty
abbrev pub nested_text : List ℕ → List (List ℕ) → List ℕ
nested_text name args = name ++ codes "(" ++ parted (codes ",") args ++ closing name (length args)

-- a name alone has no parentheses
abbrev pub function_text : List ℕ → List (List ℕ) → List ℕ
function_text name [] = name
function_text name (arg ∷ args) = nested_text name (arg ∷ args)

-- further parts of a sum or a product, each behind its sign
abbrev pub further_text : Joining → List (Op × Written) → List ℕ
further_text limit [] = []
further_text limit (part ∷ parts) = op_text part.0 ++ within limit part.1 ++ further_text limit parts

-- a sum or a product; the sign of the first part is not written
abbrev pub parts_text : Joining → List (Op × Written) → List ℕ
parts_text limit [] = []
parts_text limit (part ∷ parts) = within limit part.1 ++ further_text limit parts

-- one layer of a term, where its parts are written
abbrev pub term_step : List Name → Term-F Written (Op × Written) → Written
term_step names (Term-F.Number n) = number_written n
term_step names (Term-F.Text text) = record { text = codes "\"" ++ quoted text ++ codes "\""; joining = Operand }
term_step names (Term-F.Variable n) = record { text = variable_text names n; joining = Operand }
term_step names Term-F.Anonymous = record { text = codes "_"; joining = Operand }
term_step names (Term-F.Function name args) = record { text = function_text name (texts args); joining = Operand }
term_step names (Term-F.Tuple args) = record { text = nested_text [] (texts args); joining = Operand }
term_step names (Term-F.Sum parts) = record { text = parts_text Product parts; joining = Sum }
term_step names (Term-F.Product parts) = record { text = parts_text Operand parts; joining = Product }
term_step names (Term-F.Minus inner) = record { text = codes "-" ++ within Operand inner; joining = Operand }
term_step names (Term-F.Interval left right) = record { text = within Sum left ++ codes ".." ++ within Sum right; joining = Interval }

-- a part with its sign
abbrev pub part_step : Part-F Written (Op × Written) → Op × Written
part_step part = (part.op, part.term)

-- a term, where these are the names of the variables
abbrev pub written : List Name → Term → Written
written names = fold-Term Written (Op × Written) (term_step names) part_step

abbrev pub part_written : List Name → Part → Op × Written
part_written names = fold-Part Written (Op × Written) (term_step names) part_step

abbrev pub term_text : List Name → Term → List ℕ
term_text names term = (written names term).text

-- ---- literals and theory atoms

-- a relation, with a blank on each side
abbrev pub rel_text : Rel → List ℕ
rel_text rel.Equal = codes " = "
rel_text rel.NotEqual = codes " != "
rel_text rel.Less = codes " < "
rel_text rel.LessEqual = codes " <= "
rel_text rel.Greater = codes " > "
rel_text rel.GreaterEqual = codes " >= "

abbrev pub not_text : Bool → List ℕ
not_text true = []
not_text false = codes "not "

abbrev pub theory_name_text : TheoryName → List ℕ
theory_name_text theory.Sum = codes "sum"
theory_name_text theory.Diff = codes "diff"
theory_name_text theory.Distinct = codes "distinct"
theory_name_text theory.Disjoint = codes "disjoint"
theory_name_text theory.Dom = codes "dom"
theory_name_text theory.Minimize = codes "minimize"
theory_name_text theory.Maximize = codes "maximize"
theory_name_text theory.Show = codes "show"
theory_name_text theory.Unknown = codes "unknown"

-- literals with commas between them
abbrev pub literals_text : List (List ℕ) → List ℕ
literals_text literals = parted (codes ", ") literals

-- a condition behind its colon, where there is one
abbrev pub condition_text : List (List ℕ) → List ℕ
condition_text [] = []
condition_text (literal ∷ literals) = codes " : " ++ literals_text (literal ∷ literals)

module _ (names : List Name) where
  -- what stands to the right of braces
  abbrev pub right_text : Option Guard → List ℕ
  right_text None = []
  right_text (Some guard) = rel_text guard.rel ++ term_text names guard.right

  -- what stands to the left of braces
  abbrev pub left_text : Option Guard → List ℕ
  left_text None = []
  left_text (Some guard) = term_text names guard.right ++ rel_text guard.rel

  abbrev pub duration_text : Option Term → List ℕ
  duration_text None = []
  duration_text (Some term) = codes "@" ++ term_text names term

  -- one layer of a literal, where its parts are written
  abbrev pub literal_step : Literal-F (List ℕ) (List ℕ) (List ℕ) → List ℕ
  literal_step (Literal-F.Atom atom sign) = not_text sign ++ term_text names atom
  literal_step (Literal-F.Compare left r right) = term_text names left ++ rel_text r ++ term_text names right
  literal_step (Literal-F.Theory atom sign) = not_text sign ++ atom

  abbrev pub theory_step : TheoryAtom-F (List ℕ) (List ℕ) (List ℕ) → List ℕ
  theory_step atom = codes "&" ++ theory_name_text atom.name ++ codes "{" ++ parted (codes ";") atom.elements ++ codes "}" ++ right_text atom.guard

  abbrev pub element_step : TheoryElement-F (List ℕ) (List ℕ) (List ℕ) → List ℕ
  element_step element =
      term_text names element.first ++ duration_text element.duration ++ each_behind (codes ",") (map (term_text names) element.rest) ++ condition_text element.condition

  abbrev pub literal_text : Literal → List ℕ
  literal_text = fold-Literal (List ℕ) (List ℕ) (List ℕ) literal_step theory_step element_step

  abbrev pub theory_text : TheoryAtom → List ℕ
  theory_text = fold-TheoryAtom (List ℕ) (List ℕ) (List ℕ) literal_step theory_step element_step

  abbrev pub element_text : TheoryElement → List ℕ
  element_text = fold-TheoryElement (List ℕ) (List ℕ) (List ℕ) literal_step theory_step element_step

  -- ---- heads
  abbrev pub chosen_text : ChoiceElement → List ℕ
  chosen_text element = term_text names element.atom ++ condition_text (map literal_text element.condition)

  abbrev pub choice_text : Choice → List ℕ
  choice_text choice = left_text choice.left ++ codes "{" ++ parted (codes "; ") (map chosen_text choice.elements) ++ codes "}" ++ right_text choice.right

  abbrev pub head_text : Head → List ℕ
  head_text head.Nothing = []
  head_text (head.Atom atom) = term_text names atom
  head_text (head.Theory atom) = theory_text atom
  head_text (head.Choice choice) = choice_text choice

-- ---- statements

abbrev pub behind_head : Bool → List ℕ
behind_head true = codes " :- "
behind_head false = []

-- `:-` where it is written, and where there is no head
abbrev pub arrow_text : Head → Bool → List ℕ
arrow_text head.Nothing arrow = codes ":- "
arrow_text (head.Atom atom) arrow = behind_head arrow
arrow_text (head.Theory atom) arrow = behind_head arrow
arrow_text (head.Choice choice) arrow = behind_head arrow

abbrev pub rule_text : Rule → List ℕ
rule_text rule = head_text rule.names rule.head ++ arrow_text rule.head rule.arrow ++ literals_text (map (literal_text rule.names) rule.body) ++ codes "."

abbrev pub statement_text : Statement → List ℕ
statement_text (statement.Rule rule) = rule_text rule
statement_text (statement.Constant name term place) = codes "#const " ++ name ++ codes " = " ++ term_text [] term ++ codes "."
statement_text statement.ShowNothing = codes "#show."
statement_text (statement.Show name arity) = codes "#show " ++ name ++ codes "/" ++ decimal arity ++ codes "."
