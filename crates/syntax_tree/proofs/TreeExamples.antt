-- The rules on trees, computed on small ones, where `a` and `X` are names.
use Rattle.std.proofs.Common.{◌≡◌, ℕ, true, false, pos, List, [], ◌∷◌, Some, None, refl}
use Rattle.std.specs.Str.{is_utf8}
use Rattle.symbols.specs.declared.rel.Rel.TheVariants as r
use Rattle.syntax_tree.specs.declared.term.Op.{Op}
use Rattle.syntax_tree.specs.declared.term.Op.TheVariants as op
use Rattle.syntax_tree.specs.declared.term.Term.{Term}
use Rattle.syntax_tree.specs.declared.term.Term.TheVariants as t
use Rattle.syntax_tree.specs.declared.term.Part.{Part}
use Rattle.syntax_tree.specs.declared.literal.Literal.{Literal}
use Rattle.syntax_tree.specs.declared.literal.Literal.TheVariants as l
use Rattle.syntax_tree.specs.declared.literal.Literal.TheViews.{roll-TheoryAtom, out-roll-TheoryAtom, roll-TheoryElement, out-roll-TheoryElement}
use Rattle.syntax_tree.specs.declared.literal.TheoryName.TheVariants as n
use Rattle.syntax_tree.specs.declared.literal.TheoryElement.{TheoryElement}
use Rattle.syntax_tree.specs.declared.rule.Head.{Head}
use Rattle.syntax_tree.specs.declared.rule.Head.TheVariants as h
use Rattle.syntax_tree.specs.declared.rule.Rule.{Rule}
use Rattle.syntax_tree.specs.declared.statement.Statement.TheVariants as s
use Rattle.syntax_tree.specs.Tree.{is_name, is_term}
use Rattle.syntax_tree.specs.Literals.{is_literal}
use Rattle.syntax_tree.specs.Statements.{is_rule, is_statement, is_program}
use Rattle.syntax_tree.proofs.TreeRules.{number_rules, text_rules, variable_rules, function_rules, tuple_rules, sum_rules, product_rules, minus_rules, one_part, atom_rules, comparison_rules, theory_literal_rules, theory_atom_rules, theory_element_rules}

ruleset rules_on_trees = (
  number_rules,
  text_rules,
  variable_rules,
  function_rules,
  tuple_rules,
  sum_rules,
  product_rules,
  minus_rules,
  one_part,
  atom_rules,
  comparison_rules,
  theory_literal_rules,
  theory_atom_rules,
  theory_element_rules,
  out-roll-TheoryAtom,
  out-roll-TheoryElement,
)

abbrev part : Op → Term → Part
part sign term = record { op = sign; term = term }

abbrev one : Term
one = t.Number (pos 1)

-- a name alone
abbrev named : List ℕ → Term
named name = t.Function name []

-- 1-X
difference : is_term (t.Sum (part op.Plus one ∷ part op.Minus (t.Variable 1) ∷ [])) ≡ true
difference = simp rules_on_trees refl

-- a sum does not begin with a minus, holds no product's part, and is not empty
begins_with_minus : is_term (t.Sum (part op.Minus one ∷ part op.Plus one ∷ [])) ≡ false
begins_with_minus = simp rules_on_trees refl

mixed : is_term (t.Sum (part op.Plus one ∷ part op.Times one ∷ [])) ≡ false
mixed = simp rules_on_trees refl

no_part : is_term (t.Product []) ≡ false
no_part = simp rules_on_trees refl

-- `()` is a term, and a function without a name is none, nor is one with such an argument
unit : is_term (t.Tuple []) ≡ true
unit = simp rules_on_trees refl

no_name : is_term (named []) ≡ false
no_name = simp rules_on_trees refl

no_name_inside : (a : List ℕ) → is_name a ≡ true → is_term (t.Function a (one ∷ named [] ∷ [])) ≡ false
no_name_inside a is = simp rules_on_trees (rw is refl)

-- a string is UTF-8
no_text : (text : List ℕ) → is_utf8 text ≡ false → is_term (t.Minus (t.Text text)) ≡ false
no_text text not_utf8 = simp rules_on_trees not_utf8

-- an element of a theory atom with one further place and a condition
abbrev element : Term → Literal → TheoryElement
element place condition = roll-TheoryElement (record { first = one; duration = None; rest = place ∷ []; condition = condition ∷ [] })

-- &sum { 1,place : condition } <= right
abbrev sum_of : Term → Literal → Term → Literal
sum_of place condition right =
    l.Theory (roll-TheoryAtom (record { name = n.Sum; elements = element place condition ∷ []; guard = Some (record { rel = r.LessEqual; right = right }) })) true

theory : (a : List ℕ) → is_name a ≡ true → is_literal (sum_of one (l.Atom (named a) false) one) ≡ true
theory a is = simp rules_on_trees (rw is refl)

bad_place : (a : List ℕ) → is_literal (sum_of (named []) (l.Atom (named a) false) one) ≡ false
bad_place a = simp rules_on_trees refl

bad_condition : is_literal (sum_of one (l.Compare one r.Less (named [])) one) ≡ false
bad_condition = simp rules_on_trees refl

bad_guard : (a : List ℕ) → is_name a ≡ true → is_literal (sum_of one (l.Atom (named a) false) (named [])) ≡ false
bad_guard a is = simp rules_on_trees (rw is refl)

-- a rule with this head, this body and one named variable
abbrev rule : Head → List Literal → List ℕ → Rule
rule head body name = record { head = head; body = body; arrow = true; names = record { text = name } ∷ []; places = 0 ∷ [] }

-- { atom : condition } <= right
abbrev chosen : Term → Literal → Term → Head
chosen atom condition right =
    h.Choice (record {
      left = None;
      elements = record { atom = atom; condition = condition ∷ [] } ∷ [];
      right = Some (record { rel = r.LessEqual; right = right });
    })

choice : (a x : List ℕ) → is_name a ≡ true → is_name x ≡ true → is_rule (rule (chosen (named a) (l.Atom (named a) true) one) (l.Atom (named a) false ∷ []) x) ≡ true
choice a x is named_x = simp rules_on_trees (rw (is, named_x) refl)

bad_element : (x : List ℕ) → is_rule (rule (chosen (named []) (l.Atom one true) one) [] x) ≡ false
bad_element x = simp rules_on_trees refl

bad_element_condition : (x : List ℕ) → is_rule (rule (chosen one (l.Atom (named []) true) one) [] x) ≡ false
bad_element_condition x = simp rules_on_trees refl

bad_bound : (x : List ℕ) → is_rule (rule (chosen one (l.Atom one true) (t.Sum [])) [] x) ≡ false
bad_bound x = simp rules_on_trees refl

bad_head : (x : List ℕ) → is_rule (rule (h.Atom (named [])) [] x) ≡ false
bad_head x = simp rules_on_trees refl

bad_body : (x : List ℕ) → is_rule (rule h.Nothing (l.Atom one true ∷ l.Atom (named []) true ∷ []) x) ≡ false
bad_body x = simp rules_on_trees refl

unnamed_variable : is_rule (rule h.Nothing [] []) ≡ false
unnamed_variable = refl

constant : (a : List ℕ) → is_name a ≡ true → is_statement (s.Constant a one 7) ≡ true
constant a is = simp rules_on_trees (rw is refl)

unnamed_constant : is_statement (s.Constant [] one 7) ≡ false
unnamed_constant = refl

bad_value : (a : List ℕ) → is_name a ≡ true → is_statement (s.Constant a (named []) 7) ≡ false
bad_value a is = simp rules_on_trees (rw is refl)

unnamed_predicate : is_statement (s.Show [] 2) ≡ false
unnamed_predicate = refl

-- each statement has the number of its text
no_file : is_program (record { statements = s.ShowNothing ∷ []; files = [] }) ≡ false
no_file = refl
