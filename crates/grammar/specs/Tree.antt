-- The tree that a form stands for, where these are the names of the variables.
use Rattle.std.specs.Prelude.{ℕ, zero, suc, ◌+◌, pos, if◌then◌else◌, bytes_eq, List, [], ◌∷◌, map}
use Rattle.syntax_tree.specs.declared.rule.Name.{Name}
use Rattle.syntax_tree.specs.declared.term.Op.{Op}
use Rattle.syntax_tree.specs.declared.term.Op.TheVariants as op
use Rattle.syntax_tree.specs.declared.term.Part.{Part}
use Rattle.syntax_tree.specs.declared.term.Term.{Term}
use Rattle.syntax_tree.specs.declared.term.Term.TheVariants as t
use Rattle.grammar.specs.Term.{Adding, plus, minus, Multiplying, times, divide, remainder, ProductOf, SumOf, TermOf, ArgsOf, AtomOf, UnaryOf, Operand, alone, interval, plain, applied, negated, number, text, variable, anonymous, atom, unit, group, single, tuple}

-- the number of a name, counted from one more than the first number; 0 where it is not among them
abbrev pub number_behind : ℕ → List Name → List ℕ → ℕ
number_behind before [] name = 0
number_behind before (other ∷ names) name = (if bytes_eq other.text name then before + 1 else number_behind (before + 1) names name)

-- the number of a variable: the place of its name, from 1
abbrev pub number_of : List Name → List ℕ → ℕ
number_of names name = number_behind 0 names name

abbrev pub adding_op : Adding → Op
adding_op plus = op.Plus
adding_op minus = op.Minus

abbrev pub multiplying_op : Multiplying → Op
multiplying_op times = op.Times
multiplying_op divide = op.Divide
multiplying_op remainder = op.Remainder

abbrev pub part_of : Op → Term → Part
part_of sign term = record { op = sign; term = term }

-- one item stands for itself; several are one list of parts
abbrev pub parts_tree : {S I : Type 0} → (List Part → Term) → Op → (S → Op) → (I → Term) → I → List (S × I) → Term
parts_tree whole first sign item x [] = item x
parts_tree whole first sign item x (part ∷ parts) = whole (part_of first (item x) ∷ map (λ p. part_of (sign p.0) (item p.1)) (part ∷ parts))

module _ {U : Type 0} (operand : U → Term) where
  abbrev pub product_tree : ProductOf U → Term
  product_tree row = parts_tree t.Product op.Times multiplying_op operand row.first row.rest

  abbrev pub sum_tree : SumOf U → Term
  sum_tree row = parts_tree t.Sum op.Plus adding_op product_tree row.first row.rest

  abbrev pub term_tree : TermOf U → Term
  term_tree (alone sum) = sum_tree sum
  term_tree (interval left right) = t.Interval (sum_tree left) (sum_tree right)

  abbrev pub args_trees : ArgsOf U → List Term
  args_trees args = term_tree args.first ∷ map (λ p. term_tree p.1) args.rest

abbrev pub atom_tree : {D : Type 0} → (D → Term) → AtomOf D → Term
atom_tree inner (plain name) = t.Function name []
atom_tree inner (applied name args) = t.Function name (args_trees inner args)

module _ (names : List Name) where
  abbrev pub unary_tree : {D R : Type 0} → (D → Term) → UnaryOf D R → Term
  unary_tree inner (negated d) = t.Minus (inner d)
  unary_tree inner (number n) = t.Number (pos n)
  unary_tree inner (text bytes) = t.Text bytes
  unary_tree inner (variable name) = t.Variable (number_of names name)
  unary_tree inner anonymous = t.Anonymous
  unary_tree inner (atom a) = atom_tree inner a
  unary_tree inner (unit room) = t.Tuple []
  unary_tree inner (group term) = term_tree inner term
  unary_tree inner (single term) = t.Tuple (term_tree inner term ∷ [])
  unary_tree inner (tuple term args) = t.Tuple (term_tree inner term ∷ args_trees inner args)

  abbrev pub operand_tree : (n : ℕ) → Operand n → Term
  operand_tree zero operand = absurd operand
  operand_tree (suc n) operand = unary_tree (operand_tree n) operand
