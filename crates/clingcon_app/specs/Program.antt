-- The ground program that statements over symbols say.
use Rattle.std.specs.Prelude.{◌≡◌, ℕ, ◌-◌, length, true, false, replicate, pos, List, [], ◌∷◌, ◌++◌, map, slice_index_or}
use Rattle.std.specs.List.Sorted.{IsStrictlySortedBy}
use Rattle.symbols.specs.Symbol.{Symbol, Number}
use Rattle.symbols.specs.Order.{symbol_cmp}
use Rattle.symbols.specs.Table.{symbol_at}
use Rattle.definite_rules.specs.Rule.{DefiniteRule}
use Rattle.first_form.specs.Form.{SymbolRule}
use Rattle.ground_model.specs.declared.rule.BodyLit.TheVariants.{Atom as AtomLiteral}
use Rattle.ground_model.specs.declared.rule.GroundHead.TheVariants.{Atom as AtomHead}
use Rattle.ground_model.specs.declared.rule.GroundRule.{GroundRule}
use Rattle.ground_model.specs.declared.program.GroundProgram.{GroundProgram}
use Rattle.ground_model.specs.Members.{IsMember, IsListOf}

-- the symbols of the atoms, by number
abbrev pub atom_symbols : GroundProgram → List Symbol
atom_symbols program = map (symbol_at program.symbols) program.atoms

-- the symbol of the atom with a number, counted from 1
abbrev pub named : List Symbol → ℕ → Symbol
named atoms n = slice_index_or atoms (n - 1) (Number (pos 0))

-- a rule over numbers, each number read as the symbol of its atom
abbrev pub named_rule : List Symbol → DefiniteRule → SymbolRule
named_rule atoms rule = record { head = named atoms rule.head; body = map (named atoms) rule.body }

-- a rule over numbers as a rule of a ground program: an atom from positive atoms
abbrev pub ground_rule : DefiniteRule → GroundRule
ground_rule rule = record { body = map (λ a. AtomLiteral a true) rule.body; head = AtomHead rule.head }

-- the symbols that stand in statements
abbrev pub occurring : List SymbolRule → List Symbol
occurring [] = []
occurring (rule ∷ rest) = (rule.head ∷ rule.body) ++ occurring rest

-- The program's rules are the statements, in order; its atoms are exactly those that occur, numbered in symbol order, and all
-- are shown; there is no integer variable and no objective.
pub record IsProgramOf (stated : List SymbolRule) (program : GroundProgram) : Type 0 where
  pub numbered : List DefiniteRule
  pub rules : program.rules ≡ map ground_rule numbered
  pub read : map (named_rule (atom_symbols program)) numbered ≡ stated
  pub ascend : IsStrictlySortedBy symbol_cmp (atom_symbols program)
  pub atoms : IsListOf (IsMember (occurring stated)) (atom_symbols program)
  pub shown : program.shown_atoms ≡ replicate (length program.atoms) true
  pub variables : program.variables ≡ []
  pub objective : program.has_objective ≡ false
