-- Statements as rules over numbered atoms. Only the numbering's own code reads this file.
use Rattle.std.specs.Prelude.{◌≡◌, ℕ, ◌+◌, ◌<◌, ◌^◌, length, true, List, [], ◌∷◌, ◌++◌, map, All, slice_index}
use Rattle.std.specs.List.{AllByRecursion}
use Rattle.std.specs.List.Sorted.{IsStrictlySortedBy}
use Rattle.symbols.specs.Symbol.{Symbol}
use Rattle.symbols.specs.Order.{symbol_cmp}
use Rattle.symbols.specs.Table.{symbol_at}
use Rattle.definite_rules.specs.Rule.{DefiniteRule}
use Rattle.ground_model.specs.Members.{IsMember, IsListOf}
use Rattle.ground_model.specs.Sound.{is_number}
use Rattle.clingcon_app.specs.Program.{named}
use Rattle.first_form.specs.declared.statement.DefiniteStatement.{DefiniteStatement}
use Rattle.ground_model.specs.declared.rule.BodyLit.{BodyLit}
use Rattle.ground_model.specs.declared.rule.BodyLit.TheVariants.{Atom as AtomLiteral}
use Rattle.ground_model.specs.declared.rule.GroundHead.TheVariants.{Atom as AtomHead}
use Rattle.ground_model.specs.declared.rule.GroundRule.{GroundRule}

-- the id of each occurrence of an atom
abbrev pub ids_of : List DefiniteStatement → List ℕ
ids_of [] = []
ids_of (statement ∷ rest) = (statement.head ∷ statement.body) ++ ids_of rest

-- the ids of a statement are below a number
abbrev pub IsNumbered : ℕ → DefiniteStatement → Type 0
IsNumbered count statement = (statement.head < count) × All (λ id. id < count) statement.body

-- no id stands twice
abbrev pub AreDifferent : List ℕ → Type 0
AreDifferent ids = (i j : ℕ) → i < length ids → j < length ids → slice_index ids i ≡ slice_index ids j → i ≡ j

-- each atom's number is its place, counted from 1
abbrev pub IsNumbering : List ℕ → List ℕ → Type 0
IsNumbering atoms numbers = (i : ℕ) → i < length atoms → slice_index numbers (slice_index atoms i) ≡ i + 1

-- positive atoms by their numbers
abbrev pub numbered_body : List ℕ → List ℕ → List BodyLit
numbered_body numbers ids = map (λ id. AtomLiteral (slice_index numbers id) true) ids

-- a statement by the numbers of its atoms
abbrev pub numbered_rule : List ℕ → DefiniteStatement → GroundRule
numbered_rule numbers statement = record {
  body = numbered_body numbers statement.body;
  head = AtomHead (slice_index numbers statement.head);
}

-- the numbers of a statement's atoms
abbrev pub definite_rule : List ℕ → DefiniteStatement → DefiniteRule
definite_rule numbers statement = record { head = slice_index numbers statement.head; body = map (slice_index numbers) statement.body }

-- an id has a number of one of the atoms, which reads as its symbol
pub record HasNumber (symbols : List Symbol) (atoms numbers : List ℕ) (id : ℕ) : Type 0 where
  pub is : is_number (length atoms) (slice_index numbers id) ≡ true
  pub reads : named (map (symbol_at symbols) atoms) (slice_index numbers id) ≡ symbol_at symbols id

-- the atoms that occur in statements, in symbol order, and the statements by the numbers of their atoms
pub record AreNumbered (symbols : List Symbol) (statements : List DefiniteStatement) (atoms : List ℕ) (rules : List GroundRule) : Type 0 where
  pub ascend : IsStrictlySortedBy symbol_cmp (map (symbol_at symbols) atoms)
  pub known : AllByRecursion (λ id. id < length symbols) atoms
  pub few : length atoms < 2 ^ 32
  pub members : IsListOf (IsMember (ids_of statements)) atoms
  pub numbers : List ℕ
  pub numbered : AllByRecursion (HasNumber symbols atoms numbers) (ids_of statements)
  pub made : rules ≡ map (numbered_rule numbers) statements
