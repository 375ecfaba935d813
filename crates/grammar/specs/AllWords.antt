-- A claim that holds of each word of a form that is no mark.
use Rattle.std.specs.Prelude.{ℕ, zero, suc, List}
use Rattle.std.specs.List.{AllByRecursion}
use Rattle.grammar.specs.Word.{Word}
use Rattle.grammar.specs.Word as word
use Rattle.grammar.specs.Row.{Row}
use Rattle.grammar.specs.Term.{TermOf, ArgsOf, AtomOf, UnaryOf, Operand, alone, interval, plain, applied, negated, number, text, variable, anonymous, atom, unit, group, single, tuple}

abbrev pub AllItems : {I S : Type 0} → (I → Type 0) → Row I S → Type 0
AllItems P row = P row.first × AllByRecursion (λ p. P p.1) row.rest

abbrev pub AllTerm : {U : Type 0} → (U → Type 0) → TermOf U → Type 0
AllTerm P (alone sum) = AllItems (AllItems P) sum
AllTerm P (interval left right) = AllItems (AllItems P) left × AllItems (AllItems P) right

abbrev pub AllArgs : {U : Type 0} → (U → Type 0) → ArgsOf U → Type 0
AllArgs P = AllItems (AllTerm P)

module _ {D : Type 0} (claim : Word → Type 0) (inner : D → Type 0) where
  abbrev pub AllAtom : AtomOf D → Type 0
  AllAtom (plain name) = claim (word.name name)
  AllAtom (applied name args) = claim (word.name name) × AllArgs inner args

  abbrev pub AllUnary : {R : Type 0} → UnaryOf D R → Type 0
  AllUnary (negated d) = inner d
  AllUnary (number n) = claim (word.numeral n)
  AllUnary (text bytes) = claim (word.string bytes)
  AllUnary (variable name) = claim (word.variable name)
  AllUnary anonymous = claim word.anonymous
  AllUnary (atom a) = AllAtom a
  AllUnary (unit room) = Unit {0}
  AllUnary (group t) = AllTerm inner t
  AllUnary (single t) = AllTerm inner t
  AllUnary (tuple t args) = AllTerm inner t × AllArgs inner args

abbrev pub AllOperand : (Word → Type 0) → (n : ℕ) → Operand n → Type 0
AllOperand claim zero u = absurd u
AllOperand claim (suc n) u = AllUnary claim (AllOperand claim n) u
