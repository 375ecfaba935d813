-- A claim that holds of each word of a statement that is no mark, no `not`, no `#const` and no `#show`.
use Rattle.std.specs.Prelude.{ℕ, suc, Option, Some, None}
use Rattle.symbols.specs.declared.rel.Rel.{Rel}
use Rattle.grammar.specs.Word.{Word}
use Rattle.grammar.specs.Word as word
use Rattle.grammar.specs.Term.{AtomOf, Operand, Room}
use Rattle.grammar.specs.Theory.{FullTerm, ConditionOf, holds, compares, GivenOf, ElementOf, TheoryOf}
use Rattle.grammar.specs.Statement.{LiteralOf, simple, theory, BodyOf, ChosenOf, ChoiceOf, HeadOf, atom_head, choice_head, theory_head, ArrowOf, no_arrow, arrow, headed, constraint, constant, show_nothing, show, StatementAt}
use Rattle.grammar.specs.AllWords.{AllItems, AllTerm, AllAtom, AllOperand}

abbrev pub AllMaybe : {A : Type 0} → (A → Type 0) → Option A → Type 0
AllMaybe P None = Unit {0}
AllMaybe P (Some x) = P x

module _ (claim : Word → Type 0) (n : ℕ) where
  abbrev pub AllFull : FullTerm (Operand n) (Room n) → Type 0
  AllFull = AllTerm (AllOperand claim (suc n))

  abbrev pub AllAtomAt : AtomOf (Operand n) → Type 0
  AllAtomAt = AllAtom claim (AllOperand claim n)

  abbrev pub AllCondition : ConditionOf (Operand n) (Room n) → Type 0
  AllCondition (holds positive a) = AllAtomAt a
  AllCondition (compares left r right) = AllFull left × AllFull right

  abbrev pub AllGiven : GivenOf (Operand n) (Room n) → Type 0
  AllGiven = AllMaybe (AllMaybe (AllItems AllCondition))

  abbrev pub AllElement : ElementOf (Operand n) (Room n) → Type 0
  AllElement element = AllFull element.first × AllMaybe AllFull element.duration × AllMaybe (AllItems AllFull) element.rest × AllGiven element.condition

  abbrev pub AllTheory : TheoryOf (Operand n) (Room n) → Type 0
  AllTheory a = claim (word.name a.name) × AllMaybe (AllItems AllElement) a.elements × AllMaybe (λ (g : Rel × FullTerm (Operand n) (Room n)). AllFull g.1) a.guard

  abbrev pub AllLiteral : LiteralOf (Operand n) (Room n) → Type 0
  AllLiteral (simple condition) = AllCondition condition
  AllLiteral (theory positive a) = AllTheory a

  abbrev pub AllBody : Option (BodyOf (Operand n) (Room n)) → Type 0
  AllBody = AllMaybe (AllItems AllLiteral)

  abbrev pub AllChosen : ChosenOf (Operand n) (Room n) → Type 0
  AllChosen element = AllAtomAt element.atom × AllGiven element.condition

  abbrev pub AllLeft : Option (FullTerm (Operand n) (Room n) × Option Rel) → Type 0
  AllLeft = AllMaybe (λ (b : FullTerm (Operand n) (Room n) × Option Rel). AllFull b.0)

  abbrev pub AllRight : Option (Option Rel × FullTerm (Operand n) (Room n)) → Type 0
  AllRight = AllMaybe (λ (b : Option Rel × FullTerm (Operand n) (Room n)). AllFull b.1)

  abbrev pub AllChoice : ChoiceOf (Operand n) (Room n) → Type 0
  AllChoice choice = AllLeft choice.left × AllMaybe (AllItems AllChosen) choice.elements × AllRight choice.right

  abbrev pub AllHead : HeadOf (Operand n) (Room n) → Type 0
  AllHead (atom_head a) = AllAtomAt a
  AllHead (choice_head choice) = AllChoice choice
  AllHead (theory_head a) = AllTheory a

  abbrev pub AllArrow : ArrowOf (Operand n) (Room n) → Type 0
  AllArrow no_arrow = Unit {0}
  AllArrow (arrow body) = AllBody body

  abbrev pub AllStatement : StatementAt n → Type 0
  AllStatement (headed head behind) = AllHead head × AllArrow behind
  AllStatement (constraint body) = AllBody body
  AllStatement (constant name term) = claim (word.name name) × AllFull term
  AllStatement show_nothing = Unit {0}
  AllStatement (show name arity) = claim (word.name name) × claim (word.numeral arity)
