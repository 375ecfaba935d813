-- A family of rules over any kind of atoms, where theory atoms stand by their truth alone.
use Rattle.std.specs.Prelude.{◌≡◌, ℕ, Bool, true, false, not, List}

-- a literal of a body: an atom with a sign, or a theory literal by its truth
pub data Literal (A : Type 0) : Type 0 where
  AtomLiteral : A → Bool → Literal A
  TheoryLiteral : Bool → Literal A

-- a head: none, an atom, a theory atom by its truth, or a choice by the counts that its bounds allow
pub data Head (A : Type 0) : Type 0 where
  NoHead : Head A
  AtomHead : A → Head A
  TheoryHead : Bool → Head A
  ChoiceHead : (ℕ → Bool) → Head A

-- an element of a choice: an atom with a condition
pub record Item (A : Type 0) : Type 0 where
  pub atom : A
  pub condition : List (Literal A)

-- a family of rules: a name for each rule, its body and its head, and the elements of its choice, each with a name
pub record Rules (A : Type 0) : Type 1 where
  pub Name : Type 0
  pub body : Name → List (Literal A)
  pub head : Name → Head A
  pub Element : Name → Type 0
  pub item : (name : Name) → Element name → Item A

-- a truth, or for `not` its opposite
abbrev pub signed : Bool → Bool → Bool
signed true truth = truth
signed false truth = not truth

-- the truth of a body literal in a set of atoms
abbrev pub literal_truth : {A : Type 0} → (A → Bool) → Literal A → Bool
literal_truth model (AtomLiteral a sign) = signed sign (model a)
literal_truth model (TheoryLiteral truth) = truth

-- a body literal is true
abbrev pub IsTrueIn : {A : Type 0} → (A → Bool) → Literal A → Type 0
IsTrueIn model literal = literal_truth model literal ≡ true
