-- What follows from rules in a set of atoms, rank by rank: the least model of the reduct.
use Rattle.std.specs.Prelude.{◌≡◌, ◌⊎◌, ℕ, zero, suc, Bool, true}
use Rattle.std.specs.List.{AllByRecursion}
use Rattle.ground_model.specs.Rules.{Rules, Literal, AtomLiteral, AtomHead, literal_truth}

-- a literal holds where positive atoms need the property: negated and theory literals are read in the set of atoms
abbrev pub Holds : {A : Type 0} → (A → Bool) → (A → Type 0) → Literal A → Type 0
Holds model P (AtomLiteral a true) = P a
Holds model P literal = literal_truth model literal ≡ true

-- a rule gives the atom: it is the head, or the set has it and it is an element of a choice, and body and condition hold
abbrev pub Gives : {A : Type 0} → Rules A → (A → Bool) → (A → Type 0) → A → Type 0
Gives rules model P a =
    ((name : rules.Name) × (rules.head name ≡ AtomHead a) × AllByRecursion (Holds model P) (rules.body name))
    ⊎ ((name : rules.Name) × (element : rules.Element name) × ((rules.item name element).atom ≡ a) × (model a ≡ true)
    × AllByRecursion (Holds model P) (rules.body name) × AllByRecursion (Holds model P) (rules.item name element).condition)

-- an atom is derivable at a rank where a rule gives it from atoms that are derivable at the rank below
abbrev pub Derivable : {A : Type 0} → Rules A → (A → Bool) → ℕ → A → Type 0
Derivable rules model zero a = ⊥
Derivable rules model (suc rank) a = Gives rules model (Derivable rules model rank) a
