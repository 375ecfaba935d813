-- Stable models of a family of rules.
use Rattle.std.specs.Prelude.{◌≡◌, ℕ, Bool, true}
use Rattle.std.specs.List.{AllByRecursion}
use Rattle.ground_model.specs.Members.{Counts}
use Rattle.ground_model.specs.Rules.{Rules, Head, NoHead, AtomHead, TheoryHead, ChoiceHead, IsTrueIn}
use Rattle.ground_model.specs.Derivable.{Derivable}

-- a choice takes the atom: the set has it, and it is an element whose condition is true
abbrev pub IsChosen : {A : Type 0} → (rules : Rules A) → (A → Bool) → rules.Name → A → Type 0
IsChosen rules model name a =
    (model a ≡ true)
    × ((element : rules.Element name) × ((rules.item name element).atom ≡ a)
    × AllByRecursion (IsTrueIn model) (rules.item name element).condition)

-- a head holds: no head never does, an atom or a theory atom where it is true, a choice where its bounds allow the count of different atoms that it takes
abbrev pub HeadHolds : {A : Type 0} → (A → Bool) → (A → Type 0) → Head A → Type 0
HeadHolds model IsTaken NoHead = ⊥
HeadHolds model IsTaken (AtomHead a) = model a ≡ true
HeadHolds model IsTaken (TheoryHead truth) = truth ≡ true
HeadHolds model IsTaken (ChoiceHead allows) = (n : ℕ) × Counts IsTaken n × (allows n ≡ true)

-- the set has exactly the derivable atoms, and each head holds where its body is true
pub record IsStable {A : Type 0} (rules : Rules A) (model : A → Bool) : Type 0 where
  pub derived : (a : A) → model a ≡ true → (rank : ℕ) × Derivable rules model rank a
  pub closed : (a : A) (rank : ℕ) → Derivable rules model rank a → model a ≡ true
  pub duties : (name : rules.Name) → AllByRecursion (IsTrueIn model) (rules.body name)
      → HeadHolds model (IsChosen rules model name) (rules.head name)
