-- Literals that can be put in order, and that are.
use Rattle.std.specs.Prelude.{◌≡◌, ℕ, true, List, ◌++◌, map}
use Rattle.std.specs.List.{flat_map}
use Rattle.ground_model.specs.Members.{IsMember}
use Rattle.program_meaning.specs.Read.{PlainLiteral, ReadLiteral, ReadPlain, plains}
use Rattle.program_meaning.specs.Variables.{occurs_in}
use Rattle.program_meaning.specs.Safety.{IsBound}
use Rattle.safety_meaning.specs.Ordered.{AreOrdered, told_of}

-- their variables are in an order, and none of them is unsafe, where these are given
pub record IsOrderable (order given : List ℕ) (own : List PlainLiteral) : Type 0 where
  pub listed : (literal : PlainLiteral) → IsMember own literal → (n : ℕ) → occurs_in n literal ≡ true → IsMember order n
  pub safe : (n : ℕ) → IsMember order n → (literal : PlainLiteral) → IsMember own literal → occurs_in n literal ≡ true → (IsBound (IsMember given) own n → ⊥) → ⊥

-- the atoms and comparisons, and then the theory literals, as they stand
abbrev pub IsParted : List ReadLiteral → List ReadLiteral → Type 0
IsParted literals parted = parted ≡ map (λ literal. ReadPlain literal) (plains literals) ++ flat_map told_of literals

-- the atoms and comparisons in order, and then the theory literals as they stand
pub record IsInOrder (given : List ℕ) (literals ordered : List ReadLiteral) : Type 0 where
  pub plain : List PlainLiteral
  pub in_order : AreOrdered (IsMember given) (plains literals) plain
  pub whole : ordered ≡ map (λ literal. ReadPlain literal) plain ++ flat_map told_of literals
