-- Variables that are noted, where a condition does not bind them.
use Rattle.std.specs.Prelude.{◌⊎◌, ℕ, List, []}
use Rattle.ground_model.specs.Members.{IsMember}
use Rattle.program_meaning.specs.Read.{PlainLiteral, ReadElement, ReadLiteral, ReadPlain, ReadTold, ReadChoice, ReadHead, ReadNothing, ReadAtom, ReadDuty, ReadChoose, ReadRule, plains}
use Rattle.program_meaning.specs.Safety.{IsBound}
use Rattle.variable_safety.specs.inner.Occurring.{element_variables, choice_variables, global_variables}

-- the numbers with a property came to those that were noted
pub record Notes (P : ℕ → Type 0) (old new : List ℕ) : Type 0 where
  pub kept : (n : ℕ) → IsMember old n → IsMember new n
  pub sound : (n : ℕ) → IsMember new n → IsMember old n ⊎ P n
  pub whole : (n : ℕ) → P n → IsMember new n

-- the variable is among these, is not given, and the literals do not bind it
abbrev pub IsLoose : List ℕ → List ℕ → List PlainLiteral → ℕ → Type 0
IsLoose given variables literals n = IsMember variables n × (IsMember given n → ⊥) × (IsBound (IsMember given) literals n → ⊥)

abbrev pub LooseInElement : List ℕ → ReadElement → ℕ → Type 0
LooseInElement given element n = IsLoose given (element_variables element) element.condition n

abbrev pub LooseInElements : List ℕ → List ReadElement → ℕ → Type 0
LooseInElements given elements n = (element : ReadElement) × IsMember elements element × LooseInElement given element n

abbrev pub LooseInChoice : List ℕ → ReadChoice → ℕ → Type 0
LooseInChoice given element n = IsLoose given (choice_variables element) element.condition n

abbrev pub LooseInChoices : List ℕ → List ReadChoice → ℕ → Type 0
LooseInChoices given elements n = (element : ReadChoice) × IsMember elements element × LooseInChoice given element n

abbrev pub LooseInHead : List ℕ → ReadHead → ℕ → Type 0
LooseInHead given ReadNothing n = ⊥
LooseInHead given (ReadAtom term) n = ⊥
LooseInHead given (ReadDuty theory) n = LooseInElements given theory.elements n
LooseInHead given (ReadChoose left elements right) n = LooseInChoices given elements n

abbrev pub LooseInLiteral : List ℕ → ReadLiteral → ℕ → Type 0
LooseInLiteral given (ReadPlain literal) n = ⊥
LooseInLiteral given (ReadTold theory sign) n = LooseInElements given theory.elements n

abbrev pub LooseInBody : List ℕ → List ReadLiteral → ℕ → Type 0
LooseInBody given body n = (literal : ReadLiteral) × IsMember body literal × LooseInLiteral given literal n

-- the variable is global and the body does not bind it, or the condition of an element does not
abbrev pub IsLooseInRule : ReadRule → ℕ → Type 0
IsLooseInRule rule n =
    IsLoose [] (global_variables rule) (plains rule.body) n
    ⊎ (LooseInHead (global_variables rule) rule.head n ⊎ LooseInBody (global_variables rule) rule.body n)
