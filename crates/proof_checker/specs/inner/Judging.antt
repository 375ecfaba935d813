-- What the parts of a judgement go by. Only the code of this crate reads this file.
use Rattle.std.specs.Prelude.{◌≡◌, ℕ, ℤ, int_le, Bool, true, false, ◌&&◌, List}
use Rattle.std.specs.List.{list_all}
use Rattle.symbols.specs.declared.ends.Ends.{Ends}
use Rattle.literals.specs.declared.lit.Lit.{Lit}
use Rattle.derivation.specs.declared.line.Line.{Line}
use Rattle.derivation.specs.declared.line.Line.TheVariants as l
use Rattle.derivation_meaning.specs.State.{State}
use Rattle.derivation_meaning.specs.Valid.{IsLearned}
use Rattle.derivation_meaning.specs.Refusals.{are_live}
use Rattle.proof_checker.specs.declared.refused.Refused.{Refused}
use Rattle.proof_checker.specs.declared.refused.Refused.TheVariants as why

-- a line whose rule alone decides, once nothing is claimed: no chain and no answer
abbrev pub IsRuled : Line → Type 0
IsRuled (l.Learned id links lits) = ⊥
IsRuled (l.Answer atoms values) = ⊥
IsRuled (l.Better cost atoms values) = ⊥
IsRuled other = Unit {0}

-- why a chain is refused
abbrev pub IsChainRefused : State → ℕ → List (Lit × ℕ) → List Lit → Refused → Type 0
IsChainRefused state id links lits why.UnknownId = are_live state id links ≡ false
IsChainRefused state id links lits why.NotImplied = (are_live state id links ≡ true) × (IsLearned state id links lits → ⊥)
IsChainRefused state id links lits why.Memory = Unit {0}
IsChainRefused state id links lits other = ⊥

-- each value lies within the ends
abbrev pub are_within : Ends → List ℤ → Bool
are_within ends values = list_all (λ value. int_le ends.min value && int_le value ends.max) values
