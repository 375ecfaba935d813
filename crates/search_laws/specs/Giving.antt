-- The lines that give an answer and end a search.
use Rattle.std.specs.Prelude.{ℕ, zero, suc, ◌+◌, ℤ, List, [], ◌∷◌}
use Rattle.ground_model.specs.declared.answer.Answer.{Answer}
use Rattle.derivation.specs.declared.line.Line.{Line}
use Rattle.derivation.specs.declared.line.Line.TheVariants as l
use Rattle.derivation_meaning.specs.declared.claim.Claim.{Claim}
use Rattle.derivation_meaning.specs.declared.claim.Claim.TheVariants as claim

-- the values of the variables from this one on
abbrev pub values_from : ℕ → List ℤ → List (ℕ × ℤ)
values_from x [] = []
values_from x (value ∷ values) = (x, value) ∷ values_from (x + 1) values

-- the line that gives an answer
abbrev pub answer_line : Answer → Line
answer_line answer = l.Answer answer.atoms (values_from 1 answer.values)

-- what is claimed after so many answers, and the line that claims it
abbrev pub claim_after : ℕ → Claim
claim_after zero = claim.Nothing
claim_after (suc n) = claim.All (suc n)

abbrev pub end_line : ℕ → Line
end_line zero = l.EndNone
end_line (suc n) = l.EndAll (suc n)
