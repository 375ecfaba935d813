-- Literals that the code makes are well formed.
use Rattle.std.proofs.Common.{◌≤◌, ℕ, List, [], ◌∷◌}
use Rattle.std.specs.List.{All, AllByRecursion}
use Rattle.std.proofs.lemmas.List.Elements.{recursion_from_All, All-from_recursion}
use Rattle.literals.specs.declared.lit.Lit.{Lit}
use Rattle.literals.specs.Lits.{IsLit}
use Rattle.completion.specs.Inputs.{all_false}

false_lits : (bodies : List ℕ) → AllByRecursion (λ b. 1 ≤ b) bodies → AllByRecursion IsLit (all_false bodies)
false_lits [] h = tt
false_lits (b ∷ bodies) h = (h.0, false_lits bodies h.1)

pub none_lits : (first : Lit) (bodies : List ℕ) → IsLit first → All (λ b. 1 ≤ b) bodies → All IsLit (first ∷ all_false bodies)
none_lits first bodies f h = All-from_recursion IsLit (first ∷ all_false bodies) (f, false_lits bodies (recursion_from_All (λ b. 1 ≤ b) bodies h))
