-- What the steps of a replay go by. Only the code of this crate reads this file.
use Rattle.std.specs.Prelude.{ℕ, ◌+◌, ◌==◌, Bool, true, ◌&&◌, if◌then◌else◌, ℤ, List, [], ◌∷◌, Option, None, Some}
use Rattle.literals.specs.declared.lit.Lit.{Lit}
use Rattle.proof_checker.specs.declared.live.Live.{Live}
use Rattle.literals.specs.Nogoods.{resolved_with}

-- the nogood of an id
abbrev pub found_in : List Live → ℕ → Option (List Lit)
found_in [] id = None
found_in (live ∷ rest) id = (if live.id == id then Some live.nogood else found_in rest id)

-- the chain from a nogood on
abbrev pub chain_in : List Live → Option (List Lit) → List (Lit × ℕ) → Option (List Lit)
chain_in live so_far [] = so_far
chain_in live so_far (link ∷ links) = chain_in live (resolved_with so_far link.0 (found_in live link.1)) links

-- the variables are numbered from this one on
abbrev pub counts_from : ℕ → List (ℕ × ℤ) → Bool
counts_from n [] = true
counts_from n (value ∷ values) = (value.0 == n) && counts_from (n + 1) values
