-- Chains of resolutions, one link longer, and after a nogood that is missing.
use Rattle.std.proofs.Common.{◌≡◌, List, [], ◌∷◌, ◌++◌, Option, None, refl}
use Rattle.literals.specs.declared.lit.Lit.{Lit}
use Rattle.literals.specs.Nogoods.{resolved_with, chain_by}

pub chain_push : {L : Type 0} (pivot : L → Lit) (nogood : L → Option (List Lit)) (so_far : Option (List Lit)) (links : List L) (link : L) → chain_by pivot nogood so_far (links ++ link ∷ []) ≡ resolved_with (chain_by pivot nogood so_far links) (pivot link) (nogood link)
chain_push pivot nogood so_far [] link = refl
chain_push pivot nogood so_far (l ∷ ls) link = chain_push pivot nogood (resolved_with so_far (pivot l) (nogood l)) ls link

pub chain_none : {L : Type 0} (pivot : L → Lit) (nogood : L → Option (List Lit)) (links : List L) → chain_by pivot nogood None links ≡ None
chain_none pivot nogood [] = refl
chain_none pivot nogood (l ∷ ls) = chain_none pivot nogood ls
