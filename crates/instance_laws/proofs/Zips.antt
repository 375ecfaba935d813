-- Lists of parts, one for each key.
use Rattle.std.proofs.Common.{inl, inr, List, [], ◌∷◌, refl, sym, subst}
use Rattle.std.specs.List.{AllZip}
use Rattle.ground_model.specs.Members.{IsMember}
use Rattle.program_meaning.proofs.Lists.{flat_to, flat_from}
use Rattle.instance_laws.specs.Making.{joined}

pub zip_part : {X Y : Type 0} (R : X → Y → Type 0) (xs : List X) (ys : List Y) (x : X) → AllZip R xs ys → IsMember xs x → (y : Y) × IsMember ys y × R x y
zip_part R [] [] x z m = absurd m
zip_part R [] (v ∷ ys) x z m = absurd z
zip_part R (u ∷ xs) [] x z m = absurd z
zip_part R (u ∷ xs) (v ∷ ys) x z (inl e) = (v, inl refl, subst (λ w. R w v) (sym e) z.0)
zip_part R (u ∷ xs) (v ∷ ys) x z (inr m) = let r = zip_part R xs ys x z.1 m in (r.0, inr r.1, r.2)

pub zip_key : {X Y : Type 0} (R : X → Y → Type 0) (xs : List X) (ys : List Y) (y : Y) → AllZip R xs ys → IsMember ys y → (x : X) × IsMember xs x × R x y
zip_key R [] [] y z m = absurd m
zip_key R [] (v ∷ ys) y z m = absurd z
zip_key R (u ∷ xs) [] y z m = absurd z
zip_key R (u ∷ xs) (v ∷ ys) y z (inl e) = (u, inl refl, subst (R u) (sym e) z.0)
zip_key R (u ∷ xs) (v ∷ ys) y z (inr m) = let r = zip_key R xs ys y z.1 m in (r.0, inr r.1, r.2)

pub joined_to : {X : Type 0} (parts : List (List X)) (part : List X) (x : X) → IsMember parts part → IsMember part x → IsMember (joined parts) x
joined_to parts part x m k = flat_to (λ p. p) parts part x m k

pub joined_from : {X : Type 0} (parts : List (List X)) (x : X) → IsMember (joined parts) x → (part : List X) × IsMember parts part × IsMember part x
joined_from parts x m = flat_from (λ p. p) parts x m
