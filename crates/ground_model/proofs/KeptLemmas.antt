-- What the reduct keeps of lists of ways.
use Rattle.std.proofs.Common.{◌≡◌, ◌-◌, ℕ, Bool, true, false, cond, ◌&&◌, List, [], ◌∷◌, ◌++◌, map, filter, refl, ap}
use Rattle.std.specs.List.{AllByRecursion, list_all}
use Rattle.ground_model.specs.declared.rule.BodyLit.{BodyLit}
use Rattle.ground_model.specs.declared.rule.BodyLit.TheVariants as b
use Rattle.ground_model.specs.Sizes.{IsCounted, IsReadable}
use Rattle.ground_model.specs.World.{World}
use Rattle.ground_model.specs.Ways.{Way}
use Rattle.ground_model.specs.Reduct.{positives, is_kept, definite_of, kept_of}

pub positives_append : (xs ys : List BodyLit) → positives (xs ++ ys) ≡ positives xs ++ positives ys
positives_append [] ys = refl
positives_append (b.Atom a true ∷ xs) ys = ap (λ rest. (a - 1) ∷ rest) (positives_append xs ys)
positives_append (b.Atom a false ∷ xs) ys = positives_append xs ys
positives_append (b.Theory relation sign ∷ xs) ys = positives_append xs ys

pub kept_append : (world : World) (xs ys : List Way) → kept_of world (xs ++ ys) ≡ kept_of world xs ++ kept_of world ys
kept_append world [] ys = refl
kept_append world (way ∷ xs) ys = go (is_kept world way) (kept_append world xs ys)
  where
    go : (t : Bool) → kept_of world (xs ++ ys) ≡ kept_of world xs ++ kept_of world ys
        → map definite_of (cond t (way ∷ filter (is_kept world) (xs ++ ys)) (filter (is_kept world) (xs ++ ys)))
        ≡ map definite_of (cond t (way ∷ filter (is_kept world) xs) (filter (is_kept world) xs)) ++ kept_of world ys
    go true e = ap (λ rest. definite_of way ∷ rest) e
    go false e = e

pub all_parts_equal : {X : Type 0} (test : X → Bool) (xs ys : List X) → list_all test (xs ++ ys) ≡ (list_all test xs && list_all test ys)
all_parts_equal test [] ys = refl
all_parts_equal test (x ∷ xs) ys = go (test x) (all_parts_equal test xs ys)
  where
    go : (t : Bool) → list_all test (xs ++ ys) ≡ (list_all test xs && list_all test ys) → (t && list_all test (xs ++ ys)) ≡ ((t && list_all test xs) && list_all test ys)
    go true e = e
    go false e = refl

pub counted : (atoms variables : ℕ) (body : List BodyLit) → AllByRecursion (IsReadable atoms variables) body → AllByRecursion IsCounted body
counted atoms variables [] readable = tt
counted atoms variables (b.Atom a sign ∷ body) readable = (readable.0.above, counted atoms variables body readable.1)
counted atoms variables (b.Theory relation sign ∷ body) readable = (tt, counted atoms variables body readable.1)
