-- Lists of what may not be there, item by item.
use Rattle.std.proofs.Common.{◌≡◌, ℕ, zero, suc, ◌<◌, List, [], ◌∷◌, ◌++◌, map, take, length, Option, Some, None, slice_index_or, refl, sym, ◌∙◌, ap, arith}
use Rattle.std.specs.Prelude.{option_map}
use Rattle.first_form.specs.Form.{all_there}

some_first : {Y : Type 0} (z : Y) (os : List (Option Y)) (r : Option (List Y)) (ys : List Y) → all_there os ≡ r → option_map (λ zs. z ∷ zs) r ≡ Some ys
    → (zs : List Y) × (all_there os ≡ Some zs) × (ys ≡ z ∷ zs)
some_first z os None ys q h = absurd cc
some_first z os (Some zs) ys q h = (zs, q, cc)

-- the first of those that are there
pub first_there : {Y : Type 0} (o : Option Y) (os : List (Option Y)) (ys : List Y) → all_there (o ∷ os) ≡ Some ys
    → (z : Y) × (zs : List Y) × (o ≡ Some z) × (all_there os ≡ Some zs) × (ys ≡ z ∷ zs)
first_there None os ys h = absurd cc
first_there (Some z) os ys h = let p = some_first z os (all_there os) ys refl h in (z, p.0, refl, p.1, p.2)

both_there : {Y : Type 0} (o : Option Y) (os : List (Option Y)) (z : Y) (zs : List Y) → o ≡ Some z → all_there os ≡ Some zs → all_there (o ∷ os) ≡ Some (z ∷ zs)
both_there o os z zs h g = rw (h, g) refl

module _ {X Y : Type 0} (f : X → Option Y) where
  -- one more is there
  pub there_more : (xs : List X) (i : ℕ) (x : X) (ys : List Y) (y : Y) → x ≡ slice_index_or xs i x → i < length xs
      → all_there (map f (take i xs)) ≡ Some ys → f x ≡ Some y → all_there (map f (take (suc i) xs)) ≡ Some (ys ++ y ∷ [])
  there_more [] i x ys y item inside h g = absurd (omega (arith, inside))
  there_more (z ∷ xs) zero x ys y item inside h g =
      let none : [] ≡ ys = cc in
      let here : f z ≡ Some y = ap f (sym item) ∙ g in
      rw (here, ← none) refl
  there_more (z ∷ xs) (suc i) x ys y item inside h g =
      let p = first_there (f z) (map f (take i xs)) ys h in
      let rest = there_more xs i x p.1 y item (omega (arith, inside)) p.3 g in
      both_there (f z) (map f (take (suc i) xs)) p.0 (p.1 ++ y ∷ []) p.2 rest ∙ ap (λ zs. Some (zs ++ y ∷ [])) (sym p.4)

  -- one is not there
  pub there_none : (xs : List X) (i : ℕ) (x : X) → x ≡ slice_index_or xs i x → i < length xs → f x ≡ None → all_there (map f xs) ≡ None
  there_none [] i x item inside g = absurd (omega (arith, inside))
  there_none (z ∷ xs) zero x item inside g = let here : f z ≡ None = ap f (sym item) ∙ g in rw here refl
  there_none (z ∷ xs) (suc i) x item inside g = by (f z) (there_none xs i x item (omega (arith, inside)) g)
    where
      by : (o : Option Y) → all_there (map f xs) ≡ None → all_there (o ∷ map f xs) ≡ None
      by None h = refl
      by (Some y) h = rw h refl

-- all are there
pub all_some : {Y : Type 0} (os : List (Option Y)) (ys : List Y) → all_there os ≡ Some ys → os ≡ map (λ y. Some y) ys
all_some [] ys h = let e : [] ≡ ys = cc in rw (← e) refl
all_some (o ∷ os) ys h = let p = first_there o os ys h in let rest = all_some os p.1 p.3 in (λ i. p.2 i ∷ rest i) ∙ ap (map (λ y. Some y)) (sym p.4)

pub some_all : {Y : Type 0} (ys : List Y) → all_there (map (λ y. Some y) ys) ≡ Some ys
some_all [] = refl
some_all (y ∷ ys) = let rest = some_all ys in rw rest refl
