-- Whether a statement has too many variables is told by what is seen in it alone, wherever it is seen.
use Rattle.std.proofs.Common.{◌≡◌, ℕ, zero, suc, List, [], ◌∷◌, map, refl, ap, inl, inr}
use Rattle.std.proofs.lemmas.Bool.{cases_Bool}
use Rattle.grammar.specs.declared.check.Check.TheVariants.{TooManyVariables}
use Rattle.grammar.specs.declared.check.Failing.{Failing}
use Rattle.grammar.specs.Sight.{Sight, of_variable, of_anonymous, of_interval, of_atom, Sighting}
use Rattle.grammar.specs.Check.{fails, is_among, new_variables, past, too_many}
use Rattle.text_laws.proofs.SightLists.{sighted}

-- lists with as many items as each other
abbrev AreAsMany : List ℕ → List ℕ → Type 0
AreAsMany [] [] = Unit {0}
AreAsMany [] (y ∷ ys) = ⊥
AreAsMany (x ∷ xs) [] = ⊥
AreAsMany (x ∷ xs) (y ∷ ys) = AreAsMany xs ys

none_past : (n : ℕ) (xs ys : List ℕ) → AreAsMany xs ys → past n xs ≡ [] → past n ys ≡ []
none_past n [] [] same none = refl
none_past n [] (y ∷ ys) same none = absurd same
none_past n (x ∷ xs) [] same none = absurd same
none_past zero (x ∷ xs) (y ∷ ys) same none = absurd (cc none)
none_past (suc n) (x ∷ xs) (y ∷ ys) same none = none_past n xs ys same none

-- ---- the places where a new variable is seen
module _ (at later : ℕ) (one other : List Sighting) (rest : (names : List (List ℕ)) → AreAsMany (new_variables names one) (new_variables names other)) where
  one_more : (names : List (List ℕ)) (sight : Sight)
      → AreAsMany (new_variables names (record { sight = sight; at = at } ∷ one)) (new_variables names (record { sight = sight; at = later } ∷ other))
  one_more names (of_variable name) =
      elim (cases_Bool (is_among names name)) [
        | inl known ↦ rw known (rest names)
        | inr known ↦ rw known (rest (name ∷ names))
      ]
  one_more names of_anonymous = rest names
  one_more names of_interval = rest names
  one_more names of_atom = rest names

first_same : (s o : Sighting) (one other : List Sighting) → sighted (s ∷ one) ≡ sighted (o ∷ other) → s.sight ≡ o.sight
first_same s o one other same = cc same

rest_same : (s o : Sighting) (one other : List Sighting) → sighted (s ∷ one) ≡ sighted (o ∷ other) → sighted one ≡ sighted other
rest_same s o one other same = cc same

as_many : (one other : List Sighting) → sighted one ≡ sighted other → (names : List (List ℕ)) → AreAsMany (new_variables names one) (new_variables names other)
as_many [] [] same names = tt
as_many [] (o ∷ other) same names = absurd (cc same)
as_many (s ∷ one) [] same names = absurd (cc same)
as_many (s ∷ one) (o ∷ other) same names =
    rw⁻¹ (first_same s o one other same) (one_more s.at o.at one other (as_many one other (rest_same s o one other same)) names s.sight)

-- ---- too many
abbrev told : List ℕ → List Failing
told [] = []
told (at ∷ places) = fails TooManyVariables at

none_told : (places : List ℕ) → told places ≡ [] → places ≡ []
none_told [] none = refl
none_told (at ∷ places) none = absurd (cc none)

-- where the same is seen, and the variables of the one are not too many, those of the other are not
pub same_too_many : (one other : List Sighting) → map (λ (s : Sighting). s.sight) one ≡ map (λ (s : Sighting). s.sight) other → too_many one ≡ [] → too_many other ≡ []
same_too_many one other same none =
    ap told (none_past 64 (new_variables [] one) (new_variables [] other) (as_many one other same []) (none_told (past 64 (new_variables [] one)) none))
