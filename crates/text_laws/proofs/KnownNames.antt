-- A variable that is seen is among the names, and its number reads as its name.
use Rattle.std.proofs.Common.{◌≡◌, ℕ, suc, ◌+◌, ◌-◌, ◌≤◌, ◌==◌, Bool, true, false, if◌then◌else◌, bytes_eq, List, [], ◌∷◌, ◌++◌, map, codes, slice_get, inl, inr, refl, sym, ◌∙◌, ap, subst, arith}
use Rattle.std.proofs.lemmas.Bool.Decides.{nat_tests}
use Rattle.std.proofs.lemmas.Slice.Eq.{bytes_eq-Decides}
use Rattle.syntax_tree.specs.declared.rule.Name.{Name}
use Rattle.syntax_tree.specs.Printed.{name_text, variable_text}
use Rattle.grammar.specs.Sight.{Sight, Sighting, of_variable, of_anonymous, of_interval, of_atom}
use Rattle.grammar.specs.Tree.{number_of, number_behind}
use Rattle.theory_grammar.specs.Kept.{named, with_name, with_sight}
use Rattle.text_laws.proofs.SeenWords.{IsAmong}

more_is_some : (k : ℕ) → (k + 1 == 0) ≡ false
more_is_some k = grind (arith, nat_tests)

number_large : (k : ℕ) (names : List Name) (name : List ℕ) → (number_behind k names name == 0) ≡ false → k + 1 ≤ number_behind k names name
number_large k [] name = λ h. absurd cc
number_large k (o ∷ os) name = by (bytes_eq o.text name) (number_large (k + 1) os name)
  where
    by : (b : Bool) → ((number_behind (k + 1) os name == 0) ≡ false → k + 1 + 1 ≤ number_behind (k + 1) os name)
        → ((if b then k + 1 else number_behind (k + 1) os name) == 0) ≡ false → k + 1 ≤ (if b then k + 1 else number_behind (k + 1) os name)
    by true rest h = omega arith
    by false rest h = let more = rest h in omega (arith, more)

number_reads : (k : ℕ) (names : List Name) (name : List ℕ) → (number_behind k names name == 0) ≡ false → name_text (slice_get names (number_behind k names name - (k + 1))) ≡ name
number_reads k [] name = λ h. absurd cc
number_reads k (o ∷ os) name = by (bytes_eq o.text name) refl (number_reads (k + 1) os name)
  where
    by : (b : Bool) → bytes_eq o.text name ≡ b
        → ((number_behind (k + 1) os name == 0) ≡ false → name_text (slice_get os (number_behind (k + 1) os name - (k + 1 + 1))) ≡ name)
        → ((if b then k + 1 else number_behind (k + 1) os name) == 0) ≡ false
        → name_text (slice_get (o ∷ os) ((if b then k + 1 else number_behind (k + 1) os name) - (k + 1))) ≡ name
    by true same rest h =
        let none : (k + 1) - (k + 1) ≡ 0 = omega arith in
        ap (λ i. name_text (slice_get (o ∷ os) i)) none ∙ (bytes_eq-Decides o.text name).0 same
    by false same rest h =
        let large = number_large (k + 1) os name h in
        let further : number_behind (k + 1) os name - (k + 1) ≡ suc (number_behind (k + 1) os name - (k + 1 + 1)) = omega (arith, large) in
        ap (λ i. name_text (slice_get (o ∷ os) i)) further ∙ rest h

-- the number of a name that has one reads as the name
pub known_reads : (names : List Name) (name : List ℕ) → (number_of names name == 0) ≡ false → variable_text names (number_of names name) ≡ name
known_reads names name h = ap (λ b. if b then codes "_" else name_text (slice_get names (number_of names name - 1))) h ∙ number_reads 0 names name h

-- ---- names that come later
front_number : (k : ℕ) (names more : List Name) (name : List ℕ) → (number_behind k names name == 0) ≡ false → number_behind k (names ++ more) name ≡ number_behind k names name
front_number k [] more name = λ h. absurd cc
front_number k (o ∷ os) more name = by (bytes_eq o.text name) (front_number (k + 1) os more name)
  where
    by : (b : Bool) → ((number_behind (k + 1) os name == 0) ≡ false → number_behind (k + 1) (os ++ more) name ≡ number_behind (k + 1) os name)
        → ((if b then k + 1 else number_behind (k + 1) os name) == 0) ≡ false
        → (if b then k + 1 else number_behind (k + 1) (os ++ more) name) ≡ (if b then k + 1 else number_behind (k + 1) os name)
    by true rest h = refl
    by false rest h = rest h

last_known : (k : ℕ) (names : List Name) (name : List ℕ) → (number_behind k (names ++ record { text = name } ∷ []) name == 0) ≡ false
last_known k [] name = ap (λ b. (if b then k + 1 else 0) == 0) ((bytes_eq-Decides name name).1 refl) ∙ more_is_some k
last_known k (o ∷ os) name = by (bytes_eq o.text name) (last_known (k + 1) os name)
  where
    by : (b : Bool) → (number_behind (k + 1) (os ++ record { text = name } ∷ []) name == 0) ≡ false
        → ((if b then k + 1 else number_behind (k + 1) (os ++ record { text = name } ∷ []) name) == 0) ≡ false
    by true rest = more_is_some k
    by false rest = rest

still_known : (names more : List Name) (name : List ℕ) → (number_of names name == 0) ≡ false → (number_of (names ++ more) name == 0) ≡ false
still_known names more name h = ap (λ i. i == 0) (front_number 0 names more name h) ∙ h

with_known : (names : List Name) (name : List ℕ) → (number_of (with_name names name) name == 0) ≡ false
with_known names name = by (number_of names name == 0) refl
  where
    by : (b : Bool) → (number_of names name == 0) ≡ b → (number_of (if b then names ++ record { text = name } ∷ [] else names) name == 0) ≡ false
    by true none = last_known 0 names name
    by false some = some

kept_by_name : (names : List Name) (other name : List ℕ) → (number_of names name == 0) ≡ false → (number_of (with_name names other) name == 0) ≡ false
kept_by_name names other name h = by (number_of names other == 0)
  where
    by : (b : Bool) → (number_of (if b then names ++ record { text = other } ∷ [] else names) name == 0) ≡ false
    by true = still_known names (record { text = other } ∷ []) name h
    by false = h

kept_by_sight : (names : List Name) (sight : Sight) (name : List ℕ) → (number_of names name == 0) ≡ false → (number_of (with_sight names sight) name == 0) ≡ false
kept_by_sight names (of_variable other) name h = kept_by_name names other name h
kept_by_sight names of_anonymous name h = h
kept_by_sight names of_interval name h = h
kept_by_sight names of_atom name h = h

kept : (names : List Name) (sights : List Sighting) (name : List ℕ) → (number_of names name == 0) ≡ false → (number_of (named names sights) name == 0) ≡ false
kept names [] name h = h
kept names (s ∷ sights) name h = kept (with_sight names s.sight) sights name (kept_by_sight names s.sight name h)

-- a variable that is seen is among the names
pub seen_known : (names : List Name) (sights : List Sighting) (name : List ℕ) → IsAmong (of_variable name) (map (λ (s : Sighting). s.sight) sights) → (number_of (named names sights) name == 0) ≡ false
seen_known names [] name h = absurd h
seen_known names (s ∷ sights) name (inl is) =
    kept (with_sight names s.sight) sights name (subst (λ sight. (number_of (with_sight names sight) name == 0) ≡ false) is (with_known names name))
seen_known names (s ∷ sights) name (inr more) = seen_known (with_sight names s.sight) sights name more

-- the names are the same where the same is seen
pub same_named : (names : List Name) (one other : List Sighting) → map (λ (s : Sighting). s.sight) one ≡ map (λ (s : Sighting). s.sight) other → named names one ≡ named names other
same_named names one other same = of_sights names one ∙ ap (by_sights names) same ∙ sym (of_sights names other)
  where
    by_sights : List Name → List Sight → List Name
    by_sights names [] = names
    by_sights names (sight ∷ sights) = by_sights (with_sight names sight) sights

    of_sights : (names : List Name) (sights : List Sighting) → named names sights ≡ by_sights names (map (λ (s : Sighting). s.sight) sights)
    of_sights names [] = refl
    of_sights names (s ∷ sights) = of_sights (with_sight names s.sight) sights
