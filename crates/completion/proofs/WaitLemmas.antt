-- The rows of what atoms wait for, and the rules that are made of them.
use Rattle.std.proofs.Common.{◌≡◌, ℕ, zero, suc, ◌+◌, ◌-◌, ◌<◌, false, cond, ◌==◌, List, [], ◌∷◌, ◌++◌, map, length, set, get_or, flat_map, Some, slice_get, refl, sym, ◌∙◌, ap, ap₂, append_assoc, arith}
use Rattle.std.specs.List.{range_with_len}
use Rattle.std.proofs.lemmas.List.{map-set}
use Rattle.definite_rules.specs.Rule.{DefiniteRule}
use Rattle.ground_model.specs.Answers.{IsNumbered}
use Rattle.ground_model.proofs.MemberLemmas.{same_nat}
use Rattle.linear_normal.specs.declared.numbered.Conjunction.{Conjunction}
use Rattle.linear_normal.specs.declared.numbered.Support.{Support}
use Rattle.linear_normal.specs.Truth.{numbered_in}
use Rattle.completion.specs.inner.Waits.{positive_atom, positive_atoms, waits_by, waits_of, waiting_rule, waiting_rules, rules_with}
use Rattle.completion.proofs.RowLemmas.{get_row, rows_set}

flat_end : {X Y : Type 0} (f : X → List Y) (xs : List X) (x : X) → flat_map f (xs ++ x ∷ []) ≡ flat_map f xs ++ f x
flat_end f [] x = nothing (f x)
  where
    nothing : {Y : Type 0} (ys : List Y) → ys ++ [] ≡ ys
    nothing [] = refl
    nothing (y ∷ ys) = ap (λ zs. y ∷ zs) (nothing ys)
flat_end f (y ∷ xs) x = ap (λ ys. f y ++ ys) (flat_end f xs x) ∙ sym (append_assoc (f y) (flat_map f xs) (f x))

numbered_get : {X : Type 0} (xs : List X) (n : ℕ) (d : X) → IsNumbered (length xs) n → numbered_in xs n ≡ Some (get_or xs (n - 1) d)
numbered_get xs zero d is = absurd (let above = is.above in omega (arith, above))
numbered_get xs (suc n) d is = at xs n (let known = is.known in omega (arith, known)) ∙ ap (λ k. Some (get_or xs k d)) (less n)
  where
    less : (n : ℕ) → n ≡ suc n - 1
    less n = omega arith

    at : (ys : List _) (k : ℕ) → k < length ys → slice_get ys k ≡ Some (get_or ys k d)
    at [] k h = absurd (omega (arith, h))
    at (y ∷ ys) zero h = refl
    at (y ∷ ys) (suc k) h = at ys k (omega (arith, h))

-- a support adds the positive atoms of its body to the row of its atom
pub wait_added : {V : Type 0} (f : V → List ℕ) (rows : List V) (bodies : List Conjunction) (supports : List Support) (s : Support) (count : ℕ) (v d : V) (body : Conjunction)
    → map f rows ≡ map (waits_of bodies supports) (range_with_len 0 count) → s.atom < count → IsNumbered (length bodies) s.body
    → f v ≡ f (get_or rows s.atom d) ++ flat_map positive_atom (get_or bodies (s.body - 1) body).lits
    → map f (set rows s.atom v) ≡ map (waits_of bodies (supports ++ s ∷ [])) (range_with_len 0 count)
wait_added f rows bodies supports s count v d body e below known p =
    map-set f rows s.atom v ∙ ap₂ (λ xs y. set xs s.atom y) e (p ∙ ap₂ ◌++◌ (get_row f (waits_of bodies supports) rows 0 count s.atom d e below ∙ ap (waits_of bodies supports) (zero_plus s.atom)) own ∙ sym (more s.atom))
    ∙ sym (rows_set (waits_of bodies supports) (waits_of bodies (supports ++ s ∷ [])) s.atom others 0 count s.atom (sym (zero_plus s.atom)) below)
  where
    zero_plus : (n : ℕ) → 0 + n ≡ n
    zero_plus n = omega arith

    more : (a : ℕ) → waits_of bodies (supports ++ s ∷ []) a ≡ waits_of bodies supports a ++ waits_by bodies a s
    more a = flat_end (waits_by bodies a) supports s

    own : flat_map positive_atom (get_or bodies (s.body - 1) body).lits ≡ waits_by bodies s.atom s
    own =
        ap positive_atoms (sym (numbered_get bodies s.body body known))
        ∙ ap (λ t. cond t (positive_atoms (numbered_in bodies s.body)) []) (sym (same_nat s.atom s.atom refl))

    nothing : (ys : List ℕ) → ys ++ [] ≡ ys
    nothing [] = refl
    nothing (y ∷ ys) = ap (λ zs. y ∷ zs) (nothing ys)

    others : (y : ℕ) → (s.atom == y) ≡ false → waits_of bodies (supports ++ s ∷ []) y ≡ waits_of bodies supports y
    others y differs =
        more y ∙ ap (λ t. waits_of bodies supports y ++ cond t (positive_atoms (numbered_in bodies s.body)) []) differs ∙ nothing (waits_of bodies supports y)

-- the rules of the rows
pub rules_of_rows : (bodies : List Conjunction) (supports : List Support) (rows : List (List ℕ)) (a n : ℕ) → rows ≡ map (waits_of bodies supports) (range_with_len a n)
    → rules_with a rows ≡ map (waiting_rule bodies supports) (range_with_len a n)
rules_of_rows bodies supports rows a n e = ap (rules_with a) e ∙ each a n
  where
    each : (a n : ℕ) → rules_with a (map (waits_of bodies supports) (range_with_len a n)) ≡ map (waiting_rule bodies supports) (range_with_len a n)
    each a zero = refl
    each a (suc n) = ap (λ rules. waiting_rule bodies supports a ∷ rules) (each (a + 1) n)

-- the same, as the code passes them on
pub rules_made : {V : Type 0} (f : V → List ℕ) (rows items : List V) (bodies own_bodies : List Conjunction) (supports own_supports : List Support) (count atoms : ℕ) (rules : List DefiniteRule)
    → map f items ≡ map (waits_of bodies supports) (range_with_len 0 (count + 1)) → bodies ≡ own_bodies → supports ≡ own_supports → count ≡ atoms → rows ≡ items → rules ≡ rules_with 0 (map f rows)
    → rules ≡ waiting_rules own_bodies own_supports (atoms + 1)
rules_made f rows items bodies own_bodies supports own_supports count atoms rules e b s n same made =
    made ∙ rules_of_rows bodies supports (map f rows) 0 (count + 1) (ap (map f) same ∙ e)
    ∙ ap (λ bs. waiting_rules bs supports (count + 1)) b ∙ ap (λ ss. waiting_rules own_bodies ss (count + 1)) s ∙ ap (λ k. waiting_rules own_bodies own_supports (k + 1)) n
