-- Terms that count different things.
use Rattle.std.proofs.Common.{◌≡◌, ℕ, zero, suc, ◌+◌, ◌<◌, ◌==◌, Bool, true, false, cond, not, ◌⊎◌, inl, inr, List, [], ◌∷◌, map, filter, length, refl, sym, ◌∙◌, ap, subst, true≢false, eqb-true, ℤ, pos, Some, slice_get, int_eq, map-id, arith}
use Rattle.std.specs.List.{AllByRecursion, list_any, range_with_len}
use Rattle.ground_model.specs.declared.linear.Linear.{Linear}
use Rattle.ground_model.specs.declared.rule.ChoiceItem.{ChoiceItem}
use Rattle.ground_model.specs.Members.{IsMember}
use Rattle.ground_model.proofs.Bools.{or_elim}
use Rattle.linear_normal.specs.Contents.{Term, Variable, Counted, opposite_term, opposite}
use Rattle.linear_normal.specs.Bodies.{numbers_with, atoms_in, selections}
use Rattle.linear_normal.specs.Demands.{moved_coefficient, moved_pairs, terms_of}

-- the two terms count different things
abbrev pub IsOther : Term → Term → Type 0
IsOther (Variable x c) (Variable y d) = x ≡ y → ⊥
IsOther (Counted bodies c) (Counted others d) = bodies ≡ others → ⊥
IsOther one other = Unit {0}

-- so do each two of these
abbrev pub AreOther : List Term → Type 0
AreOther [] = Unit {0}
AreOther (term ∷ terms) = AllByRecursion (IsOther term) terms × AreOther terms

one_turned : (a b : Term) → IsOther a b → IsOther (opposite_term a) (opposite_term b)
one_turned (Variable x c) (Variable y d) o = o
one_turned (Variable x c) (Counted others d) o = tt
one_turned (Counted bodies c) (Variable y d) o = tt
one_turned (Counted bodies c) (Counted others d) o = o

all_turned : (a : Term) (terms : List Term) → AllByRecursion (IsOther a) terms → AllByRecursion (IsOther (opposite_term a)) (opposite terms)
all_turned a [] o = tt
all_turned a (term ∷ terms) o = (one_turned a term o.0, all_turned a terms o.1)

-- the opposite sum counts the same things
pub opposite_other : (terms : List Term) → AreOther terms → AreOther (opposite terms)
opposite_other [] o = tt
opposite_other (term ∷ terms) o = (all_turned term terms o.0, opposite_other terms o.1)

-- KEPT OF A RANGE

pub twice : {X Y Z : Type 0} (f : X → Y) (g : Y → Z) (xs : List X) → map g (map f xs) ≡ map (λ x. g (f x)) xs
twice f g [] = refl
twice f g (x ∷ xs) = ap (λ ys. g (f x) ∷ ys) (twice f g xs)

module _ (X : Type 0) (p : X → Bool) (h : ℕ → X) (f : X → Term) (apart : (a b : ℕ) → a < b → p (h a) ≡ true → p (h b) ≡ true → IsOther (f (h a)) (f (h b))) where
  later : (a start n : ℕ) → p (h a) ≡ true → a < start → AllByRecursion (IsOther (f (h a))) (map f (filter p (map h (range_with_len start n))))
  later a start zero is below = tt
  later a start (suc n) is below = go (p (h start)) refl (later a (start + 1) n is (omega (arith, below)))
    where
      go : (b : Bool) → p (h start) ≡ b → AllByRecursion (IsOther (f (h a))) (map f (filter p (map h (range_with_len (start + 1) n))))
          → AllByRecursion (IsOther (f (h a))) (map f (cond b (h start ∷ filter p (map h (range_with_len (start + 1) n))) (filter p (map h (range_with_len (start + 1) n)))))
      go true e rec = (apart a start below is e, rec)
      go false e rec = rec

  pub kept_other : (start n : ℕ) → AreOther (map f (filter p (map h (range_with_len start n))))
  kept_other start zero = tt
  kept_other start (suc n) = go (p (h start)) refl (kept_other (start + 1) n)
    where
      go : (b : Bool) → p (h start) ≡ b → AreOther (map f (filter p (map h (range_with_len (start + 1) n))))
          → AreOther (map f (cond b (h start ∷ filter p (map h (range_with_len (start + 1) n))) (filter p (map h (range_with_len (start + 1) n)))))
      go true e rec = (later start (start + 1) n e (omega arith), rec)
      go false e rec = rec

-- variables that are moved to one side differ
pub moved_other : (variables : ℕ) (left right : List Linear) → AreOther (terms_of (moved_pairs variables left right))
moved_other variables left right =
    kept_other (ℕ × ℤ) (λ pair. not (int_eq pair.1 (pos 0))) (λ x. (x, moved_coefficient left right x)) (λ pair. Variable pair.0 pair.1)
    (λ a b below p q e. absurd (omega (arith, below, e))) 1 variables

-- TALLIES

-- a number under an atom, where the elements are numbered from n on, is that of an element which has it
abbrev pub IsOfElement : ℕ → List ChoiceItem → ℕ → ℕ → Type 0
IsOfElement n items a m = (j : ℕ) × (item : ChoiceItem) × (slice_get items j ≡ Some item) × (item.atom ≡ a) × (m ≡ n + j)

pub numbers_at : (n : ℕ) (items : List ChoiceItem) (a m : ℕ) → IsMember (numbers_with n items a) m → IsOfElement n items a m
numbers_at n [] a m k = absurd k
numbers_at n (item ∷ items) a m k = go (item.atom == a) refl k (λ q. numbers_at (n + 1) items a m q)
  where
    next : IsOfElement (n + 1) items a m → IsOfElement n (item ∷ items) a m
    next r = let f = r.4 in (suc r.0, r.1, r.2, r.3, omega (arith, f))

    plus_zero : n ≡ n + 0
    plus_zero = omega arith

    go : (b : Bool) → (item.atom == a) ≡ b → IsMember (cond b (n ∷ numbers_with (n + 1) items a) (numbers_with (n + 1) items a)) m
        → (IsMember (numbers_with (n + 1) items a) m → IsOfElement (n + 1) items a m) → IsOfElement n (item ∷ items) a m
    go true e (inl s) rec = (0, item, refl, eqb-true item.atom a e, s ∙ plus_zero)
    go true e (inr q) rec = next (rec q)
    go false e q rec = next (rec q)

numbers_some : (n : ℕ) (items : List ChoiceItem) (a : ℕ) → list_any (λ item. item.atom == a) items ≡ true → (m : ℕ) × IsMember (numbers_with n items a) m
numbers_some n [] a e = absurd (true≢false (sym e))
numbers_some n (item ∷ items) a e = go (item.atom == a) refl (or_elim (item.atom == a) (list_any (λ i. i.atom == a) items) e) (numbers_some (n + 1) items a)
  where
    go : (b : Bool) → (item.atom == a) ≡ b → ((item.atom == a) ≡ true) ⊎ (list_any (λ i. i.atom == a) items ≡ true)
        → (list_any (λ i. i.atom == a) items ≡ true → (m : ℕ) × IsMember (numbers_with (n + 1) items a) m) → (m : ℕ) × IsMember (cond b (n ∷ numbers_with (n + 1) items a) (numbers_with (n + 1) items a)) m
    go true is s rec = (n, inl refl)
    go false is (inl s) rec = absurd (true≢false (sym s ∙ is))
    go false is (inr s) rec = rec s

-- different atoms have different tallies
numbers_apart : (n : ℕ) (items : List ChoiceItem) (a b : ℕ) → a < b → list_any (λ item. item.atom == a) items ≡ true → numbers_with n items a ≡ numbers_with n items b → ⊥
numbers_apart n items a b below some same =
    let m = numbers_some n items a some in
    let one = numbers_at n items a m.0 m.1 in
    let other = numbers_at n items b m.0 (subst (λ ms. IsMember ms m.0) same m.1) in
    let here = one.4 in
    let there = other.4 in
    let place : one.0 ≡ other.0 = omega (arith, here, there) in
    let found : Some one.1 ≡ Some other.1 = sym one.2 ∙ ap (slice_get items) place ∙ other.2 in
    let item : one.1 ≡ other.1 = cc in
    let atoms : a ≡ b = sym one.3 ∙ ap (λ i. i.atom) item ∙ other.3 in
    omega (arith, below, atoms)

pub tallies_other : (atoms first : ℕ) (items : List ChoiceItem) → AreOther (map (λ bodies. Counted bodies (pos 1)) (selections atoms first items))
tallies_other atoms first items =
    subst AreOther (sym (twice (numbers_with (first + 1 + length items) items) (λ bodies. Counted bodies (pos 1)) (atoms_in atoms items)))
    (subst (λ range. AreOther (map (λ a. Counted (numbers_with (first + 1 + length items) items a) (pos 1)) (filter (λ a. list_any (λ item. item.atom == a) items) range))) (map-id (range_with_len 1 atoms))
    (kept_other ℕ (λ a. list_any (λ item. item.atom == a) items) (λ a. a) (λ a. Counted (numbers_with (first + 1 + length items) items a) (pos 1))
    (λ a b below p q e. numbers_apart (first + 1 + length items) items a b below p e) 1 atoms))
