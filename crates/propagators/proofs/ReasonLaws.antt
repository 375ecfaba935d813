-- The reason of a gap: its literals, and that it is valid.
use Rattle.std.proofs.Common.{◌≡◌, ℕ, ◌-◌, ◌^◌, ◌≤◌, ◌==◌, Bool, true, false, cond, ◌&&◌, IsTrue, refl, sym, ◌∙◌, ap, subst, arith, List, [], ◌∷◌, ◌++◌, Option, None, Some, IfSome, ℤ, pos, neg_ℤ, ◌+ℤ◌, ◌-ℤ◌, ◌≤ℤ◌, ◌<ℤ◌, ◌⊎◌, inl, inr}
use Rattle.std.specs.Prelude.{int_le, int_lt, option_to_list, IsSomeAnd}
use Rattle.std.specs.List.{All, AllByRecursion, list_all, list_any}
use Rattle.std.proofs.lemmas.Bool.Decides.{nat_tests}
use Rattle.std.proofs.lemmas.Int.{ints}
use Rattle.std.proofs.lemmas.List.Elements.{All-from_recursion}
use Rattle.symbols.specs.declared.ends.Ends.{Ends}
use Rattle.literals.specs.declared.lit.Lit.{Lit}
use Rattle.literals.specs.declared.lit.Lit.TheVariants.{Constraint, AtMost, AtLeast}
use Rattle.literals.specs.declared.reason.Reason.{Reason}
use Rattle.literals.specs.declared.reason.Step.TheVariants.{Hole}
use Rattle.literals.specs.Lits.{IsLit, implies_lit}
use Rattle.literals.specs.Nogoods.{Rises, has_lit, canonical}
use Rattle.literals.specs.Steps.{IsStep}
use Rattle.literals.proofs.Puts.{all_joined, rises_joined}
use Rattle.ground_model.specs.declared.int_set.IntSet.{IntSet}
use Rattle.ground_model.proofs.Bools.{and_elim, and_intro, or_left}
use Rattle.linear_normal.specs.declared.constraint.Item.TheVariants.{Value}
use Rattle.linear_normal.specs.Bounds.{bounds_named}
use Rattle.linear_normal.specs.Steps.{is_one_of, none_between}
use Rattle.trail.specs.declared.shape.Shape.{Shape}
use Rattle.trail.specs.Implied.{implied}
use Rattle.trail.specs.Assignment.{Assignment, IsAssignment, Names, lower_on, upper_on}
use Rattle.propagator_core.specs.Shown.{IsSpelled}
use Rattle.trail_bounds.specs.OnTrail.{is_of, bounds_on}
use Rattle.trail_bounds.specs.Backing.{Follow}
use Rattle.trail_bounds.proofs.Backs.{each_append, each_front, each_back, each_as}
use Rattle.trail_bounds.proofs.Ranges.{range_is, on_low, on_high, implied-least, implied-most}
use Rattle.trail_bounds.proofs.Gathering.{all_of, has_from, joined_follow}
use Rattle.propagators.specs.Domains.{fits_domain, is_hole_of, valid_domain}
use Rattle.propagators.specs.declared.gap.Gap.{Gap}
use Rattle.propagators.specs.inner.Gaps.{IsGap, IsAtBound, IsBeside, lit_over, lit_under, Explains}
use Rattle.propagators.proofs.GapLaws.{le_true, true_le, lt_true, lt_false}

-- THE SHAPE

-- the shape has the constraint and the variable
pub record Fits (s : Shape) (number x : ℕ) : Type 0 where
  pub number_low : 1 ≤ number
  pub number_high : number ≤ s.constraints
  pub x_low : 1 ≤ x
  pub x_high : x ≤ s.variables

one_of : (last n : ℕ) → is_one_of last n ≡ true → (1 ≤ n) × (n ≤ last)
one_of last n h = (grind (arith, nat_tests), grind (arith, nat_tests))

pub fits_is : (s : Shape) (number x : ℕ) → IsTrue (fits_domain number x s) → Fits s number x
fits_is s number x h =
    let p = and_elim (is_one_of s.constraints number) (is_one_of s.variables x) h in
    let a = one_of s.constraints number p.0 in
    let b = one_of s.variables x p.1 in
    record { number_low = a.0; number_high = a.1; x_low = b.0; x_high = b.1 }

pub number_names : (s : Shape) (number x : ℕ) (side : Bool) → Fits s number x → Names s (Constraint number side)
number_names s number x side f = record { literal = f.number_low; within = f.number_high }

-- BOUNDS OF THE VARIABLE

pub record InEnds (low high : ℤ) : Type 0 where
  pub low_small : neg_ℤ (pos (2 ^ 30 - 1)) ≤ℤ low
  pub low_large : low ≤ℤ pos (2 ^ 30 - 1)
  pub high_small : neg_ℤ (pos (2 ^ 30 - 1)) ≤ℤ high
  pub high_large : high ≤ℤ pos (2 ^ 30 - 1)

pub bounds_in : (t : Assignment) (x : ℕ) → IsAssignment t → InEnds (lower_on t x) (upper_on t x)
bounds_in t x h =
    let r = range_is t (Value x (pos 0)) h in
    go (lower_on t x) (upper_on t x) ((bounds_on t).low x) ((bounds_on t).high x) (on_low t x) (on_high t x) r.0.0 r.0.1 r.1.0 r.1.1
  where
    go : (low high a b : ℤ) → a ≡ low → b ≡ high → neg_ℤ (pos (2 ^ 30 - 1)) ≤ℤ a → a ≤ℤ pos (2 ^ 30 - 1) → neg_ℤ (pos (2 ^ 30 - 1)) ≤ℤ b → b ≤ℤ pos (2 ^ 30 - 1) → InEnds low high
    go low high a b e f p q r s = record {
      low_small = omega (arith, ints, e, p);
      low_large = omega (arith, ints, e, q);
      high_small = omega (arith, ints, f, r);
      high_large = omega (arith, ints, f, s);
    }

pub at_in : (t : Assignment) (x : ℕ) (at : ℤ) → IsAssignment t → (at ≡ lower_on t x) ⊎ (at ≡ upper_on t x) → (neg_ℤ (pos (2 ^ 30 - 1)) ≤ℤ at) × (at ≤ℤ pos (2 ^ 30 - 1))
at_in t x at h (inl e) = let i = bounds_in t x h in (go at (lower_on t x) e i.low_small, up at (lower_on t x) e i.low_large)
  where
    go : (a b : ℤ) → a ≡ b → neg_ℤ (pos (2 ^ 30 - 1)) ≤ℤ b → neg_ℤ (pos (2 ^ 30 - 1)) ≤ℤ a
    go a b e h = omega (arith, ints, e, h)

    up : (a b : ℤ) → a ≡ b → b ≤ℤ pos (2 ^ 30 - 1) → a ≤ℤ pos (2 ^ 30 - 1)
    up a b e h = omega (arith, ints, e, h)
at_in t x at h (inr e) = let i = bounds_in t x h in (go at (upper_on t x) e i.high_small, up at (upper_on t x) e i.high_large)
  where
    go : (a b : ℤ) → a ≡ b → neg_ℤ (pos (2 ^ 30 - 1)) ≤ℤ b → neg_ℤ (pos (2 ^ 30 - 1)) ≤ℤ a
    go a b e h = omega (arith, ints, e, h)

    up : (a b : ℤ) → a ≡ b → b ≤ℤ pos (2 ^ 30 - 1) → a ≤ℤ pos (2 ^ 30 - 1)
    up a b e h = omega (arith, ints, e, h)

-- one more and one less than what stands beside the gap fit 32 bits
pub below_small : (t : Assignment) (x : ℕ) (intervals : List (ℤ × ℤ)) (gap : Gap) → IsAssignment t → IsAtBound t x intervals gap → IfSome gap.below (λ a. a <ℤ pos (2 ^ 31 - 1))
below_small t x intervals gap h b = go gap.below b.is.over
  where
    go : (below : Option ℤ) → IfSome below (λ a. a <ℤ b.at) → IfSome below (λ a. a <ℤ pos (2 ^ 31 - 1))
    go None o = tt
    go (Some a) o = let i = (at_in t x b.at h b.bound).1 in less b.at o i
      where
        less : (k : ℤ) → a <ℤ k → k ≤ℤ pos (2 ^ 30 - 1) → a <ℤ pos (2 ^ 31 - 1)
        less k f g = omega (arith, ints, f, g)

pub above_small : (t : Assignment) (x : ℕ) (intervals : List (ℤ × ℤ)) (gap : Gap) → IsAssignment t → IsAtBound t x intervals gap → IfSome gap.above (λ a. neg_ℤ (pos (2 ^ 31)) <ℤ a)
above_small t x intervals gap h b = go gap.above b.is.under
  where
    go : (above : Option ℤ) → IfSome above (λ a. b.at <ℤ a) → IfSome above (λ a. neg_ℤ (pos (2 ^ 31)) <ℤ a)
    go None o = tt
    go (Some a) o = let i = (at_in t x b.at h b.bound).0 in less b.at o i
      where
        less : (k : ℤ) → k <ℤ a → neg_ℤ (pos (2 ^ 30 - 1)) ≤ℤ k → neg_ℤ (pos (2 ^ 31)) <ℤ a
        less k f g = omega (arith, ints, f, g)

-- LITERALS OF THE REASON

pub least_names : (s : Shape) (number x : ℕ) (k : ℤ) → Fits s number x → neg_ℤ (pos (2 ^ 30 - 1)) ≤ℤ k → k ≤ℤ pos (2 ^ 30) → Names s (AtLeast x k)
least_names s number x k f a b = record { literal = (f.x_low, a, b); within = f.x_high }

pub most_names : (s : Shape) (number x : ℕ) (k : ℤ) → Fits s number x → neg_ℤ (pos (2 ^ 30)) ≤ℤ k → k ≤ℤ pos (2 ^ 30 - 1) → Names s (AtMost x k)
most_names s number x k f a b = record { literal = (f.x_low, a, b); within = f.x_high }

over_names : (s : Shape) (number x : ℕ) (at : ℤ) (below : Option ℤ) → Fits s number x → at ≤ℤ pos (2 ^ 30 - 1) → IfSome below (λ a. a <ℤ at) → AllByRecursion (Names s) (option_to_list (lit_over s.ends x below))
over_names s number x at None f h o = tt
over_names s number x at (Some a) f h o = cases (int_lt a s.ends.min) refl
  where
    cases : (b : Bool) → int_lt a s.ends.min ≡ b → AllByRecursion (Names s) (option_to_list (cond b None (Some (AtLeast x (a +ℤ pos 1)))))
    cases true e = tt
    cases false e = (least_names s number x (a +ℤ pos 1) f (low s.ends.min s.ends.low (lt_false a s.ends.min e)) (omega (arith, ints, h, o)), tt)
      where
        low : (m : ℤ) → neg_ℤ (pos (2 ^ 30 - 1)) ≤ℤ m → m ≤ℤ a → neg_ℤ (pos (2 ^ 30 - 1)) ≤ℤ (a +ℤ pos 1)
        low m p q = omega (arith, ints, p, q)

under_names : (s : Shape) (number x : ℕ) (at : ℤ) (above : Option ℤ) → Fits s number x → neg_ℤ (pos (2 ^ 30 - 1)) ≤ℤ at → IfSome above (λ b. at <ℤ b) → AllByRecursion (Names s) (option_to_list (lit_under s.ends x above))
under_names s number x at None f h o = tt
under_names s number x at (Some a) f h o = cases (int_lt s.ends.max a) refl
  where
    cases : (b : Bool) → int_lt s.ends.max a ≡ b → AllByRecursion (Names s) (option_to_list (cond b None (Some (AtMost x (a -ℤ pos 1)))))
    cases true e = tt
    cases false e = (most_names s number x (a -ℤ pos 1) f (omega (arith, ints, h, o)) (high s.ends.max s.ends.high (lt_false s.ends.max a e)), tt)
      where
        high : (m : ℤ) → m ≤ℤ pos (2 ^ 30 - 1) → a ≤ℤ m → (a -ℤ pos 1) ≤ℤ pos (2 ^ 30 - 1)
        high m p q = omega (arith, ints, p, q)

-- each follows, from the list or from the ends
over_implied : (ends : Ends) (ls : List Lit) (x : ℕ) (below : Option ℤ) → Follow ends ls (option_to_list (lit_over ends x below)) → IfSome below (λ a. implied ends ls (AtLeast x (a +ℤ pos 1)) ≡ true)
over_implied ends ls x None f = tt
over_implied ends ls x (Some a) f = cases (int_lt a ends.min) refl f
  where
    cases : (b : Bool) → int_lt a ends.min ≡ b → Follow ends ls (option_to_list (cond b None (Some (AtLeast x (a +ℤ pos 1))))) → implied ends ls (AtLeast x (a +ℤ pos 1)) ≡ true
    cases true e f = or_left (int_le (a +ℤ pos 1) ends.min) (list_any (λ m. implies_lit m (AtLeast x (a +ℤ pos 1))) ls) (next a ends.min (lt_true a ends.min e))
      where
        next : (u v : ℤ) → u <ℤ v → int_le (u +ℤ pos 1) v ≡ true
        next u v h = true_le (u +ℤ pos 1) v (omega (arith, ints, h))
    cases false e f = f.0

under_implied : (ends : Ends) (ls : List Lit) (x : ℕ) (above : Option ℤ) → Follow ends ls (option_to_list (lit_under ends x above)) → IfSome above (λ b. implied ends ls (AtMost x (b -ℤ pos 1)) ≡ true)
under_implied ends ls x None f = tt
under_implied ends ls x (Some a) f = cases (int_lt ends.max a) refl f
  where
    cases : (b : Bool) → int_lt ends.max a ≡ b → Follow ends ls (option_to_list (cond b None (Some (AtMost x (a -ℤ pos 1))))) → implied ends ls (AtMost x (a -ℤ pos 1)) ≡ true
    cases true e f = or_left (int_le ends.max (a -ℤ pos 1)) (list_any (λ m. implies_lit m (AtMost x (a -ℤ pos 1))) ls) (next ends.max a (lt_true ends.max a e))
      where
        next : (u v : ℤ) → u <ℤ v → int_le u (v -ℤ pos 1) ≡ true
        next u v h = true_le u (v -ℤ pos 1) (omega (arith, ints, h))
    cases false e f = f.0

over_beside : (ends : Ends) (x : ℕ) (gap : Gap) (below : Option ℤ) → gap.below ≡ below → AllByRecursion (IsBeside x gap) (option_to_list (lit_over ends x below))
over_beside ends x gap None e = tt
over_beside ends x gap (Some a) e = cases (int_lt a ends.min)
  where
    cases : (b : Bool) → AllByRecursion (IsBeside x gap) (option_to_list (cond b None (Some (AtLeast x (a +ℤ pos 1)))))
    cases true = tt
    cases false = (inl (subst (λ (o : Option ℤ). IsSomeAnd o (λ c. AtLeast x (a +ℤ pos 1) ≡ AtLeast x (c +ℤ pos 1))) (sym e) refl), tt)

under_beside : (ends : Ends) (x : ℕ) (gap : Gap) (above : Option ℤ) → gap.above ≡ above → AllByRecursion (IsBeside x gap) (option_to_list (lit_under ends x above))
under_beside ends x gap None e = tt
under_beside ends x gap (Some a) e = cases (int_lt ends.max a)
  where
    cases : (b : Bool) → AllByRecursion (IsBeside x gap) (option_to_list (cond b None (Some (AtMost x (a -ℤ pos 1)))))
    cases true = tt
    cases false = (inr (subst (λ (o : Option ℤ). IsSomeAnd o (λ c. AtMost x (a -ℤ pos 1) ≡ AtMost x (c -ℤ pos 1))) (sym e) refl), tt)

-- the literals one after another
pub gathered : (l : Lit) (a b c : List Lit) (u v o w : Option Lit) → a ≡ l ∷ [] → b ≡ a ++ option_to_list u → c ≡ b ++ option_to_list o → u ≡ v → o ≡ w → c ≡ l ∷ (option_to_list v ++ option_to_list w)
gathered l a b c u v o w e f g h k =
    g ∙ ap (λ (ls : List Lit). ls ++ option_to_list o) (f ∙ ap (λ (ls : List Lit). ls ++ option_to_list u) e)
    ∙ ap (λ p. l ∷ (option_to_list p ++ option_to_list o)) h ∙ ap (λ p. l ∷ (option_to_list v ++ option_to_list p)) k

lits_names : (t : Assignment) (number x : ℕ) (intervals : List (ℤ × ℤ)) (gap : Gap) → IsAssignment t → Fits t.shape number x → IsAtBound t x intervals gap → AllByRecursion (Names t.shape) (Constraint number true ∷ (option_to_list (lit_under t.shape.ends x gap.above) ++ option_to_list (lit_over t.shape.ends x gap.below)))
lits_names t number x intervals gap h f b =
    let i = at_in t x b.at h b.bound in (
      number_names t.shape number x true f,
      each_append (Names t.shape) (option_to_list (lit_under t.shape.ends x gap.above)) (option_to_list (lit_over t.shape.ends x gap.below))
          (under_names t.shape number x b.at gap.above f i.0 b.is.under) (over_names t.shape number x b.at gap.below f i.1 b.is.over),
    )

-- each is well formed
pub are_lits : (t : Assignment) (number x : ℕ) (intervals : List (ℤ × ℤ)) (gap : Gap) (lits : List Lit) → IsAssignment t → IsTrue (fits_domain number x t.shape) → IsAtBound t x intervals gap → lits ≡ Constraint number true ∷ (option_to_list (lit_under t.shape.ends x gap.above) ++ option_to_list (lit_over t.shape.ends x gap.below)) → All IsLit lits
are_lits t number x intervals gap lits h fit b e =
    subst (λ (ls : List Lit). All IsLit ls) (sym e)
    (All-from_recursion IsLit (Constraint number true ∷ (option_to_list (lit_under t.shape.ends x gap.above) ++ option_to_list (lit_over t.shape.ends x gap.below)))
    (each_as (Names t.shape) IsLit (Constraint number true ∷ (option_to_list (lit_under t.shape.ends x gap.above) ++ option_to_list (lit_over t.shape.ends x gap.below))) (λ m n. n.literal)
    (lits_names t number x intervals gap h (fits_is t.shape number x fit) b)))

-- what was gathered explains
pub explains : (t : Assignment) (number x : ℕ) (intervals : List (ℤ × ℤ)) (gap : Gap) (r : Reason) → IsAssignment t → IsTrue (fits_domain number x t.shape) → IsAtBound t x intervals gap → r.nogood ≡ canonical (Constraint number true ∷ (option_to_list (lit_under t.shape.ends x gap.above) ++ option_to_list (lit_over t.shape.ends x gap.below))) → r.step ≡ Hole number → Explains t number x gap r
explains t number x intervals gap r h fit b e step =
    let f = fits_is t.shape number x fit in
    let follow = subst (λ (ls : List Lit). Follow t.shape.ends ls (Constraint number true ∷ (option_to_list (lit_under t.shape.ends x gap.above) ++ option_to_list (lit_over t.shape.ends x gap.below)))) (sym e)
    (joined_follow t.shape.ends [] (Constraint number true ∷ (option_to_list (lit_under t.shape.ends x gap.above) ++ option_to_list (lit_over t.shape.ends x gap.below)))) in
    record {
      step = step;
      rises = subst Rises (sym e) (rises_joined [] (Constraint number true ∷ (option_to_list (lit_under t.shape.ends x gap.above) ++ option_to_list (lit_over t.shape.ends x gap.below))) tt);
      names = subst (λ (ls : List Lit). AllByRecursion (Names t.shape) ls) (sym e)
          (all_joined (Names t.shape) [] (Constraint number true ∷ (option_to_list (lit_under t.shape.ends x gap.above) ++ option_to_list (lit_over t.shape.ends x gap.below))) tt
          (lits_names t number x intervals gap h f b));
      listed = follow.0;
      over = over_implied t.shape.ends r.nogood x gap.below (each_back (λ m. implied t.shape.ends r.nogood m ≡ true) (option_to_list (lit_under t.shape.ends x gap.above)) (option_to_list (lit_over t.shape.ends x gap.below)) follow.1);
      under = under_implied t.shape.ends r.nogood x gap.above (each_front (λ m. implied t.shape.ends r.nogood m ≡ true) (option_to_list (lit_under t.shape.ends x gap.above)) (option_to_list (lit_over t.shape.ends x gap.below)) follow.1);
      each = subst (λ (ls : List Lit). AllByRecursion (λ l. (l ≡ Constraint number true) ⊎ IsBeside x gap l) ls) (sym e)
          (all_joined (λ l. (l ≡ Constraint number true) ⊎ IsBeside x gap l) [] (Constraint number true ∷ (option_to_list (lit_under t.shape.ends x gap.above) ++ option_to_list (lit_over t.shape.ends x gap.below))) tt (
            inl refl,
            each_as (IsBeside x gap) (λ l. (l ≡ Constraint number true) ⊎ IsBeside x gap l) (option_to_list (lit_under t.shape.ends x gap.above) ++ option_to_list (lit_over t.shape.ends x gap.below)) (λ m o. inr o)
                (each_append (IsBeside x gap) (option_to_list (lit_under t.shape.ends x gap.above)) (option_to_list (lit_over t.shape.ends x gap.below)) (under_beside t.shape.ends x gap gap.above refl) (over_beside t.shape.ends x gap gap.below refl)),
          ));
    }

-- VALIDITY

same_number : (n : ℕ) → (n == n) ≡ true
same_number n = grind (arith, nat_tests)

named_over : (ends : Ends) (ls : List Lit) (x : ℕ) (below : Option ℤ) → IfSome below (λ a. implied ends ls (AtLeast x (a +ℤ pos 1)) ≡ true) → IfSome below (λ a. a <ℤ (bounds_named ends ls).low x)
named_over ends ls x None o = tt
named_over ends ls x (Some a) o = next ((bounds_named ends ls).low x) (le_true (a +ℤ pos 1) ((bounds_named ends ls).low x) (sym (implied-least ends ls (Value x (pos 0)) (a +ℤ pos 1) refl) ∙ o))
  where
    next : (k : ℤ) → (a +ℤ pos 1) ≤ℤ k → a <ℤ k
    next k h = omega (arith, ints, h)

named_under : (ends : Ends) (ls : List Lit) (x : ℕ) (above : Option ℤ) → IfSome above (λ b. implied ends ls (AtMost x (b -ℤ pos 1)) ≡ true) → IfSome above (λ b. (bounds_named ends ls).high x <ℤ b)
named_under ends ls x None o = tt
named_under ends ls x (Some a) o = next ((bounds_named ends ls).high x) (le_true ((bounds_named ends ls).high x) (a -ℤ pos 1) (sym (implied-most ends ls (Value x (pos 0)) (a -ℤ pos 1) refl) ∙ o))
  where
    next : (k : ℤ) → k ≤ℤ (a -ℤ pos 1) → k <ℤ a
    next k h = omega (arith, ints, h)

pub valid_gap : (t : Assignment) (number x : ℕ) (set : IntSet) (at : ℤ) (gap : Gap) (r : Reason) → IsGap set.intervals at gap → Explains t number x gap r → IsTrue (valid_domain number x set t.shape r)
valid_gap t number x set at gap r g e =
    join (list_all (is_of t.shape) r.nogood) (is_hole_of number r.step) (has_lit r.nogood (Constraint number true)) (none_between ((bounds_named t.shape.ends r.nogood).low x) ((bounds_named t.shape.ends r.nogood).high x) set.intervals)
    (all_of t.shape r.nogood e.names)
    (ap (is_hole_of number) e.step ∙ same_number number)
    (has_from number true r.nogood e.listed)
    (g.none ((bounds_named t.shape.ends r.nogood).low x) ((bounds_named t.shape.ends r.nogood).high x) (named_over t.shape.ends r.nogood x gap.below e.over) (named_under t.shape.ends r.nogood x gap.above e.under))
  where
    join : (p q u v : Bool) → p ≡ true → q ≡ true → u ≡ true → v ≡ true → ((p && q) && (u && v)) ≡ true
    join p q u v a b c d = and_intro (p && q) (u && v) (and_intro p q a b) (and_intro u v c d)

-- a line can tell it
pub spelled : (t : Assignment) (number x : ℕ) (gap : Gap) (r : Reason) → Explains t number x gap r → IsSpelled t.shape r
spelled t number x gap r e = record { rises = e.rises; named = e.names; step = subst IsStep (sym e.step) tt }

-- what a valid reason says
pub valid_parts : (number x : ℕ) (set : IntSet) (s : Shape) (r : Reason) → IsTrue (valid_domain number x set s r) → (list_all (is_of s) r.nogood ≡ true) × (is_hole_of number r.step ≡ true) × (has_lit r.nogood (Constraint number true) ≡ true) × (none_between ((bounds_named s.ends r.nogood).low x) ((bounds_named s.ends r.nogood).high x) set.intervals ≡ true)
valid_parts number x set s r v =
    let p = and_elim (list_all (is_of s) r.nogood && is_hole_of number r.step) (has_lit r.nogood (Constraint number true) && none_between ((bounds_named s.ends r.nogood).low x) ((bounds_named s.ends r.nogood).high x) set.intervals) v in
    let q = and_elim (list_all (is_of s) r.nogood) (is_hole_of number r.step) p.0 in
    let w = and_elim (has_lit r.nogood (Constraint number true)) (none_between ((bounds_named s.ends r.nogood).low x) ((bounds_named s.ends r.nogood).high x) set.intervals) p.1 in
    (q.0, q.1, w.0, w.1)
