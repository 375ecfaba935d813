-- What a total trail says of literals, and the answer that it gives.
use Rattle.std.proofs.Common.{◌≡◌, ℕ, zero, suc, ◌+◌, ◌-◌, ◌<◌, ◌≤◌, nat_lt, Bool, true, false, cond, ◌∷◌, filter, length, refl, sym, ◌∙◌, subst, true≢false, ℤ, pos, ◌≤ℤ◌, int_le, None, Some, is_some, IsTrue, arith}
use Rattle.std.specs.List.{AllByRecursion, range_with_len}
use Rattle.std.proofs.lemmas.Bool.Decides.{nat_tests}
use Rattle.std.proofs.lemmas.Int.{ints}
use Rattle.std.proofs.lemmas.List.FromFn.{length-map-range_with_len, get_or-map-range_with_len}
use Rattle.literals.specs.declared.lit.Lit.{Lit}
use Rattle.literals.specs.declared.lit.Lit.TheVariants as l
use Rattle.literals.specs.Lits.{complement_of}
use Rattle.ground_model.specs.Answers.{IsNumbered, IsWithin, ascend_from, value_at, has_atom}
use Rattle.ground_model.proofs.Bools.{and_intro, or_left, same_test}
use Rattle.linear_normal.proofs.ListLemmas.{all_map, filter_member, member_filter, among_member, member_among, range_numbered, numbered_range}
use Rattle.trail.specs.Implied.{ends_imply}
use Rattle.trail.specs.Assignment.{Assignment, lits_of, is_true_on, truth_on, lower_on, upper_on}
use Rattle.trail.proofs.ImpliedLaws.{implied-at_most, implied-at_least}
use Rattle.trail_worlds.specs.Total.{IsTotal}
use Rattle.trail_worlds.specs.Worlds.{answer_on}

-- where a literal is decided and not true, its opposite is true
pub opposite_on : (t : Assignment) (lit : Lit) → IsTrue (is_some (truth_on t lit)) → is_true_on t lit ≡ false → is_true_on t (complement_of lit) ≡ true
opposite_on t lit some off = cases (is_true_on t lit) (is_true_on t (complement_of lit)) some off
  where
    cases : (a b : Bool) → is_some (cond a (Some true) (cond b (Some false) None)) ≡ true → a ≡ false → b ≡ true
    cases true b e f = absurd (true≢false f)
    cases false true e f = refl
    cases false false e f = absurd (true≢false (sym e))

-- where a literal is decided, its truth is whether it is true
pub truth_is : (t : Assignment) (lit : Lit) → IsTrue (is_some (truth_on t lit)) → truth_on t lit ≡ Some (is_true_on t lit)
truth_is t lit some = cases (is_true_on t lit) (is_true_on t (complement_of lit)) some
  where
    cases : (a b : Bool) → is_some (cond a (Some true) (cond b (Some false) None)) ≡ true → cond a (Some true) (cond b (Some false) None) ≡ Some a
    cases true b e = refl
    cases false true e = refl
    cases false false e = absurd (true≢false (sym e))

-- ALL IS DECIDED

module _ (t : Assignment) (total : IsTotal t) where
  counted : (last n : ℕ) → IsNumbered last n → 1 ≤ n
  counted last n is = let above = is.above in omega (arith, above)

  pub atom_decided : (a : ℕ) → IsNumbered t.shape.atoms a → IsTrue (is_some (truth_on t (l.Atom a true)))
  atom_decided a is = total.atoms a (counted t.shape.atoms a is) is.known

  pub body_decided : (b : ℕ) → IsNumbered t.shape.bodies b → IsTrue (is_some (truth_on t (l.Body b true)))
  body_decided b is = total.bodies b (counted t.shape.bodies b is) is.known

  pub constraint_decided : (n : ℕ) → IsNumbered t.shape.constraints n → IsTrue (is_some (truth_on t (l.Constraint n true)))
  constraint_decided n is = total.constraints n (counted t.shape.constraints n is) is.known

  pub value_decided : (x : ℕ) → IsNumbered t.shape.variables x → lower_on t x ≡ upper_on t x
  value_decided x is = total.values x (counted t.shape.variables x is) is.known

-- THE ANSWER

module _ (t : Assignment) where
  pub atom_known : (a : ℕ) → has_atom (answer_on t).atoms a ≡ true → IsNumbered t.shape.atoms a
  atom_known a e =
      range_numbered t.shape.atoms a
      (filter_member (λ b. is_true_on t (l.Atom b true)) (range_with_len 1 t.shape.atoms) a (among_member (answer_on t).atoms a e)).0

  pub atom_is : (a : ℕ) → IsNumbered t.shape.atoms a → has_atom (answer_on t).atoms a ≡ is_true_on t (l.Atom a true)
  atom_is a is =
      same_test (has_atom (answer_on t).atoms a) (is_true_on t (l.Atom a true))
      (λ e. (filter_member (λ b. is_true_on t (l.Atom b true)) (range_with_len 1 t.shape.atoms) a (among_member (answer_on t).atoms a e)).1)
      (λ e. member_among (answer_on t).atoms a (member_filter (λ b. is_true_on t (l.Atom b true)) (range_with_len 1 t.shape.atoms) a (numbered_range t.shape.atoms a is) e))

  pub value_is : (x : ℕ) → IsNumbered t.shape.variables x → value_at (answer_on t).values x ≡ lower_on t x
  value_is x is =
      let above = is.above in
      let known = is.known in
      get_or-map-range_with_len (λ y. lower_on t y) 1 t.shape.variables (x - 1) x (pos 0) (omega (arith, above, known)) (omega (arith, above))

  range_ascends : (p : ℕ → Bool) (last start n : ℕ) → last < start → ascend_from last (filter p (range_with_len start n)) ≡ true
  range_ascends p last start zero below = refl
  range_ascends p last start (suc n) below = go (p start) (range_ascends p start (start + 1) n (omega arith)) (range_ascends p last (start + 1) n (omega (arith, below)))
    where
      less : (x y : ℕ) → x < y → nat_lt x y ≡ true
      less x y h = grind (arith, nat_tests, h)

      go : (b : Bool) → ascend_from start (filter p (range_with_len (start + 1) n)) ≡ true → ascend_from last (filter p (range_with_len (start + 1) n)) ≡ true
          → ascend_from last (cond b (start ∷ filter p (range_with_len (start + 1) n)) (filter p (range_with_len (start + 1) n))) ≡ true
      go true r s = and_intro (nat_lt last start) (ascend_from start (filter p (range_with_len (start + 1) n))) (less last start below) r
      go false r s = s

  pub answer_ascends : ascend_from 0 (answer_on t).atoms ≡ true
  answer_ascends = range_ascends (λ a. is_true_on t (l.Atom a true)) 0 1 t.shape.atoms (omega arith)

  pub answer_length : length (answer_on t).values ≡ t.shape.variables
  answer_length = length-map-range_with_len (λ x. lower_on t x) 1 t.shape.variables

  pub lower_end : (x : ℕ) → t.shape.ends.min ≤ℤ lower_on t x
  lower_end x =
      order t.shape.ends.min (lower_on t x)
      (sym (implied-at_least t.shape.ends (lits_of t.entries) x t.shape.ends.min) ∙ or_left (ends_imply t.shape.ends (l.AtLeast x t.shape.ends.min)) (Rattle.std.specs.List.list_any (λ m. Rattle.literals.specs.Lits.implies_lit m (l.AtLeast x t.shape.ends.min)) (lits_of t.entries)) (same t.shape.ends.min))
    where
      same : (z : ℤ) → int_le z z ≡ true
      same z = grind (arith, ints)

      order : (y z : ℤ) → int_le y z ≡ true → y ≤ℤ z
      order y z e = grind (arith, ints)

  pub upper_end : (x : ℕ) → upper_on t x ≤ℤ t.shape.ends.max
  upper_end x =
      order (upper_on t x) t.shape.ends.max
      (sym (implied-at_most t.shape.ends (lits_of t.entries) x t.shape.ends.max) ∙ or_left (ends_imply t.shape.ends (l.AtMost x t.shape.ends.max)) (Rattle.std.specs.List.list_any (λ m. Rattle.literals.specs.Lits.implies_lit m (l.AtMost x t.shape.ends.max)) (lits_of t.entries)) (same t.shape.ends.max))
    where
      same : (z : ℤ) → int_le z z ≡ true
      same z = grind (arith, ints)

      order : (y z : ℤ) → int_le y z ≡ true → y ≤ℤ z
      order y z e = grind (arith, ints)

  pub answer_within : IsTotal t → AllByRecursion (IsWithin t.shape.ends) (answer_on t).values
  answer_within total =
      all_map (IsWithin t.shape.ends) (λ x. lower_on t x) (range_with_len 1 t.shape.variables)
      (λ x m. (lower_end x, subst (λ z. z ≤ℤ t.shape.ends.max) (sym (value_decided t total x (range_numbered t.shape.variables x m))) (upper_end x)))
