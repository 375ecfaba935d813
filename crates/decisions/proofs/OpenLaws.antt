-- Bounds between the least and the greatest value of a variable are open.
use Rattle.std.proofs.Common.{◌≡◌, ℕ, ◌≤◌, ◌||◌, Bool, true, false, ℤ, pos, int_le, ◌+ℤ◌, ◌-ℤ◌, ◌≤ℤ◌, ◌<ℤ◌, refl, sym, ◌∙◌, ap, subst, arith}
use Rattle.std.specs.List.{list_any}
use Rattle.std.proofs.lemmas.Bool.Decides.{nat_tests}
use Rattle.std.proofs.lemmas.Int.{ints}
use Rattle.literals.specs.declared.lit.Lit.TheVariants.{AtMost, AtLeast}
use Rattle.literals.specs.Lits.{implies_lit}
use Rattle.trail.specs.Implied.{ends_imply}
use Rattle.trail.specs.Assignment.{Assignment, IsAssignment, lits_of, lower_on, upper_on}
use Rattle.trail.proofs.AssignmentLaws.{bounds_meet}
use Rattle.trail.proofs.ImpliedLaws.{implied-at_most, implied-at_least, truth-of}
use Rattle.decisions.specs.Open.{IsOpen}

or_left : (a b : Bool) → a ≡ true → (a || b) ≡ true
or_left true b h = refl
or_left false b h = let no : false ≡ true = h in cc

same : (z : ℤ) → int_le z z ≡ true
same z = grind (arith, ints)

order : (y z : ℤ) → int_le y z ≡ true → y ≤ℤ z
order y z e = grind (arith, ints)

above : (y z : ℤ) → z <ℤ y → int_le y z ≡ false
above y z h = grind (arith, nat_tests, ints, h)

lower_end : (t : Assignment) (x : ℕ) → t.shape.ends.min ≤ℤ lower_on t x
lower_end t x =
    order t.shape.ends.min (lower_on t x)
    (sym (implied-at_least t.shape.ends (lits_of t.entries) x t.shape.ends.min)
    ∙ or_left (ends_imply t.shape.ends (AtLeast x t.shape.ends.min)) (list_any (λ m. implies_lit m (AtLeast x t.shape.ends.min)) (lits_of t.entries)) (same t.shape.ends.min))

upper_end : (t : Assignment) (x : ℕ) → upper_on t x ≤ℤ t.shape.ends.max
upper_end t x =
    order (upper_on t x) t.shape.ends.max
    (sym (implied-at_most t.shape.ends (lits_of t.entries) x t.shape.ends.max)
    ∙ or_left (ends_imply t.shape.ends (AtMost x t.shape.ends.max)) (list_any (λ m. implies_lit m (AtMost x t.shape.ends.max)) (lits_of t.entries)) (same t.shape.ends.max))

pub most_open : (t : Assignment) (x : ℕ) (k : ℤ) → 1 ≤ x → x ≤ t.shape.variables → lower_on t x ≤ℤ k → k <ℤ upper_on t x → IsOpen t (AtMost x k)
most_open t x k first within low high =
    let least = lower_end t x in
    let greatest = upper_end t x in
    let min = t.shape.ends.low in
    let max = t.shape.ends.high in
    record {
      named = record { literal = (first, omega (arith, ints, min, least, low), omega (arith, ints, max, greatest, high)); within = within };
      undecided = truth-of t.shape.ends (lits_of t.entries) (AtMost x k) false false
          (implied-at_most t.shape.ends (lits_of t.entries) x k ∙ above (upper_on t x) k high)
          (implied-at_least t.shape.ends (lits_of t.entries) x (k +ℤ pos 1) ∙ above (k +ℤ pos 1) (lower_on t x) (omega (arith, ints, low)));
    }

pub least_open : (t : Assignment) (x : ℕ) (k : ℤ) → 1 ≤ x → x ≤ t.shape.variables → lower_on t x <ℤ k → k ≤ℤ upper_on t x → IsOpen t (AtLeast x k)
least_open t x k first within low high =
    let least = lower_end t x in
    let greatest = upper_end t x in
    let min = t.shape.ends.low in
    let max = t.shape.ends.high in
    record {
      named = record { literal = (first, omega (arith, ints, min, least, low), omega (arith, ints, max, greatest, high)); within = within };
      undecided = truth-of t.shape.ends (lits_of t.entries) (AtLeast x k) false false
          (implied-at_least t.shape.ends (lits_of t.entries) x k ∙ above k (lower_on t x) low)
          (implied-at_most t.shape.ends (lits_of t.entries) x (k -ℤ pos 1) ∙ above (upper_on t x) (k -ℤ pos 1) (omega (arith, ints, high)));
    }

below : (y z : ℤ) → int_le y z ≡ false → z <ℤ y
below y z h = grind (arith, nat_tests, ints, h)

-- a test of numbers that are told as machine words
pub tested : (a b c d : ℤ) (t : Bool) → c ≡ a → d ≡ b → int_le c d ≡ t → int_le a b ≡ t
tested a b c d t e f h = ap (λ (z : ℤ). int_le z b) (sym e) ∙ ap (λ (z : ℤ). int_le c z) (sym f) ∙ h

-- the bound towards a value between the bounds
pub most_at : (t : Assignment) (x : ℕ) (lower upper value k : ℤ) → 1 ≤ x → x ≤ t.shape.variables → lower ≡ lower_on t x → upper ≡ upper_on t x → k ≡ value → int_le lower value ≡ true → int_le upper value ≡ false
    → IsOpen t (AtMost x k)
most_at t x lower upper value k first within is_lower is_upper is low high =
    subst (λ (z : ℤ). IsOpen t (AtMost x z)) (sym is)
    (most_open t x value first within (order (lower_on t x) value (ap (λ (z : ℤ). int_le z value) (sym is_lower) ∙ low)) (below (upper_on t x) value (ap (λ (z : ℤ). int_le z value) (sym is_upper) ∙ high)))

-- at the least value
pub most_least : (t : Assignment) (x : ℕ) (lower upper k : ℤ) → 1 ≤ x → x ≤ t.shape.variables → lower ≡ lower_on t x → upper ≡ upper_on t x → k ≡ lower → lower <ℤ upper → IsOpen t (AtMost x k)
most_least t x lower upper k first within is_lower is_upper is apart =
    most_at t x lower upper lower k first within is_lower is_upper is (same lower) (above upper lower apart)

-- and at the greatest
pub least_greatest : (t : Assignment) (x : ℕ) (lower upper k : ℤ) → 1 ≤ x → x ≤ t.shape.variables → lower ≡ lower_on t x → upper ≡ upper_on t x → k ≡ upper → lower <ℤ upper → IsOpen t (AtLeast x k)
least_greatest t x lower upper k first within is_lower is_upper is apart =
    subst (λ (z : ℤ). IsOpen t (AtLeast x z)) (sym (is ∙ is_upper))
    (least_open t x (upper_on t x) first within (subst (λ (z : ℤ). z <ℤ upper_on t x) is_lower (subst (λ (z : ℤ). lower <ℤ z) is_upper apart)) (order (upper_on t x) (upper_on t x) (same (upper_on t x))))

meet : (a b : ℤ) → a ≤ℤ b → b ≤ℤ a → a ≡ b
meet a b h k = omega (arith, ints, h, k)

-- bounds of a trail that do not lie apart are one
pub closed : (t : Assignment) (x : ℕ) (lower upper : ℤ) → IsAssignment t → lower ≡ lower_on t x → upper ≡ upper_on t x → int_le upper lower ≡ true → lower_on t x ≡ upper_on t x
closed t x lower upper is is_lower is_upper h =
    meet (lower_on t x) (upper_on t x) (bounds_meet t x is) (order (upper_on t x) (lower_on t x) (tested (upper_on t x) (lower_on t x) upper lower true is_upper is_lower h))
