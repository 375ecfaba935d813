-- Where all is decided a sum has one value.
use Rattle.std.proofs.Common.{◌≡◌, ℕ, ◌==◌, Bool, true, false, cond, ◌&&◌, ◌||◌, List, [], ◌∷◌, refl, sym, ◌∙◌, ap, ap₂, ℤ, pos, negsuc, ◌+ℤ◌, ◌*ℤ◌, fold}
use Rattle.std.specs.List.{list_all, list_any}
use Rattle.literals.specs.declared.lit.Lit.{Lit}
use Rattle.literals.specs.declared.lit.Lit.TheVariants as l
use Rattle.literals.specs.Lits.{implies_lit}
use Rattle.ground_model.specs.Answers.{IsNumbered}
use Rattle.ground_model.proofs.Bools.{and_elim}
use Rattle.linear_normal.specs.declared.constraint.Item.{Item}
use Rattle.linear_normal.specs.declared.constraint.Item.TheVariants.{Value, Truth}
use Rattle.linear_normal.specs.Bounds.{Bounds, raised, lowered, counted, discounted, bounds_named, least_times, greatest_times, least_item, greatest_item}
use Rattle.linear_normal.specs.Truth.{item_value}
use Rattle.numbering_laws.specs.Items.{is_item_within}
use Rattle.trail.specs.Implied.{lower_after, upper_after}
use Rattle.trail.specs.Assignment.{Assignment, IsAssignment, lits_of, is_true_on, lower_on, upper_on}
use Rattle.trail.proofs.AssignmentLaws.{agree_on}
use Rattle.trail_worlds.specs.Total.{IsTotal}
use Rattle.trail_worlds.specs.Worlds.{truths_on}
use Rattle.trail_worlds.specs.Sums.{HasOneSum, SumLaw}
use Rattle.trail_worlds.proofs.TrailLemmas.{opposite_on, constraint_decided, value_decided}
use Rattle.trail_worlds.proofs.TruthLemmas.{numbered_one}

-- BOUNDS

abbrev bounds_of : Assignment → Bounds
bounds_of t = bounds_named t.shape.ends (lits_of t.entries)

fold_same : (f g : ℤ → Lit → ℤ) → ((z : ℤ) (lit : Lit) → f z lit ≡ g z lit) → (z : ℤ) (lits : List Lit) → fold f z lits ≡ fold g z lits
fold_same f g same z [] = refl
fold_same f g same z (lit ∷ lits) = fold_same f g same (f z lit) lits ∙ ap (λ y. fold g y lits) (same z lit)

low_is : (t : Assignment) (x : ℕ) → (bounds_of t).low x ≡ lower_on t x
low_is t x = fold_same (raised x) (lower_after x) one t.shape.ends.min (lits_of t.entries)
  where
    one : (z : ℤ) (lit : Lit) → raised x z lit ≡ lower_after x z lit
    one z (l.Atom n s) = refl
    one z (l.Body n s) = refl
    one z (l.Constraint n s) = refl
    one z (l.AtMost y k) = refl
    one z (l.AtLeast y k) = refl

high_is : (t : Assignment) (x : ℕ) → (bounds_of t).high x ≡ upper_on t x
high_is t x = fold_same (lowered x) (upper_after x) one t.shape.ends.max (lits_of t.entries)
  where
    one : (z : ℤ) (lit : Lit) → lowered x z lit ≡ upper_after x z lit
    one z (l.Atom n s) = refl
    one z (l.Body n s) = refl
    one z (l.Constraint n s) = refl
    one z (l.AtMost y k) = refl
    one z (l.AtLeast y k) = refl

-- COUNTS

-- what stays once it is reached, and is reached by a literal that implies the one that is sought
module _ (f : ℤ → Lit → ℤ) (goal : ℤ) (sought : Lit) (step : (z : ℤ) (lit : Lit) → f z lit ≡ cond (implies_lit lit sought) goal z) where
  stays : (lits : List Lit) → fold f goal lits ≡ goal
  stays [] = refl
  stays (lit ∷ lits) = ap (λ y. fold f y lits) (step goal lit ∙ same (implies_lit lit sought)) ∙ stays lits
    where
      same : (b : Bool) → cond b goal goal ≡ goal
      same true = refl
      same false = refl

  reached : (z : ℤ) (lits : List Lit) → fold f z lits ≡ cond (list_any (λ m. implies_lit m sought) lits) goal z
  reached z [] = refl
  reached z (lit ∷ lits) = ap (λ y. fold f y lits) (step z lit) ∙ go (implies_lit lit sought) (reached z lits)
    where
      go : (b : Bool) → fold f z lits ≡ cond (list_any (λ m. implies_lit m sought) lits) goal z
          → fold f (cond b goal z) lits ≡ cond (b || list_any (λ m. implies_lit m sought) lits) goal z
      go true rec = stays lits
      go false rec = rec

least_is : (t : Assignment) (n : ℕ) → (bounds_of t).least n ≡ cond (is_true_on t (l.Constraint n true)) (pos 1) (pos 0)
least_is t n = reached (counted n) (pos 1) (l.Constraint n true) step (pos 0) (lits_of t.entries)
  where
    sought : (b : Bool) (z : ℤ) → cond b (pos 1) z ≡ cond (b && true) (pos 1) z
    sought true z = refl
    sought false z = refl

    other : (b : Bool) (z : ℤ) → z ≡ cond (b && false) (pos 1) z
    other true z = refl
    other false z = refl

    step : (z : ℤ) (lit : Lit) → counted n z lit ≡ cond (implies_lit lit (l.Constraint n true)) (pos 1) z
    step z (l.Atom m s) = refl
    step z (l.Body m s) = refl
    step z (l.Constraint m true) = sought (m == n) z
    step z (l.Constraint m false) = other (m == n) z
    step z (l.AtMost y k) = refl
    step z (l.AtLeast y k) = refl

greatest_is : (t : Assignment) (n : ℕ) → (bounds_of t).greatest n ≡ cond (is_true_on t (l.Constraint n false)) (pos 0) (pos 1)
greatest_is t n = reached (discounted n) (pos 0) (l.Constraint n false) step (pos 1) (lits_of t.entries)
  where
    sought : (b : Bool) (z : ℤ) → cond b (pos 0) z ≡ cond (b && true) (pos 0) z
    sought true z = refl
    sought false z = refl

    other : (b : Bool) (z : ℤ) → z ≡ cond (b && false) (pos 0) z
    other true z = refl
    other false z = refl

    step : (z : ℤ) (lit : Lit) → discounted n z lit ≡ cond (implies_lit lit (l.Constraint n false)) (pos 0) z
    step z (l.Atom m s) = refl
    step z (l.Body m s) = refl
    step z (l.Constraint m true) = other (m == n) z
    step z (l.Constraint m false) = sought (m == n) z
    step z (l.AtMost y k) = refl
    step z (l.AtLeast y k) = refl

-- ITEMS

least_one : (c low high v : ℤ) → low ≡ v → high ≡ v → least_times c low high ≡ c *ℤ v
least_one (pos n) low high v e f = ap (λ z. pos n *ℤ z) e
least_one (negsuc n) low high v e f = ap (λ z. negsuc n *ℤ z) f

greatest_one : (c low high v : ℤ) → low ≡ v → high ≡ v → greatest_times c low high ≡ c *ℤ v
greatest_one (pos n) low high v e f = ap (λ z. pos n *ℤ z) f
greatest_one (negsuc n) low high v e f = ap (λ z. negsuc n *ℤ z) e

module _ (t : Assignment) (is : IsAssignment t) (total : IsTotal t) where
  greatest_said : (n : ℕ) → IsNumbered t.shape.constraints n → (bounds_of t).greatest n ≡ cond (is_true_on t (l.Constraint n true)) (pos 1) (pos 0)
  greatest_said n k = greatest_is t n ∙ go (is_true_on t (l.Constraint n true)) refl
    where
      go : (b : Bool) → is_true_on t (l.Constraint n true) ≡ b → cond (is_true_on t (l.Constraint n false)) (pos 0) (pos 1) ≡ cond b (pos 1) (pos 0)
      go true e = ap (λ b. cond b (pos 0) (pos 1)) (agree_on t (l.Constraint n true) is e)
      go false e = ap (λ b. cond b (pos 0) (pos 1)) (opposite_on t (l.Constraint n true) (constraint_decided t total n k) e)

  least_item_is : (item : Item) → is_item_within t.shape.variables t.shape.constraints item ≡ true → least_item (bounds_of t) item ≡ item_value (truths_on t) item
  least_item_is (Value x c) e =
      least_one c ((bounds_of t).low x) ((bounds_of t).high x) (lower_on t x) (low_is t x) (high_is t x ∙ sym (value_decided t total x (numbered_one t.shape.variables x e)))
  least_item_is (Truth n c) e =
      least_one c ((bounds_of t).least n) ((bounds_of t).greatest n) (cond (is_true_on t (l.Constraint n true)) (pos 1) (pos 0)) (least_is t n) (greatest_said n (numbered_one t.shape.constraints n e))

  greatest_item_is : (item : Item) → is_item_within t.shape.variables t.shape.constraints item ≡ true → greatest_item (bounds_of t) item ≡ item_value (truths_on t) item
  greatest_item_is (Value x c) e =
      greatest_one c ((bounds_of t).low x) ((bounds_of t).high x) (lower_on t x) (low_is t x) (high_is t x ∙ sym (value_decided t total x (numbered_one t.shape.variables x e)))
  greatest_item_is (Truth n c) e =
      greatest_one c ((bounds_of t).least n) ((bounds_of t).greatest n) (cond (is_true_on t (l.Constraint n true)) (pos 1) (pos 0)) (least_is t n) (greatest_said n (numbered_one t.shape.constraints n e))

  sums_are : (items : List Item) → list_all (is_item_within t.shape.variables t.shape.constraints) items ≡ true → HasOneSum t items
  sums_are [] e = record { least = refl; greatest = refl }
  sums_are (item ∷ items) e =
      let p = and_elim (is_item_within t.shape.variables t.shape.constraints item) (list_all (is_item_within t.shape.variables t.shape.constraints) items) e in
      let rest = sums_are items p.1 in record {
        least = ap₂ ◌+ℤ◌ (least_item_is item p.0) rest.least;
        greatest = ap₂ ◌+ℤ◌ (greatest_item_is item p.0) rest.greatest;
      }

pub sum_law : SumLaw
sum_law t is total items e = sums_are t is total items e
