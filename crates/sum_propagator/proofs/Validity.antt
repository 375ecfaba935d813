-- When a reason of a sum is valid, and when it forces.
use Rattle.std.proofs.Common.{◌≡◌, ℕ, ◌==◌, Bool, true, false, ◌&&◌, ◌||◌, IsTrue, refl, sym, ◌∙◌, ap, subst, arith, List, [], ◌∷◌, ◌++◌, length, ◌≤◌, Some, ℤ, pos, neg_ℤ, ◌+ℤ◌, ◌-ℤ◌, ◌≤ℤ◌, ◌<ℤ◌, ◌⊎◌, inl, inr}
use Rattle.std.specs.Prelude.{int_le, int_lt}
use Rattle.std.specs.List.{All, AllByRecursion, list_all}
use Rattle.std.proofs.lemmas.List.Elements.{All-from_recursion}
use Rattle.literals.specs.Lits.{IsLit}
use Rattle.std.proofs.lemmas.Bool.Decides.{nat_tests}
use Rattle.std.proofs.lemmas.Int.{ints}
use Rattle.literals.specs.declared.lit.Lit.{Lit}
use Rattle.literals.specs.declared.lit.Lit.TheVariants.{Constraint}
use Rattle.literals.specs.declared.reason.Reason.{Reason}
use Rattle.literals.specs.declared.reason.Step.TheVariants.{Sum}
use Rattle.literals.specs.Steps.{IsStep}
use Rattle.literals.specs.Nogoods.{Rises, has_lit, canonical}
use Rattle.literals.proofs.Puts.{all_joined, rises_joined}
use Rattle.linear_normal.specs.declared.constraint.Item.{Item}
use Rattle.linear_normal.specs.Bounds.{Bounds, bounds_named, least_sum, greatest_sum}
use Rattle.trail.specs.declared.shape.Shape.{Shape}
use Rattle.trail.specs.Implied.{implied}
use Rattle.trail.specs.Assignment.{Assignment, Names, is_true_on}
use Rattle.propagator_core.specs.Shown.{IsSpelled}
use Rattle.trail_bounds.specs.OnTrail.{is_of}
use Rattle.sum_propagator.specs.Sums.{is_step_of, valid_sum}
use Rattle.sum_propagator.specs.Sides.{limit_of, total_of}
use Rattle.trail_bounds.specs.Sides.{side_sum}
use Rattle.trail_bounds.specs.Backing.{Follow}
use Rattle.trail_bounds.specs.inner.Lists.{IsOrTrue}
use Rattle.sum_propagator.specs.Reasons.{sum_but, IsInstead, IsAmong, IsOwnOr, Backs, Explains}
use Rattle.sum_propagator.specs.declared.sum.Kind.{Kind}
use Rattle.sum_propagator.specs.declared.sum.Kind.TheVariants as kind
use Rattle.sum_propagator.specs.Kinds.{meaning_of, step_of, own_lits, IsAbout}
use Rattle.sum_propagator.specs.Objective.{valid_objective}
use Rattle.propagator_core.specs.Quiet.{is_of_objective}
use Rattle.trail_bounds.specs.OnTrail.{bounds_on}
use Rattle.std.proofs.lemmas.List.{take_all}
use Rattle.trail_bounds.proofs.Backs.{each_append, each_front, each_back, each_as}
use Rattle.trail_bounds.proofs.ItemSums.{side-true, side-false}
use Rattle.trail_bounds.proofs.Gathering.{all_of, has_from, joined_follow}

-- THE OPPOSITE SUM

pub side-total : (side : Bool) (b : Bounds) (items : List Item) (least greatest : ℤ) → least ≡ least_sum b items → greatest ≡ greatest_sum b items → total_of side least greatest ≡ side_sum side b items
side-total true b items least greatest e f = e ∙ sym (side-true b items)
side-total false b items least greatest e f = ap neg_ℤ f ∙ sym (side-false b items)

-- VALIDITY

-- the list has the constraint on this side, and by its bounds the sum is beyond the limit
abbrev pub Excludes : ℕ → List Item → ℤ → Shape → Reason → Bool → Type 0
Excludes number items most s r side = (has_lit r.nogood (Constraint number side) ≡ true) × (limit_of side most <ℤ side_sum side (bounds_named s.ends r.nogood) items)

valid_true : (number : ℕ) (items : List Item) (most : ℤ) (s : Shape) (r : Reason) (step : Bool) → list_all (is_of s) r.nogood ≡ true → is_step_of number r.step ≡ true → Excludes number items most s r true → IsTrue (valid_sum number items most s r)
valid_true number items most s r step a b x =
    join (list_all (is_of s) r.nogood) (is_step_of number r.step) (has_lit r.nogood (Constraint number true)) (int_lt most (least_sum (bounds_named s.ends r.nogood) items)) (has_lit r.nogood (Constraint number false) && int_le (greatest_sum (bounds_named s.ends r.nogood) items) most)
    a b x.0 (over most (side_sum true (bounds_named s.ends r.nogood) items) (least_sum (bounds_named s.ends r.nogood) items) (side-true (bounds_named s.ends r.nogood) items) x.1)
  where
    over : (m x y : ℤ) → x ≡ y → m <ℤ x → int_lt m y ≡ true
    over m x y e h = grind (arith, nat_tests, ints)

    join : (p q u v w : Bool) → p ≡ true → q ≡ true → u ≡ true → v ≡ true → IsTrue ((p && q) && ((u && v) || w))
    join p q u v w a b c d = grind (arith, nat_tests)

valid_false : (number : ℕ) (items : List Item) (most : ℤ) (s : Shape) (r : Reason) (step : Bool) → list_all (is_of s) r.nogood ≡ true → is_step_of number r.step ≡ true → Excludes number items most s r false → IsTrue (valid_sum number items most s r)
valid_false number items most s r step a b x =
    join (list_all (is_of s) r.nogood) (is_step_of number r.step) (has_lit r.nogood (Constraint number true) && int_lt most (least_sum (bounds_named s.ends r.nogood) items)) (has_lit r.nogood (Constraint number false)) (int_le (greatest_sum (bounds_named s.ends r.nogood) items) most)
    a b x.0 (under most (side_sum false (bounds_named s.ends r.nogood) items) (greatest_sum (bounds_named s.ends r.nogood) items) (side-false (bounds_named s.ends r.nogood) items) x.1)
  where
    under : (m x y : ℤ) → x ≡ neg_ℤ y → (neg_ℤ m -ℤ pos 1) <ℤ x → int_le y m ≡ true
    under m x y e h = let f : y ≤ℤ m = omega (arith, ints, e, h) in grind (arith, nat_tests, ints)

    join : (p q w u v : Bool) → p ≡ true → q ≡ true → u ≡ true → v ≡ true → IsTrue ((p && q) && (w || (u && v)))
    join p q w u v a b c d = grind (arith, nat_tests)

pub valid_by : (number : ℕ) (items : List Item) (most : ℤ) (s : Shape) (r : Reason) (side : Bool) → AllByRecursion (Names s) r.nogood → r.step ≡ Sum number → implied s.ends r.nogood (Constraint number side) ≡ true → limit_of side most <ℤ side_sum side (bounds_named s.ends r.nogood) items → IsTrue (valid_sum number items most s r)
valid_by number items most s r side names e f h = sides side (has_from number side r.nogood f) h
  where
    same : (n : ℕ) → (n == n) ≡ true
    same n = grind (arith, nat_tests)

    step : is_step_of number r.step ≡ true
    step = ap (is_step_of number) e ∙ same number

    sides : (side : Bool) → has_lit r.nogood (Constraint number side) ≡ true → limit_of side most <ℤ side_sum side (bounds_named s.ends r.nogood) items → IsTrue (valid_sum number items most s r)
    sides true g h = valid_true number items most s r true (all_of s r.nogood names) step (g, h)
    sides false g h = valid_false number items most s r true (all_of s r.nogood names) step (g, h)

pub valid_cases : (number : ℕ) (items : List Item) (most : ℤ) (s : Shape) (r : Reason) → IsTrue (valid_sum number items most s r) → Excludes number items most s r true ⊎ Excludes number items most s r false
valid_cases number items most s r h =
    cases (list_all (is_of s) r.nogood) (is_step_of number r.step) (has_lit r.nogood (Constraint number true)) (int_lt most (least_sum (bounds_named s.ends r.nogood) items)) (has_lit r.nogood (Constraint number false)) (int_le (greatest_sum (bounds_named s.ends r.nogood) items) most) refl refl refl refl h
  where
    over : (m x y : ℤ) → x ≡ y → int_lt m y ≡ true → m <ℤ x
    over m x y e h = grind (arith, nat_tests, ints)

    under : (m x y : ℤ) → x ≡ neg_ℤ y → int_le y m ≡ true → (neg_ℤ m -ℤ pos 1) <ℤ x
    under m x y e h = let f : y ≤ℤ m = grind (arith, nat_tests, ints) in omega (arith, ints, e, f)

    cases : (p q u v w x : Bool) → has_lit r.nogood (Constraint number true) ≡ u → int_lt most (least_sum (bounds_named s.ends r.nogood) items) ≡ v → has_lit r.nogood (Constraint number false) ≡ w → int_le (greatest_sum (bounds_named s.ends r.nogood) items) most ≡ x → IsTrue ((p && q) && ((u && v) || (w && x))) → Excludes number items most s r true ⊎ Excludes number items most s r false
    cases p q true true w x a b c d h = inl (a, over most (side_sum true (bounds_named s.ends r.nogood) items) (least_sum (bounds_named s.ends r.nogood) items) (side-true (bounds_named s.ends r.nogood) items) b)
    cases p q u v true true a b c d h = inr (c, under most (side_sum false (bounds_named s.ends r.nogood) items) (greatest_sum (bounds_named s.ends r.nogood) items) (side-false (bounds_named s.ends r.nogood) items) d)
    cases p q u false false x a b c d h = absurd (grind (arith, nat_tests))
    cases p q u false w false a b c d h = absurd (grind (arith, nat_tests))
    cases p q false v false x a b c d h = absurd (grind (arith, nat_tests))
    cases p q false v w false a b c d h = absurd (grind (arith, nat_tests))

-- CANONICAL LISTS: each literal that was put in follows from one that is there

-- BY KIND

valid_objective_by : (items : List Item) (most : ℤ) (s : Shape) (r : Reason) → AllByRecursion (Names s) r.nogood → r.step ≡ Sum 0 → most <ℤ least_sum (bounds_named s.ends r.nogood) items → IsTrue (valid_objective items (Some most) s r)
valid_objective_by items most s r names e h =
    join (list_all (is_of s) r.nogood) (is_of_objective r.step) (int_lt most (least_sum (bounds_named s.ends r.nogood) items)) (all_of s r.nogood names) (ap is_of_objective e) (over most (least_sum (bounds_named s.ends r.nogood) items) h)
  where
    over : (m x : ℤ) → m <ℤ x → int_lt m x ≡ true
    over m x h = grind (arith, nat_tests, ints)

    join : (p q u : Bool) → p ≡ true → q ≡ true → u ≡ true → IsTrue ((p && q) && u)
    join p q u a b c = grind (arith, nat_tests)

-- a reason that has the sum's own literal, and by whose bounds the sum is beyond its limit
pub valid_kind : (kind : Kind) (number : ℕ) (items : List Item) (most : ℤ) (s : Shape) (r : Reason) (side : Bool) → IsAbout kind side → AllByRecursion (Names s) r.nogood → r.step ≡ step_of kind number → Follow s.ends r.nogood (own_lits kind number side) → limit_of side most <ℤ side_sum side (bounds_named s.ends r.nogood) items → IsTrue ((meaning_of kind number items most).valid s r)
valid_kind kind.Constraint number items most s r side a names e f h = valid_by number items most s r side names e f.0 h
valid_kind kind.Unbounded number items most s r side a names e f h = absurd a
valid_kind kind.Bounded number items most s r side a names e f h = valid_objective_by items most s r names e (turn side a h)
  where
    turn : (side : Bool) → side ≡ true → limit_of side most <ℤ side_sum side (bounds_named s.ends r.nogood) items → most <ℤ least_sum (bounds_named s.ends r.nogood) items
    turn true a h = subst (λ (k : ℤ). most <ℤ k) (side-true (bounds_named s.ends r.nogood) items) h
    turn false a h = absurd (let no : false ≡ true = a in cc)

own_own : (t : Assignment) (own : List Lit) (but upto : ℕ) (instead : Lit) → AllByRecursion (IsOwnOr t own but upto instead) own
own_own t own but upto instead = each_as (IsAmong own) (IsOwnOr t own but upto instead) own (λ m a. inl a) (all_among own)
  where
    more : (l : Lit) (ls : List Lit) (ms : List Lit) → AllByRecursion (IsAmong ls) ms → AllByRecursion (IsAmong (l ∷ ls)) ms
    more l ls ms a = each_as (IsAmong ls) (IsAmong (l ∷ ls)) ms (λ m b. inr b) a

    all_among : (ls : List Lit) → AllByRecursion (IsAmong ls) ls
    all_among [] = tt
    all_among (l ∷ ls) = (inl refl, more l ls ls (all_among ls))

-- what was gathered explains
pub explains : (t : Assignment) (kind : Kind) (number : ℕ) (items : List Item) (side : Bool) (but : ℕ) (instead : Lit) (slack left : ℕ) (lits : List Lit) (r : Reason) → AllByRecursion (Names t.shape) (own_lits kind number side) → Backs t side items but instead slack left (length items) (own_lits kind number side) lits → r.nogood ≡ canonical lits → r.step ≡ step_of kind number → Explains t kind number items side but instead slack r
explains t kind number items side but instead slack left lits r n b e step =
    let own : List Lit = own_lits kind number side in
    let same : r.nogood ≡ canonical (own_lits kind number side ++ b.more) = e ∙ ap canonical b.added in
    let f = subst (λ (ls : List Lit). Follow t.shape.ends ls (own_lits kind number side ++ b.more)) (sym same) (joined_follow t.shape.ends [] (own_lits kind number side ++ b.more)) in
    let back = each_back (λ m. implied t.shape.ends r.nogood m ≡ true) (own_lits kind number side) b.more f in
    record {
      step = step;
      rises = subst Rises (sym same) (rises_joined [] (own_lits kind number side ++ b.more) tt);
      names = subst (λ (ls : List Lit). AllByRecursion (Names t.shape) ls) (sym same) (all_joined (Names t.shape) [] (own_lits kind number side ++ b.more) tt (each_append (Names t.shape) (own_lits kind number side) b.more n b.names));
      listed = each_front (λ m. implied t.shape.ends r.nogood m ≡ true) (own_lits kind number side) b.more f;
      has = λ lt. b.has r.nogood back lt;
      covers = whole (subst (λ (xs : List Item). (sum_but side (bounds_on t) xs but +ℤ pos left) ≤ℤ (sum_but side (bounds_named t.shape.ends r.nogood) xs but +ℤ pos slack)) (take_all (length items) items (omega arith)) (b.covers r.nogood back));
      each = subst (λ (ls : List Lit). AllByRecursion (IsOwnOr t (own_lits kind number side) but (length items) instead) ls) (sym same)
          (all_joined (IsOwnOr t (own_lits kind number side) but (length items) instead) [] (own_lits kind number side ++ b.more) tt
          (each_append (IsOwnOr t (own_lits kind number side) but (length items) instead) (own_lits kind number side) b.more (own_own t (own_lits kind number side) but (length items) instead)
          (each_as (IsInstead t but (length items) instead) (IsOwnOr t (own_lits kind number side) but (length items) instead) b.more (λ m o. inr o) b.each)));
    }
  where
    whole : {x y : ℤ} → (x +ℤ pos left) ≤ℤ y → x ≤ℤ y
    whole h = omega (arith, ints, h)

-- what was gathered is well formed
pub gathered : (t : Assignment) (kind : Kind) (number : ℕ) (items : List Item) (side : Bool) (but : ℕ) (instead : Lit) (slack left : ℕ) (lits : List Lit) → AllByRecursion (Names t.shape) (own_lits kind number side) → Backs t side items but instead slack left (length items) (own_lits kind number side) lits → All IsLit lits
gathered t kind number items side but instead slack left lits n b =
    subst (All IsLit) (sym b.added)
    (All-from_recursion IsLit (own_lits kind number side ++ b.more)
    (each_as (Names t.shape) IsLit (own_lits kind number side ++ b.more) (λ m h. h.literal) (each_append (Names t.shape) (own_lits kind number side) b.more n b.names)))

is_step : (kind : Kind) (number : ℕ) → IsStep (step_of kind number)
is_step kind.Constraint number = tt
is_step kind.Unbounded number = tt
is_step kind.Bounded number = tt

-- and a line can tell it
pub spelled : (t : Assignment) (kind : Kind) (number : ℕ) (items : List Item) (side : Bool) (but : ℕ) (instead : Lit) (slack : ℕ) (r : Reason) → Explains t kind number items side but instead slack r → IsSpelled t.shape r
spelled t kind number items side but instead slack r x = record { rises = x.rises; named = x.names; step = subst IsStep (sym x.step) (is_step kind number) }

-- where the sum's own literals are the other one or true, so is each literal of the reason
pub reason_or_true : (t : Assignment) (kind : Kind) (number : ℕ) (items : List Item) (side : Bool) (but : ℕ) (instead : Lit) (slack : ℕ) (r : Reason) → AllByRecursion (IsOrTrue t instead) (own_lits kind number side) → Explains t kind number items side but instead slack r → AllByRecursion (IsOrTrue t instead) r.nogood
reason_or_true t kind number items side but instead slack r h x = each_as (IsOwnOr t (own_lits kind number side) but (length items) instead) (IsOrTrue t instead) r.nogood one x.each
  where
    among : (own : List Lit) (m : Lit) → AllByRecursion (IsOrTrue t instead) own → IsAmong own m → IsOrTrue t instead m
    among [] m a b = absurd b
    among (l ∷ ls) m a (inl e) = subst (IsOrTrue t instead) (sym e) a.0
    among (l ∷ ls) m a (inr b) = among ls m a.1 b

    one : (m : Lit) → IsOwnOr t (own_lits kind number side) but (length items) instead m → IsOrTrue t instead m
    one m (inl b) = among (own_lits kind number side) m h b
    one m (inr (inl p)) = inl p.1
    one m (inr (inr on)) = inr on

-- where the sum's own literals are true and no item is left out, each literal is true
pub reason_true : (t : Assignment) (kind : Kind) (number : ℕ) (items : List Item) (side : Bool) (but : ℕ) (instead : Lit) (slack : ℕ) (r : Reason) → length items ≤ but → AllByRecursion (λ m. is_true_on t m ≡ true) (own_lits kind number side) → Explains t kind number items side but instead slack r → AllByRecursion (λ m. is_true_on t m ≡ true) r.nogood
reason_true t kind number items side but instead slack r le h x = each_as (IsOwnOr t (own_lits kind number side) but (length items) instead) (λ m. is_true_on t m ≡ true) r.nogood one x.each
  where
    among : (own : List Lit) (m : Lit) → AllByRecursion (λ m. is_true_on t m ≡ true) own → IsAmong own m → is_true_on t m ≡ true
    among [] m a b = absurd b
    among (l ∷ ls) m a (inl e) = ap (is_true_on t) e ∙ a.0
    among (l ∷ ls) m a (inr b) = among ls m a.1 b

    one : (m : Lit) → IsOwnOr t (own_lits kind number side) but (length items) instead m → is_true_on t m ≡ true
    one m (inl b) = among (own_lits kind number side) m h b
    one m (inr (inl p)) = absurd (let lt = p.0 in omega (arith, lt, le))
    one m (inr (inr on)) = on
