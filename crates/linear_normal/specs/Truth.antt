-- The truth of atoms, bodies and constraints by number in a world.
use Rattle.std.specs.Prelude.{◌≡◌, ℕ, zero, suc, Bool, false, ◌&&◌, ◌||◌, if◌then◌else◌, ℤ, pos, ◌+ℤ◌, ◌*ℤ◌, int_le, List, [], ◌∷◌, Option, None, Some, IfSome, slice_get}
use Rattle.std.specs.List.{list_any}
use Rattle.literals.specs.Truths.{Truths, all_true}
use Rattle.ground_model.specs.declared.rule.TheoryHead.TheVariants as t
use Rattle.ground_model.specs.Duties.{theory_holds}
use Rattle.ground_model.specs.World.{World}
use Rattle.linear_normal.specs.declared.constraint.Item.{Item}
use Rattle.linear_normal.specs.declared.constraint.Item.TheVariants.{Value, Truth}
use Rattle.linear_normal.specs.declared.constraint.Constraint.{Constraint}
use Rattle.linear_normal.specs.declared.constraint.Constraint.TheVariants.{AtMost, Both, Either, Domain, Distinct, Disjoint, Tally}
use Rattle.linear_normal.specs.declared.numbered.Conjunction.{Conjunction}
use Rattle.linear_normal.specs.declared.numbered.Numbered.{Numbered}

-- the member of that number, counted from 1
abbrev pub numbered_in : {X : Type 0} → List X → ℕ → Option X
numbered_in xs zero = None
numbered_in xs (suc n) = slice_get xs n

-- a variable counts its value, a constraint 1 where it is true and else 0, each times its coefficient
abbrev pub item_value : Truths → Item → ℤ
item_value truths (Value x c) = c *ℤ truths.value x
item_value truths (Truth n c) = c *ℤ (if truths.constraint n then pos 1 else pos 0)

-- the sum of items
abbrev pub items_value : Truths → List Item → ℤ
items_value truths [] = pos 0
items_value truths (item ∷ items) = item_value truths item +ℤ items_value truths items

-- what a constraint says, where its parts and bodies have these truths
abbrev pub constraint_truth : Truths → Constraint → Bool
constraint_truth truths (AtMost items k) = int_le (items_value truths items) k
constraint_truth truths (Both i j) = truths.constraint i && truths.constraint j
constraint_truth truths (Either i j) = truths.constraint i || truths.constraint j
constraint_truth truths (Domain x set) = theory_holds truths.value (t.Domain set x)
constraint_truth truths (Distinct places) = theory_holds truths.value (t.Distinct places)
constraint_truth truths (Disjoint places) = theory_holds truths.value (t.Disjoint places)
constraint_truth truths (Tally bodies) = list_any truths.body bodies

-- truths in a world: atoms and values are the world's, a body is true where all its literals are, and a constraint where what it says is
pub record AreTruths (numbered : Numbered) (world : World) (truths : Truths) : Type 0 where
  pub atom : (a : ℕ) → truths.atom a ≡ world.atoms a
  pub value : (x : ℕ) → truths.value x ≡ world.values x
  pub body : (b : ℕ) → IfSome (numbered_in numbered.bodies b) (λ conjunction. truths.body b ≡ all_true truths conjunction.lits)
  pub constraint : (c : ℕ) → IfSome (numbered_in numbered.constraints c) (λ constraint. truths.constraint c ≡ constraint_truth truths constraint)

-- a body's truth, where the truths of its literals are given
abbrev pub body_over : Truths → Option Conjunction → Bool
body_over truths None = false
body_over truths (Some conjunction) = all_true truths conjunction.lits

-- a constraint's truth, where the truths of its parts are given
abbrev pub constraint_over : Truths → Option Constraint → Bool
constraint_over truths None = false
constraint_over truths (Some constraint) = constraint_truth truths constraint

-- truths where nothing is nested deeper than so many times
abbrev pub truths_within : ℕ → Numbered → World → Truths
truths_within zero numbered world = record { atom = world.atoms; body = λ b. false; constraint = λ c. false; value = world.values }
truths_within (suc depth) numbered world = record {
  atom = world.atoms;
  body = λ b. body_over (truths_within depth numbered world) (numbered_in numbered.bodies b);
  constraint = λ c. constraint_over (truths_within depth numbered world) (numbered_in numbered.constraints c);
  value = world.values;
}

-- the truths in a world: a bound has two sums of tallies of bodies, whose relations have two sums
abbrev pub truths_in : Numbered → World → Truths
truths_in numbered world = truths_within 6 numbered world
