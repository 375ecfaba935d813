-- The definitions on small programs, by computing.
use Rattle.std.proofs.Common.{◌≡◌, ℕ, true, false, ℤ, pos, negsuc, List, [], ◌∷◌, map, Option, Some, ◌≤ℤ◌, refl, arith}
use Rattle.std.proofs.lemmas.Int.{ints}
use Rattle.symbols.specs.declared.ends.Ends.{Ends}
use Rattle.symbols.specs.declared.rel.Rel.{Rel}
use Rattle.symbols.specs.declared.rel.Rel.TheVariants as r
use Rattle.literals.specs.declared.lit.Lit.{Lit}
use Rattle.literals.specs.declared.lit.Lit.TheVariants as l
use Rattle.ground_model.specs.declared.linear.Place.{Place}
use Rattle.ground_model.specs.declared.linear.Relation.{Relation}
use Rattle.ground_model.specs.declared.rule.BodyLit.{BodyLit}
use Rattle.ground_model.specs.declared.rule.BodyLit.TheVariants as b
use Rattle.ground_model.specs.declared.rule.TheoryHead.TheVariants as t
use Rattle.ground_model.specs.declared.rule.ChoiceItem.{ChoiceItem}
use Rattle.ground_model.specs.declared.rule.GroundHead.{GroundHead}
use Rattle.ground_model.specs.declared.rule.GroundHead.TheVariants as h
use Rattle.ground_model.specs.declared.rule.GroundRule.{GroundRule}
use Rattle.linear_normal.specs.declared.constraint.Item.TheVariants as i
use Rattle.linear_normal.specs.declared.constraint.Constraint.{Constraint}
use Rattle.linear_normal.specs.declared.constraint.Constraint.TheVariants as c
use Rattle.linear_normal.specs.declared.numbered.Duty.{Duty}
use Rattle.linear_normal.specs.declared.numbered.Support.{Support}
use Rattle.linear_normal.specs.declared.numbered.Numbered.{Numbered}
use Rattle.linear_normal.specs.Numbering.{numbered_by}
use Rattle.linear_normal.specs.Truth.{numbered_in}
use Rattle.linear_normal.specs.Steps.{is_sum, is_overfull, is_overloaded, is_clash}

abbrev rule : GroundHead → List BodyLit → GroundRule
rule head body = record { body = body; head = head }

abbrev item : ℕ → List BodyLit → ChoiceItem
item atom condition = record { atom = atom; condition = condition }

abbrev place : List (ℕ × ℤ) → ℤ → ℤ → Place
place pairs constant duration = record { linear = record { pairs = pairs; constant = constant }; duration = duration; rest = [] }

abbrev relation : List Place → Rel → ℤ → Relation
relation elements rel k = record { elements = elements; rel = rel; right = record { pairs = []; constant = k } }

abbrev numbers : ℕ → ℕ → List GroundRule → Numbered
numbers atoms variables rules = numbered_by atoms variables rules [] []

abbrev duty : ℕ → Option Lit → Duty
duty body head = record { body = body; head = head }

abbrev support : ℕ → ℕ → Support
support atom body = record { atom = atom; body = body }

abbrev lits_of : Numbered → List (List Lit)
lits_of numbered = map (λ body. body.lits) numbered.bodies

-- &sum{x;-1*y} < 0. &sum{y;-1*x} < 0.
abbrev less : Numbered
less =
    numbers 0 2
    (rule (h.Theory (t.Relation (relation (place ((1, pos 1) ∷ []) (pos 0) (pos 0) ∷ place ((2, negsuc 0) ∷ []) (pos 0) (pos 0) ∷ []) r.Less (pos 0)))) []
    ∷ rule (h.Theory (t.Relation (relation (place ((2, pos 1) ∷ []) (pos 0) (pos 0) ∷ place ((1, negsuc 0) ∷ []) (pos 0) (pos 0) ∷ []) r.Less (pos 0)))) []
    ∷ [])

abbrev one_less : Constraint
one_less = c.AtMost (i.Value 1 (pos 1) ∷ i.Value 2 (negsuc 0) ∷ []) (negsuc 0)

abbrev other_less : Constraint
other_less = c.AtMost (i.Value 1 (negsuc 0) ∷ i.Value 2 (pos 1) ∷ []) (negsuc 0)

less_constraints : less.constraints ≡ one_less ∷ other_less ∷ []
less_constraints = refl

less_duties : less.duties ≡ duty 1 (Some (l.Constraint 1 true)) ∷ duty 2 (Some (l.Constraint 2 true)) ∷ []
less_duties = refl

low_end : negsuc 1073741822 ≤ℤ pos 0
low_end = omega (arith, ints)

ordered_ends : pos 0 ≤ℤ pos 1
ordered_ends = omega (arith, ints)

high_end : pos 1 ≤ℤ pos 1073741823
high_end = omega (arith, ints)

abbrev ends : Ends
ends = record { min = pos 0; max = pos 1; low = low_end; ordered = ordered_ends; high = high_end }

-- s 1 = c1 v1>=1 and s 2 = c2 v1<=0
least_too_large : is_sum ends (l.Constraint 1 true ∷ l.AtLeast 1 (pos 1) ∷ []) 1 (numbered_in less.constraints 1) ≡ true
least_too_large = refl

other_too_large : is_sum ends (l.Constraint 2 true ∷ l.AtMost 1 (pos 0) ∷ []) 2 (numbered_in less.constraints 2) ≡ true
other_too_large = refl

bound_is_needed : is_sum ends (l.Constraint 1 true ∷ []) 1 (numbered_in less.constraints 1) ≡ false
bound_is_needed = refl

greatest_fits : is_sum ends (l.Constraint 1 false ∷ l.AtMost 1 (pos 0) ∷ l.AtLeast 2 (pos 1) ∷ []) 1 (numbered_in less.constraints 1) ≡ true
greatest_fits = refl

-- a :- not b. b :- not a.
abbrev negation : Numbered
negation = numbers 2 0 (rule (h.Atom 1) (b.Atom 2 false ∷ []) ∷ rule (h.Atom 2) (b.Atom 1 false ∷ []) ∷ [])

negation_bodies : lits_of negation ≡ (l.Atom 2 false ∷ []) ∷ (l.Atom 1 false ∷ []) ∷ []
negation_bodies = refl

negation_supports : negation.supports ≡ support 1 1 ∷ support 2 2 ∷ []
negation_supports = refl

-- 1 {a : c; b; a : not c} 2 :- &sum{x} = 3, not &sum{-1*x} = -3, &sum{x} != 3.
abbrev equal : BodyLit
equal = b.Theory (relation (place ((1, pos 1) ∷ []) (pos 0) (pos 0) ∷ []) r.Equal (pos 3)) true

abbrev opposite_equal : BodyLit
opposite_equal = b.Theory (relation (place ((1, negsuc 0) ∷ []) (pos 0) (pos 0) ∷ []) r.Equal (negsuc 2)) false

abbrev unequal : BodyLit
unequal = b.Theory (relation (place ((1, pos 1) ∷ []) (pos 0) (pos 0) ∷ []) r.NotEqual (pos 3)) true

abbrev choice : GroundHead
choice = h.Choice (record {
  items = item 1 (b.Atom 3 true ∷ []) ∷ item 2 [] ∷ item 1 (b.Atom 3 false ∷ []) ∷ [];
  left = Some (record { rel = r.GreaterEqual; value = pos 1 });
  right = Some (record { rel = r.LessEqual; value = pos 2 });
})

abbrev chosen : Numbered
chosen = numbers 3 1 (rule (h.Atom 3) [] ∷ rule choice (equal ∷ opposite_equal ∷ unequal ∷ equal ∷ []) ∷ [])

chosen_constraints : chosen.constraints ≡
    c.Both 2 3 ∷ c.AtMost (i.Value 1 (pos 1) ∷ []) (pos 3) ∷ c.AtMost (i.Value 1 (negsuc 0) ∷ []) (negsuc 2) ∷ c.Both 3 2
    ∷ c.Either 6 7 ∷ c.AtMost (i.Value 1 (pos 1) ∷ []) (pos 2) ∷ c.AtMost (i.Value 1 (negsuc 0) ∷ []) (negsuc 3)
    ∷ c.Tally (6 ∷ 8 ∷ []) ∷ c.Tally (7 ∷ [])
    ∷ c.AtMost (i.Truth 8 (negsuc 0) ∷ i.Truth 9 (negsuc 0) ∷ []) (negsuc 0)
    ∷ c.AtMost (i.Truth 8 (pos 1) ∷ i.Truth 9 (pos 1) ∷ []) (pos 2) ∷ []
chosen_constraints = refl

abbrev own : List Lit
own = l.Constraint 1 true ∷ l.Constraint 4 false ∷ l.Constraint 5 true ∷ []

chosen_bodies : lits_of chosen ≡
    [] ∷ own ∷ (l.Atom 3 true ∷ own) ∷ own ∷ (l.Atom 3 false ∷ own)
    ∷ (l.Atom 1 true ∷ l.Atom 3 true ∷ own) ∷ (l.Atom 2 true ∷ own) ∷ (l.Atom 1 true ∷ l.Atom 3 false ∷ own) ∷ []
chosen_bodies = refl

chosen_supports : chosen.supports ≡ support 3 1 ∷ support 1 3 ∷ support 2 4 ∷ support 1 5 ∷ []
chosen_supports = refl

chosen_duties : chosen.duties ≡ duty 1 (Some (l.Atom 3 true)) ∷ duty 2 (Some (l.Constraint 10 true)) ∷ duty 2 (Some (l.Constraint 11 true)) ∷ []
chosen_duties = refl

-- &distinct{x;y}. &disjoint{x@1;y@1}.
abbrev pair : List Place
pair = place ((1, pos 1) ∷ []) (pos 0) (pos 1) ∷ place ((2, pos 1) ∷ []) (pos 0) (pos 1) ∷ []

overfull : is_overfull ends (l.Constraint 1 true ∷ l.AtMost 1 (pos 0) ∷ l.AtMost 2 (pos 0) ∷ []) 1 (pos 0) (pos 0) (Some (c.Distinct pair)) ≡ true
overfull = refl

not_overfull : is_overfull ends (l.Constraint 1 true ∷ []) 1 (pos 0) (pos 1) (Some (c.Distinct pair)) ≡ false
not_overfull = refl

overloaded : is_overloaded ends (l.Constraint 1 true ∷ l.AtMost 1 (pos 0) ∷ l.AtMost 2 (pos 0) ∷ []) 1 (pos 0) (pos 1) (Some (c.Disjoint pair)) ≡ true
overloaded = refl

only_touching : is_overloaded ends (l.Constraint 1 true ∷ l.AtMost 1 (pos 0) ∷ []) 1 (pos 0) (pos 1) (Some (c.Disjoint pair)) ≡ false
only_touching = refl

clashing : is_clash ends (l.Constraint 1 true ∷ l.AtMost 1 (pos 0) ∷ l.AtMost 2 (pos 0) ∷ []) 1 1 2 (Some (c.Disjoint pair)) ≡ true
clashing = refl
