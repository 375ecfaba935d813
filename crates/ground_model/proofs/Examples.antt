-- The definitions on small programs, by computing.
use Rattle.std.proofs.Common.{◌≡◌, ℕ, true, false, ℤ, pos, List, [], ◌∷◌, Some, None, refl}
use Rattle.std.specs.List.{list_all}
use Rattle.symbols.specs.declared.rel.Rel.TheVariants as r
use Rattle.ground_model.specs.declared.linear.Place.{Place}
use Rattle.ground_model.specs.declared.linear.Relation.{Relation}
use Rattle.ground_model.specs.declared.rule.BodyLit.{BodyLit}
use Rattle.ground_model.specs.declared.rule.BodyLit.TheVariants as b
use Rattle.ground_model.specs.declared.rule.TheoryHead.TheVariants as t
use Rattle.ground_model.specs.declared.rule.ChoiceItem.{ChoiceItem}
use Rattle.ground_model.specs.declared.rule.GroundHead.{GroundHead}
use Rattle.ground_model.specs.declared.rule.GroundHead.TheVariants as h
use Rattle.ground_model.specs.declared.rule.GroundRule.{GroundRule}
use Rattle.ground_model.specs.Answers.{has_atom, value_at}
use Rattle.ground_model.specs.World.{World}
use Rattle.ground_model.specs.Ways.{relation_holds, derivable}
use Rattle.ground_model.specs.Duties.{theory_holds, head_holds, rule_holds}

abbrev rule : GroundHead → List BodyLit → GroundRule
rule head body = record { body = body; head = head }

abbrev item : ℕ → List BodyLit → ChoiceItem
item atom condition = record { atom = atom; condition = condition }

abbrev world : List ℕ → List ℤ → World
world atoms values = record { atoms = has_atom atoms; values = value_at values }

-- one variable alone, with further places
abbrev place : ℕ → ℤ → List ℕ → Place
place x duration rest = record { linear = record { pairs = (x, pos 1) ∷ []; constant = pos 0 }; duration = duration; rest = rest }

abbrev at_most : ℕ → ℤ → Relation
at_most x bound = record { elements = place x (pos 0) [] ∷ []; rel = r.LessEqual; right = record { pairs = []; constant = bound } }

-- a :- not b. b :- not a.
abbrev negation : List GroundRule
negation = rule (h.Atom 1) (b.Atom 2 false ∷ []) ∷ rule (h.Atom 2) (b.Atom 1 false ∷ []) ∷ []

one_derived : derivable negation (world (1 ∷ []) []) 1 1 ≡ true
one_derived = refl

other_underived : derivable negation (world (1 ∷ []) []) 5 2 ≡ false
other_underived = refl

one_dutiful : list_all (rule_holds (world (1 ∷ []) [])) negation ≡ true
one_dutiful = refl

none_not : list_all (rule_holds (world [] [])) negation ≡ false
none_not = refl

both_underived : derivable negation (world (1 ∷ 2 ∷ []) []) 5 1 ≡ false
both_underived = refl

-- {c}. a :- b. b :- a. a :- c.
abbrev loop : List GroundRule
loop =
    rule (h.Choice (record { items = item 3 [] ∷ []; left = None; right = None })) []
    ∷ rule (h.Atom 1) (b.Atom 2 true ∷ [])
    ∷ rule (h.Atom 2) (b.Atom 1 true ∷ [])
    ∷ rule (h.Atom 1) (b.Atom 3 true ∷ [])
    ∷ []

loop_underived : derivable loop (world (1 ∷ 2 ∷ []) []) 9 1 ≡ false
loop_underived = refl

loop_derived : derivable loop (world (1 ∷ 2 ∷ 3 ∷ []) []) 3 2 ≡ true
loop_derived = refl

-- 2 { e : b; b }.
abbrev both : GroundHead
both = h.Choice (record { items = item 1 (b.Atom 2 true ∷ []) ∷ item 2 [] ∷ []; left = Some (record { rel = r.GreaterEqual; value = pos 2 }); right = None })

both_taken : head_holds (world (1 ∷ 2 ∷ []) []) both ≡ true
both_taken = refl

both_derived : derivable (rule both [] ∷ []) (world (1 ∷ 2 ∷ []) []) 2 1 ≡ true
both_derived = refl

one_taken : head_holds (world (2 ∷ []) []) both ≡ false
one_taken = refl

-- 1 {a : b; a : not b; b} 1.
abbrev different : GroundHead
different = h.Choice (record {
  items = item 1 (b.Atom 2 true ∷ []) ∷ item 1 (b.Atom 2 false ∷ []) ∷ item 2 [] ∷ [];
  left = Some (record { rel = r.GreaterEqual; value = pos 1 });
  right = Some (record { rel = r.LessEqual; value = pos 1 });
})

different_first : head_holds (world (1 ∷ []) []) different ≡ true
different_first = refl

different_second : head_holds (world (2 ∷ []) []) different ≡ true
different_second = refl

different_both : head_holds (world (1 ∷ 2 ∷ []) []) different ≡ false
different_both = refl

-- &dom{1..2}=x. a :- &sum{x}<=1.
sum_true : relation_holds (value_at (pos 1 ∷ [])) (at_most 1 (pos 1)) ≡ true
sum_true = refl

sum_false : relation_holds (value_at (pos 2 ∷ [])) (at_most 1 (pos 1)) ≡ false
sum_false = refl

domain_false : theory_holds (value_at (pos 3 ∷ [])) (t.Domain (record { intervals = (pos 1, pos 2) ∷ []; parted = refl }) 1) ≡ false
domain_false = refl

-- &distinct{x,1;x,2}. and &distinct{x;x}., whose equal tuples are one
distinct_never : theory_holds (value_at (pos 0 ∷ [])) (t.Distinct (place 1 (pos 0) (0 ∷ []) ∷ place 1 (pos 0) (1 ∷ []) ∷ [])) ≡ false
distinct_never = refl

distinct_always : theory_holds (value_at (pos 0 ∷ [])) (t.Distinct (place 1 (pos 0) [] ∷ [])) ≡ true
distinct_always = refl

-- &disjoint{x@0;y@3}. and &disjoint{x@1;y@3}. at x = y = 0
disjoint_empty : theory_holds (value_at (pos 0 ∷ pos 0 ∷ [])) (t.Disjoint (place 1 (pos 0) [] ∷ place 2 (pos 3) [] ∷ [])) ≡ true
disjoint_empty = refl

disjoint_overlap : theory_holds (value_at (pos 0 ∷ pos 0 ∷ [])) (t.Disjoint (place 1 (pos 1) [] ∷ place 2 (pos 3) [] ∷ [])) ≡ false
disjoint_overlap = refl
