-- Derivable, as a test: the ways in which rules can give atoms, and what they give rank by rank.
use Rattle.std.specs.Prelude.{ℕ, zero, suc, ◌==◌, Bool, true, false, not, ◌&&◌, ◌||◌, ℤ, List, [], ◌∷◌, ◌++◌, map}
use Rattle.std.specs.List.{list_all, list_any, flat_map}
use Rattle.ground_model.specs.declared.linear.Relation.{Relation}
use Rattle.ground_model.specs.declared.rule.BodyLit.{BodyLit}
use Rattle.ground_model.specs.declared.rule.BodyLit.TheVariants as b
use Rattle.ground_model.specs.declared.rule.ChoiceItem.{ChoiceItem}
use Rattle.ground_model.specs.declared.rule.GroundHead.{GroundHead}
use Rattle.ground_model.specs.declared.rule.GroundHead.TheVariants as h
use Rattle.ground_model.specs.declared.rule.GroundRule.{GroundRule}
use Rattle.ground_model.specs.Rules.{signed}
use Rattle.ground_model.specs.Truth.{relation_truth}
use Rattle.ground_model.specs.View.{relation_of}
use Rattle.ground_model.specs.World.{World}

-- a relation holds in a world; further places play no part
abbrev pub relation_holds : (ℕ → ℤ) → Relation → Bool
relation_holds values relation = relation_truth values (relation_of [] relation)

-- a body literal holds in a world
abbrev pub literal_holds : World → BodyLit → Bool
literal_holds world (b.Atom a sign) = signed sign (world.atoms a)
literal_holds world (b.Theory relation sign) = signed sign (relation_holds world.values relation)

-- a body literal holds, where a positive atom has to be one of the lower ones
abbrev pub holds_from : (ℕ → Bool) → World → BodyLit → Bool
holds_from lower world (b.Atom a true) = lower a
holds_from lower world literal = literal_holds world literal

-- one way in which a rule can give an atom: by a body, as a head or as an element of a choice
pub record Way : Type 0 where
  pub atom : ℕ
  pub body : List BodyLit
  pub is_choice : Bool

-- an element of a choice gives its atom by the rule's body and its own condition
abbrev pub choice_way : List BodyLit → ChoiceItem → Way
choice_way body item = record { atom = item.atom; body = body ++ item.condition; is_choice = true }

-- the ways of a rule with this body and this head
abbrev pub head_ways : List BodyLit → GroundHead → List Way
head_ways body (h.Atom a) = record { atom = a; body = body; is_choice = false } ∷ []
head_ways body (h.Choice choice) = map (choice_way body) choice.items
head_ways body head = []

-- the ways of all rules, in order
abbrev pub ways : List GroundRule → List Way
ways rules = flat_map (λ rule. head_ways rule.body rule.head) rules

-- a way gives the atom from lower ones; a choice gives it only where the world has it
abbrev pub gives : (ℕ → Bool) → World → ℕ → Way → Bool
gives lower world a way =
    (way.atom == a) && (not way.is_choice || world.atoms a) && list_all (holds_from lower world) way.body

-- an atom is derivable at a rank where some way gives it from atoms that are derivable at the rank below
abbrev pub derivable : List GroundRule → World → ℕ → ℕ → Bool
derivable rules world zero a = false
derivable rules world (suc rank) a = list_any (gives (derivable rules world rank) world a) (ways rules)
