-- What a stable model owes to each rule, as a test, and stable models by tests.
use Rattle.std.specs.Prelude.{◌≡◌, ℕ, ◌==◌, Bool, true, false, not, ◌&&◌, ◌||◌, if◌then◌else◌, ℤ, List, [], ◌∷◌, length}
use Rattle.std.specs.List.{list_all, list_any}
use Rattle.ground_model.specs.declared.rule.ChoiceItem.{ChoiceItem}
use Rattle.ground_model.specs.declared.rule.TheoryHead.{TheoryHead}
use Rattle.ground_model.specs.declared.rule.GroundHead.{GroundHead}
use Rattle.ground_model.specs.declared.rule.GroundHead.TheVariants as h
use Rattle.ground_model.specs.declared.rule.GroundRule.{GroundRule}
use Rattle.ground_model.specs.Truth.{theory_truth}
use Rattle.ground_model.specs.Model.{allows}
use Rattle.ground_model.specs.View.{theory_of}
use Rattle.ground_model.specs.World.{World}
use Rattle.ground_model.specs.Ways.{literal_holds, derivable}

-- a theory head holds in a world; further places play no part
abbrev pub theory_holds : (ℕ → ℤ) → TheoryHead → Bool
theory_holds values theory = theory_truth values (theory_of [] theory)

-- the list with one more atom, where the test says so and it is not there yet
abbrev pub with_once : Bool → ℕ → List ℕ → List ℕ
with_once false a atoms = atoms
with_once true a atoms = (if list_any (λ b. b == a) atoms then atoms else a ∷ atoms)

-- an element is taken: the world has its atom, and its condition holds
abbrev pub is_taken : World → ChoiceItem → Bool
is_taken world item = world.atoms item.atom && list_all (literal_holds world) item.condition

-- the different atoms that a choice takes
abbrev pub chosen : World → List ChoiceItem → List ℕ
chosen world [] = []
chosen world (item ∷ items) = with_once (is_taken world item) item.atom (chosen world items)

-- a head holds
abbrev pub head_holds : World → GroundHead → Bool
head_holds world h.Nothing = false
head_holds world (h.Atom a) = world.atoms a
head_holds world (h.Theory theory) = theory_holds world.values theory
head_holds world (h.Choice choice) =
    allows choice.left (length (chosen world choice.items)) && allows choice.right (length (chosen world choice.items))

-- the head holds where the body does
abbrev pub rule_holds : World → GroundRule → Bool
rule_holds world rule = not (list_all (literal_holds world) rule.body) || head_holds world rule.head

-- a world is a stable model of rules, by tests
pub record IsStableByTests (rules : List GroundRule) (world : World) : Type 0 where
  pub derived : (a : ℕ) → world.atoms a ≡ true → (rank : ℕ) × (derivable rules world rank a ≡ true)
  pub closed : (a rank : ℕ) → derivable rules world rank a ≡ true → world.atoms a ≡ true
  pub duties : list_all (rule_holds world) rules ≡ true
