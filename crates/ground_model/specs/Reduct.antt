-- The reduct of a program by a world, as definite rules over atoms that are counted from 0.
use Rattle.std.specs.Prelude.{ℕ, ◌-◌, Bool, true, not, ◌&&◌, ◌||◌, List, [], ◌∷◌, map}
use Rattle.std.specs.List.{list_all, filter}
use Rattle.definite_rules.specs.Rule.{DefiniteRule}
use Rattle.ground_model.specs.declared.rule.BodyLit.{BodyLit}
use Rattle.ground_model.specs.declared.rule.BodyLit.TheVariants as b
use Rattle.ground_model.specs.declared.rule.GroundRule.{GroundRule}
use Rattle.ground_model.specs.World.{World}
use Rattle.ground_model.specs.Ways.{literal_holds, Way, ways}

-- the positive atoms of a body, counted from 0
abbrev pub positives : List BodyLit → List ℕ
positives [] = []
positives (b.Atom a true ∷ rest) = (a - 1) ∷ positives rest
positives (literal ∷ rest) = positives rest

-- a literal that is no positive atom holds in the world
abbrev pub rest_holds : World → BodyLit → Bool
rest_holds world (b.Atom a true) = true
rest_holds world literal = literal_holds world literal

-- the reduct keeps a way where all but its positive atoms holds, and a choice only where the world has its atom
abbrev pub is_kept : World → Way → Bool
is_kept world way = (not way.is_choice || world.atoms way.atom) && list_all (rest_holds world) way.body

-- a way by its positive atoms alone
abbrev pub definite_of : Way → DefiniteRule
definite_of way = record { head = way.atom - 1; body = positives way.body }

-- what the reduct keeps of these ways
abbrev pub kept_of : World → List Way → List DefiniteRule
kept_of world ways = map definite_of (filter (is_kept world) ways)

-- the reduct
abbrev pub reduct : List GroundRule → World → List DefiniteRule
reduct rules world = kept_of world (ways rules)
