-- Loop nogoods (Lin and Zhao; Gebser, Kaufmann, Schaub).
use Rattle.std.specs.Prelude.{◌≡◌, ℕ, true, List, ◌∷◌, map}
use Rattle.std.specs.List.{filter, AllByRecursion}
use Rattle.literals.specs.declared.lit.Lit.{Lit}
use Rattle.literals.specs.declared.lit.Lit.TheVariants as l
use Rattle.literals.specs.Nogoods.{canonical}
use Rattle.literals.specs.Truths.{Truths, Meets}
use Rattle.ground_model.specs.Answers.{IsNumbered}
use Rattle.linear_normal.specs.declared.numbered.Numbered.{Numbered}
use Rattle.linear_normal.specs.Steps.{is_among, is_external}
use Rattle.completion.specs.Inputs.{all_false}

-- an atom of the set is true, and each body that supports one from outside is false
abbrev pub loop_nogood : Numbered → List ℕ → ℕ → List Lit
loop_nogood numbered set a =
    canonical (l.Atom a true ∷ all_false (map (λ support. support.body) (filter (is_external numbered set) numbered.supports)))

-- each loop nogood of a set of so many atoms is met
abbrev pub MeetsLoops : ℕ → Numbered → Truths → Type 0
MeetsLoops atoms numbered truths =
    (set : List ℕ) → AllByRecursion (IsNumbered atoms) set → (a : ℕ) → is_among set a ≡ true → Meets truths (loop_nogood numbered set a)
