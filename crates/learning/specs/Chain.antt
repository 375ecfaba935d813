-- The lines that tell what was learned: each reason that the start or the chain shows, under the ids from the next on, and then the `r` line.
use Rattle.std.specs.Prelude.{ℕ, ◌+◌, List, [], ◌∷◌, ◌++◌, map}
use Rattle.literals.specs.declared.lit.Lit.{Lit}
use Rattle.conflict_analysis.specs.declared.learned.Start.{Start}
use Rattle.conflict_analysis.specs.declared.learned.Start.TheVariants as from
use Rattle.conflict_analysis.specs.declared.learned.Link.{Link}
use Rattle.derivation.specs.declared.line.Line.{Line}
use Rattle.derivation.specs.declared.line.Line.TheVariants as l
use Rattle.learning.specs.Told.{line_of}

-- the start and what each link uses
abbrev pub uses_of : Start → List Link → List Start
uses_of first chain = first ∷ map (λ k. k.used) chain

-- the lines of those that are shown
abbrev pub shown_lines : List Start → List Line
shown_lines [] = []
shown_lines (from.Held id ∷ rest) = shown_lines rest
shown_lines (from.Shown r ∷ rest) = line_of r ∷ shown_lines rest

-- the id by which the `r` line names it, and the next id after it
abbrev pub id_for : ℕ → Start → ℕ
id_for next (from.Held id) = id
id_for next (from.Shown r) = next

abbrev pub next_for : ℕ → Start → ℕ
next_for next (from.Held id) = next
next_for next (from.Shown r) = next + 1

-- the chain with an id for each link
abbrev pub links_from : ℕ → List Link → List (Lit × ℕ)
links_from next [] = []
links_from next (k ∷ ks) = (k.pivot, id_for next k.used) ∷ links_from (next_for next k.used) ks

abbrev pub lines_of : ℕ → Start → List Link → List Lit → List Line
lines_of next first chain nogood =
    shown_lines (uses_of first chain) ++ l.Learned (id_for next first) (links_from (next_for next first) chain) nogood ∷ []
