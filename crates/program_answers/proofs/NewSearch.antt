-- What a new search's listing says is of its program.
use Rattle.std.proofs.Common.{◌≡◌, ℕ, refl, sym, subst}
use Rattle.ground_model.specs.declared.program.GroundProgram.{GroundProgram}
use Rattle.outside_io.specs.Outputs.{Output}
use Rattle.derivation_meaning.specs.State.{start}
use Rattle.search_core.specs.Searching.{Searching, begun}
use Rattle.enumerator.specs.declared.summary.Ending.{Ending}
use Rattle.enumerator.specs.Endings.{asked, counted, Ends, Breaks}

pub is-new : (search : Searching) (program : GroundProgram) → search ≡ begun program (start program) → search ≡ begun search.program (start search.program)
is-new search program same = subst (λ (s : Searching). s ≡ begun s.program (start s.program)) (sym same) refl

pub ends-of : (search : Searching) (program : GroundProgram) (number limit answers found conflicts : ℕ) (ending : Ending) (before now : Output)
    → search ≡ begun program (start program) → conflicts ≡ found → Ends (asked search.program number limit) ending (counted answers found) before now
    → Ends (asked program number limit) ending (counted answers conflicts) before now
ends-of search program number limit answers found conflicts ending before now same counts ends =
    subst (λ (n : ℕ). Ends (asked program number limit) ending (counted answers n) before now) (sym counts)
    (subst (λ (s : Searching). Ends (asked s.program number limit) ending (counted answers found) before now) same ends)

pub breaks-of : (search : Searching) (program : GroundProgram) (number limit answers found conflicts : ℕ) (before now : Output)
    → search ≡ begun program (start program) → conflicts ≡ found → Breaks (asked search.program number limit) (counted answers found) before now
    → Breaks (asked program number limit) (counted answers conflicts) before now
breaks-of search program number limit answers found conflicts before now same counts breaks =
    subst (λ (n : ℕ). Breaks (asked program number limit) (counted answers n) before now) (sym counts)
    (subst (λ (s : Searching). Breaks (asked s.program number limit) (counted answers found) before now) same breaks)
