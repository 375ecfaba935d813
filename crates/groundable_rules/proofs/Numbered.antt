-- The variables of a rule by number.
use Rattle.std.proofs.Common.{ℕ, ◌≤◌, ◌<◌, Bool, true, false, not, ◌&&◌, if◌then◌else◌, List, [], ◌∷◌, filter, length, arith}
use Rattle.std.specs.List.{AllByRecursion}
use Rattle.program_meaning.specs.Read.{ReadRule}
use Rattle.program_meaning.specs.Variables.{is_global, occurs_in_choice, occurs_in_element}
use Rattle.program_meaning.proofs.Leaves.{filter_apart, locals_law}
use Rattle.groundable_rules.specs.Groundable.{IsGroundable}
use Rattle.groundable_rules.specs.Laws.{GlobalsLaw, ChoiceLaw, ElementLaw}

few_left : (test : ℕ → Bool) (ns : List ℕ) → length (filter test ns) ≤ length ns
few_left test [] = omega arith
few_left test (n ∷ ns) = go (test n) (few_left test ns)
  where
    go : (b : Bool) → length (filter test ns) ≤ length ns → length (if b then n ∷ filter test ns else filter test ns) ≤ length (n ∷ ns)
    go true less = omega (arith, less)
    go false less = omega (arith, less)

all_left : (P : ℕ → Type 0) (test : ℕ → Bool) (ns : List ℕ) → AllByRecursion P ns → AllByRecursion P (filter test ns)
all_left P test [] all = tt
all_left P test (n ∷ ns) all = go (test n) (all_left P test ns all.1)
  where
    go : (b : Bool) → AllByRecursion P (filter test ns) → AllByRecursion P (if b then n ∷ filter test ns else filter test ns)
    go true rest = (all.0, rest)
    go false rest = rest

few_of : (rule : ReadRule) → IsGroundable rule → (test : ℕ → Bool) → length (filter test rule.order) ≤ 64
few_of rule fine test = let few = fine.few in let less = few_left test rule.order in omega (arith, few, less)

pub globals_law : GlobalsLaw
globals_law rule fine = (
  record {
    apart = filter_apart (is_global rule) rule.order fine.listed.numbered.apart;
    each = all_left (λ n. (0 < n) × (n ≤ length rule.order)) (is_global rule) rule.order fine.listed.numbered.each;
  },
  few_of rule fine (is_global rule),
)

pub choice_law : ChoiceLaw
choice_law rule fine element = ((locals_law rule fine.listed.numbered).1 element, few_of rule fine (λ n. occurs_in_choice n element && not (is_global rule n)))

pub element_law : ElementLaw
element_law rule fine element = ((locals_law rule fine.listed.numbered).0 element, few_of rule fine (λ n. occurs_in_element n element && not (is_global rule n)))
