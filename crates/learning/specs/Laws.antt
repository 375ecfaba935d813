-- What holds of the lines that tell what was learned, of the states that they lead to, and of explained trails.
use Rattle.std.specs.Prelude.{◌≡◌, ℕ, ◌+◌, ◌≤◌, Bool, ℤ, true, List, [], ◌∷◌, ◌++◌, take, length, Option, Some, None}
use Rattle.std.specs.List.{AllByRecursion}
use Rattle.literals.specs.declared.lit.Lit.{Lit}
use Rattle.literals.specs.declared.reason.Reason.{Reason}
use Rattle.ground_model.specs.declared.answer.Answer.{Answer}
use Rattle.ground_model.specs.declared.program.GroundProgram.{GroundProgram}
use Rattle.completion.specs.Inputs.{input_nogoods}
use Rattle.trail.specs.declared.shape.Shape.{Shape}
use Rattle.trail.specs.declared.entry.Why.TheVariants.{Decision}
use Rattle.trail.specs.declared.entry.Placed.TheVariants.{Done}
use Rattle.trail.specs.Assignment.{Assignment, IsAssignment, Places, undone_to}
use Rattle.trail.specs.Growth.{Grows}
use Rattle.nogood_store.specs.Holding.{Held, AreBelow, numbered_from}
use Rattle.nogood_store.specs.Propagation.{AllNamed, IsConflict as IsMet}
use Rattle.conflict_analysis.specs.declared.learned.Start.{Start}
use Rattle.conflict_analysis.specs.declared.learned.Start.TheVariants as from
use Rattle.conflict_analysis.specs.declared.learned.Link.{Link}
use Rattle.conflict_analysis.specs.Chains.{replayed, IsConflicting}
use Rattle.propagator_core.specs.Shown.{IsConflict}
use Rattle.derivation.specs.declared.line.Line.{Line}
use Rattle.derivation_meaning.specs.State.{State, start, cost_in}
use Rattle.derivation_meaning.specs.Lines.{answer_nogood, improves}
use Rattle.derivation_meaning.specs.Valid.{with_nogood, with_answer}
use Rattle.derivation_meaning.specs.Acceptance.{AreValid, after_all}
use Rattle.trail_worlds.specs.Total.{shape_of}
use Rattle.learning.specs.Known.{Known, state_of, first_known, IsReached}
use Rattle.learning.specs.Told.{IsTellableStart}
use Rattle.learning.specs.Explained.{IsExplained, IsSound, IsForcedOrShown}
use Rattle.learning.specs.Chain.{uses_of, shown_lines, lines_of}

-- LINES

-- the lines that tell what was learned are valid in turn, and leave the held nogoods and the learned one under the last id
abbrev pub LinesLaw : Type 0
LinesLaw =
    (program : GroundProgram) (known : Known) (held : List Held) (first : Start) (chain : List Link) (nogood : List Lit)
    → known.claim ≡ None → AreBelow known.next held → AllByRecursion (IsTellableStart program (cost_in known.best)) (uses_of first chain)
    → replayed held first chain ≡ Some nogood
    → AreValid program (state_of held known) (lines_of known.next first chain nogood)
    × (after_all program (state_of held known) (lines_of known.next first chain nogood)
    ≡ with_nogood (record (state_of held known) { next = known.next + length (shown_lines (uses_of first chain)) }) nogood true true)

-- a front of the lines of shown reasons is valid too, and takes an id a line
abbrev pub FrontLaw : Type 0
FrontLaw =
    (program : GroundProgram) (known : Known) (held : List Held) (starts : List Start) (count : ℕ)
    → known.claim ≡ None → AllByRecursion (IsTellableStart program (cost_in known.best)) starts → count ≤ length (shown_lines starts)
    → AreValid program (state_of held known) (take count (shown_lines starts))
    × ((after_all program (state_of held known) (take count (shown_lines starts))).next ≡ known.next + count)

-- STATES

-- what is held and known before the first line is the first state
abbrev pub StartLaw : Type 0
StartLaw = (program : GroundProgram) → state_of (numbered_from 1 (input_nogoods program)) (first_known program) ≡ start program

-- valid lines on from a state that valid lines reach reach theirs
abbrev pub ReachLaw : Type 0
ReachLaw = (program : GroundProgram) (state : State) (lines : List Line) → IsReached program state → AreValid program state lines → IsReached program (after_all program state lines)

-- after one more answer its nogood is held under the next id
abbrev pub GivenLaw : Type 0
GivenLaw =
    (program : GroundProgram) (known : Known) (held : List Held) (answer : Answer) → AreBelow known.next held
    → with_answer program (state_of held known) answer
    ≡ state_of (held ++ record { id = known.next; nogood = answer_nogood program answer } ∷ [])
    (record known { next = known.next + 1; given = known.given ++ record { id = known.next; answer = answer } ∷ [] })

-- TRAILS

-- a trail stays explained as it grows by what held nogoods and valid reasons force
abbrev pub GrowthLaw : Type 0
GrowthLaw =
    (program : GroundProgram) (cost : Option ℤ) (held : List Held) (valid : Shape → Reason → Bool) (old new : Assignment)
    → IsSound program valid → AllNamed (shape_of program) held → Grows (IsForcedOrShown held valid) old new
    → IsExplained program cost held old → IsExplained program cost held new

-- as a literal is decided at a new level
abbrev pub DecisionLaw : Type 0
DecisionLaw =
    (program : GroundProgram) (cost : Option ℤ) (held : List Held) (old new : Assignment) (lit : Lit)
    → IsAssignment old → Places (record old { level = old.level + 1 }) lit Decision Done new
    → IsExplained program cost held old → IsExplained program cost held new

-- as it is undone
abbrev pub UndoLaw : Type 0
UndoLaw =
    (program : GroundProgram) (cost : Option ℤ) (held : List Held) (t : Assignment) (level : ℕ)
    → IsAssignment t → IsExplained program cost held t → IsExplained program cost held (undone_to level t)

-- as more nogoods are held
abbrev pub HoldLaw : Type 0
HoldLaw =
    (program : GroundProgram) (cost : Option ℤ) (held more : List Held) (t : Assignment)
    → IsExplained program cost held t → IsExplained program cost (held ++ more) t

-- and under a smaller cost
abbrev pub CostLaw : Type 0
CostLaw =
    (program : GroundProgram) (before : Option ℤ) (cost : ℤ) (held : List Held) (t : Assignment)
    → improves before cost ≡ true → IsExplained program before held t → IsExplained program (Some cost) held t

-- a held nogood that has all literals true, or a valid reason that has, is a start that can be told
abbrev pub StartsLaw : Type 0
StartsLaw =
    (program : GroundProgram) (cost : Option ℤ) (held : List Held) (valid : Shape → Reason → Bool) (t : Assignment)
    → IsSound program valid → AllNamed (shape_of program) held → t.shape ≡ shape_of program
    → ((id : ℕ) → IsMet held t id → IsConflicting held t (from.Held id) × IsTellableStart program cost (from.Held id))
    × ((r : Reason) → IsConflict valid t r → IsConflicting held t (from.Shown r) × IsTellableStart program cost (from.Shown r))
