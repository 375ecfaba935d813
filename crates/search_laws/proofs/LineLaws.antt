-- Lines after lines: what they lead to, what they count and what they give.
use Rattle.std.proofs.Common.{◌≡◌, ℕ, suc, ◌+◌, ◌≤◌, cond, true, List, [], ◌∷◌, ◌++◌, length, Option, refl, sym, ◌∙◌, ap, subst, arith}
use Rattle.ground_model.specs.declared.answer.Answer.{Answer}
use Rattle.ground_model.specs.declared.program.GroundProgram.{GroundProgram}
use Rattle.ground_model.specs.Members.{IsMember}
use Rattle.ground_model.specs.Objective.{objective_of}
use Rattle.derivation.specs.declared.line.Line.{Line}
use Rattle.derivation.specs.declared.line.Line.TheVariants as l
use Rattle.derivation.specs.Whole.{count_learned, is_learned}
use Rattle.derivation_meaning.specs.State.{State, Best, cost_in}
use Rattle.derivation_meaning.specs.Lines.{improves}
use Rattle.derivation_meaning.specs.Valid.{after}
use Rattle.derivation_meaning.specs.Acceptance.{AreValid, after_all}
use Rattle.derivation_meaning.specs.Claims.{answer_in, given_in, IsRemaining}
use Rattle.derivation_meaning.proofs.JoinLemmas.{join_law}
use Rattle.learning.specs.Learning.{Lead}

-- COUNTS

pub count_append : (lines more : List Line) → count_learned (lines ++ more) ≡ count_learned lines + count_learned more
count_append [] more = omega arith
count_append (line ∷ lines) more = let rest = count_append lines more in omega (arith, rest)

-- each line keeps the next id or takes it
next_one : (program : GroundProgram) (state : State) (line : Line) → state.next + cond (is_learned line) 1 0 ≤ (after program state line).next
next_one program state (l.Header version min max limit) = omega arith
next_one program state (l.Sum c lits) = omega arith
next_one program state (l.Distinct c a b lits) = omega arith
next_one program state (l.Window c a b lits) = omega arith
next_one program state (l.Pair c i j lits) = omega arith
next_one program state (l.Loop atoms lits) = omega arith
next_one program state (l.Hole c lits) = omega arith
next_one program state (l.Learned id links lits) = omega arith
next_one program state (l.Answer atoms values) = omega arith
next_one program state (l.Better cost atoms values) = omega arith
next_one program state l.EndNone = omega arith
next_one program state (l.EndAll count) = omega arith
next_one program state (l.EndBest cost) = omega arith

-- each `r` line takes an id
pub next_counts : (program : GroundProgram) (state : State) (lines : List Line) → state.next + count_learned lines ≤ (after_all program state lines).next
next_counts program state [] = omega arith
next_counts program state (line ∷ lines) =
    let one = next_one program state line in
    let rest = next_counts program (after program state line) lines in
    omega (arith, one, rest)

-- LINES THAT GIVE NONE

pub record IsSameGiven (old new : State) : Type 0 where
  pub answers : new.answers ≡ old.answers
  pub best : new.best ≡ old.best

gives_one : (program : GroundProgram) (state : State) (line : Line) → answer_in line ≡ [] → IsSameGiven state (after program state line)
gives_one program state (l.Header version min max limit) e = record { answers = refl; best = refl }
gives_one program state (l.Sum c lits) e = record { answers = refl; best = refl }
gives_one program state (l.Distinct c a b lits) e = record { answers = refl; best = refl }
gives_one program state (l.Window c a b lits) e = record { answers = refl; best = refl }
gives_one program state (l.Pair c i j lits) e = record { answers = refl; best = refl }
gives_one program state (l.Loop atoms lits) e = record { answers = refl; best = refl }
gives_one program state (l.Hole c lits) e = record { answers = refl; best = refl }
gives_one program state (l.Learned id links lits) e = record { answers = refl; best = refl }
gives_one program state (l.Answer atoms values) e = let no : 1 ≡ 0 = ap length e in absurd (omega (arith, no))
gives_one program state (l.Better cost atoms values) e = let no : 1 ≡ 0 = ap length e in absurd (omega (arith, no))
gives_one program state l.EndNone e = record { answers = refl; best = refl }
gives_one program state (l.EndAll count) e = record { answers = refl; best = refl }
gives_one program state (l.EndBest cost) e = record { answers = refl; best = refl }

front_none : {X : Type 0} (xs ys : List X) → xs ++ ys ≡ [] → xs ≡ []
front_none [] ys e = refl
front_none (x ∷ xs) ys e = let no : suc (length (xs ++ ys)) ≡ 0 = ap length e in absurd (omega (arith, no))

back_none : {X : Type 0} (xs ys : List X) → xs ++ ys ≡ [] → ys ≡ []
back_none [] ys e = e
back_none (x ∷ xs) ys e = let no : suc (length (xs ++ ys)) ≡ 0 = ap length e in absurd (omega (arith, no))

-- the answers that were given stay the same
pub none_given : (program : GroundProgram) (state : State) (lines : List Line) → given_in lines ≡ [] → IsSameGiven state (after_all program state lines)
none_given program state [] e = record { answers = refl; best = refl }
none_given program state (line ∷ lines) e =
    let one = gives_one program state line (front_none (answer_in line) (given_in lines) e) in
    let rest = none_given program (after program state line) lines (back_none (answer_in line) (given_in lines) e) in
    record { answers = rest.answers ∙ one.answers; best = rest.best ∙ one.best }

pub same_given : (program : GroundProgram) (old new : State) (n : ℕ) → Lead program old new n → IsSameGiven old new
same_given program old new n lead = subst (IsSameGiven old) (sym lead.leads) (none_given program old lead.lines lead.gives_none)

-- so the same models remain
pub remaining_back : (program : GroundProgram) (old new : State) (n : ℕ) (answer : Answer) → Lead program old new n → IsRemaining program new answer → IsRemaining program old answer
remaining_back program old new n answer lead r =
    let same = same_given program old new n lead in
    record {
      stable = r.stable;
      unlisted = λ m. r.unlisted (subst (λ given. IsMember given answer) (sym same.answers) m);
      cheaper = subst (λ (b : Option Best). improves (cost_in b) (objective_of program answer) ≡ true) same.best r.cheaper;
    }

pub remaining_on : (program : GroundProgram) (old new : State) (n : ℕ) (answer : Answer) → Lead program old new n → IsRemaining program old answer → IsRemaining program new answer
remaining_on program old new n answer lead r =
    let same = same_given program old new n lead in
    record {
      stable = r.stable;
      unlisted = λ m. r.unlisted (subst (λ given. IsMember given answer) same.answers m);
      cheaper = subst (λ (b : Option Best). improves (cost_in b) (objective_of program answer) ≡ true) (sym same.best) r.cheaper;
    }

-- LEADS

pub lead_none : (program : GroundProgram) (state : State) → Lead program state state 0
lead_none program state = record { lines = []; valid = tt; leads = refl; counted = refl; gives_none = refl; unclaimed = refl }

-- lines after lines that lead to a state
pub joined_valid : (program : GroundProgram) (old middle : State) (lines more : List Line) → AreValid program old lines → middle ≡ after_all program old lines → AreValid program middle more → AreValid program old (lines ++ more)
joined_valid program old middle lines more first leads second = (join_law program old lines more).valid.1 (first, subst (λ (s : State). AreValid program s more) leads second)

pub joined_leads : (program : GroundProgram) (old middle new : State) (lines more : List Line) → middle ≡ after_all program old lines → new ≡ after_all program middle more → new ≡ after_all program old (lines ++ more)
joined_leads program old middle new lines more first second = second ∙ ap (λ s. after_all program s more) first ∙ sym (join_law program old lines more).leads

pub joined_gives : (program : GroundProgram) (state : State) (lines more : List Line) → given_in lines ≡ [] → given_in (lines ++ more) ≡ given_in more
joined_gives program state lines more none = (join_law program state lines more).gives ∙ ap (λ given. given ++ given_in more) none

pub lead_on : (program : GroundProgram) (old middle new : State) (m n : ℕ) → Lead program old middle m → Lead program middle new n → Lead program old new (m + n)
lead_on program old middle new m n a b = record {
  lines = a.lines ++ b.lines;
  valid = joined_valid program old middle a.lines b.lines a.valid a.leads b.valid;
  leads = joined_leads program old middle new a.lines b.lines a.leads b.leads;
  counted = let both = count_append a.lines b.lines in let first = a.counted in let second = b.counted in omega (arith, both, first, second);
  gives_none = joined_gives program old a.lines b.lines a.gives_none ∙ b.gives_none;
  unclaimed = b.unclaimed ∙ a.unclaimed;
}
