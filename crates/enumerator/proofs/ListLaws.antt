-- One call of a search after another: lines, answers and what is printed of them.
use Rattle.std.proofs.Common.{◌⊎◌, inl, inr, ◌≡◌, ℕ, zero, suc, ◌+◌, ◌<◌, ◌≤◌, ◌^◌, false, List, [], ◌∷◌, ◌++◌, length, take, slice_get, Some, refl, sym, ◌∙◌, ap, subst, arith, append_assoc, append-nil, true≢false}
use Rattle.std.specs.Io.KnownBytes.{Appends}
use Rattle.std.proofs.KnownBytes.{Appends-nil, Appends-trans}
use Rattle.std.proofs.lemmas.List.{length-append}
use Rattle.ground_model.specs.declared.answer.Answer.{Answer}
use Rattle.ground_model.specs.declared.program.GroundProgram.{GroundProgram}
use Rattle.ground_model.specs.Printed.{block, blocks_from}
use Rattle.outside_io.specs.Outputs.{Output}
use Rattle.outside_io.specs.Told.{AppendsFront}
use Rattle.derivation.specs.declared.line.Line.{Line}
use Rattle.derivation.specs.Whole.{count_learned}
use Rattle.derivation_meaning.specs.declared.claim.Claim.{Claim}
use Rattle.derivation_meaning.specs.declared.claim.Claim.TheVariants as claim
use Rattle.derivation_meaning.specs.State.{State, start, holds_empty}
use Rattle.derivation_meaning.specs.Acceptance.{AreValid, after_all, IsAccepted}
use Rattle.derivation_meaning.specs.Claims.{given_in, ClaimHolds, Fits}
use Rattle.derivation_meaning.proofs.JoinLemmas.{join_law}
use Rattle.derivation_meaning.proofs.LawProofs.{acceptance_law, fitting_law, found_law}
use Rattle.search_core.specs.Searching.{Searching, begun, Goes, IsAtLimit, IsCut, IsClaimed}
use Rattle.search_core.specs.declared.event.Event.TheVariants as event
use Rattle.enumerator.specs.declared.summary.Ending.{Ending}
use Rattle.enumerator.specs.declared.summary.Ending.TheVariants as e
use Rattle.enumerator.specs.Endings.{Task, AreLines, IsGivenUp, EndsBy, IsOwn, line_for, HasEnded, HasBroken, Ends, Breaks, counted, state_after}
use Rattle.enumerator.specs.declared.listing.Turn.{Turn}
use Rattle.enumerator.specs.declared.listing.Turn.TheVariants.{Printed, Ended, Broke}
use Rattle.enumerator.specs.inner.Listing.{IsListed, GoesOn, IsDue, IsBroken, Gives, Turns, ending_of}

-- LISTS

-- the block of one more answer stands behind those before it
blocks_push : (program : GroundProgram) (n : ℕ) (xs : List Answer) (a : Answer) → blocks_from program n (xs ++ a ∷ []) ≡ blocks_from program n xs ++ block program a (n + length xs)
blocks_push program n [] a =
    let same : n + 0 ≡ n = omega arith in
    append-nil (block program a n) ∙ ap (block program a) (sym same)
blocks_push program n (x ∷ xs) a =
    let same : (n + 1) + length xs ≡ n + suc (length xs) = omega arith in
    ap (λ (ys : List ℕ). block program x n ++ ys) (blocks_push program (n + 1) xs a)
    ∙ sym (append_assoc (block program x n) (blocks_from program (n + 1) xs) (block program a ((n + 1) + length xs)))
    ∙ ap (λ (k : ℕ). (block program x n ++ blocks_from program (n + 1) xs) ++ block program a k) same

take_all_of : (xs ys : List Answer) (n : ℕ) → length xs ≡ n → take n (xs ++ ys) ≡ xs
take_all_of [] ys zero h = refl
take_all_of [] ys (suc n) h = absurd (omega (arith, h))
take_all_of (x ∷ xs) ys zero h = absurd (omega (arith, h))
take_all_of (x ∷ xs) ys (suc n) h = ap (λ (zs : List Answer). x ∷ zs) (take_all_of xs ys n (omega (arith, h)))

last_of_all : (xs : List Answer) (a : Answer) (n : ℕ) → length xs ≡ n → slice_get (xs ++ a ∷ []) n ≡ Some a
last_of_all [] a zero h = refl
last_of_all [] a (suc n) h = absurd (omega (arith, h))
last_of_all (x ∷ xs) a zero h = absurd (omega (arith, h))
last_of_all (x ∷ xs) a (suc n) h = last_of_all xs a n (omega (arith, h))

count_both : (xs ys : List Line) → count_learned (xs ++ ys) ≡ count_learned xs + count_learned ys
count_both [] ys = omega arith
count_both (x ∷ xs) ys = let h = count_both xs ys in omega (arith, h)

-- LINES

-- more lines are valid behind those that led to the search
more_valid : (task : Task) (s : Searching) (lines more : List Line) → s.program ≡ task.program → s.state ≡ state_after task lines → AreValid task.program (start task.program) lines → AreValid s.program s.state more
    → AreValid task.program (start task.program) (lines ++ more)
more_valid task s lines more same state valid new =
    (join_law task.program (start task.program) lines more).valid.1
    (valid, subst (λ (st : State). AreValid task.program st more) state (subst (λ (p : GroundProgram). AreValid p s.state more) same new))

more_leads : (task : Task) (s : Searching) (lines more : List Line) → s.program ≡ task.program → s.state ≡ state_after task lines → after_all s.program s.state more ≡ state_after task (lines ++ more)
more_leads task s lines more same state =
    ap (λ (p : GroundProgram). after_all p s.state more) same ∙ ap (λ (st : State). after_all task.program st more) state ∙ sym (join_law task.program (start task.program) lines more).leads

more_given : (task : Task) (lines more : List Line) → given_in (lines ++ more) ≡ given_in lines ++ given_in more
more_given task lines more = (join_law task.program (start task.program) lines more).gives

more_none : (task : Task) (lines more : List Line) → given_in more ≡ [] → given_in (lines ++ more) ≡ given_in lines
more_none task lines more none = more_given task lines more ∙ ap (λ (xs : List Answer). given_in lines ++ xs) none ∙ append-nil (given_in lines)

more_learned : (old new : ℕ) (lines more : List Line) → old ≡ count_learned lines → new ≡ old + count_learned more → new ≡ count_learned (lines ++ more)
more_learned old new lines more is counted = let both = count_both lines more in omega (arith, is, counted, both)

are_lines : (task : Task) (lines : List Line) → AreValid task.program (start task.program) lines → AreLines task lines
are_lines task lines valid = record { valid = valid; found = found_law task.program lines valid }

-- lines that give nothing leave what is listed
listed_on : (task : Task) (n : ℕ) (old : Searching) (conflicts : ℕ) (before now : Output) (more : List Line) (g : GoesOn task n old before now) → AreValid old.program old.state more
    → conflicts ≡ old.conflicts + count_learned more → given_in more ≡ [] → IsListed task (g.lines ++ more) n conflicts before now
listed_on task n old conflicts before now more g valid counted none =
    let same = more_none task g.lines more none in
    record {
      valid = more_valid task old g.lines more g.program g.state g.listed.valid valid;
      learned = more_learned old.conflicts conflicts g.lines more g.listed.learned counted;
      given = ap length same ∙ g.listed.given;
      printed = subst (λ (xs : List Answer). Appends before.written now.written (blocks_from task.program 1 xs)) (sym same) g.listed.printed;
    }

-- THE FIRST CALL

pub begins : (task : Task) (s : Searching) (before : Output) → s ≡ begun s.program (start s.program) → s.program ≡ task.program → 1 ≤ task.limit → GoesOn task 0 s before before
begins task s before new same limit = record {
  lines = [];
  listed = record { valid = tt; learned = ap (λ (x : Searching). x.conflicts) new; given = refl; printed = Appends-nil before.written };
  program = same;
  state = ap (λ (x : Searching). x.state) new ∙ ap start same;
  unclaimed = ap (λ (x : Searching). x.state.claim) new;
  within = subst (λ (c : ℕ). c < task.limit) (sym (ap (λ (x : Searching). x.conflicts) new)) (omega (arith, limit));
  unspent = ap (λ (x : Searching). x.spent) new;
}

-- AN ANSWER

answer_listed : (task : Task) (n : ℕ) (old new : Searching) (before mid now : Output) (a : Answer) (g : GoesOn task n old before mid) (goes : Goes old new (event.Answer a))
    → Appends mid.written now.written (block task.program a (n + 1)) → IsListed task (g.lines ++ goes.lines) (n + 1) new.conflicts before now
answer_listed task n old new before mid now a g goes printed =
    let given : given_in (g.lines ++ goes.lines) ≡ given_in g.lines ++ a ∷ [] = more_given task g.lines goes.lines ∙ ap (λ (xs : List Answer). given_in g.lines ++ xs) goes.tells.2 in
    let count : 1 + length (given_in g.lines) ≡ n + 1 = (let is = g.listed.given in omega (arith, is)) in
    let blocks : blocks_from task.program 1 (given_in (g.lines ++ goes.lines)) ≡ blocks_from task.program 1 (given_in g.lines) ++ block task.program a (n + 1) =
    ap (blocks_from task.program 1) given ∙ blocks_push task.program 1 (given_in g.lines) a ∙ ap (λ (k : ℕ). blocks_from task.program 1 (given_in g.lines) ++ block task.program a k) count in
    record {
      valid = more_valid task old g.lines goes.lines g.program g.state g.listed.valid goes.valid;
      learned = more_learned old.conflicts new.conflicts g.lines goes.lines g.listed.learned goes.counted;
      given = ap length given ∙ length-append (given_in g.lines) (a ∷ []) ∙ ap (λ (k : ℕ). k + 1) g.listed.given;
      printed = subst (Appends before.written now.written) (sym blocks) (Appends-trans before.written mid.written now.written (blocks_from task.program 1 (given_in g.lines)) (block task.program a (n + 1)) g.listed.printed printed);
    }

-- its block is printed
pub answer_printed : (task : Task) (n : ℕ) (old new : Searching) (before mid now : Output) (a : Answer) → GoesOn task n old before mid → Goes old new (event.Answer a) → new.program ≡ old.program → new.conflicts < task.limit → new.spent ≡ false
    → Appends mid.written now.written (block task.program a (n + 1)) → GoesOn task (n + 1) new before now
answer_printed task n old new before mid now a g goes same within unspent printed = record {
  lines = g.lines ++ goes.lines;
  listed = answer_listed task n old new before mid now a g goes printed;
  program = same ∙ g.program;
  state = goes.leads ∙ more_leads task old g.lines goes.lines g.program g.state;
  unclaimed = goes.tells.3;
  within = within;
  unspent = unspent;
}

-- a front of its block is
pub answer_cut : (task : Task) (n : ℕ) (old new : Searching) (before mid now : Output) (a : Answer) → GoesOn task n old before mid → Goes old new (event.Answer a)
    → AppendsFront mid.written now.written (block task.program a (n + 1)) → Breaks task (counted n new.conflicts) before now
answer_cut task n old new before mid now a g goes front =
    let lines : List Line = g.lines ++ goes.lines in
    let given : given_in lines ≡ given_in g.lines ++ a ∷ [] = more_given task g.lines goes.lines ∙ ap (λ (xs : List Answer). given_in g.lines ++ xs) goes.tells.2 in
    let size : length (given_in lines) ≡ n + 1 = ap length given ∙ length-append (given_in g.lines) (a ∷ []) ∙ ap (λ (k : ℕ). k + 1) g.listed.given in
    let firsts : take n (given_in lines) ≡ given_in g.lines = ap (take n) given ∙ take_all_of (given_in g.lines) (a ∷ []) n g.listed.given in
    let broken : HasBroken task (blocks_from task.program 1 (given_in g.lines) ++ take front.0 (block task.program a (n + 1))) (counted n new.conflicts) = record {
      lines = lines;
      are = are_lines task lines (more_valid task old g.lines goes.lines g.program g.state g.listed.valid goes.valid);
      count = front.0;
      piece = block task.program a (n + 1);
      due = inl (a, ap (λ (xs : List Answer). slice_get xs n) given ∙ last_of_all (given_in g.lines) a n g.listed.given, refl, front.1);
      printed_is = ap (λ (xs : List Answer). blocks_from task.program 1 xs ++ take front.0 (block task.program a (n + 1))) (sym firsts);
      whole = omega (arith, size);
      one_more = omega (arith, size);
      conflicts = more_learned old.conflicts new.conflicts g.lines goes.lines g.listed.learned goes.counted;
    } in (
      blocks_from task.program 1 (given_in g.lines) ++ take front.0 (block task.program a (n + 1)),
      broken,
      Appends-trans before.written mid.written now.written (blocks_from task.program 1 (given_in g.lines)) (take front.0 (block task.program a (n + 1))) g.listed.printed front.2,
    )

-- NO ANSWER

exhausted_by : (task : Task) (lines : List Line) (n : ℕ) (c : Claim) → task.program.has_objective ≡ false → IsAccepted task.program lines c → length (given_in lines) ≡ n → n < task.number
    → ClaimHolds task.program (given_in lines) c → Fits task.program (given_in lines) c → EndsBy task lines (ending_of n)
exhausted_by task lines zero claim.Nothing kind accepted size fewer holds fits = record { accepted = accepted; holds = holds; fewer = omega (arith, size, fewer) }
exhausted_by task lines zero (claim.All count) kind accepted size fewer holds fits = absurd (let some = fits.1 in let is = fits.2 in omega (arith, size, some, is))
exhausted_by task lines zero (claim.Best cost) kind accepted size fewer holds fits = absurd (true≢false (sym fits.0 ∙ kind))
exhausted_by task lines (suc n) claim.Nothing kind accepted size fewer holds fits = absurd (let none : length (given_in lines) ≡ 0 = ap length fits in omega (arith, size, none))
exhausted_by task lines (suc n) (claim.All count) kind accepted size fewer holds fits = (
  omega (arith, size),
  record {
    accepted = subst (λ (k : ℕ). IsAccepted task.program lines (claim.All k)) (sym fits.2) accepted;
    holds = subst (λ (k : ℕ). ClaimHolds task.program (given_in lines) (claim.All k)) (sym fits.2) holds;
    fewer = omega (arith, size, fewer);
  },
)
exhausted_by task lines (suc n) (claim.Best cost) kind accepted size fewer holds fits = absurd (true≢false (sym fits.0 ∙ kind))

pub none_due : (task : Task) (n : ℕ) (old new : Searching) (before now : Output) → task.program.has_objective ≡ false → n < task.number → GoesOn task n old before now → Goes old new event.Exhausted
    → IsDue task (ending_of n) n new.conflicts before now
none_due task n old new before now kind fewer g goes =
    let lines : List Line = g.lines ++ goes.lines in
    let listed : IsListed task lines n new.conflicts before now = listed_on task n old new.conflicts before now goes.lines g goes.valid goes.counted goes.tells.1 in
    let claimed : IsClaimed new.state = goes.tells.3 in
    let accepted : IsAccepted task.program lines claimed.0 = record {
      valid = listed.valid;
      claimed = ap (λ (s : State). s.claim) (sym (goes.leads ∙ more_leads task old g.lines goes.lines g.program g.state)) ∙ claimed.1;
    } in
    record {
      lines = lines;
      listed = listed;
      ends = exhausted_by task lines n claimed.0 kind accepted listed.given fewer (acceptance_law task.program lines claimed.0 accepted) (fitting_law task.program lines claimed.0 accepted);
    }

-- THE LIMIT

pub limit_due : (task : Task) (n : ℕ) (old new : Searching) (before now : Output) → n < task.number → GoesOn task n old before now → IsAtLimit task.limit old new → IsDue task e.Limit n new.conflicts before now
limit_due task n old new before now fewer g at =
    let lines : List Line = g.lines ++ at.lines in
    let listed : IsListed task lines n new.conflicts before now = listed_on task n old new.conflicts before now at.lines g at.valid at.counted at.gives_none in
    let leads : after_all old.program old.state at.lines ≡ state_after task lines = more_leads task old g.lines at.lines g.program g.state in
    let ends : IsGivenUp task lines = record {
      cause = by_cause at.cause listed.learned leads;
      fewer = let size = listed.given in omega (arith, size, fewer);
      unclaimed = ap (λ (s : State). s.claim) (sym leads) ∙ at.unclaimed;
    } in
    record { lines = lines; listed = listed; ends = ends }
  where
    by_cause : {learned : ℕ} {a b : State} → ((new.conflicts ≡ task.limit) × (holds_empty a ≡ false)) ⊎ (a.next ≡ 2 ^ 64) → new.conflicts ≡ learned → a ≡ b
        → ((learned ≡ task.limit) × (holds_empty b ≡ false)) ⊎ (b.next ≡ 2 ^ 64)
    by_cause (inl both) is same = inl (sym is ∙ both.0, ap holds_empty (sym same) ∙ both.1)
    by_cause (inr full) is same = inr (ap (λ (s : State). s.next) (sym same) ∙ full)

-- so many answers as asked for
pub stopped_due : (task : Task) (n : ℕ) (s : Searching) (before now : Output) → n ≡ task.number → GoesOn task n s before now → IsDue task e.Stopped n s.conflicts before now
stopped_due task n s before now all g = record {
  lines = g.lines;
  listed = g.listed;
  ends = record {
    number = g.listed.given ∙ all;
    within = subst (λ (c : ℕ). c < task.limit) g.listed.learned g.within;
    unclaimed = ap (λ (st : State). st.claim) (sym g.state) ∙ g.unclaimed;
  };
}

-- WANT OF MEMORY

pub memory_cut : (task : Task) (n : ℕ) (old new : Searching) (before now : Output) → GoesOn task n old before now → IsCut old new → Breaks task (counted n new.conflicts) before now
memory_cut task n old new before now g cut =
    let lines : List Line = g.lines ++ cut.lines in
    let given : given_in lines ≡ given_in g.lines ++ given_in cut.lines = more_given task g.lines cut.lines in
    let size : length (given_in lines) ≡ n + length (given_in cut.lines) = ap length given ∙ length-append (given_in g.lines) (given_in cut.lines) ∙ ap (λ (k : ℕ). k + length (given_in cut.lines)) g.listed.given in
    let firsts : take n (given_in lines) ≡ given_in g.lines = ap (take n) given ∙ take_all_of (given_in g.lines) (given_in cut.lines) n g.listed.given in
    let one = cut.gives_one in
    let broken : HasBroken task (blocks_from task.program 1 (given_in g.lines)) (counted n new.conflicts) = record {
      lines = lines;
      are = are_lines task lines (more_valid task old g.lines cut.lines g.program g.state g.listed.valid cut.valid);
      count = 0;
      piece = [];
      due = inr (inr refl);
      printed_is = sym (append-nil (blocks_from task.program 1 (given_in g.lines))) ∙ ap (λ (xs : List Answer). blocks_from task.program 1 xs ++ []) (sym firsts);
      whole = omega (arith, size);
      one_more = omega (arith, size, one);
      conflicts = more_learned old.conflicts new.conflicts g.lines cut.lines g.listed.learned cut.counted;
    } in
    (blocks_from task.program 1 (given_in g.lines), broken, g.listed.printed)

-- THE LINE OF AN ENDING

pub due_ends : (task : Task) (ending : Ending) (n conflicts : ℕ) (before mid now : Output) → IsDue task ending n conflicts before mid → Appends mid.written now.written (line_for ending) → Ends task ending (counted n conflicts) before now
due_ends task ending n conflicts before mid now d printed =
    let ended : HasEnded task ending (blocks_from task.program 1 (given_in d.lines) ++ line_for ending) (counted n conflicts) = record {
      lines = d.lines;
      are = are_lines task d.lines d.listed.valid;
      ends = d.ends;
      printed_is = refl;
      tally_is = ap (λ (k : ℕ). counted k conflicts) (sym d.listed.given) ∙ ap (counted (length (given_in d.lines))) d.listed.learned;
    } in (
      blocks_from task.program 1 (given_in d.lines) ++ line_for ending,
      ended,
      Appends-trans before.written mid.written now.written (blocks_from task.program 1 (given_in d.lines)) (line_for ending) d.listed.printed printed,
    )

pub due_cut : (task : Task) (ending : Ending) (n conflicts : ℕ) (before mid now : Output) → IsDue task ending n conflicts before mid → AppendsFront mid.written now.written (line_for ending) → Breaks task (counted n conflicts) before now
due_cut task ending n conflicts before mid now d front =
    let size = d.listed.given in
    let firsts : take n (given_in d.lines) ≡ given_in d.lines = ap (take n) (sym (append-nil (given_in d.lines))) ∙ take_all_of (given_in d.lines) [] n size in
    let broken : HasBroken task (blocks_from task.program 1 (given_in d.lines) ++ take front.0 (line_for ending)) (counted n conflicts) = record {
      lines = d.lines;
      are = are_lines task d.lines d.listed.valid;
      count = front.0;
      piece = line_for ending;
      due = inr (inl (ending, d.ends, sym size, refl));
      printed_is = ap (λ (xs : List Answer). blocks_from task.program 1 xs ++ take front.0 (line_for ending)) (sym firsts);
      whole = omega (arith, size);
      one_more = omega (arith, size);
      conflicts = d.listed.learned;
    } in (
      blocks_from task.program 1 (given_in d.lines) ++ take front.0 (line_for ending),
      broken,
      Appends-trans before.written mid.written now.written (blocks_from task.program 1 (given_in d.lines)) (take front.0 (line_for ending)) d.listed.printed front.2,
    )

-- TURNS

pub own_ending : (n : ℕ) → IsOwn (ending_of n)
own_ending zero = tt
own_ending (suc n) = tt

pub not_both : (ending : Ending) → IsOwn ending → IsBroken ending → ⊥
not_both ending own (inl fault) = subst IsOwn fault own
not_both ending own (inr memory) = subst IsOwn memory own

pub answer_turns : (task : Task) (n : ℕ) (old new : Searching) (before mid now : Output) (a : Answer) (turn : Turn) → GoesOn task n old before mid → Goes old new (event.Answer a) → new.program ≡ old.program → new.conflicts < task.limit
    → new.spent ≡ false → Gives task.program a (n + 1) mid now turn → Turns task n new before now turn
answer_turns task n old new before mid now a Printed g goes same within unspent h = answer_printed task n old new before mid now a g goes same within unspent h
answer_turns task n old new before mid now a (Broke ending) g goes same within unspent h = (h.0, answer_cut task n old new before mid now a g goes h.1)
answer_turns task n old new before mid now a (Ended ending) g goes same within unspent h = absurd h
