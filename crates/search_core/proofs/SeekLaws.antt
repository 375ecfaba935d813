-- What lines so far and those of the last turn tell together.
use Rattle.std.proofs.Common.{◌⊎◌, inl, inr, ◌≡◌, ℕ, zero, suc, ◌+◌, ◌<◌, ◌≤◌, ◌^◌, Bool, true, false, List, [], ◌∷◌, ◌++◌, length, Option, None, Some, Result, Ok, Err, refl, ◌∙◌, ap, subst, arith}
use Rattle.std.specs.Result.{IsErrOf}
use Rattle.ground_model.specs.declared.answer.Answer.{Answer}
use Rattle.ground_model.specs.declared.program.GroundProgram.{GroundProgram}
use Rattle.derivation.specs.declared.line.Line.{Line}
use Rattle.derivation.specs.Whole.{count_learned}
use Rattle.derivation_meaning.specs.State.{State, holds_empty}
use Rattle.derivation_meaning.specs.Claims.{given_in}
use Rattle.learning.specs.Learning.{Lead}
use Rattle.search_core.specs.declared.event.Event.TheVariants as event
use Rattle.search_core.specs.declared.event.Event.{Event}
use Rattle.search_core.specs.declared.event.Stop.{Stop}
use Rattle.search_core.specs.declared.event.Stop.TheVariants as stop
use Rattle.search_core.specs.declared.room.Room.{Room}
use Rattle.search_core.specs.Searching.{Searching, Goes, Stops, IsAtLimit, IsCut, is_exhausted}
use Rattle.search_core.specs.inner.Rooms.{Turns, ComesWhen, state_in, searching_of}
use Rattle.search_laws.specs.Giving.{answer_line, end_line, claim_after}
use Rattle.search_core.specs.inner.Lines.{Gives, Ends, IsFullAt, IsLed}
use Rattle.search_laws.proofs.EventLaws.{answer_given}
use Rattle.search_laws.proofs.LineLaws.{count_append, lead_none, lead_on, same_given, remaining_back, remaining_on, joined_valid, joined_leads, joined_gives}

end_given : (count : ℕ) → given_in (end_line count ∷ []) ≡ []
end_given zero = refl
end_given (suc n) = refl

end_count : (count : ℕ) → count_learned (end_line count ∷ []) ≡ 0
end_count zero = refl
end_count (suc n) = refl

-- an answer
pub goes_answer : (old new : Searching) (middle : State) (n : ℕ) (answer : Answer) → Lead old.program old.state middle n → new.conflicts ≡ old.conflicts + n → Gives old.program middle new.state answer → Goes old new (event.Answer answer)
goes_answer old new middle n answer lead count g =
    let last : List Line = answer_line answer ∷ [] in
    record {
      lines = lead.lines ++ last;
      valid = joined_valid old.program old.state middle lead.lines last lead.valid lead.leads (g.valid, tt);
      leads = joined_leads old.program old.state middle new.state lead.lines last lead.leads g.leads;
      counted = let both = count_append lead.lines last in let first = lead.counted in omega (arith, both, first, count);
      tells = (
        remaining_back old.program old.state middle n answer lead g.remaining,
        g.answers ∙ ap (λ given. given ++ answer ∷ []) (same_given old.program old.state middle n lead).answers,
        joined_gives old.program old.state lead.lines last lead.gives_none ∙ answer_given answer,
        g.unclaimed,
      );
    }

-- the end
pub goes_ended : (old new : Searching) (middle : State) (n : ℕ) → Lead old.program old.state middle n → new.conflicts ≡ old.conflicts + n → Ends old.program middle new.state → Goes old new event.Exhausted
goes_ended old new middle n lead count g =
    let last : List Line = end_line (length middle.answers) ∷ [] in
    record {
      lines = lead.lines ++ last;
      valid = joined_valid old.program old.state middle lead.lines last lead.valid lead.leads (g.valid, tt);
      leads = joined_leads old.program old.state middle new.state lead.lines last lead.leads g.leads;
      counted = let both = count_append lead.lines last in let first = lead.counted in let none = end_count (length middle.answers) in omega (arith, both, first, none, count);
      tells = (
        (λ answer r. g.none answer (remaining_on old.program old.state middle n answer lead r)),
        joined_gives old.program old.state lead.lines last lead.gives_none ∙ end_given (length middle.answers),
        g.empty,
        (claim_after (length middle.answers), g.claimed),
      );
    }

-- the limit of conflicts
pub stops_limit : (limit : ℕ) (old new : Searching) (middle : State) (n : ℕ) → Lead old.program old.state middle n → new.conflicts ≡ old.conflicts + n → middle.claim ≡ None → new.conflicts ≡ limit → holds_empty middle ≡ false
    → IsAtLimit limit old new
stops_limit limit old new middle n lead count unclaimed at some = record {
  lines = lead.lines;
  valid = lead.valid;
  counted = let first = lead.counted in omega (arith, first, count);
  gives_none = lead.gives_none;
  unclaimed = subst (λ (s : State). s.claim ≡ None) lead.leads unclaimed;
  cause = inl (at, subst (λ s. holds_empty s ≡ false) lead.leads some);
}

-- the last id
pub stops_full : (limit : ℕ) (old new : Searching) (middle : State) (n : ℕ) → Lead old.program old.state middle n → new.conflicts ≡ old.conflicts + n → middle.claim ≡ None → IsFullAt old.program middle → IsAtLimit limit old new
stops_full limit old new middle n lead count unclaimed f =
    let both : Lead old.program old.state f.state (n + 0) = lead_on old.program old.state middle f.state n 0 lead f.lead in
    record {
      lines = both.lines;
      valid = both.valid;
      counted = let first = both.counted in omega (arith, first, count);
      gives_none = both.gives_none;
      unclaimed = subst (λ (s : State). s.claim ≡ None) both.leads (f.lead.unclaimed ∙ unclaimed);
      cause = inr (subst (λ (s : State). s.next ≡ 2 ^ 64) both.leads f.full);
    }

-- want of memory
pub stops_cut : (old new : Searching) (middle : State) (n : ℕ) → Lead old.program old.state middle n → new.conflicts ≡ old.conflicts + n → IsCut old new
stops_cut old new middle n lead count = record {
  lines = lead.lines;
  valid = lead.valid;
  counted = let first = lead.counted in omega (arith, first, count);
  gives_one = let none : length (given_in lead.lines) ≡ 0 = ap length lead.gives_none in omega (arith, none);
}

-- ANSWERS OF CALLS

abbrev err_out : {T E : Type 0} → E → Result T E → E
err_out e (Ok x) = e
err_out e (Err d) = d

abbrev ok_out : {T E : Type 0} → T → Result T E → T
ok_out x (Ok y) = y
ok_out x (Err e) = x

-- the same error as an answer of another call
pub err_as : {T U E : Type 0} (x y : E) → IsErrOf {T = T} {E = E} (Err x) y → IsErrOf {T = U} {E = E} (Err x) y
err_as x y e = ap Err (ap (err_out x) e)

-- TURNS

pub led_none : (program : GroundProgram) (state : State) (n : ℕ) → IsLed program state state n n
led_none program state n = record { count = 0; counted = omega arith; lead = lead_none program state }

pub led_on : (program other : GroundProgram) (old middle new : State) (before now : ℕ) → IsLed program old middle before now → other ≡ program → Lead other middle new 1 → IsLed program old new before (now + 1)
led_on program other old middle new before now led e lead =
    let counted = led.counted in
    record {
      count = led.count + 1;
      counted = omega (arith, counted);
      lead = lead_on program old middle new led.count 1 led.lead (subst (λ p. Lead p middle new 1) e lead);
    }

pub turned_goes : {X : Type 0} (old middle new : Room X) (before now : ℕ) (event : Event) → middle.ground ≡ old.ground → IsLed old.ground (state_in old) (state_in middle) before now → Turns middle new (Some event)
    → Goes (searching_of old before false) (searching_of new now (is_exhausted event)) event
turned_goes old middle new before now (event.Answer answer) e led g =
    goes_answer (searching_of old before false) (searching_of new now false) (state_in middle) led.count answer led.lead led.counted (subst (λ p. Gives p (state_in middle) (state_in new) answer) e g)
turned_goes old middle new before now event.Exhausted e led g =
    goes_ended (searching_of old before false) (searching_of new now true) (state_in middle) led.count led.lead led.counted (subst (λ p. Ends p (state_in middle) (state_in new)) e g)

pub turned_stops : {X : Type 0} (limit : ℕ) (old middle new : Room X) (before now : ℕ) (why s : Stop) → middle.ground ≡ old.ground → IsLed old.ground (state_in old) (state_in middle) before now → (state_in middle).claim ≡ None
    → (IsErrOf {T = Option Event} {E = Stop} (Err why) stop.Limit → IsFullAt middle.ground (state_in middle)) → IsErrOf {T = Event} {E = Stop} (Err why) s → Stops limit (searching_of old before false) (searching_of new now true) s
turned_stops limit old middle new before now why stop.Limit e led unclaimed full h =
    stops_full limit (searching_of old before false) (searching_of new now true) (state_in middle) led.count led.lead led.counted unclaimed
    (subst (λ p. IsFullAt p (state_in middle)) e (full (err_as why stop.Limit h)))
turned_stops limit old middle new before now why stop.Memory e led unclaimed full h = stops_cut (searching_of old before false) (searching_of new now true) (state_in middle) led.count led.lead led.counted

-- the limit is reached
pub limit_stops : {X : Type 0} (limit : ℕ) (old new : Room X) (before now : ℕ) (s : Stop) → IsLed old.ground (state_in old) (state_in new) before now → (state_in new).claim ≡ None → now ≡ limit → holds_empty (state_in new) ≡ false
    → IsErrOf {T = Event} {E = Stop} (Err stop.Limit) s → Stops limit (searching_of old before false) (searching_of new now true) s
limit_stops limit old new before now s led unclaimed at some h =
    subst (Stops limit (searching_of old before false) (searching_of new now true)) (ap (err_out stop.Limit) h)
    (stops_limit limit (searching_of old before false) (searching_of new now true) (state_in new) led.count led.lead led.counted unclaimed at some)

-- an answer comes below the limit
pub answer_below : (came : Event) (answer : Answer) (closed : Bool) (n limit : ℕ) → ComesWhen (Some came) closed → (closed ≡ false → n < limit) → ◌≡◌ {A = Result Event Stop} (Ok came) (Ok (event.Answer answer)) → n < limit
answer_below came answer closed n limit comes below h =
    below (subst (λ e. ComesWhen (Some e) closed) (ap (ok_out came) h) comes)

pub next_below : (n limit : ℕ) → n < limit → (n + 1 ≡ limit → ⊥) → n + 1 < limit
next_below n limit lt other = by_order (order (n + 1) limit (omega (arith, lt)))
  where
    order : (a b : ℕ) → a ≤ b → (a < b) ⊎ (a ≡ b)
    order a b le = grind arith

    by_order : (n + 1 < limit) ⊎ (n + 1 ≡ limit) → n + 1 < limit
    by_order (inl less) = less
    by_order (inr same) = absurd (other same)
