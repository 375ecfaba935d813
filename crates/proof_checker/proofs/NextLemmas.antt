-- Lines one after another.
use Rattle.std.proofs.Common.{◌≡◌, ℕ, ◌+◌, ℤ, Bool, true, false, cond, List, [], ◌∷◌, ◌++◌, map, length, take, Option, None, Some, is_some, refl, sym, ap, ◌∙◌, true≢false}
use Rattle.std.specs.List.{filter}
use Rattle.std.proofs.lemmas.List.{map-append}
use Rattle.std.proofs.lemmas.List.Elements.{filter-append}
use Rattle.literals.specs.declared.lit.Lit.{Lit}
use Rattle.ground_model.specs.declared.program.GroundProgram.{GroundProgram}
use Rattle.ground_model.specs.Answers.{IsAnswerOf}
use Rattle.derivation.specs.declared.line.Line.TheVariants as line
use Rattle.derivation_meaning.specs.declared.claim.Claim.{Claim}
use Rattle.proof_checker.specs.declared.live.Live.{Live}
use Rattle.proof_checker.specs.declared.state.PlainState.{PlainState}
use Rattle.derivation_meaning.specs.State.{Entry, State}
use Rattle.derivation_meaning.specs.Lines.{answer_of}
use Rattle.derivation_meaning.specs.Valid.{IsValid, with_nogood, held_alone}
use Rattle.proof_checker.specs.inner.Merged.{Kept}
use Rattle.proof_checker.specs.inner.View.{entry_of, state_of}

pub held_view : (live : List Live) → map entry_of (filter (λ one. one.is_held) live) ≡ filter (λ entry. entry.is_held) (map entry_of live)
held_view [] = refl
held_view (one ∷ live) = go one.is_held (held_view live)
  where
    go : (b : Bool) → map entry_of (filter (λ one. one.is_held) live) ≡ filter (λ entry. entry.is_held) (map entry_of live)
        → map entry_of (cond b (one ∷ filter (λ one. one.is_held) live) (filter (λ one. one.is_held) live))
        ≡ cond b (entry_of one ∷ filter (λ entry. entry.is_held) (map entry_of live)) (filter (λ entry. entry.is_held) (map entry_of live))
    go true e = ap (λ entries. entry_of one ∷ entries) e
    go false e = e

held_append : (xs ys : List Entry) → filter (λ (entry : Entry). entry.is_held) (xs ++ ys) ≡ filter (λ (entry : Entry). entry.is_held) xs ++ filter (λ (entry : Entry). entry.is_held) ys
held_append xs ys = filter-append (λ (entry : Entry). entry.is_held) xs ys

-- where one more is held, those that are held are the others that are, and it
pub held_with : (state : State) (nogood : List Lit) (is_learned : Bool) → held_alone (with_nogood state nogood true is_learned) ≡ with_nogood (held_alone state) nogood true is_learned
held_with state nogood is_learned =
    ap (λ (live : List Entry). record state { next = state.next + 1; live = live })
    (held_append state.live (record { id = state.next; nogood = nogood; is_held = true; is_learned = is_learned } ∷ []))

pub answer_stands : (program : GroundProgram) (state : State) (atoms : List ℕ) (values : List (ℕ × ℤ)) → IsValid program state (line.Answer atoms values)
    → IsAnswerOf program (answer_of atoms values)
answer_stands program state atoms values e = e.valid.line.answer

pub none_there : (claim : Option Claim) → is_some claim ≡ false → claim ≡ None
none_there None e = refl
none_there (Some claim) e = absurd (true≢false e)

pub some_there : (claim : Option Claim) → is_some claim ≡ true → claim ≡ None → ⊥
some_there None e f = true≢false (sym e)
some_there (Some claim) e f = absurd (cc f)

-- one more nogood
pub more_view : (live : List Live) (one : Live) → map entry_of (live ++ one ∷ []) ≡ map entry_of live ++ entry_of one ∷ []
more_view live one = map-append entry_of live (one ∷ [])

-- a learned nogood was added, and then those went that are not held
pub learned_taken : (state : State) (made : PlainState) (table : Kept) (nogood lits : List Lit) → state_of made ≡ with_nogood state nogood true true → nogood ≡ lits
    → table ≡ record made.table { live = filter (λ one. one.is_held) made.table.live } → state_of (record made { table = table }) ≡ with_nogood (held_alone state) lits true true
learned_taken state made table nogood lits is same left =
    ap (λ (t : Kept). state_of (record made { table = t })) left
    ∙ ap (λ (entries : List Entry). record (state_of made) { live = entries }) (held_view made.table.live)
    ∙ ap held_alone is ∙ held_with state nogood true ∙ ap (λ (list : List Lit). with_nogood (held_alone state) list true true) same

pub take_front : {X : Type 0} (xs : List X) (x : X) → take (length xs) (xs ++ x ∷ []) ≡ xs
take_front [] x = refl
take_front (y ∷ ys) x = ap (λ zs. y ∷ zs) (take_front ys x)
