-- What a `q` line needs.
use Rattle.std.proofs.Common.{◌≡◌, ◌≤◌, ℕ, true, ◌&&◌, ◌||◌, ℤ, List, [], ◌∷◌, map, length, None, Some, refl, ap}
use Rattle.std.specs.List.{list_any}
use Rattle.proof_checker.specs.declared.live.Live.{Live}
use Rattle.derivation_meaning.specs.State.{Entry, State, is_empty, holds_empty, last_cost}
use Rattle.derivation_meaning.specs.Valid.{IsEnd}
use Rattle.proof_checker.specs.inner.View.{entry_of}

pub held_is : (live : List Live)
    → list_any (λ (one : Live). one.is_held && is_empty one.nogood) live ≡ list_any (λ (entry : Entry). entry.is_held && is_empty entry.nogood) (map entry_of live)
held_is [] = refl
held_is (one ∷ rest) = ap (λ b. (one.is_held && is_empty one.nogood) || b) (held_is rest)

pub none_made : (state : State) → holds_empty state ≡ true → state.answers ≡ [] → state.best ≡ None → IsEnd state ((state.answers ≡ []) × (state.best ≡ None))
none_made state held answers best = record { empty = held; given = (answers, best) }

pub none_empty : (state : State) → IsEnd state ((state.answers ≡ []) × (state.best ≡ None)) → holds_empty state ≡ true
none_empty state e = e.empty

pub none_listed : (state : State) → IsEnd state ((state.answers ≡ []) × (state.best ≡ None)) → state.answers ≡ []
none_listed state e = e.given.0

pub none_best : (state : State) → IsEnd state ((state.answers ≡ []) × (state.best ≡ None)) → state.best ≡ None
none_best state e = e.given.1

pub all_made : (state : State) (count : ℕ) → holds_empty state ≡ true → (1 ≤ count) × (length state.answers ≡ count) → IsEnd state ((1 ≤ count) × (length state.answers ≡ count))
all_made state count held given = record { empty = held; given = given }

pub all_empty : (state : State) (count : ℕ) → IsEnd state ((1 ≤ count) × (length state.answers ≡ count)) → holds_empty state ≡ true
all_empty state count e = e.empty

pub all_given : (state : State) (count : ℕ) → IsEnd state ((1 ≤ count) × (length state.answers ≡ count)) → (1 ≤ count) × (length state.answers ≡ count)
all_given state count e = e.given

pub best_made : (state : State) (cost : ℤ) → holds_empty state ≡ true → last_cost state ≡ Some cost → IsEnd state (last_cost state ≡ Some cost)
best_made state cost held given = record { empty = held; given = given }

pub best_empty : (state : State) (cost : ℤ) → IsEnd state (last_cost state ≡ Some cost) → holds_empty state ≡ true
best_empty state cost e = e.empty

pub best_given : (state : State) (cost : ℤ) → IsEnd state (last_cost state ≡ Some cost) → last_cost state ≡ Some cost
best_given state cost e = e.given
