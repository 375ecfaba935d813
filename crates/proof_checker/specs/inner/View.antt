-- The state that a plain one stands for.
use Rattle.std.specs.Prelude.{map, Option, None, Some}
use Rattle.proof_checker.specs.declared.live.Live.{Live}
use Rattle.proof_checker.specs.declared.state.Costed.{Costed}
use Rattle.proof_checker.specs.declared.state.PlainState.{PlainState}
use Rattle.derivation_meaning.specs.State.{Entry, Best, State}

abbrev pub entry_of : Live → Entry
entry_of live = record { id = live.id; nogood = live.nogood; is_held = live.is_held; is_learned = live.is_learned }

abbrev pub best_of : Option Costed → Option Best
best_of None = None
best_of (Some costed) = Some (record { cost = costed.cost; answer = costed.answer })

abbrev pub state_of : PlainState → State
state_of plain = record {
  next = plain.table.next;
  live = map entry_of plain.table.live;
  answers = plain.answers;
  best = best_of plain.best;
  claim = plain.claim;
}
