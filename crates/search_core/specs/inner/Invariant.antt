-- What holds of a search between two of its steps. Only the code of this crate reads this file.
use Rattle.std.specs.Prelude.{◌≡◌, false, List, length, None}
use Rattle.std.specs.List.{All, AllByRecursion}
use Rattle.ground_model.specs.declared.program.GroundProgram.{GroundProgram}
use Rattle.completion.specs.Inputs.{input_nogoods}
use Rattle.trail.specs.Assignment.{Assignment}
use Rattle.nogood_store.specs.Holding.{Holding, IsHeld, IsFront, seen_of}
use Rattle.nogood_store.specs.Propagation.{AllNamed}
use Rattle.derivation_meaning.specs.State.{cost_in}
use Rattle.propagator_core.specs.Meaning.{Meaning}
use Rattle.propagator_core.specs.Several.{AllFit}
use Rattle.propagator_core.specs.Quiet.{IsSteady}
use Rattle.trail_worlds.specs.Total.{shape_of}
use Rattle.propagation.specs.Awake.{Awake}
use Rattle.propagation.specs.Waking.{Rows, HasRows, AreWakes, OthersRest}
use Rattle.learning.specs.Known.{Known, state_of, IsReached, AreListed}
use Rattle.learning.specs.Learning.{AreNumbered}
use Rattle.learning.specs.Explained.{IsExplained}
use Rattle.propagators.specs.Work.{DoTheWork}
use Rattle.search_laws.specs.Levels.{IsCalmBelow}

-- what never changes: the program has no objective, the propagators are the program's, and stand in the rows of all that they look at
pub record IsSet (program : GroundProgram) (ms : List Meaning) (rows : Rows) : Type 0 where
  pub plain : program.has_objective ≡ false
  pub work : DoTheWork program ms
  pub fit : AllFit ms (shape_of program)
  pub steady : All IsSteady ms
  pub has_rows : HasRows (shape_of program) (length ms) rows
  pub wakes : AreWakes rows ms

-- of the held nogoods: they are of the shape, the inputs are among them, their ids are below the next, and the store looked no further than the trail goes
pub record IsHolding (program : GroundProgram) (known : Known) (holding : Holding) (t : Assignment) : Type 0 where
  pub named : AllNamed (shape_of program) holding.held
  pub inputs : AllByRecursion (IsHeld holding.held) (input_nogoods program)
  pub numbered : AreNumbered known holding.held
  pub looked : IsFront holding.looked (seen_of t.entries)

-- of the derivation: valid lines lead to what is held and known, nothing is claimed, and the nogood of each answer that was given is held
pub record IsTold (program : GroundProgram) (known : Known) (holding : Holding) : Type 0 where
  pub unclaimed : known.claim ≡ None
  pub unbettered : known.best ≡ None
  pub reached : IsReached program (state_of holding.held known)
  pub listed : AreListed program holding.held known.given

-- at every moment: each entry of the trail is a decision or has a reason that a line can tell, and below the open level nothing is left to propagate
pub record IsSearch (program : GroundProgram) (known : Known) (holding : Holding) (t : Assignment) (ms : List Meaning) (rows : Rows) : Type 0 where
  pub is_set : IsSet program ms rows
  pub explained : IsExplained program (cost_in known.best) holding.held t
  pub held : IsHolding program known holding t
  pub told : IsTold program known holding
  pub calm : IsCalmBelow holding.held ms t

-- before propagation: a propagator that is not awake rests
pub record IsReady (ms : List Meaning) (t : Assignment) (awake : Awake) : Type 0 where
  pub count : awake.count ≡ length ms
  pub others : OthersRest awake.places ms t
