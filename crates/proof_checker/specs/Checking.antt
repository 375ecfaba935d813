-- What a checker knows, and for which cause it refuses a line.
use Rattle.ground_model.specs.declared.program.GroundProgram.{GroundProgram}
use Rattle.derivation.specs.declared.line.Line.{Line}
use Rattle.derivation_meaning.specs.State.{State}
use Rattle.derivation_meaning.specs.Refusals as cause
use Rattle.derivation_meaning.specs.Refusals.{IsRefused}
use Rattle.proof_checker.specs.declared.refused.Refused.{Refused}
use Rattle.proof_checker.specs.declared.refused.Refused.TheVariants as why

-- a program, and the state after the lines that were taken
pub record Checked : Type 0 where
  pub program : GroundProgram
  pub state : State

-- the cause is the first that stands; want of memory stands for none
abbrev pub IsRefusedFor : GroundProgram → State → Line → Refused → Type 0
IsRefusedFor program state line why.AfterEnd = IsRefused program state line cause.AfterEnd
IsRefusedFor program state line why.UnknownId = IsRefused program state line cause.UnknownId
IsRefusedFor program state line why.WrongObjective = IsRefused program state line cause.WrongObjective
IsRefusedFor program state line why.WrongAnswer = IsRefused program state line cause.WrongAnswer
IsRefusedFor program state line why.RepeatedAnswer = IsRefused program state line cause.RepeatedAnswer
IsRefusedFor program state line why.NotImplied = IsRefused program state line cause.NotImplied
IsRefusedFor program state line why.Memory = Unit {0}
