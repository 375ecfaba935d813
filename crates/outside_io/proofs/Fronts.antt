-- Fronts of what is written.
use Rattle.std.proofs.Common.{List, ℕ, length, subst, sym, OnErr}
use Rattle.std.specs.declared.option.Option.{Option}
use Rattle.std.specs.declared.result.Result.{Result}
use Rattle.std.specs.declared.result.Result.TheVariants.{Ok, Err}
use Rattle.std.specs.Io.KnownBytes.{Appends}
use Rattle.std.proofs.Math.Seq.{take-length}
use Rattle.outside_io.specs.Told.{AppendsFront, AppendsSome}

-- the whole piece is a front of it
pub whole_is_front : (before now : Option (List ℕ)) (piece : List ℕ) → Appends before now piece → AppendsSome before now piece
whole_is_front before now piece grew = (length piece, subst (λ (bytes : List ℕ). Appends before now bytes) (sym (take-length piece)) grew)

-- so is a front that is shorter
pub shorter_is_front : (before now : Option (List ℕ)) (piece : List ℕ) → AppendsFront before now piece → AppendsSome before now piece
shorter_is_front before now piece grew = (grew.0, grew.2)

-- what holds anyway holds at an error
pub at_any_error : {A E : Type 0} (r : Result A E) (P : Type 0) → P → OnErr r P
at_any_error (Ok value) P holds = tt
at_any_error (Err error) P holds = holds
