use Rattle.std.proofs.Common.{ℕ, List, subst, sym}
use Rattle.std.specs.declared.option.Option.{Option}
use Rattle.std.specs.Io.KnownBytes.{Appends}
use Rattle.outside_io.proofs.Fronts.{whole_is_front, at_any_error}
use Rattle.outside_io.proofs.writing.write_last.Goals as goal

pub returns-clause-front : goal.returns-clause-front
returns-clause-front g c =
    at_any_error c.flush.result _ (whole_is_front _ _ c.args.piece.now
    (subst (λ (now : Option (List ℕ)). Appends (g.S.Sink.tells c.args.sink.now).written now c.args.piece.now) (sym c.flush.ensures.bytes) c.in-Ok.ensures.whole))
