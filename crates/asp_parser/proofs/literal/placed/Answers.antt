use Rattle.std.proofs.Common.{not, refl, ap}
use Rattle.asp_parser.proofs.LiteralReads.{placed_take}
use Rattle.asp_parser.proofs.literal.placed.Goals as goal

pub returns-in-Ok : goal.returns-in-Ok
returns-in-Ok c =
    placed_take c.args.text.now c.args.tokens.now c.args.at c.args.kept.now c.theory.new.kept c.fail_at.new.self c.in-Ok.atom _ c.args.held (not c.is_literal.result) c.in-Ok.next c.in-Ok.ensures (ap not c.is_literal.ensures) c.fail_at.ensures refl
