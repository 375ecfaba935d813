use Rattle.program_meaning.specs.Read.{literal_read}
use Rattle.predicate_order.specs.Ways.{blocks}
use Rattle.predicate_order.proofs.Turns.{any_at}
use Rattle.predicate_order.proofs.reads.any_blocks.Goals as goal

pub returns-then-blocks : goal.returns-then-blocks
returns-then-blocks c =
    any_at blocks literal_read c.args.body.now c.loop-literal.literal-index c.literal-item.result c.literal-item.is c.loop-literal-test.true
    c.if-blocks.ensures
