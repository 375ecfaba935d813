use Rattle.std.proofs.Common.{arith, take, length-take}
use Rattle.std.proofs.lemmas.List.Sums.{suffix_len-le-length}
use Rattle.lexer.specs.Places.{is_in_line}
use Rattle.lexer.proofs.place.line_column.Goals as goal

pub overflow_add-result-2 : goal.overflow_add-result-2
overflow_add-result-2 c =
    let fits = suffix_len-le-length is_in_line (take c.args.at c.args.text.now) in
    omega (arith, c.since_line_feed.ensures, length-take c.args.at c.args.text.now)
