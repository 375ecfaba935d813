use Rattle.std.proofs.Common.{◌∙◌, sym}
use Rattle.command_words.proofs.NumberLemmas.{not_parsed}
use Rattle.command_words.proofs.numbers.number_in.Goals as goal

pub returns-in-Err : goal.returns-in-Err
returns-in-Err c =
    not_parsed _ c.args.text.now c.args.low c.args.high c.in-Err.field-0 c.in-Err.ensures.value.0
    (sym c.is_decimal.ensures ∙ c.if-not-is_decimal.false) c.ranges.high.fits
