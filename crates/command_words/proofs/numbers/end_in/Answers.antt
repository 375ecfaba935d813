use Rattle.std.proofs.Common.{◌∙◌, ℕ, sym, ap, option_map, pos, None, arith}
use Rattle.std.proofs.lemmas.Str.Pattern.{strip_prefix_char}
use Rattle.command_words.proofs.NumberLemmas.{unsigned_end}
use Rattle.command_words.proofs.numbers.end_in.Goals as goal

pub returns-in-None-number_in-2-clause-value : goal.returns-in-None-number_in-2-clause-value
returns-in-None-number_in-2-clause-value c =
    let apart = strip_prefix_char 45 c.args.text.now None c.in-None.ensures.cases (omega arith) in
    sym (unsigned_end 1073741823 c.args.text.now apart ∙ ap (option_map (λ (n : ℕ). pos n)) (sym c.number_in-in-None.ensures ∙ c.in-None-number_in-2.is))
