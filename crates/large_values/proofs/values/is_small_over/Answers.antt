use Rattle.std.proofs.Common.{◌&&◌, ◌+ℤ◌, ◌∙◌, sym, arith}
use Rattle.ground_model.specs.Sound.{is_small}
use Rattle.large_values.proofs.ValueLemmas.{least_in, greatest_in, few_pairs, small_pairs, small_constant}
use Rattle.large_values.proofs.values.is_small_over.Goals as goal

pub is_small_sum-requires-clause-pairs : goal.is_small_sum-requires-clause-pairs
is_small_sum-requires-clause-pairs c = small_pairs c.args.symbols.now c.args.linear.now c.requires

pub is_small_sum-requires-clause-constant : goal.is_small_sum-requires-clause-constant
is_small_sum-requires-clause-constant c = small_constant c.args.symbols.now c.args.linear.now c.requires

pub is_small_sum-requires-clause-few : goal.is_small_sum-requires-clause-few
is_small_sum-requires-clause-few c =
    let few = few_pairs c.args.symbols.now c.args.linear.now c.requires in
    omega (arith, few, c.len-count.ensures.length, c.len-count.ensures.few)

pub returns : goal.returns
returns c =
    let ends = c.args.ends in
    let symbols = c.args.symbols.now in
    let linear = c.args.linear.now in
    let least = sym (least_in ends symbols linear.pairs) in
    let greatest = sym (greatest_in ends symbols linear.pairs) in
    c.is_small_sum.ensures ∙ (λ i. is_small (least i +ℤ linear.constant) && is_small (greatest i +ℤ linear.constant))
