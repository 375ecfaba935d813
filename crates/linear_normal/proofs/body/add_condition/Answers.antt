use Rattle.std.proofs.Common.{◌++◌, map, drop, ◌+◌, ◌∙◌, ap}
use Rattle.linear_normal.specs.Numbering.{lit_of}
use Rattle.linear_normal.proofs.GrowthLemmas.{mapped_next, mapped_last}
use Rattle.linear_normal.proofs.body.add_condition.Goals as goal

pub loop-literal-preserved : goal.loop-literal-preserved
loop-literal-preserved c =
    let i = c.loop-literal.literal-index in
    record {
      literals = λ all. c.in_ok-add_atom.ensures.literals (c.loop-literal.invariant.literals all);
      so_far = λ later variables. ap (λ lits. lits ++ map (lit_of later variables) (drop (i + 1) c.args.condition.now)) (c.in_ok-add_atom.ensures.lits later variables)
          ∙ mapped_next (lit_of later variables) c.args.condition.now i c.literal-item.result c.loop-literal.lits.items _ (lit_of later variables c.literal-item.result) c.loop-literal-test.true
          (c.loop-literal.invariant.so_far later variables) (ap (lit_of later variables) c.literal-item.is);
    }

pub returns-clause-lits : goal.returns-clause-lits
returns-clause-lits c = λ later variables.
    mapped_last (lit_of later variables) c.args.condition.now c.loop-literal.literal-index c.loop-literal.lits.items _ c.loop-literal-test.false (c.loop-literal.invariant.so_far later variables)
