use Rattle.std.proofs.Common.{◌∙◌, arith, bit_and}
use Rattle.lane_kernels.proofs.RowLemmas.{put_joined, set_joined, joined_to_end}
use Rattle.lane_kernels.proofs.rows.and_into.Goals as goal

pub loop-into-preserved : goal.loop-into-preserved
loop-into-preserved c = record {
  joined = c.and_four.ensures
      ∙ put_joined bit_and c.loop-into.into c.loop-into.place c.args.into.now c.args.other.now c.loop-into.invariant.joined (omega arith) (omega arith);
  in_range = omega arith;
}

pub loop-rest-init : goal.loop-rest-init
loop-rest-init c = record { joined = c.loop-into.invariant.joined }

pub loop-rest-preserved : goal.loop-rest-preserved
loop-rest-preserved c = record {
  joined = set_joined bit_and c.loop-rest.into c.loop-rest.rest c.args.into.now c.args.other.now c.loop-rest.invariant.joined (omega arith) (omega arith);
}

pub returns : goal.returns
returns c =
    c.loop-rest.invariant.joined ∙ joined_to_end bit_and c.loop-rest.rest c.args.into.now c.args.other.now (omega arith) c.requires
