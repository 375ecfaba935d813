use Rattle.std.proofs.Common.{◌≡◌, ℕ, ◌+◌, ◌-◌, ◌≤◌, List, length, take, drop, arith, rules, length-drop}
use Rattle.std.proofs.Math.Seq.{take-add}
use Rattle.std.proofs.lemmas.List.{take_all}
use Rattle.std.specs.Io.KnownBytes.{Appends}
use Rattle.std.specs.declared.option.Option.{Option}
use Rattle.std.proofs.KnownBytes.{Appends-trans}
use Rattle.outside_io.proofs.writing.write_all.Goals as goal

rest_whole : (piece : List ℕ) (at : ℕ) → take (length piece - at) (drop at piece) ≡ drop at piece
rest_whole piece at = let h : length (drop at piece) ≤ length piece - at = omega (arith, length-drop at piece) in take_all (length piece - at) (drop at piece) h

-- a front was written, and then a front of the rest
front_more : (before between now : Option (List ℕ)) (piece : List ℕ) (at n : ℕ) → Appends before between (take at piece)
    → Appends between now (take n (take (length piece - at) (drop at piece))) → Appends before now (take (at + n) piece)
front_more before between now piece at n front more =
    rw (take-add at n piece) (Appends-trans before between now (take at piece) (take n (drop at piece)) front (rw rest_whole at more))

pub loop-at-preserved : goal.loop-at-preserved
loop-at-preserved g c = record {
  front = front_more _ _ _ c.args.piece.now c.loop-at.at c.in_ok-at.field-0 c.loop-at.invariant.front c.in_ok-at.ensures.bytes;
  within = let h = c.in_ok-at.ensures.bound in omega (arith, h, length-drop c.loop-at.at c.args.piece.now);
  flushed = search rules;
  names = search rules;
  faults = search rules;
}
