use Rattle.std.proofs.Common.{◌≡◌, ◌+◌, ◌^◌, length, map, take}
use Rattle.inputs.specs.Sizes.{size_of, AreSmall, AreTold}
use Rattle.inputs.proofs.texts.read_texts.Given as goal

-- what was read so far are the first texts, the room is what they leave, and nothing has failed
abbrev pub invariant-loop-at : goal.invariant-loop-at
invariant-loop-at g l =
    let tells = g.F.Files.tells in
    record {
      room : l.room + size_of l.texts ≡ 2 ^ 26;
      count : length l.texts ≡ l.at;
      told : AreTold (tells l.fn.files) (take l.at (map (λ name. name.now) l.names)) l.texts;
      small : AreSmall l.texts;
      text : (tells l.files).text ≡ (tells l.fn.files).text;
      faults : (tells l.files).faults ≡ (tells l.fn.files).faults;
    }
