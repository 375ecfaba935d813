use Rattle.std.proofs.Common.{◌≡◌, ◌≤◌, ◌^◌, ◌++◌, [], ◌∷◌, length, map, ◌∙◌, rules}
use Rattle.inputs.proofs.TextLemmas.{told-more, small-more, room-more, count-more, told-same}
use Rattle.inputs.proofs.texts.read_texts.Goals as goal

pub loop-at-preserved : goal.loop-at-preserved
loop-at-preserved g c =
    let grew : c.push.new.self ≡ c.loop-at.texts ++ c.in-Ok.text ∷ [] = search rules in
    let within : c.len-room.result ≤ c.loop-at.room = search rules in
    let small : length c.in-Ok.text ≤ 2 ^ 24 = search rules in
    let quiet : (g.F.Files.tells c.read_text.new.files).faults ≡ (g.F.Files.tells c.args.files.now).faults = search rules in
    record {
      room = room-more c.loop-at.texts c.push.new.self c.in-Ok.text c.loop-at.room c.len-room.result c.loop-at.invariant.room c.len-room.ensures within grew;
      count = count-more c.loop-at.texts c.push.new.self c.in-Ok.text c.loop-at.at c.loop-at.invariant.count grew;
      told = told-more (g.F.Files.tells c.args.files.now) (map (λ name. name.now) c.args.names.now) c.loop-at.texts c.push.new.self c.name_at.result.now c.in-Ok.text
          c.loop-at.at c.loop-at.invariant.told c.name_at.ensures
          (told-same (g.F.Files.tells c.loop-at.files).text (g.F.Files.tells c.args.files.now).text c.name_at.result.now (λ told. c.in-Ok.text ≡ told)
          c.loop-at.invariant.text c.in-Ok.ensures.whole) grew;
      small = small-more c.loop-at.texts c.push.new.self c.in-Ok.text c.loop-at.invariant.small small grew;
      text = c.read_text.ensures.texts ∙ c.loop-at.invariant.text;
      faults = quiet;
    }
