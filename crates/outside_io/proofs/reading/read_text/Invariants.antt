use Rattle.std.proofs.Common.{◌≡◌, ◌≤◌, ◌-◌, length}
use Rattle.std.specs.Io.KnownBytes.{Consumes}
use Rattle.outside_io.proofs.reading.read_text.Given as goal

-- what was read so far is the front of the text, and nothing has failed
abbrev pub invariant-loop-text : goal.invariant-loop-text
invariant-loop-text g l =
    let tells = g.F.Files.tells in
    record {
      front : Consumes ((tells l.fn.files).text l.fn.name) (tells l.files).left l.text;
      taken : (tells l.files).taken ≡ length l.text;
      within : length l.text ≤ l.most;
      texts : (tells l.files).text ≡ (tells l.fn.files).text;
      faults : (tells l.files).faults ≡ (tells l.fn.files).faults;
    }

abbrev pub decreases-loop-text : goal.decreases-loop-text
decreases-loop-text g l = l.most - length l.text
