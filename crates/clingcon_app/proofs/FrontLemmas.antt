-- Fronts of a block and the line of the ending.
use Rattle.std.proofs.Common.{◌≡◌, ℕ, ◌+◌, ◌<◌, ◌≤◌, nat_le, if◌then◌else◌, true, false, List, ◌++◌, length, take, subst, sym, ap, ◌∙◌, arith, length-append}
use Rattle.std.specs.declared.option.Option.{Option}
use Rattle.std.specs.Io.KnownBytes.{Appends}
use Rattle.std.proofs.KnownBytes.{Appends-trans}
use Rattle.std.proofs.Math.Seq.{take-append-add}
use Rattle.std.proofs.lemmas.List.{take-append-le}
use Rattle.std.proofs.lemmas.Bool.{le-leb, lt-leb}
use Rattle.outside_io.specs.Told.{AppendsFront, AppendsSome}
use Rattle.clingcon_app.specs.Printed.{satisfiable}
use Rattle.clingcon_app.specs.Stops.{PrintsFront}

-- a block that was cut is not counted
pub front_of_block : (before now : Option (List ℕ)) (block : List ℕ) (answers : ℕ) → AppendsFront before now block → answers ≡ 0
    → PrintsFront before now (block ++ satisfiable) answers
front_of_block before now block answers grew none =
    let less : grew.0 < length block = grew.1 in
    let long = length-append block satisfiable in
    let cut : nat_le (length (block ++ satisfiable)) (grew.0 + length satisfiable) ≡ false = lt-leb (length (block ++ satisfiable)) (grew.0 + length satisfiable) (omega (arith, less, long)) in
    record {
      count = grew.0;
      front = subst (λ (bytes : List ℕ). Appends before now bytes) (sym (take-append-le grew.0 block satisfiable (omega (arith, less)))) grew.2;
      blocks = none ∙ sym (ap (λ b. if b then 1 else 0) cut);
    }

-- a block that was written whole is counted, and a front of the line follows it
pub front_behind_block : (before between now : Option (List ℕ)) (block : List ℕ) (answers : ℕ) → Appends before between block
    → AppendsSome between now satisfiable → answers ≡ 1 → PrintsFront before now (block ++ satisfiable) answers
front_behind_block before between now block answers first more one =
    let long = length-append block satisfiable in
    let whole : nat_le (length (block ++ satisfiable)) (length block + more.0 + length satisfiable) ≡ true = le-leb (length (block ++ satisfiable)) (length block + more.0 + length satisfiable) (omega (arith, long)) in
    record {
      count = length block + more.0;
      front = subst (λ (bytes : List ℕ). Appends before now bytes) (sym (take-append-add block satisfiable more.0))
          (Appends-trans before between now block (take more.0 satisfiable) first more.1);
      blocks = one ∙ sym (ap (λ b. if b then 1 else 0) whole);
    }
