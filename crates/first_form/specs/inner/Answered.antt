-- What a call answers about what may not be there. Only this crate's code reads this file.
use Rattle.std.specs.Prelude.{◌≡◌, Option, Some, None, Result, Ok, Err}
use Rattle.first_form.specs.declared.stop.FormStop.{FormStop}
use Rattle.first_form.specs.declared.stop.FormStop.TheVariants.{OtherForm, Memory}

-- nothing is there, or memory ran out
abbrev pub Fails : {Y : Type 0} → FormStop → Option Y → Type 0
Fails OtherForm there = there ≡ None
Fails Memory there = Unit {0}

-- What a call answered is what is there, unless memory ran out.
abbrev pub Gives : {X Y : Type 0} → (X → Y) → Result X FormStop → Option Y → Type 0
Gives view (Ok x) there = there ≡ Some (view x)
Gives view (Err stop) there = Fails stop there
