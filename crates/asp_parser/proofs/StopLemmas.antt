-- The first constant that may not be, from the statement at which it stands.
use Rattle.std.proofs.Common.{◌≡◌, ℕ, List, take, slice_get, Some, sym, ◌∙◌, ap}
use Rattle.syntax_tree.specs.declared.statement.Statement.{Statement}
use Rattle.asp_parser.specs.declared.constants.ConstantStop.{ConstantStop}
use Rattle.asp_parser.specs.declared.constants.ConstantStop.TheVariants as stop
use Rattle.asp_parser.specs.Replacement.{Constants}
use Rattle.asp_parser.specs.Constants.{constants_of, IsStop}
use Rattle.asp_parser.specs.ConstantTable.{IsStopAt}

pub first_stop : (statements : List Statement) (files : List ℕ) (at : ℕ) (constants : Constants) (next : Statement) (file : ℕ) (refusal : ConstantStop)
    → IsStopAt constants next file refusal → constants_of (take at statements) ≡ Some constants
    → slice_get statements at ≡ Some next → slice_get files at ≡ Some file → IsStop statements files refusal
first_stop statements files at constants next file (stop.BadConstant text place) bad defined here named = record {
  before = at;
  constants = constants;
  next = next;
  defined = defined;
  here = here;
  text = named ∙ ap Some (sym bad.0);
  bad = bad.1;
}
first_stop statements files at constants next file stop.Memory bad defined here named = tt
