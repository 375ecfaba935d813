use Rattle.std.proofs.Common.{◌≡◌, take, Some}
use Rattle.asp_parser.specs.Constants.{constants_of}
use Rattle.asp_parser.specs.ConstantTable.{AreTrees, AreWorthThemselves}
use Rattle.asp_parser.proofs.constants.defined.Given as goal

abbrev pub invariant-loop-at : goal.invariant-loop-at
invariant-loop-at l = record {
  defined : constants_of (take l.at l.statements) ≡ Some l.constants;
  trees : AreTrees l.constants;
  values : AreWorthThemselves l.constants;
}
