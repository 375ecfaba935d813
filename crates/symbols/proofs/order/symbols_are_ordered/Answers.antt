use Rattle.symbols.proofs.OrderLemmas.{symbol_cmp-level, symbol_cmp-itself, symbol_cmp-reverse, symbol_cmp-less}
use Rattle.symbols.proofs.order.symbols_are_ordered.Goals as goal

pub returns-clause-level : goal.returns-clause-level
returns-clause-level c = symbol_cmp-level

pub returns-clause-itself : goal.returns-clause-itself
returns-clause-itself c = symbol_cmp-itself

pub returns-clause-reverse : goal.returns-clause-reverse
returns-clause-reverse c = λ a b. symbol_cmp-reverse b a

pub returns-clause-less : goal.returns-clause-less
returns-clause-less c = symbol_cmp-less
