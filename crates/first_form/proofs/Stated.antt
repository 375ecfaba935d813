-- What statements state, from what each of them states.
use Rattle.std.proofs.Common.{◌≡◌, ◌≤◌, List, length, map, Some, Result, Ok, Err, IfOk, ◌∙◌, ap}
use Rattle.syntax_tree.specs.declared.statement.Statement.{Statement}
use Rattle.first_form.specs.declared.stop.FormStop.{FormStop}
use Rattle.first_form.specs.declared.stop.FormStop.TheVariants.{OtherForm, Memory}
use Rattle.first_form.specs.inner.Answered.{Gives}
use Rattle.first_form.specs.Form.{SymbolRule, all_there, rule_of, States}
use Rattle.first_form.proofs.There.{all_some, some_all}

stated_there : (statements : List Statement) (rules : List SymbolRule) → States statements rules → all_there (map rule_of statements) ≡ Some rules
stated_there statements rules states = ap all_there states.stated ∙ some_all rules

module _ {X : Type 0} (statements : List Statement) (view : X → List SymbolRule) where
  pub answer_states : (r : Result X FormStop) → length statements ≤ 65536 → Gives view r (all_there (map rule_of statements)) → IfOk r (λ x. States statements (view x))
  answer_states (Ok x) few h = record { few = few; stated = all_some (map rule_of statements) (view x) h }
  answer_states (Err stop) few h = tt

  pub answer_none : (r : Result X FormStop) → Gives view r (all_there (map rule_of statements)) → r ≡ Err OtherForm → (rules : List SymbolRule) → States statements rules → ⊥
  answer_none (Ok x) h e rules states = absurd cc
  answer_none (Err OtherForm) h e rules states = let there = stated_there statements rules states in absurd cc
  answer_none (Err Memory) h e rules states = absurd cc
