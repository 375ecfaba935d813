-- What functions down a term give at each of its forms.
use Rattle.std.proofs.Common.{◌≡◌, ◌||◌, ◌==◌, ℕ, Bool, false, ℤ, List, [], map, Option, None, Some, sym, ◌∙◌, ap}
use Rattle.symbols.specs.Symbol.{Number, Text}
use Rattle.syntax_tree.specs.declared.term.Op.{Op}
use Rattle.syntax_tree.specs.declared.term.Part.{Part}
use Rattle.syntax_tree.specs.declared.term.Term.{Term, roll-Term}
use Rattle.syntax_tree.specs.declared.term.Term.TheFolds.{fold-Part, fold-roll-Term, fold-roll-Part}
use Rattle.syntax_tree.specs.declared.term.Term.TheOpen.{Term-F}
use Rattle.syntax_tree.specs.declared.term.Term.TheVariants as t
use Rattle.syntax_tree.specs.declared.term.Term.TheViews.{out-Part, roll-out-Part, out-roll-Term}
use Rattle.syntax_tree.specs.Outcome.{Outcome, IsSymbol, IsUndefined}
use Rattle.syntax_tree.specs.Value.{named, nested, from_left, negated, variable, value_of, part_value, value_step, part_step}
use Rattle.program_meaning.specs.Variables.{any_true, any_part, occurs, occurs_step, occurs_outside, outside_step, plain_variable, plain_variable_step}
use Rattle.program_meaning.specs.Comparison.{ends, ends_in}
use Rattle.program_meaning.specs.Collected.{Collected, collected, collected_step, symbol_collected, worth_collected, parts_collected, minus_collected, interval_collected}

-- ---- values

pub value_of-Number : (bound : List Outcome) (n : ℤ) → value_of bound (t.Number n) ≡ IsSymbol (Number n)
unfolding roll-Term denote.Hole.Carrier.roll
value_of-Number bound n = fold-roll-Term Outcome (Op × Outcome) (value_step bound) part_step (Term-F.Number n)

pub value_of-Text : (bound : List Outcome) (text : List ℕ) → value_of bound (t.Text text) ≡ IsSymbol (Text text)
unfolding roll-Term denote.Hole.Carrier.roll
value_of-Text bound text = fold-roll-Term Outcome (Op × Outcome) (value_step bound) part_step (Term-F.Text text)

pub value_of-Variable : (bound : List Outcome) (n : ℕ) → value_of bound (t.Variable n) ≡ variable bound n
unfolding roll-Term denote.Hole.Carrier.roll
value_of-Variable bound n = fold-roll-Term Outcome (Op × Outcome) (value_step bound) part_step (Term-F.Variable n)

pub value_of-Anonymous : (bound : List Outcome) → value_of bound t.Anonymous ≡ IsUndefined
unfolding roll-Term denote.Hole.Carrier.roll
value_of-Anonymous bound = fold-roll-Term Outcome (Op × Outcome) (value_step bound) part_step Term-F.Anonymous

pub value_of-Function : (bound : List Outcome) (name : List ℕ) (args : List Term) → value_of bound (t.Function name args) ≡ named name (map (value_of bound) args)
unfolding roll-Term denote.Hole.Carrier.roll
value_of-Function bound name args = fold-roll-Term Outcome (Op × Outcome) (value_step bound) part_step (Term-F.Function name args)

pub value_of-Tuple : (bound : List Outcome) (args : List Term) → value_of bound (t.Tuple args) ≡ nested [] (map (value_of bound) args)
unfolding roll-Term denote.Hole.Carrier.roll
value_of-Tuple bound args = fold-roll-Term Outcome (Op × Outcome) (value_step bound) part_step (Term-F.Tuple args)

pub value_of-Sum : (bound : List Outcome) (parts : List Part) → value_of bound (t.Sum parts) ≡ from_left (map (part_value bound) parts)
unfolding roll-Term denote.Hole.Carrier.roll
value_of-Sum bound parts = fold-roll-Term Outcome (Op × Outcome) (value_step bound) part_step (Term-F.Sum parts)

pub value_of-Product : (bound : List Outcome) (parts : List Part) → value_of bound (t.Product parts) ≡ from_left (map (part_value bound) parts)
unfolding roll-Term denote.Hole.Carrier.roll
value_of-Product bound parts = fold-roll-Term Outcome (Op × Outcome) (value_step bound) part_step (Term-F.Product parts)

pub value_of-Minus : (bound : List Outcome) (inner : Term) → value_of bound (t.Minus inner) ≡ negated (value_of bound inner)
unfolding roll-Term denote.Hole.Carrier.roll
value_of-Minus bound inner = fold-roll-Term Outcome (Op × Outcome) (value_step bound) part_step (Term-F.Minus inner)

pub value_of-Interval : (bound : List Outcome) (left right : Term) → value_of bound (t.Interval left right) ≡ IsUndefined
unfolding roll-Term denote.Hole.Carrier.roll
value_of-Interval bound left right = fold-roll-Term Outcome (Op × Outcome) (value_step bound) part_step (Term-F.Interval left right)

pub part_value-Part : (bound : List Outcome) (part : Part) → part_value bound part ≡ (part.op, value_of bound part.term)
part_value-Part bound part = ap (part_value bound) (sym (roll-out-Part part)) ∙ fold-roll-Part Outcome (Op × Outcome) (value_step bound) part_step (out-Part part)

-- ---- collected forms

pub collected-Part : (bound : List Outcome) (part : Part)
    → fold-Part Collected (Op × Collected) (collected_step bound) (λ p. (p.op, p.term)) part ≡ (part.op, collected bound part.term)
collected-Part bound part =
    ap (fold-Part Collected (Op × Collected) (collected_step bound) (λ p. (p.op, p.term))) (sym (roll-out-Part part))
    ∙ fold-roll-Part Collected (Op × Collected) (collected_step bound) (λ p. (p.op, p.term)) (out-Part part)

pub occurs-Part : (m : ℕ) (part : Part) → fold-Part Bool Bool (occurs_step m) any_part part ≡ occurs m part.term
occurs-Part m part =
    ap (fold-Part Bool Bool (occurs_step m) any_part) (sym (roll-out-Part part)) ∙ fold-roll-Part Bool Bool (occurs_step m) any_part (out-Part part)

-- ---- layers

pub ends-Variable : (n : ℕ) → ends (t.Variable n) ≡ None
unfolding roll-Term denote.Hole.Carrier.roll
ends-Variable n = ap ends_in (out-roll-Term (Term-F.Variable n))

pub ends-Sum : (parts : List Part) → ends (t.Sum parts) ≡ None
unfolding roll-Term denote.Hole.Carrier.roll
ends-Sum parts = ap ends_in (out-roll-Term (Term-F.Sum parts))

pub ends-Number : (n : ℤ) → ends (t.Number n) ≡ None
unfolding roll-Term denote.Hole.Carrier.roll
ends-Number n = ap ends_in (out-roll-Term (Term-F.Number n))

pub ends-Text : (text : List ℕ) → ends (t.Text text) ≡ None
unfolding roll-Term denote.Hole.Carrier.roll
ends-Text text = ap ends_in (out-roll-Term (Term-F.Text text))

pub ends-Function : (name : List ℕ) (args : List Term) → ends (t.Function name args) ≡ None
unfolding roll-Term denote.Hole.Carrier.roll
ends-Function name args = ap ends_in (out-roll-Term (Term-F.Function name args))

pub ends-Tuple : (args : List Term) → ends (t.Tuple args) ≡ None
unfolding roll-Term denote.Hole.Carrier.roll
ends-Tuple args = ap ends_in (out-roll-Term (Term-F.Tuple args))

pub ends-Product : (parts : List Part) → ends (t.Product parts) ≡ None
unfolding roll-Term denote.Hole.Carrier.roll
ends-Product parts = ap ends_in (out-roll-Term (Term-F.Product parts))

pub ends-Minus : (inner : Term) → ends (t.Minus inner) ≡ None
unfolding roll-Term denote.Hole.Carrier.roll
ends-Minus inner = ap ends_in (out-roll-Term (Term-F.Minus inner))

pub ends-Interval : (left right : Term) → ends (t.Interval left right) ≡ Some (left, right)
unfolding roll-Term denote.Hole.Carrier.roll
ends-Interval left right = ap ends_in (out-roll-Term (Term-F.Interval left right))

pub occurs-Number : (m : ℕ) (n : ℤ) → occurs m (t.Number n) ≡ false
unfolding roll-Term denote.Hole.Carrier.roll
occurs-Number m n = fold-roll-Term Bool Bool (occurs_step m) any_part (Term-F.Number n)

pub occurs-Text : (m : ℕ) (text : List ℕ) → occurs m (t.Text text) ≡ false
unfolding roll-Term denote.Hole.Carrier.roll
occurs-Text m text = fold-roll-Term Bool Bool (occurs_step m) any_part (Term-F.Text text)

pub occurs-Variable : (m : ℕ) (n : ℕ) → occurs m (t.Variable n) ≡ (n == m)
unfolding roll-Term denote.Hole.Carrier.roll
occurs-Variable m n = fold-roll-Term Bool Bool (occurs_step m) any_part (Term-F.Variable n)

pub occurs-Anonymous : (m : ℕ) → occurs m t.Anonymous ≡ false
unfolding roll-Term denote.Hole.Carrier.roll
occurs-Anonymous m = fold-roll-Term Bool Bool (occurs_step m) any_part Term-F.Anonymous

pub occurs-Function : (m : ℕ) (name : List ℕ) (args : List Term) → occurs m (t.Function name args) ≡ any_true (map (occurs m) args)
unfolding roll-Term denote.Hole.Carrier.roll
occurs-Function m name args = fold-roll-Term Bool Bool (occurs_step m) any_part (Term-F.Function name args)

pub occurs-Tuple : (m : ℕ) (args : List Term) → occurs m (t.Tuple args) ≡ any_true (map (occurs m) args)
unfolding roll-Term denote.Hole.Carrier.roll
occurs-Tuple m args = fold-roll-Term Bool Bool (occurs_step m) any_part (Term-F.Tuple args)

pub occurs-Sum : (m : ℕ) (parts : List Part) → occurs m (t.Sum parts) ≡ any_true (map (fold-Part Bool Bool (occurs_step m) any_part) parts)
unfolding roll-Term denote.Hole.Carrier.roll
occurs-Sum m parts = fold-roll-Term Bool Bool (occurs_step m) any_part (Term-F.Sum parts)

pub occurs-Product : (m : ℕ) (parts : List Part) → occurs m (t.Product parts) ≡ any_true (map (fold-Part Bool Bool (occurs_step m) any_part) parts)
unfolding roll-Term denote.Hole.Carrier.roll
occurs-Product m parts = fold-roll-Term Bool Bool (occurs_step m) any_part (Term-F.Product parts)

pub occurs-Minus : (m : ℕ) (inner : Term) → occurs m (t.Minus inner) ≡ occurs m inner
unfolding roll-Term denote.Hole.Carrier.roll
occurs-Minus m inner = fold-roll-Term Bool Bool (occurs_step m) any_part (Term-F.Minus inner)

pub occurs-Interval : (m : ℕ) (left right : Term) → occurs m (t.Interval left right) ≡ (occurs m left || occurs m right)
unfolding roll-Term denote.Hole.Carrier.roll
occurs-Interval m left right = fold-roll-Term Bool Bool (occurs_step m) any_part (Term-F.Interval left right)

pub occurs_outside-Number : (m : ℕ) (n : ℤ) → occurs_outside m (t.Number n) ≡ false
unfolding roll-Term denote.Hole.Carrier.roll
occurs_outside-Number m n = fold-roll-Term Bool Bool (outside_step m) any_part (Term-F.Number n)

pub occurs_outside-Text : (m : ℕ) (text : List ℕ) → occurs_outside m (t.Text text) ≡ false
unfolding roll-Term denote.Hole.Carrier.roll
occurs_outside-Text m text = fold-roll-Term Bool Bool (outside_step m) any_part (Term-F.Text text)

pub occurs_outside-Variable : (m : ℕ) (n : ℕ) → occurs_outside m (t.Variable n) ≡ (n == m)
unfolding roll-Term denote.Hole.Carrier.roll
occurs_outside-Variable m n = fold-roll-Term Bool Bool (outside_step m) any_part (Term-F.Variable n)

pub occurs_outside-Anonymous : (m : ℕ) → occurs_outside m t.Anonymous ≡ false
unfolding roll-Term denote.Hole.Carrier.roll
occurs_outside-Anonymous m = fold-roll-Term Bool Bool (outside_step m) any_part Term-F.Anonymous

pub occurs_outside-Function : (m : ℕ) (name : List ℕ) (args : List Term) → occurs_outside m (t.Function name args) ≡ any_true (map (occurs_outside m) args)
unfolding roll-Term denote.Hole.Carrier.roll
occurs_outside-Function m name args = fold-roll-Term Bool Bool (outside_step m) any_part (Term-F.Function name args)

pub occurs_outside-Tuple : (m : ℕ) (args : List Term) → occurs_outside m (t.Tuple args) ≡ any_true (map (occurs_outside m) args)
unfolding roll-Term denote.Hole.Carrier.roll
occurs_outside-Tuple m args = fold-roll-Term Bool Bool (outside_step m) any_part (Term-F.Tuple args)

pub occurs_outside-Sum : (m : ℕ) (parts : List Part) → occurs_outside m (t.Sum parts) ≡ false
unfolding roll-Term denote.Hole.Carrier.roll
occurs_outside-Sum m parts = fold-roll-Term Bool Bool (outside_step m) any_part (Term-F.Sum parts)

pub occurs_outside-Product : (m : ℕ) (parts : List Part) → occurs_outside m (t.Product parts) ≡ false
unfolding roll-Term denote.Hole.Carrier.roll
occurs_outside-Product m parts = fold-roll-Term Bool Bool (outside_step m) any_part (Term-F.Product parts)

pub occurs_outside-Minus : (m : ℕ) (inner : Term) → occurs_outside m (t.Minus inner) ≡ false
unfolding roll-Term denote.Hole.Carrier.roll
occurs_outside-Minus m inner = fold-roll-Term Bool Bool (outside_step m) any_part (Term-F.Minus inner)

pub occurs_outside-Interval : (m : ℕ) (left right : Term) → occurs_outside m (t.Interval left right) ≡ false
unfolding roll-Term denote.Hole.Carrier.roll
occurs_outside-Interval m left right = fold-roll-Term Bool Bool (outside_step m) any_part (Term-F.Interval left right)

pub plain_variable-Number : (n : ℤ) → plain_variable (t.Number n) ≡ None
unfolding roll-Term denote.Hole.Carrier.roll
plain_variable-Number n = fold-roll-Term (Option ℕ) (Option ℕ) plain_variable_step (λ part. part.term) (Term-F.Number n)

pub plain_variable-Text : (text : List ℕ) → plain_variable (t.Text text) ≡ None
unfolding roll-Term denote.Hole.Carrier.roll
plain_variable-Text text = fold-roll-Term (Option ℕ) (Option ℕ) plain_variable_step (λ part. part.term) (Term-F.Text text)

pub plain_variable-Variable : (n : ℕ) → plain_variable (t.Variable n) ≡ Some n
unfolding roll-Term denote.Hole.Carrier.roll
plain_variable-Variable n = fold-roll-Term (Option ℕ) (Option ℕ) plain_variable_step (λ part. part.term) (Term-F.Variable n)

pub plain_variable-Anonymous : plain_variable t.Anonymous ≡ None
unfolding roll-Term denote.Hole.Carrier.roll
plain_variable-Anonymous = fold-roll-Term (Option ℕ) (Option ℕ) plain_variable_step (λ part. part.term) Term-F.Anonymous

pub plain_variable-Function : (name : List ℕ) (args : List Term) → plain_variable (t.Function name args) ≡ None
unfolding roll-Term denote.Hole.Carrier.roll
plain_variable-Function name args = fold-roll-Term (Option ℕ) (Option ℕ) plain_variable_step (λ part. part.term) (Term-F.Function name args)

pub plain_variable-Tuple : (args : List Term) → plain_variable (t.Tuple args) ≡ None
unfolding roll-Term denote.Hole.Carrier.roll
plain_variable-Tuple args = fold-roll-Term (Option ℕ) (Option ℕ) plain_variable_step (λ part. part.term) (Term-F.Tuple args)

pub plain_variable-Sum : (parts : List Part) → plain_variable (t.Sum parts) ≡ None
unfolding roll-Term denote.Hole.Carrier.roll
plain_variable-Sum parts = fold-roll-Term (Option ℕ) (Option ℕ) plain_variable_step (λ part. part.term) (Term-F.Sum parts)

pub plain_variable-Product : (parts : List Part) → plain_variable (t.Product parts) ≡ None
unfolding roll-Term denote.Hole.Carrier.roll
plain_variable-Product parts = fold-roll-Term (Option ℕ) (Option ℕ) plain_variable_step (λ part. part.term) (Term-F.Product parts)

pub plain_variable-Minus : (inner : Term) → plain_variable (t.Minus inner) ≡ None
unfolding roll-Term denote.Hole.Carrier.roll
plain_variable-Minus inner = fold-roll-Term (Option ℕ) (Option ℕ) plain_variable_step (λ part. part.term) (Term-F.Minus inner)

pub plain_variable-Interval : (left right : Term) → plain_variable (t.Interval left right) ≡ None
unfolding roll-Term denote.Hole.Carrier.roll
plain_variable-Interval left right = fold-roll-Term (Option ℕ) (Option ℕ) plain_variable_step (λ part. part.term) (Term-F.Interval left right)

pub collected-Number : (bound : List Outcome) (n : ℤ) → collected bound (t.Number n) ≡ symbol_collected (Number n)
unfolding roll-Term denote.Hole.Carrier.roll
collected-Number bound n = fold-roll-Term Collected (Op × Collected) (collected_step bound) (λ part. (part.op, part.term)) (Term-F.Number n)

pub collected-Text : (bound : List Outcome) (text : List ℕ) → collected bound (t.Text text) ≡ symbol_collected (Text text)
unfolding roll-Term denote.Hole.Carrier.roll
collected-Text bound text = fold-roll-Term Collected (Op × Collected) (collected_step bound) (λ part. (part.op, part.term)) (Term-F.Text text)

pub collected-Variable : (bound : List Outcome) (n : ℕ) → collected bound (t.Variable n) ≡ worth_collected (variable bound n)
unfolding roll-Term denote.Hole.Carrier.roll
collected-Variable bound n = fold-roll-Term Collected (Op × Collected) (collected_step bound) (λ part. (part.op, part.term)) (Term-F.Variable n)

pub collected-Anonymous : (bound : List Outcome) → collected bound t.Anonymous ≡ worth_collected IsUndefined
unfolding roll-Term denote.Hole.Carrier.roll
collected-Anonymous bound = fold-roll-Term Collected (Op × Collected) (collected_step bound) (λ part. (part.op, part.term)) Term-F.Anonymous

pub collected-Function : (bound : List Outcome) (name : List ℕ) (args : List Term) → collected bound (t.Function name args) ≡ worth_collected (named name (map (λ arg. arg.value) (map (collected bound) args)))
unfolding roll-Term denote.Hole.Carrier.roll
collected-Function bound name args = fold-roll-Term Collected (Op × Collected) (collected_step bound) (λ part. (part.op, part.term)) (Term-F.Function name args)

pub collected-Tuple : (bound : List Outcome) (args : List Term) → collected bound (t.Tuple args) ≡ worth_collected (nested [] (map (λ arg. arg.value) (map (collected bound) args)))
unfolding roll-Term denote.Hole.Carrier.roll
collected-Tuple bound args = fold-roll-Term Collected (Op × Collected) (collected_step bound) (λ part. (part.op, part.term)) (Term-F.Tuple args)

pub collected-Sum : (bound : List Outcome) (parts : List Part) → collected bound (t.Sum parts) ≡ parts_collected (map (fold-Part Collected (Op × Collected) (collected_step bound) (λ part. (part.op, part.term))) parts)
unfolding roll-Term denote.Hole.Carrier.roll
collected-Sum bound parts = fold-roll-Term Collected (Op × Collected) (collected_step bound) (λ part. (part.op, part.term)) (Term-F.Sum parts)

pub collected-Product : (bound : List Outcome) (parts : List Part) → collected bound (t.Product parts) ≡ parts_collected (map (fold-Part Collected (Op × Collected) (collected_step bound) (λ part. (part.op, part.term))) parts)
unfolding roll-Term denote.Hole.Carrier.roll
collected-Product bound parts = fold-roll-Term Collected (Op × Collected) (collected_step bound) (λ part. (part.op, part.term)) (Term-F.Product parts)

pub collected-Minus : (bound : List Outcome) (inner : Term) → collected bound (t.Minus inner) ≡ minus_collected (collected bound inner)
unfolding roll-Term denote.Hole.Carrier.roll
collected-Minus bound inner = fold-roll-Term Collected (Op × Collected) (collected_step bound) (λ part. (part.op, part.term)) (Term-F.Minus inner)

pub collected-Interval : (bound : List Outcome) (left right : Term) → collected bound (t.Interval left right) ≡ interval_collected (collected bound left) (collected bound right)
unfolding roll-Term denote.Hole.Carrier.roll
collected-Interval bound left right = fold-roll-Term Collected (Op × Collected) (collected_step bound) (λ part. (part.op, part.term)) (Term-F.Interval left right)
