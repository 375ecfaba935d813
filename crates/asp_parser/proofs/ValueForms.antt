-- What each form of a term is worth.
use Rattle.std.proofs.Common.{◌≡◌, ℕ, ℤ, List, [], map}
use Rattle.symbols.specs.Symbol.{Symbol, Number, Text}
use Rattle.syntax_tree.specs.declared.term.Op.{Op}
use Rattle.syntax_tree.specs.declared.term.Part.{Part}
use Rattle.syntax_tree.specs.declared.term.Term.{Term, roll-Term}
use Rattle.syntax_tree.specs.declared.term.Term.TheOpen.{Term-F}
use Rattle.syntax_tree.specs.declared.term.Term.TheFolds.{fold-roll-Term}
use Rattle.syntax_tree.specs.declared.term.Term.TheVariants as t
use Rattle.syntax_tree.specs.Outcome.{Outcome, IsSymbol, IsUndefined}
use Rattle.syntax_tree.specs.Value.{nested, named, variable, from_left, negated, value_of, part_value, value_step, part_step}

module _ (bound : List Outcome) where
  abbrev step : Term-F Outcome (Op × Outcome) → Outcome
  step = value_step bound

  pub text_value : (text : List ℕ) → value_of bound (t.Text text) ≡ IsSymbol (Text text)
  unfolding roll-Term denote.Hole.Carrier.roll
  text_value text = fold-roll-Term Outcome (Op × Outcome) step part_step (Term-F.Text text)

  pub number_value : (n : ℤ) → value_of bound (t.Number n) ≡ IsSymbol (Number n)
  unfolding roll-Term denote.Hole.Carrier.roll
  number_value n = fold-roll-Term Outcome (Op × Outcome) step part_step (Term-F.Number n)

  pub variable_value : (n : ℕ) → value_of bound (t.Variable n) ≡ variable bound n
  unfolding roll-Term denote.Hole.Carrier.roll
  variable_value n = fold-roll-Term Outcome (Op × Outcome) step part_step (Term-F.Variable n)

  pub anonymous_value : value_of bound t.Anonymous ≡ IsUndefined
  unfolding roll-Term denote.Hole.Carrier.roll
  anonymous_value = fold-roll-Term Outcome (Op × Outcome) step part_step Term-F.Anonymous

  pub function_value : (name : List ℕ) (args : List Term) → value_of bound (t.Function name args) ≡ named name (map (value_of bound) args)
  unfolding roll-Term denote.Hole.Carrier.roll
  function_value name args = fold-roll-Term Outcome (Op × Outcome) step part_step (Term-F.Function name args)

  pub tuple_value : (args : List Term) → value_of bound (t.Tuple args) ≡ nested [] (map (value_of bound) args)
  unfolding roll-Term denote.Hole.Carrier.roll
  tuple_value args = fold-roll-Term Outcome (Op × Outcome) step part_step (Term-F.Tuple args)

  pub sum_value : (parts : List Part) → value_of bound (t.Sum parts) ≡ from_left (map (part_value bound) parts)
  unfolding roll-Term denote.Hole.Carrier.roll
  sum_value parts = fold-roll-Term Outcome (Op × Outcome) step part_step (Term-F.Sum parts)

  pub product_value : (parts : List Part) → value_of bound (t.Product parts) ≡ from_left (map (part_value bound) parts)
  unfolding roll-Term denote.Hole.Carrier.roll
  product_value parts = fold-roll-Term Outcome (Op × Outcome) step part_step (Term-F.Product parts)

  pub minus_value : (inner : Term) → value_of bound (t.Minus inner) ≡ negated (value_of bound inner)
  unfolding roll-Term denote.Hole.Carrier.roll
  minus_value inner = fold-roll-Term Outcome (Op × Outcome) step part_step (Term-F.Minus inner)

  pub interval_value : (l r : Term) → value_of bound (t.Interval l r) ≡ IsUndefined
  unfolding roll-Term denote.Hole.Carrier.roll
  interval_value l r = fold-roll-Term Outcome (Op × Outcome) step part_step (Term-F.Interval l r)
