-- Induction down terms, one case for each form.
use Rattle.std.proofs.Common.{ℕ, ℤ, List, [], ◌∷◌, map, subst}
use Rattle.std.specs.List.{AllByRecursion}
use Rattle.syntax_tree.specs.declared.term.Part.{Part}
use Rattle.syntax_tree.specs.declared.term.Term.{Term, roll-Term}
use Rattle.syntax_tree.specs.declared.term.Term.TheOpen.{Term-F}
use Rattle.syntax_tree.specs.declared.term.Term.TheFolds.{ind-Term, map-Term}
use Rattle.syntax_tree.specs.declared.term.Term.TheVariants as t

-- what each form of a term passes on from its parts
pub record Passes (P : Term → Type 0) : Type 0 where
  pub number : (n : ℤ) → P (t.Number n)
  pub text : (text : List ℕ) → P (t.Text text)
  pub variable : (n : ℕ) → P (t.Variable n)
  pub anonymous : P t.Anonymous
  pub function : (name : List ℕ) (args : List Term) → AllByRecursion P args → P (t.Function name args)
  pub tuple : (args : List Term) → AllByRecursion P args → P (t.Tuple args)
  pub sum : (parts : List Part) → AllByRecursion (λ part. P part.term) parts → P (t.Sum parts)
  pub product : (parts : List Part) → AllByRecursion (λ part. P part.term) parts → P (t.Product parts)
  pub minus : (inner : Term) → P inner → P (t.Minus inner)
  pub interval : (left right : Term) → P left → P right → P (t.Interval left right)

all_mapped : {A X : Type 0} (P : X → Type 0) (f : A → X) → ((a : A) → P (f a)) → (items : List A) → AllByRecursion P (map f items)
all_mapped P f h [] = tt
all_mapped P f h (a ∷ items) = (h a, all_mapped P f h items)

module _ (P : Term → Type 0) (passes : Passes P) where
  layer : {A B : Type 0} (first : A → Term) (second : B → Part) → ((a : A) → P (first a)) → ((b : B) → P (second b).term) → (y : Term-F A B)
      → P (roll-Term (map-Term A B Term Part first second y))
  unfolding roll-Term denote.Hole.Carrier.roll
  layer first second h k (Term-F.Number n) = passes.number n
  layer first second h k (Term-F.Text text) = passes.text text
  layer first second h k (Term-F.Variable n) = passes.variable n
  layer first second h k Term-F.Anonymous = passes.anonymous
  layer first second h k (Term-F.Function name args) = passes.function name (map first args) (all_mapped P first h args)
  layer first second h k (Term-F.Tuple args) = passes.tuple (map first args) (all_mapped P first h args)
  layer first second h k (Term-F.Sum parts) = passes.sum (map second parts) (all_mapped (λ part. P part.term) second k parts)
  layer first second h k (Term-F.Product parts) = passes.product (map second parts) (all_mapped (λ part. P part.term) second k parts)
  layer first second h k (Term-F.Minus inner) = passes.minus (first inner) (h inner)
  layer first second h k (Term-F.Interval left right) = passes.interval (first left) (first right) (h left) (h right)

  -- a property that each form passes on holds of every term
  pub every_term : (term : Term) → P term
  every_term =
      ind-Term P (λ part. P part.term)
      (λ x y is. subst (λ z. P (roll-Term z)) is (layer (λ e. e.0) (λ e. e.0) (λ e. e.1) (λ e. e.1) y))
      (λ x y is. subst (λ z. P z.term) is y.term.1)
