-- A total trail says what its answer says.
use Rattle.std.proofs.Common.{◌≡◌, ℕ, Bool, true, false, refl, sym, ◌∙◌, subst, ℤ, int_le, arith}
use Rattle.std.proofs.lemmas.Int.{ints}
use Rattle.literals.specs.declared.lit.Lit.TheVariants as l
use Rattle.ground_model.specs.Answers.{IsNumbered, value_at, has_atom}
use Rattle.trail.specs.declared.shape.Shape.{Shape}
use Rattle.trail.specs.Assignment.{Assignment, lits_of, is_true_on, lower_on, upper_on}
use Rattle.trail.proofs.ImpliedLaws.{implied-at_most, implied-at_least}
use Rattle.trail_worlds.specs.Total.{IsTotal}
use Rattle.trail_worlds.specs.Worlds.{answer_on}
use Rattle.trail_worlds.specs.Laws.{SayLaw}
use Rattle.trail_worlds.proofs.TrailLemmas.{opposite_on, atom_decided, value_decided, atom_is, value_is}

module _ (t : Assignment) (total : IsTotal t) where
  atom_said : (a : ℕ) → IsNumbered t.shape.atoms a → is_true_on t (l.Atom a (has_atom (answer_on t).atoms a)) ≡ true
  atom_said a is = go (is_true_on t (l.Atom a true)) refl
    where
      go : (b : Bool) → is_true_on t (l.Atom a true) ≡ b → is_true_on t (l.Atom a (has_atom (answer_on t).atoms a)) ≡ true
      go true e = subst (λ b. is_true_on t (l.Atom a b) ≡ true) (sym (atom_is t a is ∙ e)) e
      go false e = subst (λ b. is_true_on t (l.Atom a b) ≡ true) (sym (atom_is t a is ∙ e)) (opposite_on t (l.Atom a true) (atom_decided t total a is) e)

  same : (y z : ℤ) → y ≡ z → int_le y z ≡ true
  same y z e = grind (arith, ints, e)

  most_said : (x : ℕ) → IsNumbered t.shape.variables x → is_true_on t (l.AtMost x (value_at (answer_on t).values x)) ≡ true
  most_said x is =
      implied-at_most t.shape.ends (lits_of t.entries) x (value_at (answer_on t).values x)
      ∙ same (upper_on t x) (value_at (answer_on t).values x) (sym (value_decided t total x is) ∙ sym (value_is t x is))

  least_said : (x : ℕ) → IsNumbered t.shape.variables x → is_true_on t (l.AtLeast x (value_at (answer_on t).values x)) ≡ true
  least_said x is =
      implied-at_least t.shape.ends (lits_of t.entries) x (value_at (answer_on t).values x)
      ∙ same (value_at (answer_on t).values x) (lower_on t x) (value_is t x is)

pub say_law : SayLaw
say_law program t shape total = record {
  atoms = λ a is. atom_said t total a (subst (λ (s : Shape). IsNumbered s.atoms a) (sym shape) is);
  most = λ x is. most_said t total x (subst (λ (s : Shape). IsNumbered s.variables x) (sym shape) is);
  least = λ x is. least_said t total x (subst (λ (s : Shape). IsNumbered s.variables x) (sym shape) is);
}
