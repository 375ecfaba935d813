-- What is found keeps its meaning as the table grows, and parts are joined one by one.
use Rattle.std.proofs.Common.{◌≡◌, ◌<◌, ◌+◌, ℕ, suc, Bool, ℤ, List, [], ◌∷◌, map, take, length, get_or, fold, All, Option, None, Some, refl, sym, ◌∙◌, ap, subst, add-one, arith}
use Rattle.symbols.specs.Symbol.{Symbol, Number, Identifier, Text, Function}
use Rattle.symbols.specs.Table.{IsFront}
use Rattle.symbols.proofs.TableLemmas.{symbol_at-front}
use Rattle.ground_model.specs.Rule.{LinearOf}
use Rattle.program_meaning.specs.declared.collected.SymbolLinear.{SymbolLinear}
use Rattle.program_meaning.specs.Collected.{Collected, collected, symbol_collected, worth_collected, part_joined, some_collected}
use Rattle.program_meaning.specs.Said.{linear_in, IsKnownPair}
use Rattle.program_meaning.proofs.CollectedForms.{InOrder, ordinary_law}
use Rattle.program_meaning.proofs.Layers
use Rattle.syntax_tree.specs.Outcome.{Outcome, IsSymbol, IsOver, IsUndefined, IsKnown, bound_in}
use Rattle.syntax_tree.specs.Value.{value_of}
use Rattle.syntax_tree.specs.declared.term.Part.{Part}
use Rattle.syntax_tree.specs.declared.term.Term.{Term}
use Rattle.syntax_tree.specs.declared.binding.Value.{Value}
use Rattle.syntax_tree.proofs.Holding.{longer, bound-front}
use Rattle.syntax_tree.proofs.Turns.{fold_more}
use Rattle.collected_terms.specs.declared.collected_term.CollectedTerm.{CollectedTerm}
use Rattle.collected_terms.specs.declared.collected_term.LinearForm.{LinearForm}
use Rattle.collected_terms.specs.declared.collected_term.LinearForm.TheVariants as form
use Rattle.collected_terms.specs.Found.{IsFormBy, IsTermOf, IsKnownLinear, IsKnownForm}
use Rattle.collected_terms.specs.inner.Merging.{part_collected, IsSoFar, IsKnownSoFar}
use Rattle.collected_terms.proofs.Merges.{read}

module _ (old new : List Symbol) (front : IsFront old new) where
  pairs_front : (ids : List (ℕ × ℤ)) → All (IsKnownPair (length old)) ids → read new ids ≡ read old ids
  pairs_front [] all = refl
  pairs_front (x ∷ ids) all =
      let here = symbol_at-front old new x.0 front (all 0 x (omega arith)).0 in
      let rest = pairs_front ids (λ i d below. all (suc i) d (omega (arith, below))) in
      λ i. (here i, x.1) ∷ rest i

  linear_front : (linear : SymbolLinear) → IsKnownLinear old linear → linear_in new linear ≡ linear_in old linear
  linear_front linear known = λ i. record { pairs = pairs_front linear.pairs known.each i; constant = linear.constant }

  linear_known : (linear : SymbolLinear) → IsKnownLinear old linear → IsKnownLinear new linear
  linear_known linear known = record {
    each = λ i d below. (longer old new (get_or linear.pairs i d).0 front (known.each i d below).0, (known.each i d below).1);
    constant = known.constant;
    rise = subst InOrder (sym (pairs_front linear.pairs known.each)) known.rise;
  }

  pub form_known : (found : LinearForm) → IsKnownForm old found → IsKnownForm new found
  form_known form.NotLinear known = tt
  form_known (form.Large holds) known = tt
  form_known (form.Small linear) known = linear_known linear known

  form_front : (found : LinearForm) (crooked large : Bool) (wanted : LinearOf Symbol) → IsKnownForm old found → IsFormBy old found crooked large wanted
      → IsFormBy new found crooked large wanted
  form_front form.NotLinear crooked large wanted known is = is
  form_front (form.Large holds) crooked large wanted known is = is
  form_front (form.Small linear) crooked large wanted known is = (is.0, is.1, linear_front linear known ∙ is.2)

  pub term_front : (found : CollectedTerm) (term : Collected) → IsKnownForm old found.form → IsTermOf old found term → IsTermOf new found term
  term_front found term known is = record {
    undefined = is.undefined;
    over = is.over;
    form = form_front found.form term.not_linear term.large term.form known is.form;
  }

  pub so_far_front : (found : Option CollectedTerm) (total : Option Collected) → IsKnownSoFar old found → IsSoFar old found total → IsSoFar new found total
  so_far_front None None known is = tt
  so_far_front (Some found) (Some term) known is = term_front found term known is
  so_far_front None (Some term) known is = is
  so_far_front (Some found) None known is = is

  pub so_far_known : (found : Option CollectedTerm) → IsKnownSoFar old found → IsKnownSoFar new found
  so_far_known None known = tt
  so_far_known (Some found) known = form_known found.form known

-- TERMS THAT STAND FOR THEIR VALUE

symbol_value : (s : Symbol) → (symbol_collected s).value ≡ IsSymbol s
symbol_value (Number n) = refl
symbol_value (Identifier name) = refl
symbol_value (Text text) = refl
symbol_value (Function [] args) = refl
symbol_value (Function (byte ∷ name) args) = refl

worth_value : (o : Outcome) → (worth_collected o).value ≡ o
worth_value (IsSymbol s) = symbol_value s
worth_value IsOver = refl
worth_value IsUndefined = refl

-- what is collected from something worth is collected from the term's value
pub by_its_value : (bound : List Outcome) (term : Term) (o : Outcome) → collected bound term ≡ worth_collected o → worth_collected (value_of bound term) ≡ collected bound term
by_its_value bound term o e = ap worth_collected (sym (ordinary_law bound term) ∙ ap (λ z. z.value) e ∙ worth_value o) ∙ sym e

-- PARTS

pub part_is : (bound : List Outcome) (part : Part) → (part.op, collected bound part.term) ≡ part_collected bound part
part_is bound part = sym (Layers.collected-Part bound part)

pub joined_part : (bound : List Outcome) (part : Part) (total : Option Collected) (symbols : List Symbol) (found : CollectedTerm)
    → IsSoFar symbols (Some found) (part_joined total (part.op, collected bound part.term)) → IsSoFar symbols (Some found) (part_joined total (part_collected bound part))
joined_part bound part total symbols found is = subst (λ p. IsSoFar symbols (Some found) (part_joined total p)) (part_is bound part) is

-- one part more
pub parts_turn : (old now new : List Symbol) (values : List (Option Value)) (parts : List Part) (at : ℕ) (part : Part) (so_far : Option CollectedTerm) (found : CollectedTerm)
    → part ≡ get_or parts at part → at < length parts → IsFront old now → All (IsKnown (length old)) values
    → IsSoFar now so_far (fold part_joined None (map (part_collected (bound_in old values)) (take at parts)))
    → ((total : Option Collected) → IsSoFar now so_far total → IsSoFar new (Some found) (part_joined total (part_collected (bound_in now values) part)))
    → IsSoFar new (Some found) (fold part_joined None (map (part_collected (bound_in old values)) (take (at + 1) parts)))
parts_turn old now new values parts at part so_far found is below front known before turn =
    let here = turn (fold part_joined None (map (part_collected (bound_in old values)) (take at parts))) before in
    let same = subst (λ b. IsSoFar new (Some found) (part_joined (fold part_joined None (map (part_collected (bound_in old values)) (take at parts))) (part_collected b part)))
    (bound-front old now values front known) here in
    let all : fold part_joined None (map (part_collected (bound_in old values)) (take (at + 1) parts))
    ≡ part_joined (fold part_joined None (map (part_collected (bound_in old values)) (take at parts))) (part_collected (bound_in old values) part) =
    rw add-one (fold_more part_joined None (part_collected (bound_in old values)) parts at part is below) in
    subst (λ t. IsSoFar new (Some found) t) (sym all) same

-- no part
pub none_so_far : (symbols : List Symbol) (found : CollectedTerm) (so_far : Option CollectedTerm) → so_far ≡ None → (total : Option Collected) → IsSoFar symbols so_far total
    → IsTermOf symbols found (worth_collected IsUndefined) → IsTermOf symbols found (some_collected total)
none_so_far symbols found so_far e None so is = is
none_so_far symbols found so_far e (Some term) so is = absurd (subst (λ o. IsSoFar symbols o (Some term)) e so)
