-- The sides of `&diff` are parts of a sum.
use Rattle.std.proofs.Common.{◌≡◌, ◌+◌, ◌<◌, ℕ, Bool, true, false, not, ◌||◌, ◌&&◌, List, [], ◌∷◌, map, fold, take, get_or, length, Some, refl, sym, ◌∙◌, ap, true≢false}
use Rattle.std.specs.List.{list_any}
use Rattle.std.proofs.lemmas.List.Folds.{list_any_more}
use Rattle.symbols.specs.Symbol.{Symbol}
use Rattle.syntax_tree.specs.declared.literal.TheoryName.TheVariants as name
use Rattle.syntax_tree.specs.declared.term.Op.{Op}
use Rattle.syntax_tree.specs.declared.term.Part.{Part}
use Rattle.syntax_tree.specs.declared.term.Term.{Term, roll-Term}
use Rattle.syntax_tree.specs.declared.term.Term.TheFolds.{fold-Part}
use Rattle.syntax_tree.specs.declared.term.Term.TheOpen.{Term-F}
use Rattle.syntax_tree.specs.declared.term.Term.TheVariants as t
use Rattle.syntax_tree.specs.declared.term.Term.TheViews.{out-roll-Term}
use Rattle.syntax_tree.specs.Outcome.{Outcome}
use Rattle.program_meaning.specs.declared.collected.SymbolLinear.{SymbolLinear}
use Rattle.program_meaning.specs.Collected.{Collected, collected, collected_step, is_crooked, operation_collected, part_joined, some_collected, parts_collected, holds_variable}
use Rattle.program_meaning.specs.Said.{linear_in}
use Rattle.program_meaning.specs.Theory.{sides, parts_in, is_bad_side, is_one_variable, first_not_linear}
use Rattle.program_meaning.proofs.Layers
use Rattle.collected_elements.specs.inner.Places.{is_bad, has_bad}

-- A PART THAT IS NOT LINEAR

or_first : (a b c : Bool) → a ≡ true → (a || b || c) ≡ true
or_first true b c e = refl
or_first false b c e = absurd (true≢false (sym e))

or_second : (a b c : Bool) → b ≡ true → (a || b || c) ≡ true
or_second true b c e = refl
or_second false true c e = refl
or_second false false c e = absurd (true≢false (sym e))

abbrev Parts : Type 0
Parts = List (Op × Collected)

keeps_total : (parts : Parts) (total : Collected) → total.not_linear ≡ true → (some_collected (fold part_joined (Some total) parts)).not_linear ≡ true
keeps_total [] total e = e
keeps_total (p ∷ parts) total e =
    keeps_total parts (operation_collected p.0 total p.1) (or_first total.not_linear p.1.not_linear (is_crooked p.0 total p.1) e)

one_crooked : (parts : Parts) (total : Collected) → list_any (λ p. p.1.not_linear) parts ≡ true → (some_collected (fold part_joined (Some total) parts)).not_linear ≡ true
one_crooked [] total e = absurd (true≢false (sym e))
one_crooked (p ∷ parts) total e = go (one_crooked parts (operation_collected p.0 total p.1)) p.1.not_linear refl e
  where
    go : (list_any (λ q. q.1.not_linear) parts ≡ true → (some_collected (fold part_joined (Some total) (p ∷ parts))).not_linear ≡ true) → (b : Bool) → p.1.not_linear ≡ b → (b || list_any (λ q. q.1.not_linear) parts) ≡ true → (some_collected (fold part_joined (Some total) (p ∷ parts))).not_linear ≡ true
    go rec true f e = keeps_total parts (operation_collected p.0 total p.1) (or_second total.not_linear p.1.not_linear (is_crooked p.0 total p.1) f)
    go rec false f e = rec e

some_crooked : (parts : Parts) → list_any (λ p. p.1.not_linear) parts ≡ true → (parts_collected parts).not_linear ≡ true
some_crooked [] e = absurd (true≢false (sym e))
some_crooked (p ∷ parts) e = go p.1.not_linear refl e
  where
    go : (b : Bool) → p.1.not_linear ≡ b → (b || list_any (λ q. q.1.not_linear) parts) ≡ true → (some_collected (fold part_joined (Some p.1) parts)).not_linear ≡ true
    go true f e = keeps_total parts p.1 f
    go false f e = one_crooked parts p.1 e

-- SIDES

abbrev crooked : List Outcome → List Part → Bool
crooked bound parts = list_any (λ part. (collected bound part.term).not_linear) parts

abbrev bad : List Outcome → List Part → Bool
bad bound parts = list_any (λ part. is_bad_side (collected bound part.term)) parts

apart : (bound : List Outcome) (parts : List Part) → has_bad bound parts ≡ (crooked bound parts || bad bound parts)
apart bound [] = refl
apart bound (part ∷ parts) =
    ap (λ x. is_bad (collected bound part.term) || x) (apart bound parts)
    ∙ four (collected bound part.term).not_linear (is_bad_side (collected bound part.term)) (crooked bound parts) (bad bound parts)
  where
    four : (a b c d : Bool) → ((a || b) || (c || d)) ≡ ((a || c) || (b || d))
    four true b c d = refl
    four false true true d = refl
    four false true false d = refl
    four false false c d = refl

mapped_crooked : (bound : List Outcome) (parts : List Part)
    → list_any (λ p. p.1.not_linear) (map (fold-Part Collected (Op × Collected) (collected_step bound) (λ part. (part.op, part.term))) parts) ≡ crooked bound parts
mapped_crooked bound [] = refl
mapped_crooked bound (part ∷ parts) = λ i. (Layers.collected-Part bound part i).1.not_linear || mapped_crooked bound parts i

mapped_bad : (bound : List Outcome) (parts : List Part) → list_any (λ side. is_bad_side (collected bound side)) (map (λ part. part.term) parts) ≡ bad bound parts
mapped_bad bound [] = refl
mapped_bad bound (part ∷ parts) = ap (λ x. is_bad_side (collected bound part.term) || x) (mapped_bad bound parts)

sum_sides : (parts : List Part) → sides (t.Sum parts) ≡ map (λ part. part.term) parts
unfolding roll-Term denote.Hole.Carrier.roll
sum_sides parts = ap parts_in (out-roll-Term (Term-F.Sum parts))

whole_crooked : (bound : List Outcome) (parts : List Part) → crooked bound parts ≡ true → (collected bound (t.Sum parts)).not_linear ≡ true
whole_crooked bound parts e =
    ap (λ c. c.not_linear) (Layers.collected-Sum bound parts)
    ∙ some_crooked (map (fold-Part Collected (Op × Collected) (collected_step bound) (λ part. (part.op, part.term))) parts) (mapped_crooked bound parts ∙ e)

absorbed : (a b c : Bool) → (b ≡ true → a ≡ true) → (a || (b || c)) ≡ (a || c)
absorbed true b c h = refl
absorbed false false c h = refl
absorbed false true c h = absurd (true≢false (sym (h refl)))

pub bad_sides : (bound : List Outcome) (term : Term) (parts slice : List Part) → term ≡ t.Sum parts → slice ≡ parts
    → ((collected bound term).not_linear || has_bad bound slice) ≡ first_not_linear name.Diff bound term
bad_sides bound term parts slice e f =
    let whole = (collected bound (t.Sum parts)).not_linear in
    (λ i. (collected bound (e i)).not_linear || has_bad bound (f i))
    ∙ ap (λ x. whole || x) (apart bound parts)
    ∙ absorbed whole (crooked bound parts) (bad bound parts) (whole_crooked bound parts)
    ∙ ap (λ x. whole || x) (sym (mapped_bad bound parts) ∙ ap (list_any (λ side. is_bad_side (collected bound side))) (sym (sum_sides parts)))
    ∙ ap (first_not_linear name.Diff bound) (sym e)

-- one part more
pub bad_more : (bound : List Outcome) (parts : List Part) (i : ℕ) (part : Part) (so_far more : Bool) → part ≡ get_or parts i part → i < length parts
    → so_far ≡ has_bad bound (take i parts) → more ≡ is_bad (collected bound part.term) → (so_far || more) ≡ has_bad bound (take (i + 1) parts)
bad_more bound parts i part so_far more is below e f =
    (λ j. e j || (f ∙ ap (λ x. is_bad (collected bound x.term)) is) j) ∙ sym (list_any_more (λ p. is_bad (collected bound p.term)) parts i part below)

-- a form
pub small_bad : (symbols : List Symbol) (linear : SymbolLinear) (term : Collected) (result : Bool) → term.not_linear ≡ false → term.large ≡ false → linear_in symbols linear ≡ term.form
    → result ≡ (holds_variable (linear_in symbols linear) && not (is_one_variable (linear_in symbols linear))) → result ≡ is_bad term
small_bad symbols linear term result p q e r =
    r ∙ (λ i. sym p i || (not (sym q i) && holds_variable (e i) && not (is_one_variable (e i))))
