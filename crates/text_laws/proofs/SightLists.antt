-- What is seen in a term, in order and with its places left out: the same at each place, and in a form that may nest a level deeper.
use Rattle.std.proofs.Common.{◌≡◌, ℕ, zero, suc, ◌+◌, List, [], ◌∷◌, ◌++◌, map, refl, ap, ◌∙◌}
use Rattle.std.proofs.lemmas.List.{append-nil, map-append}
use Rattle.grammar.specs.declared.shape.Shape.{Shape}
use Rattle.grammar.specs.declared.shape.Shape.TheVariants as shape
use Rattle.grammar.specs.Word.{Word}
use Rattle.grammar.specs.Row.{Row}
use Rattle.grammar.specs.Term.{ProductOf, SumOf, TermOf, ArgsOf, AtomOf, UnaryOf, Operand, alone, interval, plain, applied, negated, number, text, variable, anonymous, atom, unit, group, single, tuple, product_words, sum_words, term_words, operand_words}
use Rattle.grammar.specs.Shape.{row_shape_by, product_shape, term_shape, grouped, unary_shape, operand_shape}
use Rattle.grammar.specs.Sight.{Sight, of_variable, of_anonymous, of_interval, Sighting, size, along_tail, along, argument_by, product_sights, sum_sights, term_sights, argument_sights, args_sights, atom_sights, unary_sights, operand_sights}
use Rattle.grammar.specs.Tidied.{map_row, map_term, map_args, map_atom, map_unary, lifted}

-- what is seen, with its places left out
abbrev pub sighted : List Sighting → List Sight
sighted = map (λ (s : Sighting). s.sight)

pub sighted_append : (xs ys : List Sighting) → sighted (xs ++ ys) ≡ sighted xs ++ sighted ys
sighted_append = map-append (λ (s : Sighting). s.sight)

-- what is seen in a form is this, wherever the form stands
abbrev pub AreSeen : {A : Type 0} → (A → ℕ → List Sighting) → (A → List Sight) → Type 0
AreSeen {A} sights seen = (a : A) (at : ℕ) → sighted (sights a at) ≡ seen a

-- ---- rows
module _ {I S : Type 0} (seen : I → List Sight) where
  abbrev pub in_items : I → List (S × I) → List Sight
  in_items item [] = seen item
  in_items item (part ∷ parts) = seen item ++ in_items part.1 parts

  abbrev pub in_row : Row I S → List Sight
  in_row row = in_items row.first row.rest

module _ {I S : Type 0} (gives : I → ℕ → List Sighting) (long : I → ℕ) (seen : I → List Sight) (law : AreSeen gives seen) where
  items_seen : (item : I) (parts : List (S × I)) (at behind : ℕ) → sighted (gives item at ++ along_tail gives long parts behind) ≡ in_items seen item parts
  items_seen item [] at behind = sighted_append (gives item at) [] ∙ ap (λ l. l ++ []) (law item at) ∙ append-nil (seen item)
  items_seen item (part ∷ parts) at behind =
      sighted_append (gives item at) (along_tail gives long (part ∷ parts) behind)
      ∙ (λ i. law item at i ++ items_seen part.1 parts (behind + 1) (behind + 1 + long part.1) i)

  row_seen : (row : Row I S) (at : ℕ) → sighted (along gives long row at) ≡ in_row seen row
  row_seen row at = items_seen row.first row.rest at (at + long row.first)

module _ {I J S : Type 0} (f : I → J) (before : I → List Sight) (seen : J → List Sight) (same : (x : I) → seen (f x) ≡ before x) where
  pub items_same : (item : I) (parts : List (S × I)) → in_items seen (f item) (map (λ (p : S × I). (p.0, f p.1)) parts) ≡ in_items before item parts
  items_same item [] = same item
  items_same item (part ∷ parts) = (λ i. same item i ++ items_same part.1 parts i)

  pub row_same : (row : Row I S) → in_row seen (map_row f row) ≡ in_row before row
  row_same row = items_same row.first row.rest

-- ---- what is seen in terms
-- an argument that is an interval
abbrev pub in_shape : Shape → List Sight
in_shape shape.Atom = []
in_shape shape.Interval = of_interval ∷ []
in_shape shape.Other = []

module _ {U : Type 0} (seen : U → List Sight) where
  abbrev pub in_product : ProductOf U → List Sight
  in_product = in_row seen

  abbrev pub in_sum : SumOf U → List Sight
  in_sum = in_row in_product

  abbrev pub in_term : TermOf U → List Sight
  in_term (alone s) = in_sum s
  in_term (interval left right) = in_sum left ++ in_sum right

module _ {U : Type 0} (shapes : U → Shape) (seen : U → List Sight) where
  abbrev pub in_argument : TermOf U → List Sight
  in_argument x = in_shape (term_shape shapes x) ++ in_term seen x

  abbrev pub in_args : ArgsOf U → List Sight
  in_args = in_row in_argument

  abbrev pub in_atom : AtomOf U → List Sight
  in_atom (plain name) = []
  in_atom (applied name args) = in_args args

  abbrev pub in_unary : {R : Type 0} → UnaryOf U R → List Sight
  in_unary (negated d) = seen d
  in_unary (number k) = []
  in_unary (text bytes) = []
  in_unary (variable name) = of_variable name ∷ []
  in_unary anonymous = of_anonymous ∷ []
  in_unary (atom a) = in_atom a
  in_unary (unit room) = []
  in_unary (group x) = in_term seen x
  in_unary (single x) = in_argument x
  in_unary (tuple x args) = in_argument x ++ in_args args

abbrev pub in_operand : (n : ℕ) → Operand n → List Sight
in_operand zero u = absurd u
in_operand (suc n) u = in_unary (operand_shape n) (in_operand n) u

-- ---- it is what is seen there, at each place
shape_seen : (s : Shape) (at : ℕ) → sighted (argument_by s at) ≡ in_shape s
shape_seen shape.Atom at = refl
shape_seen shape.Interval at = refl
shape_seen shape.Other at = refl

module _ {U : Type 0} (words : U → List Word → List Word) (shapes : U → Shape) (sights : U → ℕ → List Sighting) (seen : U → List Sight) (law : AreSeen sights seen) where
  product_seen : AreSeen (product_sights words shapes sights) (in_product seen)
  product_seen = row_seen sights (size words) seen law

  sum_seen : AreSeen (sum_sights words shapes sights) (in_sum seen)
  sum_seen = row_seen (product_sights words shapes sights) (size (product_words words)) (in_product seen) product_seen

  pub term_seen : AreSeen (term_sights words shapes sights) (in_term seen)
  term_seen (alone s) at = sum_seen s at
  term_seen (interval left right) at =
      sighted_append (sum_sights words shapes sights left at) _ ∙ (λ i. sum_seen left at i ++ sum_seen right (at + size (sum_words words) left + 1) i)

  argument_seen : AreSeen (argument_sights words shapes sights) (in_argument shapes seen)
  argument_seen x at = sighted_append (argument_by (term_shape shapes x) at) _ ∙ (λ i. shape_seen (term_shape shapes x) at i ++ term_seen x at i)

  args_seen : AreSeen (args_sights words shapes sights) (in_args shapes seen)
  args_seen = row_seen (argument_sights words shapes sights) (size (term_words words)) (in_argument shapes seen) argument_seen

  pub atom_seen : AreSeen (atom_sights words shapes sights) (in_atom shapes seen)
  atom_seen (plain name) at = refl
  atom_seen (applied name args) at = args_seen args (at + 2)

  unary_seen : {R : Type 0} → AreSeen {A = UnaryOf U R} (unary_sights words shapes sights) (in_unary shapes seen)
  unary_seen (negated d) at = law d (at + 1)
  unary_seen (number k) at = refl
  unary_seen (text bytes) at = refl
  unary_seen (variable name) at = refl
  unary_seen anonymous at = refl
  unary_seen (atom a) at = atom_seen a at
  unary_seen (unit room) at = refl
  unary_seen (group x) at = term_seen x (at + 1)
  unary_seen (single x) at = argument_seen x (at + 1)
  unary_seen (tuple x args) at =
      sighted_append (argument_sights words shapes sights x (at + 1)) _ ∙ (λ i. argument_seen x (at + 1) i ++ args_seen args (at + 1 + size (term_words words) x + 1) i)

pub operand_seen : (n : ℕ) → AreSeen (operand_sights n) (in_operand n)
operand_seen zero u at = absurd u
operand_seen (suc n) u at = unary_seen (operand_words n) (operand_shape n) (operand_sights n) (in_operand n) (operand_seen n) u at

-- ---- a form that may nest a level deeper
module _ {I J S : Type 0} (f : I → J) (before : I → Shape) (shapes : J → Shape) (same : (x : I) → shapes (f x) ≡ before x) where
  row_shape_same : (item : I) (parts : List (S × I)) → row_shape_by (shapes (f item)) (map (λ (p : S × I). (p.0, f p.1)) parts) ≡ row_shape_by (before item) parts
  row_shape_same item [] = same item
  row_shape_same item (part ∷ parts) = refl

module _ {U V : Type 0} (f : U → V) (before : U → Shape) (shapes : V → Shape) (same_shape : (x : U) → shapes (f x) ≡ before x) where
  product_shape_same : (row : ProductOf U) → product_shape shapes (map_row f row) ≡ product_shape before row
  product_shape_same row = row_shape_same f before shapes same_shape row.first row.rest

  term_shape_same : (x : TermOf U) → term_shape shapes (map_term f x) ≡ term_shape before x
  term_shape_same (alone s) = row_shape_same (map_row f) (product_shape before) (product_shape shapes) product_shape_same s.first s.rest
  term_shape_same (interval left right) = refl

  unary_shape_same : {R Q : Type 0} (room : R → Q) (u : UnaryOf U R) → unary_shape shapes (map_unary f room u) ≡ unary_shape before u
  unary_shape_same room (negated d) = refl
  unary_shape_same room (number k) = refl
  unary_shape_same room (text bytes) = refl
  unary_shape_same room (variable name) = refl
  unary_shape_same room anonymous = refl
  unary_shape_same room (atom a) = refl
  unary_shape_same room (unit r) = refl
  unary_shape_same room (group x) = ap grouped (term_shape_same x)
  unary_shape_same room (single x) = refl
  unary_shape_same room (tuple x args) = refl

module _ {U V : Type 0} (f : U → V) (seen_before : U → List Sight) (seen : V → List Sight) (same : (x : U) → seen (f x) ≡ seen_before x) where
  pub in_product_same : (row : ProductOf U) → in_product seen (map_row f row) ≡ in_product seen_before row
  in_product_same = row_same f seen_before seen same

  pub in_sum_same : (row : SumOf U) → in_sum seen (map_row (map_row f) row) ≡ in_sum seen_before row
  in_sum_same = row_same (map_row f) (in_product seen_before) (in_product seen) in_product_same

  in_term_same : (x : TermOf U) → in_term seen (map_term f x) ≡ in_term seen_before x
  in_term_same (alone s) = in_sum_same s
  in_term_same (interval left right) = (λ i. in_sum_same left i ++ in_sum_same right i)

  module _ (before : U → Shape) (shapes : V → Shape) (same_shape : (x : U) → shapes (f x) ≡ before x) where
    in_argument_same : (x : TermOf U) → in_argument shapes seen (map_term f x) ≡ in_argument before seen_before x
    in_argument_same x = (λ i. in_shape (term_shape_same f before shapes same_shape x i) ++ in_term_same x i)

    in_args_same : (args : ArgsOf U) → in_args shapes seen (map_args f args) ≡ in_args before seen_before args
    in_args_same = row_same (map_term f) (in_argument before seen_before) (in_argument shapes seen) in_argument_same

    in_atom_same : (a : AtomOf U) → in_atom shapes seen (map_atom f a) ≡ in_atom before seen_before a
    in_atom_same (plain name) = refl
    in_atom_same (applied name args) = in_args_same args

    in_unary_same : {R Q : Type 0} (room : R → Q) (u : UnaryOf U R) → in_unary shapes seen (map_unary f room u) ≡ in_unary before seen_before u
    in_unary_same room (negated d) = same d
    in_unary_same room (number k) = refl
    in_unary_same room (text bytes) = refl
    in_unary_same room (variable name) = refl
    in_unary_same room anonymous = refl
    in_unary_same room (atom a) = in_atom_same a
    in_unary_same room (unit r) = refl
    in_unary_same room (group x) = in_term_same x
    in_unary_same room (single x) = in_argument_same x
    in_unary_same room (tuple x args) = (λ i. in_argument_same x i ++ in_args_same args i)

pub lifted_shape : (n : ℕ) (u : Operand n) → operand_shape (suc n) (lifted n u) ≡ operand_shape n u
lifted_shape zero u = absurd u
lifted_shape (suc n) u = unary_shape_same (lifted n) (operand_shape n) (operand_shape (suc n)) (lifted_shape n) (λ room. tt) u

pub lifted_seen : (n : ℕ) (u : Operand n) → in_operand (suc n) (lifted n u) ≡ in_operand n u
lifted_seen zero u = absurd u
lifted_seen (suc n) u = in_unary_same (lifted n) (in_operand n) (in_operand (suc n)) (lifted_seen n) (operand_shape n) (operand_shape (suc n)) (lifted_shape n) (λ room. tt) u
