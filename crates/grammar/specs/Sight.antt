-- Where variables, `_`, intervals that are arguments, and atoms stand in a form, and where an interval stands that may not.
-- A place is the number of a word; a form begins at the place that is given.
use Rattle.std.specs.Prelude.{ℕ, zero, suc, ◌+◌, List, [], ◌∷◌, ◌++◌, length}
use Rattle.grammar.specs.declared.shape.Shape.{Shape}
use Rattle.grammar.specs.declared.shape.Shape.TheVariants.{Atom, Interval, Other}
use Rattle.grammar.specs.Word.{Word}
use Rattle.grammar.specs.Row.{Row}
use Rattle.grammar.specs.Term.{ProductOf, SumOf, TermOf, ArgsOf, AtomOf, UnaryOf, Operand, alone, interval, plain, applied, negated, number, text, variable, anonymous, atom, unit, group, single, tuple, product_words, sum_words, term_words, operand_words}
use Rattle.grammar.specs.Shape.{product_shape, sum_shape, term_shape, operand_shape}

-- a variable by its name, a `_`, an interval that is an argument, or an atom
pub data Sight : Type 0 where
  of_variable : List ℕ → Sight
  of_anonymous : Sight
  of_interval : Sight
  of_atom : Sight

pub record Sighting : Type 0 where
  pub sight : Sight
  pub at : ℕ

abbrev pub seen : Sight → ℕ → List Sighting
seen sight at = record { sight = sight; at = at } ∷ []

-- how many words a form has
abbrev pub size : {A : Type 0} → (A → List Word → List Word) → A → ℕ
size words form = length (words form [])

-- what each item of a row gives, where each is a number of words long
module _ {X I S : Type 0} (gives : I → ℕ → List X) (long : I → ℕ) where
  abbrev pub along_tail : List (S × I) → ℕ → List X
  along_tail [] at = []
  along_tail (part ∷ parts) at = gives part.1 (at + 1) ++ along_tail parts (at + 1 + long part.1)

  abbrev pub along : Row I S → ℕ → List X
  along row at = gives row.first at ++ along_tail row.rest (at + long row.first)

-- ---- what is seen

-- an argument that is an interval is seen before what is inside it
abbrev pub argument_by : Shape → ℕ → List Sighting
argument_by Interval at = seen of_interval at
argument_by Atom at = []
argument_by Other at = []

module _ {U : Type 0} (words : U → List Word → List Word) (shape : U → Shape) (sights : U → ℕ → List Sighting) where
  abbrev pub product_sights : ProductOf U → ℕ → List Sighting
  product_sights = along sights (size words)

  abbrev pub sum_sights : SumOf U → ℕ → List Sighting
  sum_sights = along product_sights (size (product_words words))

  abbrev pub term_sights : TermOf U → ℕ → List Sighting
  term_sights (alone sum) at = sum_sights sum at
  term_sights (interval left right) at = sum_sights left at ++ sum_sights right (at + size (sum_words words) left + 1)

  abbrev pub argument_sights : TermOf U → ℕ → List Sighting
  argument_sights term at = argument_by (term_shape shape term) at ++ term_sights term at

  abbrev pub args_sights : ArgsOf U → ℕ → List Sighting
  args_sights = along argument_sights (size (term_words words))

module _ {D : Type 0} (words : D → List Word → List Word) (shape : D → Shape) (sights : D → ℕ → List Sighting) where
  abbrev pub atom_sights : AtomOf D → ℕ → List Sighting
  atom_sights (plain name) at = []
  atom_sights (applied name args) at = args_sights words shape sights args (at + 2)

  abbrev pub unary_sights : {R : Type 0} → UnaryOf D R → ℕ → List Sighting
  unary_sights (negated d) at = sights d (at + 1)
  unary_sights (number n) at = []
  unary_sights (text bytes) at = []
  unary_sights (variable name) at = seen (of_variable name) at
  unary_sights anonymous at = seen of_anonymous at
  unary_sights (atom a) at = atom_sights a at
  unary_sights (unit room) at = []
  unary_sights (group term) at = term_sights words shape sights term (at + 1)
  unary_sights (single term) at = argument_sights words shape sights term (at + 1)
  unary_sights (tuple term args) at = argument_sights words shape sights term (at + 1) ++ args_sights words shape sights args (at + 1 + size (term_words words) term + 1)

abbrev pub operand_sights : (n : ℕ) → Operand n → ℕ → List Sighting
operand_sights zero operand at = absurd operand
operand_sights (suc n) operand at = unary_sights (operand_words n) (operand_shape n) (operand_sights n) operand at

-- ---- intervals that may not stand where they do: as an operand, an end of an interval, or behind a sign
abbrev pub refused_by : Shape → ℕ → List ℕ
refused_by Interval at = at ∷ []
refused_by Atom at = []
refused_by Other at = []

-- an operand, which may be no interval
abbrev pub part_bads : {A : Type 0} → (A → Shape) → (A → ℕ → List ℕ) → A → ℕ → List ℕ
part_bads shape bads part at = refused_by (shape part) at ++ bads part at

-- one item stands for itself; several are operands
abbrev pub row_bads_by : {S I : Type 0} → (I → Shape) → (I → ℕ) → (I → ℕ → List ℕ) → I → List (S × I) → ℕ → List ℕ
row_bads_by shape long bads x [] at = bads x at
row_bads_by shape long bads x (part ∷ parts) at = along (part_bads shape bads) long (record { first = x; rest = part ∷ parts }) at

module _ {U : Type 0} (words : U → List Word → List Word) (shape : U → Shape) (bads : U → ℕ → List ℕ) where
  abbrev pub product_bads : ProductOf U → ℕ → List ℕ
  product_bads row = row_bads_by shape (size words) bads row.first row.rest

  abbrev pub sum_bads : SumOf U → ℕ → List ℕ
  sum_bads row = row_bads_by (product_shape shape) (size (product_words words)) product_bads row.first row.rest

  abbrev pub term_bads : TermOf U → ℕ → List ℕ
  term_bads (alone sum) at = sum_bads sum at
  term_bads (interval left right) at = part_bads (sum_shape shape) sum_bads left at ++ part_bads (sum_shape shape) sum_bads right (at + size (sum_words words) left + 1)

  abbrev pub args_bads : ArgsOf U → ℕ → List ℕ
  args_bads = along term_bads (size (term_words words))

module _ {D : Type 0} (words : D → List Word → List Word) (shape : D → Shape) (bads : D → ℕ → List ℕ) where
  abbrev pub atom_bads : AtomOf D → ℕ → List ℕ
  atom_bads (plain name) at = []
  atom_bads (applied name args) at = args_bads words shape bads args (at + 2)

  abbrev pub unary_bads : {R : Type 0} → UnaryOf D R → ℕ → List ℕ
  unary_bads (negated d) at = part_bads shape bads d (at + 1)
  unary_bads (number n) at = []
  unary_bads (text bytes) at = []
  unary_bads (variable name) at = []
  unary_bads anonymous at = []
  unary_bads (atom a) at = atom_bads a at
  unary_bads (unit room) at = []
  unary_bads (group term) at = term_bads words shape bads term (at + 1)
  unary_bads (single term) at = term_bads words shape bads term (at + 1)
  unary_bads (tuple term args) at = term_bads words shape bads term (at + 1) ++ args_bads words shape bads args (at + 1 + size (term_words words) term + 1)

abbrev pub operand_bads : (n : ℕ) → Operand n → ℕ → List ℕ
operand_bads zero operand at = absurd operand
operand_bads (suc n) operand at = unary_bads (operand_words n) (operand_shape n) (operand_bads n) operand at
