-- Where no interval of a term stands where it may not, none does in the tidied term, wherever both begin.
use Rattle.std.proofs.Common.{◌≡◌, ℕ, zero, suc, ◌+◌, false, List, [], ◌∷◌, ◌++◌, map, refl, ap, ◌∙◌}
use Rattle.grammar.specs.declared.shape.Shape.{Shape}
use Rattle.grammar.specs.declared.shape.Shape.TheVariants.{Atom, Interval, Other}
use Rattle.grammar.specs.Word.{Word}
use Rattle.grammar.specs.Term.{Adding, Multiplying, ProductOf, SumOf, TermOf, ArgsOf, AtomOf, UnaryOf, Operand, Room, alone, interval, plain, applied, negated, number, text, variable, anonymous, atom, unit, group, single, tuple, product_words, term_words, operand_words}
use Rattle.grammar.specs.Shape.{product_shape, sum_shape, term_shape, operand_shape}
use Rattle.grammar.specs.Sight.{size, along_tail, along, refused_by, part_bads, row_bads_by, product_bads, sum_bads, term_bads, args_bads, atom_bads, unary_bads, operand_bads}
use Rattle.grammar.specs.Check.{is_interval}
use Rattle.grammar.specs.Tidied.{map_row, map_term, map_args, map_atom, map_unary, lifted, Tidied, operand, product, sum, range, row_of, one, as_operand, as_product, as_sum, opened, tidied_part, product_by, tidied_product, tidied_item, lone_by, whole_by, end_lone_by, end_by, tidied_end, tidied_whole, as_term, ungrouped, Below, from_below, bracketed, tidied_term, tidied_args, tidied_atom, tidied_unary, tidied}
use Rattle.text_laws.proofs.TidiedShapes.{lifted_shape, product_shape_same, sum_shape_same, tidied_range, operand_interval, product_interval, end_interval, below_shape, from_below_shape, bracketed_shape, tidied_operand_range}

-- ---- lists with nothing in them
both_nothing : {X : Type 0} (xs ys : List X) → xs ++ ys ≡ [] → (xs ≡ []) × (ys ≡ [])
both_nothing [] ys h = (refl, h)
both_nothing (x ∷ xs) ys h = absurd cc

nothing_both : {X : Type 0} (xs ys : List X) → xs ≡ [] → ys ≡ [] → xs ++ ys ≡ []
nothing_both xs ys h k = ap (λ l. l ++ ys) h ∙ k

-- two lists at once
pub both_pass : {X Y : Type 0} {a b : List X} {c d : List Y} → (a ≡ [] → c ≡ []) → (b ≡ [] → d ≡ []) → a ++ b ≡ [] → c ++ d ≡ []
both_pass {a = a} {b = b} {c = c} {d = d} f g h = nothing_both c d (f (both_nothing a b h).0) (g (both_nothing a b h).1)

-- what the items of a row give: nothing, where they give nothing made into others
module _ {X Y I J : Type 0} (gives : I → ℕ → List X) (long : I → ℕ) (others : J → ℕ → List Y) (other_long : J → ℕ) (f : I → J) (passes : (x : I) (at later : ℕ) → gives x at ≡ [] → others (f x) later ≡ []) where
  tail_passes : {S T : Type 0} (sign : S → T) (parts : List (S × I)) (at later : ℕ)
      → along_tail gives long parts at ≡ [] → along_tail others other_long (map (λ (p : S × I). (sign p.0, f p.1)) parts) later ≡ []
  tail_passes sign [] at later h = refl
  tail_passes sign (part ∷ parts) at later h = both_pass (passes part.1 (at + 1) (later + 1)) (tail_passes sign parts _ _) h

  pub along_passes : {S T : Type 0} (sign : S → T) (first : I) (rest : List (S × I)) (at later : ℕ)
      → along gives long (row_of first rest) at ≡ [] → along others other_long (row_of (f first) (map (λ (p : S × I). (sign p.0, f p.1)) rest)) later ≡ []
  along_passes sign first rest at later h = both_pass (passes first at later) (tail_passes sign rest _ _) h

-- ---- operands, which may be no interval
is_refused : (shape : Shape) (at : ℕ) → refused_by shape at ≡ [] → is_interval shape ≡ false
is_refused Atom at h = refl
is_refused Interval at h = absurd cc
is_refused Other at h = refl

not_refused : (shape : Shape) (at : ℕ) → is_interval shape ≡ false → refused_by shape at ≡ []
not_refused Atom at h = refl
not_refused Interval at h = absurd cc
not_refused Other at h = refl

part_nothing : {A : Type 0} (shape : A → Shape) (bads : A → ℕ → List ℕ) (x : A) (at : ℕ) → is_interval (shape x) ≡ false → bads x at ≡ [] → part_bads shape bads x at ≡ []
part_nothing shape bads x at h k = nothing_both (refused_by (shape x) at) (bads x at) (not_refused (shape x) at h) k

module _ {I J : Type 0} (shape : I → Shape) (bads : I → ℕ → List ℕ) (other_shape : J → Shape) (other_bads : J → ℕ → List ℕ) (f : I → J) (same : (x : I) → is_interval (other_shape (f x)) ≡ is_interval (shape x)) (passes : (x : I) (at later : ℕ) → bads x at ≡ [] → other_bads (f x) later ≡ []) where
  pub part_passes : (x : I) (at later : ℕ) → part_bads shape bads x at ≡ [] → part_bads other_shape other_bads (f x) later ≡ []
  part_passes x at later h =
      let hs : (refused_by (shape x) at ≡ []) × (bads x at ≡ []) = both_nothing (refused_by (shape x) at) (bads x at) h in
      part_nothing other_shape other_bads (f x) later (same x ∙ is_refused (shape x) at hs.0) (passes x at later hs.1)

  -- several items of a row, each of which is an operand
  parts_pass : {S T : Type 0} (sign : S → T) (long : I → ℕ) (other_long : J → ℕ) (first : I) (rest : List (S × I)) (at later : ℕ)
      → along (part_bads shape bads) long (row_of first rest) at ≡ [] → along (part_bads other_shape other_bads) other_long (row_of (f first) (map (λ (p : S × I). (sign p.0, f p.1)) rest)) later ≡ []
  parts_pass sign long other_long first rest at later h = along_passes (part_bads shape bads) long (part_bads other_shape other_bads) other_long f part_passes sign first rest at later h

  row_by_passes : {S : Type 0} (long : I → ℕ) (other_long : J → ℕ) (first : I) (rest : List (S × I)) (at later : ℕ)
      → row_bads_by shape long bads first rest at ≡ [] → row_bads_by other_shape other_long other_bads (f first) (map (λ (p : S × I). (p.0, f p.1)) rest) later ≡ []
  row_by_passes long other_long first [] at later h = passes first at later h
  row_by_passes long other_long first (part ∷ parts) at later h = parts_pass (λ s. s) long other_long first (part ∷ parts) at later h

-- ---- a level deeper
module _ {U V : Type 0} (f : U → V) (words : U → List Word → List Word) (shape : U → Shape) (bads : U → ℕ → List ℕ) (other_words : V → List Word → List Word) (other_shape : V → Shape) (other_bads : V → ℕ → List ℕ) (same : (x : U) → is_interval (other_shape (f x)) ≡ is_interval (shape x)) (passes : (x : U) (at later : ℕ) → bads x at ≡ [] → other_bads (f x) later ≡ []) where
  product_moves : (row : ProductOf U) (at later : ℕ) → product_bads words shape bads row at ≡ [] → product_bads other_words other_shape other_bads (map_row f row) later ≡ []
  product_moves row at later h = row_by_passes shape bads other_shape other_bads f same passes (size words) (size other_words) row.first row.rest at later h

  sum_moves : (row : SumOf U) (at later : ℕ) → sum_bads words shape bads row at ≡ [] → sum_bads other_words other_shape other_bads (map_row (map_row f) row) later ≡ []
  sum_moves row at later h =
      row_by_passes (product_shape shape) (product_bads words shape bads) (product_shape other_shape) (product_bads other_words other_shape other_bads) (map_row f)
      (product_shape_same f shape other_shape same) product_moves (size (product_words words)) (size (product_words other_words)) row.first row.rest at later h

  -- the ends of an interval
  ends_move : (left right : SumOf U) (at later : ℕ) → term_bads words shape bads (interval left right) at ≡ []
      → term_bads other_words other_shape other_bads (interval (map_row (map_row f) left) (map_row (map_row f) right)) later ≡ []
  ends_move left right at later h =
      let end : (x : SumOf U) (at later : ℕ) → part_bads (sum_shape shape) (sum_bads words shape bads) x at ≡ [] → part_bads (sum_shape other_shape) (sum_bads other_words other_shape other_bads) (map_row (map_row f) x) later ≡ []
      = part_passes (sum_shape shape) (sum_bads words shape bads) (sum_shape other_shape) (sum_bads other_words other_shape other_bads) (map_row (map_row f)) (sum_shape_same f shape other_shape same) sum_moves in
      both_pass (end left at later) (end right _ _) h

  term_moves : (x : TermOf U) (at later : ℕ) → term_bads words shape bads x at ≡ [] → term_bads other_words other_shape other_bads (map_term f x) later ≡ []
  term_moves (alone s) at later h = sum_moves s at later h
  term_moves (interval left right) at later h = ends_move left right at later h

  args_move : (row : ArgsOf U) (at later : ℕ) → args_bads words shape bads row at ≡ [] → args_bads other_words other_shape other_bads (map_args f row) later ≡ []
  args_move row at later h =
      along_passes (term_bads words shape bads) (size (term_words words)) (term_bads other_words other_shape other_bads) (size (term_words other_words)) (map_term f) term_moves (λ s. s) row.first row.rest at later h

  atom_moves : (a : AtomOf U) (at later : ℕ) → atom_bads words shape bads a at ≡ [] → atom_bads other_words other_shape other_bads (map_atom f a) later ≡ []
  atom_moves (plain name) at later h = refl
  atom_moves (applied name args) at later h = args_move args (at + 2) (later + 2) h

  unary_moves : {R Q : Type 0} (room : R → Q) (u : UnaryOf U R) (at later : ℕ) → unary_bads words shape bads u at ≡ [] → unary_bads other_words other_shape other_bads (map_unary f room u) later ≡ []
  unary_moves room (negated d) at later h = part_passes shape bads other_shape other_bads f same passes d (at + 1) (later + 1) h
  unary_moves room (number n) at later h = refl
  unary_moves room (text bytes) at later h = refl
  unary_moves room (variable name) at later h = refl
  unary_moves room anonymous at later h = refl
  unary_moves room (atom a) at later h = atom_moves a at later h
  unary_moves room (unit r) at later h = refl
  unary_moves room (group x) at later h = term_moves x (at + 1) (later + 1) h
  unary_moves room (single x) at later h = term_moves x (at + 1) (later + 1) h
  unary_moves room (tuple x args) at later h = both_pass (term_moves x (at + 1) (later + 1)) (args_move args _ _) h

lifted_bads : (n : ℕ) (u : Operand n) (at later : ℕ) → operand_bads n u at ≡ [] → operand_bads (suc n) (lifted n u) later ≡ []
lifted_bads zero u at later h = absurd u
lifted_bads (suc n) u at later h =
    unary_moves (lifted n) (operand_words n) (operand_shape n) (operand_bads n) (operand_words (suc n)) (operand_shape (suc n)) (operand_bads (suc n)) (lifted_shape n) (lifted_bads n) (λ room. tt) u at later h

-- ---- what stands badly when the parentheses around a term are taken away
module _ {U V : Type 0} (bads : U → ℕ → List ℕ) (below_words : V → List Word → List Word) (below_shapes : V → Shape) (below_bads : V → ℕ → List ℕ) where
  abbrev tidied_bads : Tidied U V → ℕ → List ℕ
  tidied_bads (operand u) at = bads u at
  tidied_bads (product first part parts) at = product_bads below_words below_shapes below_bads (row_of first (part ∷ parts)) at
  tidied_bads (sum first part parts) at = sum_bads below_words below_shapes below_bads (row_of first (part ∷ parts)) at
  tidied_bads (range left right) at = term_bads below_words below_shapes below_bads (interval left right) at

term_place : {U : Type 0} (words : U → List Word → List Word) (shape : U → Shape) (bads : U → ℕ → List ℕ) (s : Tidied U U) (at : ℕ)
    → tidied_bads bads words shape bads s at ≡ [] → term_bads words shape bads (as_term s) at ≡ []
term_place words shape bads (operand u) at h = h
term_place words shape bads (product first part parts) at h = h
term_place words shape bads (sum first part parts) at h = h
term_place words shape bads (range left right) at h = h

module _ {U V : Type 0} (deeper : V → U) (brackets : TermOf V → U) (words : U → List Word → List Word) (shape : U → Shape) (bads : U → ℕ → List ℕ) (below_words : V → List Word → List Word) (below_shapes : V → Shape) (below_bads : V → ℕ → List ℕ) (same : (v : V) → is_interval (shape (deeper v)) ≡ is_interval (below_shapes v)) (moves : (v : V) (at later : ℕ) → below_bads v at ≡ [] → bads (deeper v) later ≡ []) (inside_shape : (x : TermOf V) → is_interval (shape (brackets x)) ≡ is_interval (term_shape below_shapes x)) (inside : (x : TermOf V) → ((at : ℕ) → term_bads below_words below_shapes below_bads x at ≡ []) → (later : ℕ) → bads (brackets x) later ≡ []) where
  -- nothing stands badly in it, wherever it begins
  abbrev IsClean : Tidied U V → Type 0
  IsClean s = (at : ℕ) → tidied_bads bads below_words below_shapes below_bads s at ≡ []

  operand_place : (s : Tidied U V) → IsClean s → (later : ℕ) → bads (as_operand deeper brackets s) later ≡ []
  operand_place (operand u) h later = h later
  operand_place (product first part parts) h later = inside (alone (one (row_of first (part ∷ parts)))) h later
  operand_place (sum first part parts) h later = inside (alone (row_of first (part ∷ parts))) h later
  operand_place (range left right) h later = inside (interval left right) h later

  product_place : (s : Tidied U V) → IsClean s → (later : ℕ) → product_bads words shape bads (as_product deeper brackets s) later ≡ []
  product_place (operand u) h later = h later
  product_place (product first part parts) h later = product_moves deeper below_words below_shapes below_bads words shape bads same moves (row_of first (part ∷ parts)) 0 later (h 0)
  product_place (sum first part parts) h later = inside (alone (row_of first (part ∷ parts))) h later
  product_place (range left right) h later = inside (interval left right) h later

  sum_place : (s : Tidied U V) → IsClean s → (later : ℕ) → sum_bads words shape bads (as_sum deeper brackets s) later ≡ []
  sum_place (operand u) h later = h later
  sum_place (product first part parts) h later = product_moves deeper below_words below_shapes below_bads words shape bads same moves (row_of first (part ∷ parts)) 0 later (h 0)
  sum_place (sum first part parts) h later = sum_moves deeper below_words below_shapes below_bads words shape bads same moves (row_of first (part ∷ parts)) 0 later (h 0)
  sum_place (range left right) h later = inside (interval left right) h later

  opened_place : (s : Tidied U V) → IsClean s → (later : ℕ) → tidied_bads bads words shape bads (opened deeper brackets s) later ≡ []
  opened_place (operand u) h later = h later
  opened_place (product first part parts) h later = product_moves deeper below_words below_shapes below_bads words shape bads same moves (row_of first (part ∷ parts)) 0 later (h 0)
  opened_place (sum first part parts) h later = sum_moves deeper below_words below_shapes below_bads words shape bads same moves (row_of first (part ∷ parts)) 0 later (h 0)
  opened_place (range left right) h later = ends_move deeper below_words below_shapes below_bads words shape bads same moves left right 0 later (h 0)

  module _ (tidy : U → Tidied U V) (range_law : (u : U) → tidied_range shape (tidy u) ≡ is_interval (shape u)) (law : (u : U) (at : ℕ) → bads u at ≡ [] → IsClean (tidy u)) where
    operand_same : (u : U) → is_interval (shape (as_operand deeper brackets (tidy u))) ≡ is_interval (shape u)
    operand_same = operand_interval deeper brackets shape below_shapes inside_shape tidy range_law

    operand_passes : (u : U) (at later : ℕ) → bads u at ≡ [] → bads (as_operand deeper brackets (tidy u)) later ≡ []
    operand_passes u at later h = operand_place (tidy u) (law u at h) later

    -- an operand that may be no interval
    tidied_part_passes : (u : U) (at later : ℕ) → part_bads shape bads u at ≡ [] → part_bads shape bads (as_operand deeper brackets (tidy u)) later ≡ []
    tidied_part_passes = part_passes shape bads shape bads (λ u. as_operand deeper brackets (tidy u)) operand_same operand_passes

    -- several operands
    factors_pass : (first : U) (part : Multiplying × U) (parts : List (Multiplying × U)) (at later : ℕ)
        → product_bads words shape bads (row_of first (part ∷ parts)) at ≡ [] → product_bads words shape bads (row_of (as_operand deeper brackets (tidy first)) (map (tidied_part deeper brackets tidy) (part ∷ parts))) later ≡ []
    factors_pass first part parts at later h =
        parts_pass shape bads shape bads (λ u. as_operand deeper brackets (tidy u)) operand_same operand_passes (λ s. s) (size words) (size words) first (part ∷ parts) at later h

    by_passes : (first : U) (rest : List (Multiplying × U)) (at later : ℕ)
        → product_bads words shape bads (row_of first rest) at ≡ [] → product_bads words shape bads (product_by deeper brackets tidy first rest) later ≡ []
    by_passes first [] at later h = product_place (tidy first) (law first at h) later
    by_passes first (part ∷ parts) at later h = factors_pass first part parts at later h

    product_passes : (row : ProductOf U) (at later : ℕ) → product_bads words shape bads row at ≡ [] → product_bads words shape bads (tidied_product deeper brackets tidy row) later ≡ []
    product_passes row at later h = by_passes row.first row.rest at later h

    -- several items of a sum
    items_pass : (first : ProductOf U) (part : Adding × ProductOf U) (parts : List (Adding × ProductOf U)) (at later : ℕ)
        → sum_bads words shape bads (row_of first (part ∷ parts)) at ≡ []
        → sum_bads words shape bads (row_of (tidied_product deeper brackets tidy first) (map (tidied_item deeper brackets tidy) (part ∷ parts))) later ≡ []
    items_pass first part parts at later h =
        parts_pass (product_shape shape) (product_bads words shape bads) (product_shape shape) (product_bads words shape bads) (tidied_product deeper brackets tidy)
        (product_interval deeper brackets shape below_shapes inside_shape tidy range_law) product_passes (λ s. s) (size (product_words words)) (size (product_words words)) first (part ∷ parts) at later h

    end_lone_passes : (first : U) (rest : List (Multiplying × U)) (at later : ℕ)
        → product_bads words shape bads (row_of first rest) at ≡ [] → sum_bads words shape bads (end_lone_by deeper brackets tidy first rest) later ≡ []
    end_lone_passes first [] at later h = sum_place (tidy first) (law first at h) later
    end_lone_passes first (part ∷ parts) at later h = factors_pass first part parts at later h

    end_by_passes : (first : ProductOf U) (rest : List (Adding × ProductOf U)) (at later : ℕ)
        → sum_bads words shape bads (row_of first rest) at ≡ [] → sum_bads words shape bads (end_by deeper brackets tidy first rest) later ≡ []
    end_by_passes first [] at later h = end_lone_passes first.first first.rest at later h
    end_by_passes first (part ∷ parts) at later h = items_pass first part parts at later h

    end_passes : (row : SumOf U) (at later : ℕ) → part_bads (sum_shape shape) (sum_bads words shape bads) row at ≡ [] → part_bads (sum_shape shape) (sum_bads words shape bads) (tidied_end deeper brackets tidy row) later ≡ []
    end_passes =
        part_passes (sum_shape shape) (sum_bads words shape bads) (sum_shape shape) (sum_bads words shape bads) (tidied_end deeper brackets tidy)
        (end_interval deeper brackets shape below_shapes inside_shape tidy range_law) (λ row. end_by_passes row.first row.rest)

    lone_passes : (first : U) (rest : List (Multiplying × U)) (at later : ℕ)
        → product_bads words shape bads (row_of first rest) at ≡ [] → tidied_bads bads words shape bads (lone_by deeper brackets tidy first rest) later ≡ []
    lone_passes first [] at later h = opened_place (tidy first) (law first at h) later
    lone_passes first (part ∷ parts) at later h = factors_pass first part parts at later h

    whole_by_passes : (first : ProductOf U) (rest : List (Adding × ProductOf U)) (at later : ℕ)
        → sum_bads words shape bads (row_of first rest) at ≡ [] → tidied_bads bads words shape bads (whole_by deeper brackets tidy first rest) later ≡ []
    whole_by_passes first [] at later h = lone_passes first.first first.rest at later h
    whole_by_passes first (part ∷ parts) at later h = items_pass first part parts at later h

    -- a term
    whole_passes : (x : TermOf U) (at later : ℕ) → term_bads words shape bads x at ≡ [] → tidied_bads bads words shape bads (tidied_whole deeper brackets tidy x) later ≡ []
    whole_passes (alone s) at later h = whole_by_passes s.first s.rest at later h
    whole_passes (interval left right) at later h = both_pass (end_passes left at later) (end_passes right _ _) h

-- ---- level by level
abbrev below_words : (n : ℕ) → Below n → List Word → List Word
below_words zero u rest = absurd u
below_words (suc n) u rest = operand_words n u rest

abbrev below_bads : (n : ℕ) → Below n → ℕ → List ℕ
below_bads zero u at = absurd u
below_bads (suc n) u at = operand_bads n u at

from_below_bads : (n : ℕ) (u : Below n) (at later : ℕ) → below_bads n u at ≡ [] → operand_bads n (from_below n u) later ≡ []
from_below_bads zero u at later h = absurd u
from_below_bads (suc n) u at later h = lifted_bads n u at later h

bracketed_bads : (n : ℕ) (x : TermOf (Below n)) → ((at : ℕ) → term_bads (below_words n) (below_shape n) (below_bads n) x at ≡ []) → (later : ℕ) → operand_bads n (bracketed n x) later ≡ []
bracketed_bads zero (alone s) h later = absurd s.first.first
bracketed_bads zero (interval left right) h later = absurd left.first.first
bracketed_bads (suc n) x h later = h (later + 1)

module _ (n : ℕ) (law : (u : Operand n) (at : ℕ) → operand_bads n u at ≡ [] → (later : ℕ) → tidied_bads (operand_bads n) (below_words n) (below_shape n) (below_bads n) (tidied n u) later ≡ []) where
  tidied_whole_bads : (x : TermOf (Operand n)) (at later : ℕ) → term_bads (operand_words n) (operand_shape n) (operand_bads n) x at ≡ []
      → tidied_bads (operand_bads n) (operand_words n) (operand_shape n) (operand_bads n) (tidied_whole (from_below n) (bracketed n) (tidied n) x) later ≡ []
  tidied_whole_bads =
      whole_passes (from_below n) (bracketed n) (operand_words n) (operand_shape n) (operand_bads n) (below_words n) (below_shape n) (below_bads n) (from_below_shape n) (from_below_bads n) (bracketed_shape n) (bracketed_bads n)
      (tidied n) (tidied_operand_range n) law

  tidied_term_bads : (x : TermOf (Operand n)) (at later : ℕ) → term_bads (operand_words n) (operand_shape n) (operand_bads n) x at ≡ []
      → term_bads (operand_words n) (operand_shape n) (operand_bads n) (tidied_term n (tidied n) x) later ≡ []
  tidied_term_bads x at later h = term_place (operand_words n) (operand_shape n) (operand_bads n) (tidied_whole (from_below n) (bracketed n) (tidied n) x) later (tidied_whole_bads x at later h)

  tidied_args_bads : (args : ArgsOf (Operand n)) (at later : ℕ) → args_bads (operand_words n) (operand_shape n) (operand_bads n) args at ≡ []
      → args_bads (operand_words n) (operand_shape n) (operand_bads n) (tidied_args n (tidied n) args) later ≡ []
  tidied_args_bads args at later h =
      along_passes (term_bads (operand_words n) (operand_shape n) (operand_bads n)) (size (term_words (operand_words n))) (term_bads (operand_words n) (operand_shape n) (operand_bads n)) (size (term_words (operand_words n)))
      (tidied_term n (tidied n)) tidied_term_bads (λ s. s) args.first args.rest at later h

  tidied_atom_bads : (a : AtomOf (Operand n)) (at later : ℕ) → atom_bads (operand_words n) (operand_shape n) (operand_bads n) a at ≡ []
      → atom_bads (operand_words n) (operand_shape n) (operand_bads n) (tidied_atom n (tidied n) a) later ≡ []
  tidied_atom_bads (plain name) at later h = refl
  tidied_atom_bads (applied name args) at later h = tidied_args_bads args (at + 2) (later + 2) h

  ungrouped_bads : (s : Tidied (Operand n) (Operand n)) (later : ℕ) → tidied_bads (operand_bads n) (operand_words n) (operand_shape n) (operand_bads n) s later ≡ []
      → tidied_bads (operand_bads (suc n)) (operand_words n) (operand_shape n) (operand_bads n) (ungrouped (lifted n) s) later ≡ []
  ungrouped_bads (operand u) later h = lifted_bads n u later later h
  ungrouped_bads (product first part parts) later h = h
  ungrouped_bads (sum first part parts) later h = h
  ungrouped_bads (range left right) later h = h

  tidied_unary_bads : (u : UnaryOf (Operand n) (Room n)) (at : ℕ) → unary_bads (operand_words n) (operand_shape n) (operand_bads n) u at ≡ []
      → (later : ℕ) → tidied_bads (operand_bads (suc n)) (operand_words n) (operand_shape n) (operand_bads n) (tidied_unary n (tidied n) u) later ≡ []
  tidied_unary_bads (negated d) at h later =
      tidied_part_passes (from_below n) (bracketed n) (operand_words n) (operand_shape n) (operand_bads n) (below_words n) (below_shape n) (below_bads n) (from_below_shape n) (from_below_bads n) (bracketed_shape n) (bracketed_bads n)
      (tidied n) (tidied_operand_range n) law d (at + 1) (later + 1) h
  tidied_unary_bads (number k) at h later = refl
  tidied_unary_bads (text bytes) at h later = refl
  tidied_unary_bads (variable name) at h later = refl
  tidied_unary_bads anonymous at h later = refl
  tidied_unary_bads (atom a) at h later = tidied_atom_bads a at later h
  tidied_unary_bads (unit room) at h later = refl
  tidied_unary_bads (group x) at h later = ungrouped_bads (tidied_whole (from_below n) (bracketed n) (tidied n) x) later (tidied_whole_bads x (at + 1) later h)
  tidied_unary_bads (single x) at h later = tidied_term_bads x (at + 1) (later + 1) h
  tidied_unary_bads (tuple x args) at h later = both_pass (tidied_term_bads x (at + 1) (later + 1)) (tidied_args_bads args _ _) h

-- what a tidied operand is without its parentheses
tidied_operand_bads : (n : ℕ) (u : Operand n) (at : ℕ) → operand_bads n u at ≡ []
    → (later : ℕ) → tidied_bads (operand_bads n) (below_words n) (below_shape n) (below_bads n) (tidied n u) later ≡ []
tidied_operand_bads zero u at h later = absurd u
tidied_operand_bads (suc n) u at h later = tidied_unary_bads n (tidied_operand_bads n) u at h later

-- a tidied term
pub term_bads_pass : (n : ℕ) (x : TermOf (Operand n)) (at later : ℕ) → term_bads (operand_words n) (operand_shape n) (operand_bads n) x at ≡ []
    → term_bads (operand_words n) (operand_shape n) (operand_bads n) (tidied_term n (tidied n) x) later ≡ []
term_bads_pass n = tidied_term_bads n (tidied_operand_bads n)

-- a tidied atom
pub atom_bads_pass : (n : ℕ) (a : AtomOf (Operand n)) (at later : ℕ) → atom_bads (operand_words n) (operand_shape n) (operand_bads n) a at ≡ []
    → atom_bads (operand_words n) (operand_shape n) (operand_bads n) (tidied_atom n (tidied n) a) later ≡ []
atom_bads_pass n = tidied_atom_bads n (tidied_operand_bads n)

-- a tidied operand, as an operand
pub operand_bads_pass : (n : ℕ) (u : Operand n) (at later : ℕ) → operand_bads n u at ≡ [] → operand_bads n (as_operand (from_below n) (bracketed n) (tidied n u)) later ≡ []
operand_bads_pass n u at later h =
    operand_place (from_below n) (bracketed n) (operand_words n) (operand_shape n) (operand_bads n) (below_words n) (below_shape n) (below_bads n) (from_below_shape n) (from_below_bads n) (bracketed_shape n) (bracketed_bads n)
    (tidied n u) (tidied_operand_bads n u at h) later
