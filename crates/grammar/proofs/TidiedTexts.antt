-- The printed text of a term is the words of the tidied term, with nothing between them.
use Rattle.std.proofs.Common.{◌≡◌, ℕ, zero, suc, ◌==◌, ◌&&◌, Bool, true, false, if◌then◌else◌, List, [], ◌∷◌, ◌++◌, map, length, codes, pos, decimal, refl, sym, ap, ◌∙◌, append_assoc}
use Rattle.std.specs.List.{AllByRecursion}
use Rattle.symbols.specs.Text.{quoted, closing}
use Rattle.syntax_tree.specs.declared.rule.Name.{Name}
use Rattle.syntax_tree.specs.declared.term.Op.{Op}
use Rattle.syntax_tree.specs.declared.term.Op.TheVariants as op
use Rattle.syntax_tree.specs.declared.term.Part.{Part}
use Rattle.syntax_tree.specs.declared.term.Term.{Term, roll-Term}
use Rattle.syntax_tree.specs.declared.term.Term.TheOpen.{Term-F}
use Rattle.syntax_tree.specs.declared.term.Term.TheFolds.{fold-roll-Term}
use Rattle.syntax_tree.specs.declared.term.Term.TheVariants as t
use Rattle.syntax_tree.specs.declared.term_text.Joining.{Joining}
use Rattle.syntax_tree.specs.declared.term_text.Joining.TheVariants as j
use Rattle.syntax_tree.specs.Printed.{Written, each_behind, parted, texts, within, op_text, number_written, variable_text, nested_text, function_text, further_text, parts_text, term_step, part_step, written, part_written, term_text}
use Rattle.syntax_tree.proofs.WriteLemmas.{at_part}
use Rattle.grammar.specs.declared.mark.Mark.TheVariants as m
use Rattle.grammar.specs.Word.{Word}
use Rattle.grammar.specs.Word as word
use Rattle.grammar.specs.WordText.{word_text, words_text}
use Rattle.grammar.specs.Row.{Row, row_words, tail_words}
use Rattle.grammar.specs.Term.{Adding, plus, minus, Multiplying, times, divide, remainder, ProductOf, SumOf, TermOf, ArgsOf, AtomOf, UnaryOf, Operand, Room, alone, interval, plain, applied, negated, number, text, variable, anonymous, atom, unit, group, single, tuple, adding_word, multiplying_word, comma_word, product_words, sum_words, term_words, args_words, atom_words, unary_words, operand_words}
use Rattle.grammar.specs.Tree.{number_of, part_of, parts_tree, adding_op, multiplying_op, product_tree, sum_tree, term_tree, args_trees, atom_tree, unary_tree, operand_tree}
use Rattle.grammar.specs.AllWords.{AllItems, AllTerm, AllArgs, AllAtom, AllUnary, AllOperand}
use Rattle.grammar.specs.Tidied.{map_row, lifted, Tidied, operand, product, sum, range, row_of, one, as_operand, as_product, as_sum, opened, tidied_part, product_by, tidied_product, tidied_item, lone_by, whole_by, end_lone_by, end_by, tidied_end, tidied_whole, as_term, ungrouped, Below, from_below, bracketed, tidied_term, tidied_args, tidied_atom, tidied_unary, tidied}
use Rattle.grammar.proofs.LiftedLaws.{product_same, sum_same, lifted_words}

-- ---- lists
pub two_behind : (a b rest : List ℕ) → (a ++ b) ++ rest ≡ a ++ (b ++ rest)
two_behind a b rest = append_assoc a b rest

pub three_behind : (a b c rest : List ℕ) → (a ++ b ++ c) ++ rest ≡ a ++ (b ++ (c ++ rest))
three_behind a b c rest = append_assoc (a ++ b) c rest ∙ append_assoc a b (c ++ rest)

-- ---- the layers of a term's text
pub sum_written : (names : List Name) (parts : List Part) → written names (t.Sum parts) ≡ record { text = parts_text j.Product (map (part_written names) parts); joining = j.Sum }
unfolding roll-Term denote.Hole.Carrier.roll
sum_written names parts = fold-roll-Term Written (Op × Written) (term_step names) part_step (Term-F.Sum parts)

pub product_written : (names : List Name) (parts : List Part) → written names (t.Product parts) ≡ record { text = parts_text j.Operand (map (part_written names) parts); joining = j.Product }
unfolding roll-Term denote.Hole.Carrier.roll
product_written names parts = fold-roll-Term Written (Op × Written) (term_step names) part_step (Term-F.Product parts)

pub minus_written : (names : List Name) (x : Term) → written names (t.Minus x) ≡ record { text = codes "-" ++ within j.Operand (written names x); joining = j.Operand }
unfolding roll-Term denote.Hole.Carrier.roll
minus_written names x = fold-roll-Term Written (Op × Written) (term_step names) part_step (Term-F.Minus x)

pub interval_written : (names : List Name) (x y : Term)
    → written names (t.Interval x y) ≡ record { text = within j.Sum (written names x) ++ codes ".." ++ within j.Sum (written names y); joining = j.Interval }
unfolding roll-Term denote.Hole.Carrier.roll
interval_written names x y = fold-roll-Term Written (Op × Written) (term_step names) part_step (Term-F.Interval x y)

pub number_is : (names : List Name) (n : ℕ) → written names (t.Number (pos n)) ≡ record { text = decimal n; joining = j.Operand }
unfolding roll-Term denote.Hole.Carrier.roll
number_is names n = fold-roll-Term Written (Op × Written) (term_step names) part_step (Term-F.Number (pos n))

pub string_written : (names : List Name) (bytes : List ℕ) → written names (t.Text bytes) ≡ record { text = codes "\"" ++ quoted bytes ++ codes "\""; joining = j.Operand }
unfolding roll-Term denote.Hole.Carrier.roll
string_written names bytes = fold-roll-Term Written (Op × Written) (term_step names) part_step (Term-F.Text bytes)

pub variable_written : (names : List Name) (n : ℕ) → written names (t.Variable n) ≡ record { text = variable_text names n; joining = j.Operand }
unfolding roll-Term denote.Hole.Carrier.roll
variable_written names n = fold-roll-Term Written (Op × Written) (term_step names) part_step (Term-F.Variable n)

pub anonymous_written : (names : List Name) → written names t.Anonymous ≡ record { text = codes "_"; joining = j.Operand }
unfolding roll-Term denote.Hole.Carrier.roll
anonymous_written names = fold-roll-Term Written (Op × Written) (term_step names) part_step Term-F.Anonymous

pub function_written : (names : List Name) (name : List ℕ) (args : List Term)
    → written names (t.Function name args) ≡ record { text = function_text name (texts (map (written names) args)); joining = j.Operand }
unfolding roll-Term denote.Hole.Carrier.roll
function_written names name args = fold-roll-Term Written (Op × Written) (term_step names) part_step (Term-F.Function name args)

pub tuple_written : (names : List Name) (args : List Term) → written names (t.Tuple args) ≡ record { text = nested_text [] (texts (map (written names) args)); joining = j.Operand }
unfolding roll-Term denote.Hole.Carrier.roll
tuple_written names args = fold-roll-Term Written (Op × Written) (term_step names) part_step (Term-F.Tuple args)

-- ---- rows of items, each in its place
module _ {I J S : Type 0} (names : List Name) (limit : Joining) (tree : I → Term) (place : I → J) (words : J → List Word → List Word) (op_of : S → Op) (sign : S → Word)
    (signed : (s : S) → op_text (op_of s) ≡ word_text (sign s)) where
  -- the text of an item is the words of the item in its place
  abbrev pub IsPlaced : I → Type 0
  IsPlaced x = (rest : List Word) → within limit (written names (tree x)) ++ words_text rest ≡ words_text (words (place x) rest)

  abbrev placed : S × I → S × J
  placed p = (p.0, place p.1)

  further : (parts : List (S × I)) (rest : List Word) → AllByRecursion (λ (p : S × I). IsPlaced p.1) parts
      → further_text limit (map (part_written names) (map (λ (p : S × I). part_of (op_of p.0) (tree p.1)) parts)) ++ words_text rest ≡ words_text (tail_words words sign (map (λ (p : S × I). (p.0, place p.1)) parts) rest)
  further [] rest all = refl
  further (part ∷ parts) rest all =
      ap (λ w. (op_text w.0 ++ within limit w.1 ++ further_text limit (map (part_written names) (map (λ (p : S × I). part_of (op_of p.0) (tree p.1)) parts))) ++ words_text rest)
      (at_part names (part_of (op_of part.0) (tree part.1)))
      ∙ three_behind (op_text (op_of part.0)) (within limit (written names (tree part.1))) (further_text limit (map (part_written names) (map (λ (p : S × I). part_of (op_of p.0) (tree p.1)) parts))) (words_text rest)
      ∙ (λ i. signed part.0 i ++ (within limit (written names (tree part.1)) ++ further parts rest all.1 i))
      ∙ ap (λ l. word_text (sign part.0) ++ l) (all.0 (tail_words words sign (map (λ (p : S × I). (p.0, place p.1)) parts) rest))

  pub row_text : (first_op : Op) (first : I) (parts : List (S × I)) (rest : List Word) → IsPlaced first → AllByRecursion (λ (p : S × I). IsPlaced p.1) parts
      → parts_text limit (map (part_written names) (part_of first_op (tree first) ∷ map (λ (p : S × I). part_of (op_of p.0) (tree p.1)) parts)) ++ words_text rest
      ≡ words_text (row_words words sign (row_of (place first) (map (λ (p : S × I). (p.0, place p.1)) parts)) rest)
  row_text first_op first parts rest here all =
      ap (λ w. (within limit w.1 ++ further_text limit (map (part_written names) (map (λ (p : S × I). part_of (op_of p.0) (tree p.1)) parts))) ++ words_text rest)
      (at_part names (part_of first_op (tree first)))
      ∙ two_behind (within limit (written names (tree first))) (further_text limit (map (part_written names) (map (λ (p : S × I). part_of (op_of p.0) (tree p.1)) parts))) (words_text rest)
      ∙ ap (λ l. within limit (written names (tree first)) ++ l) (further parts rest all)
      ∙ here (tail_words words sign (map (λ (p : S × I). (p.0, place p.1)) parts) rest)

pub adding_signed : (s : Adding) → op_text (adding_op s) ≡ word_text (adding_word s)
adding_signed plus = refl
adding_signed minus = refl

pub multiplying_signed : (s : Multiplying) → op_text (multiplying_op s) ≡ word_text (multiplying_word s)
multiplying_signed times = refl
multiplying_signed divide = refl
multiplying_signed remainder = refl

-- ---- a tidied term's words, and how they are joined
abbrev pub tidied_words : {U V : Type 0} → (U → List Word → List Word) → (V → List Word → List Word) → Tidied U V → List Word → List Word
tidied_words words below (operand u) rest = words u rest
tidied_words words below (product first part parts) rest = product_words below (row_of first (part ∷ parts)) rest
tidied_words words below (sum first part parts) rest = sum_words below (row_of first (part ∷ parts)) rest
tidied_words words below (range left right) rest = sum_words below left (word.mark m.Dots ∷ sum_words below right rest)

abbrev pub tidied_joining : {U V : Type 0} → Tidied U V → Joining
tidied_joining (operand u) = j.Operand
tidied_joining (product first part parts) = j.Product
tidied_joining (sum first part parts) = j.Sum
tidied_joining (range left right) = j.Interval

pub record IsWritten {U V : Type 0} (words : U → List Word → List Word) (below : V → List Word → List Word) (w : Written) (s : Tidied U V) : Type 0 where
  pub text : (rest : List Word) → w.text ++ words_text rest ≡ words_text (tidied_words words below s rest)
  pub joining : w.joining ≡ tidied_joining s

joined_as : (limit : Joining) (w : Written) (joining : Joining) → w.joining ≡ joining → within limit w ≡ within limit (record { text = w.text; joining = joining })
joined_as limit w joining h = ap (λ x. within limit (record { text = w.text; joining = x })) h

in_brackets : (bytes : List ℕ) (words : List Word → List Word) (rest : List Word) → ((more : List Word) → bytes ++ words_text more ≡ words_text (words more))
    → (codes "(" ++ bytes ++ codes ")") ++ words_text rest ≡ words_text (word.mark m.Open ∷ words (word.mark m.Close ∷ rest))
in_brackets bytes words rest h = ap (λ l. 40 ∷ l) (append_assoc bytes (codes ")") (words_text rest) ∙ h (word.mark m.Close ∷ rest))

pub term_place_text : {U : Type 0} (words : U → List Word → List Word) (s : Tidied U U) (rest : List Word) → term_words words (as_term s) rest ≡ tidied_words words words s rest
term_place_text words (operand u) rest = refl
term_place_text words (product first part parts) rest = refl
term_place_text words (sum first part parts) rest = refl
term_place_text words (range left right) rest = refl

module _ {U V : Type 0} (deeper : V → U) (brackets : TermOf V → U) (words : U → List Word → List Word) (below : V → List Word → List Word)
    (same : (v : V) (rest : List Word) → words (deeper v) rest ≡ below v rest) (inside : (x : TermOf V) (rest : List Word) → words (brackets x) rest ≡ word.mark m.Open ∷ term_words below x (word.mark m.Close ∷ rest)) where
  pub operand_text : (w : Written) (s : Tidied U V) (rest : List Word) → IsWritten words below w s → within j.Operand w ++ words_text rest ≡ words_text (words (as_operand deeper brackets s) rest)
  operand_text w (operand u) rest h = ap (λ l. l ++ words_text rest) (joined_as j.Operand w j.Operand h.joining) ∙ h.text rest
  operand_text w (product first part parts) rest h =
      ap (λ l. l ++ words_text rest) (joined_as j.Operand w j.Product h.joining)
      ∙ in_brackets w.text (product_words below (row_of first (part ∷ parts))) rest h.text
      ∙ ap words_text (sym (inside (alone (one (row_of first (part ∷ parts)))) rest))
  operand_text w (sum first part parts) rest h =
      ap (λ l. l ++ words_text rest) (joined_as j.Operand w j.Sum h.joining)
      ∙ in_brackets w.text (sum_words below (row_of first (part ∷ parts))) rest h.text
      ∙ ap words_text (sym (inside (alone (row_of first (part ∷ parts))) rest))
  operand_text w (range left right) rest h =
      ap (λ l. l ++ words_text rest) (joined_as j.Operand w j.Interval h.joining)
      ∙ in_brackets w.text (term_words below (interval left right)) rest h.text
      ∙ ap words_text (sym (inside (interval left right) rest))

  pub product_text : (w : Written) (s : Tidied U V) (rest : List Word) → IsWritten words below w s → within j.Product w ++ words_text rest ≡ words_text (product_words words (as_product deeper brackets s) rest)
  product_text w (operand u) rest h = ap (λ l. l ++ words_text rest) (joined_as j.Product w j.Operand h.joining) ∙ h.text rest
  product_text w (product first part parts) rest h =
      ap (λ l. l ++ words_text rest) (joined_as j.Product w j.Product h.joining) ∙ h.text rest
      ∙ ap words_text (sym (product_same deeper below words same (row_of first (part ∷ parts)) rest))
  product_text w (sum first part parts) rest h =
      ap (λ l. l ++ words_text rest) (joined_as j.Product w j.Sum h.joining)
      ∙ in_brackets w.text (sum_words below (row_of first (part ∷ parts))) rest h.text
      ∙ ap words_text (sym (inside (alone (row_of first (part ∷ parts))) rest))
  product_text w (range left right) rest h =
      ap (λ l. l ++ words_text rest) (joined_as j.Product w j.Interval h.joining)
      ∙ in_brackets w.text (term_words below (interval left right)) rest h.text
      ∙ ap words_text (sym (inside (interval left right) rest))

  pub sum_text : (w : Written) (s : Tidied U V) (rest : List Word) → IsWritten words below w s → within j.Sum w ++ words_text rest ≡ words_text (sum_words words (as_sum deeper brackets s) rest)
  sum_text w (operand u) rest h = ap (λ l. l ++ words_text rest) (joined_as j.Sum w j.Operand h.joining) ∙ h.text rest
  sum_text w (product first part parts) rest h =
      ap (λ l. l ++ words_text rest) (joined_as j.Sum w j.Product h.joining) ∙ h.text rest
      ∙ ap words_text (sym (product_same deeper below words same (row_of first (part ∷ parts)) rest))
  sum_text w (sum first part parts) rest h =
      ap (λ l. l ++ words_text rest) (joined_as j.Sum w j.Sum h.joining) ∙ h.text rest
      ∙ ap words_text (sym (sum_same deeper below words same (row_of first (part ∷ parts)) rest))
  sum_text w (range left right) rest h =
      ap (λ l. l ++ words_text rest) (joined_as j.Sum w j.Interval h.joining)
      ∙ in_brackets w.text (term_words below (interval left right)) rest h.text
      ∙ ap words_text (sym (inside (interval left right) rest))

  opened_words : (s : Tidied U V) (rest : List Word) → tidied_words words words (opened deeper brackets s) rest ≡ tidied_words words below s rest
  opened_words (operand u) rest = refl
  opened_words (product first part parts) rest = product_same deeper below words same (row_of first (part ∷ parts)) rest
  opened_words (sum first part parts) rest = sum_same deeper below words same (row_of first (part ∷ parts)) rest
  opened_words (range left right) rest =
      ap (λ l. sum_words words (map_row (map_row deeper) left) (word.mark m.Dots ∷ l)) (sum_same deeper below words same right rest)
      ∙ sum_same deeper below words same left (word.mark m.Dots ∷ sum_words below right rest)

  opened_joining : (s : Tidied U V) → tidied_joining (opened deeper brackets s) ≡ tidied_joining s
  opened_joining (operand u) = refl
  opened_joining (product first part parts) = refl
  opened_joining (sum first part parts) = refl
  opened_joining (range left right) = refl

  pub opened_text : (w : Written) (s : Tidied U V) → IsWritten words below w s → IsWritten words words w (opened deeper brackets s)
  opened_text w s h = record { text = λ rest. h.text rest ∙ ap words_text (sym (opened_words s rest)); joining = h.joining ∙ sym (opened_joining s) }
