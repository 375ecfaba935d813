-- The trees of terms whose words are written well keep the rules on terms.
use Rattle.std.proofs.Common.{◌≡◌, ℕ, zero, suc, ◌+◌, Bool, true, ◌&&◌, List, [], ◌∷◌, ◌++◌, map, refl, ◌∙◌, ap}
use Rattle.std.specs.List.{AllByRecursion, list_all}
use Rattle.std.proofs.lemmas.Bool.{and_from}
use Rattle.std.proofs.lemmas.List.Folds.{list_all-map}
use Rattle.syntax_tree.specs.declared.rule.Name.{Name}
use Rattle.syntax_tree.specs.declared.term.Op.{Op}
use Rattle.syntax_tree.specs.declared.term.Op.TheVariants as op
use Rattle.syntax_tree.specs.declared.term.Part.{Part}
use Rattle.syntax_tree.specs.declared.term.Term.{Term}
use Rattle.syntax_tree.specs.declared.term.Term.TheVariants as t
use Rattle.syntax_tree.specs.Tree.{is_term, is_part, are_parts, begins_sum, adds, begins_product, multiplies}
use Rattle.syntax_tree.proofs.TreeRules.{number_rules, text_rules, variable_rules, anonymous_rules, function_rules, tuple_rules, sum_rules, product_rules, minus_rules, interval_rules, one_part}
use Rattle.grammar.specs.declared.shape.Shape.{Shape}
use Rattle.grammar.specs.declared.shape.Shape.TheVariants as shape
use Rattle.grammar.specs.declared.mark.Mark.TheVariants as m
use Rattle.grammar.specs.Word.{Word}
use Rattle.grammar.specs.Word as word
use Rattle.grammar.specs.Written.{AreWritten}
use Rattle.grammar.specs.Rules.{HaveNames}
use Rattle.grammar.specs.Row.{Row, tail_words, row_words}
use Rattle.grammar.specs.Term.{Adding, plus, minus, Multiplying, times, divide, remainder, adding_word, multiplying_word, comma_word, UnaryOf, alone, interval, plain, applied, negated, number, text, variable, anonymous, atom, unit, group, single, tuple, product_words, sum_words, term_words, args_words, atom_words, unary_words, operand_words}
use Rattle.grammar.specs.Shape.{term_shape, operand_shape}
use Rattle.grammar.specs.Tree.{part_of, parts_tree, adding_op, multiplying_op, product_tree, sum_tree, term_tree, args_trees, atom_tree, unary_tree, operand_tree}
use Rattle.grammar.specs.Sight.{Sighting, size, along_tail, along, argument_by, product_sights, sum_sights, term_sights, argument_sights, args_sights, atom_sights, unary_sights, operand_sights}
use Rattle.grammar.specs.StatementTree.{items}

-- well-written words of a form say this of it; what stands behind is written well too
abbrev pub Says : {A : Type 0} → (A → List Word → List Word) → (A → Type 0) → Type 0
Says {A} words claim = (a : A) (rest : List Word) → AreWritten (words a rest) → claim a × AreWritten rest

-- its tree keeps the rules, and each variable that is seen in it has a name
pub record Sound {A : Type 0} (good : A → Bool) (sights : A → ℕ → List Sighting) (a : A) : Type 0 where
  pub tree : good a ≡ true
  pub names : (at : ℕ) → HaveNames (sights a at)

pub names_append : (xs ys : List Sighting) → HaveNames xs → HaveNames ys → HaveNames (xs ++ ys)
names_append [] ys h k = k
names_append (x ∷ xs) ys h k = (h.0, names_append xs ys h.1 k)

pub all_mapped : {X : Type 0} (test : X → Bool) (xs : List X) → list_all test xs ≡ true → list_all (λ b. b) (map test xs) ≡ true
all_mapped test xs h = list_all-map (λ b. b) test xs ∙ h

-- ---- rows
module _ {I S : Type 0} (item_words : I → List Word → List Word) (sign_word : S → Word) (claim : I → Type 0) (says : Says item_words claim) where
  tail_says : (parts : List (S × I)) (rest : List Word) → AreWritten (tail_words item_words sign_word parts rest) → AllByRecursion (λ p. claim p.1) parts × AreWritten rest
  tail_says [] rest h = (tt, h)
  tail_says (part ∷ parts) rest h =
      let here = says part.1 (tail_words item_words sign_word parts rest) h.1 in
      let there = tail_says parts rest here.1 in
      ((here.0, there.0), there.1)

  pub each_says : Says (row_words item_words sign_word) (λ row. claim row.first × AllByRecursion (λ p. claim p.1) row.rest)
  each_says row rest h =
      let here = says row.first (tail_words item_words sign_word row.rest rest) h in
      let there = tail_says row.rest rest here.1 in
      ((here.0, there.0), there.1)

module _ {I S : Type 0} (good : I → Bool) (gives : I → ℕ → List Sighting) (long : I → ℕ) where
  tail_names : (parts : List (S × I)) (at : ℕ) → AllByRecursion (λ p. Sound good gives p.1) parts → HaveNames (along_tail gives long parts at)
  tail_names [] at h = tt
  tail_names (part ∷ parts) at h = names_append (gives part.1 (at + 1)) _ (h.0.names (at + 1)) (tail_names parts (at + 1 + long part.1) h.1)

  pub row_names : (row : Row I S) (at : ℕ) → Sound good gives row.first → AllByRecursion (λ p. Sound good gives p.1) row.rest → HaveNames (along gives long row at)
  row_names row at first rest = names_append (gives row.first at) _ (first.names at) (tail_names row.rest (at + long row.first) rest)

-- a row whose items are listed
module _ {I S X : Type 0} (item_words : I → List Word → List Word) (sign_word : S → Word) (test : X → Bool) (tree : I → X) (gives : I → ℕ → List Sighting)
    (says : Says item_words (Sound (λ i. test (tree i)) gives)) where
  tail_items : (parts : List (S × I)) → AllByRecursion (λ p. Sound (λ i. test (tree i)) gives p.1) parts → list_all test (map (λ p. tree p.1) parts) ≡ true
  tail_items [] h = refl
  tail_items (part ∷ parts) h = and_from _ _ h.0.tree (tail_items parts h.1)

  pub list_says : Says (row_words item_words sign_word) (Sound (λ row. list_all test (items tree row)) (along gives (size item_words)))
  list_says row rest h =
      let all = each_says item_words sign_word (Sound (λ i. test (tree i)) gives) says row rest h in (
        record {
          tree = and_from _ _ all.0.0.tree (tail_items row.rest all.0.1);
          names = λ at. row_names (λ i. test (tree i)) gives (size item_words) row at all.0.0 all.0.1;
        },
        all.1,
      )

-- a row that is one list of parts where it has several
module _ {I S : Type 0} (item_words : I → List Word → List Word) (sign_word : S → Word) (item : I → Term) (gives : I → ℕ → List Sighting)
    (whole : List Part → Term) (first : Op) (sign : S → Op) (begins further : Op → Bool)
    (rules : (parts : List Part) → is_term (whole parts) ≡ are_parts begins further (map is_part parts))
    (begin : begins first ≡ true) (goes : (s : S) → further (sign s) ≡ true)
    (says : Says item_words (Sound (λ i. is_term (item i)) gives)) where
  abbrev Fine : I → Type 0
  Fine = Sound (λ i. is_term (item i)) gives

  part_is : (o : Op) (i : I) → Fine i → is_part (part_of o (item i)) ≡ (o, true)
  part_is o i h = one_part (part_of o (item i)) ∙ ap (λ b. (o, b)) h.tree

  parts_are : (parts : List (S × I)) → AllByRecursion (λ p. Fine p.1) parts → list_all (λ p. further p.0 && p.1) (map is_part (map (λ p. part_of (sign p.0) (item p.1)) parts)) ≡ true
  parts_are [] h = refl
  parts_are (part ∷ parts) h =
      and_from _ _ (ap (λ q. further q.0 && q.1) (part_is (sign part.0) part.1 h.0) ∙ and_from _ _ (goes part.0) refl) (parts_are parts h.1)

  tree_is : (i : I) (parts : List (S × I)) → Fine i → AllByRecursion (λ p. Fine p.1) parts → is_term (parts_tree whole first sign item i parts) ≡ true
  tree_is i [] h k = h.tree
  tree_is i (part ∷ parts) h k =
      let others : List Part = map (λ p. part_of (sign p.0) (item p.1)) (part ∷ parts) in
      let all : list_all (λ p. further p.0 && p.1) (map is_part others) ≡ true = parts_are (part ∷ parts) k in
      rules (part_of first (item i) ∷ others)
      ∙ ap (λ q. begins q.0 && q.1 && list_all (λ p. further p.0 && p.1) (map is_part others)) (part_is first i h)
      ∙ rw (begin, all) refl

  pub parts_say : Says (row_words item_words sign_word) (Sound (λ row. is_term (parts_tree whole first sign item row.first row.rest)) (along gives (size item_words)))
  parts_say row rest h =
      let all = each_says item_words sign_word Fine says row rest h in (
        record {
          tree = tree_is row.first row.rest all.0.0 all.0.1;
          names = λ at. row_names (λ i. is_term (item i)) gives (size item_words) row at all.0.0 all.0.1;
        },
        all.1,
      )

-- ---- terms over operands
adding_goes : (s : Adding) → adds (adding_op s) ≡ true
adding_goes plus = refl
adding_goes minus = refl

multiplying_goes : (s : Multiplying) → multiplies (multiplying_op s) ≡ true
multiplying_goes times = refl
multiplying_goes divide = refl
multiplying_goes remainder = refl

argument_names : (s : Shape) (at : ℕ) → HaveNames (argument_by s at)
argument_names shape.Atom at = tt
argument_names shape.Interval at = (refl, tt)
argument_names shape.Other at = tt

module _ {U : Type 0} (words : U → List Word → List Word) (shapes : U → Shape) (sights : U → ℕ → List Sighting) (tree : U → Term)
    (says : Says words (Sound (λ u. is_term (tree u)) sights)) where
  product_says : Says (product_words words) (Sound (λ p. is_term (product_tree tree p)) (product_sights words shapes sights))
  product_says = parts_say words multiplying_word tree sights t.Product op.Times multiplying_op begins_product multiplies product_rules refl multiplying_goes says

  sum_says : Says (sum_words words) (Sound (λ s. is_term (sum_tree tree s)) (sum_sights words shapes sights))
  sum_says =
      parts_say (product_words words) adding_word (product_tree tree) (product_sights words shapes sights) t.Sum op.Plus adding_op begins_sum adds sum_rules refl adding_goes product_says

  pub term_says : Says (term_words words) (Sound (λ t. is_term (term_tree tree t)) (term_sights words shapes sights))
  term_says (alone sum) rest h = let s = sum_says sum rest h in (record { tree = s.0.tree; names = s.0.names }, s.1)
  term_says (interval left right) rest h =
      let a = sum_says left (word.mark m.Dots ∷ sum_words words right rest) h in
      let b = sum_says right rest a.1.1 in (
        record {
          tree = interval_rules (sum_tree tree left) (sum_tree tree right) ∙ and_from _ _ a.0.tree b.0.tree;
          names = λ at. names_append (sum_sights words shapes sights left at) _ (a.0.names at) (b.0.names _);
        },
        b.1,
      )

  pub argument_says : Says (term_words words) (Sound (λ t. is_term (term_tree tree t)) (argument_sights words shapes sights))
  argument_says term rest h =
      let a = term_says term rest h in
      (record { tree = a.0.tree; names = λ at. names_append (argument_by (term_shape shapes term) at) _ (argument_names (term_shape shapes term) at) (a.0.names at) }, a.1)

  pub args_say : Says (args_words words) (Sound (λ args. list_all is_term (args_trees tree args)) (args_sights words shapes sights))
  args_say = list_says (term_words words) comma_word is_term (term_tree tree) (argument_sights words shapes sights) argument_says

-- ---- operands
module _ {D : Type 0} (words : D → List Word → List Word) (shapes : D → Shape) (sights : D → ℕ → List Sighting) (tree : D → Term)
    (says : Says words (Sound (λ d. is_term (tree d)) sights)) where
  pub atom_says : Says (atom_words words) (Sound (λ a. is_term (atom_tree tree a)) (atom_sights words shapes sights))
  atom_says (plain name) rest h = (record { tree = function_rules name [] ∙ and_from _ _ h.0 refl; names = λ at. tt }, h.1)
  atom_says (applied name args) rest h =
      let a = args_say words shapes sights tree says args (word.mark m.Close ∷ rest) h.1.1 in (
        record {
          tree = function_rules name (args_trees tree args) ∙ and_from _ _ h.0 (all_mapped is_term (args_trees tree args) a.0.tree);
          names = λ at. a.0.names (at + 2);
        },
        a.1.1,
      )

  module _ (names : List Name) where
    abbrev Operands : {R : Type 0} → UnaryOf D R → Type 0
    Operands {R} = Sound {A = UnaryOf D R} (λ u. is_term (unary_tree names tree u)) (unary_sights words shapes sights)

    pub unary_says : {R : Type 0} → Says {A = UnaryOf D R} (unary_words words) Operands
    unary_says (negated d) rest h = let a = says d rest h.1 in (record { tree = minus_rules (tree d) ∙ a.0.tree; names = λ at. a.0.names (at + 1) }, a.1)
    unary_says (number n) rest h = (record { tree = number_rules _; names = λ at. tt }, h.1)
    unary_says (text bytes) rest h = (record { tree = text_rules bytes ∙ h.0; names = λ at. tt }, h.1)
    unary_says (variable name) rest h = (record { tree = variable_rules _; names = λ at. (h.0, tt) }, h.1)
    unary_says anonymous rest h = (record { tree = anonymous_rules; names = λ at. (refl, tt) }, h.1)
    unary_says (atom a) rest h = let s = atom_says a rest h in (record { tree = s.0.tree; names = s.0.names }, s.1)
    unary_says (unit room) rest h = (record { tree = tuple_rules []; names = λ at. tt }, h.1.1)
    unary_says (group term) rest h =
        let a = term_says words shapes sights tree says term (word.mark m.Close ∷ rest) h.1 in
        (record { tree = a.0.tree; names = λ at. a.0.names (at + 1) }, a.1.1)
    unary_says (single term) rest h =
        let a = argument_says words shapes sights tree says term (word.mark m.Comma ∷ word.mark m.Close ∷ rest) h.1 in
        (record { tree = tuple_rules (term_tree tree term ∷ []) ∙ and_from _ _ a.0.tree refl; names = λ at. a.0.names (at + 1) }, a.1.1.1)
    unary_says (tuple term args) rest h =
        let a = argument_says words shapes sights tree says term (word.mark m.Comma ∷ args_words words args (word.mark m.Close ∷ rest)) h.1 in
        let b = args_say words shapes sights tree says args (word.mark m.Close ∷ rest) a.1.1 in (
          record {
            tree = tuple_rules (term_tree tree term ∷ args_trees tree args) ∙ and_from _ _ a.0.tree (all_mapped is_term (args_trees tree args) b.0.tree);
            names = λ at. names_append (argument_sights words shapes sights term (at + 1)) _ (a.0.names (at + 1)) (b.0.names _);
          },
          b.1.1,
        )

pub operand_says : (names : List Name) (n : ℕ) → Says (operand_words n) (Sound (λ d. is_term (operand_tree names n d)) (operand_sights n))
operand_says names zero operand rest h = absurd operand
operand_says names (suc n) operand rest h =
    let a = unary_says (operand_words n) (operand_shape n) (operand_sights n) (operand_tree names n) (operand_says names n) names operand rest h in
    (record { tree = a.0.tree; names = a.0.names }, a.1)
