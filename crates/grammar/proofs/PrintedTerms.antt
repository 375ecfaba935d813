-- The printed text of a term that was read is the words of the tidied term, level by level.
use Rattle.std.proofs.Common.{◌≡◌, ℕ, zero, suc, ◌==◌, ◌&&◌, Bool, true, false, if◌then◌else◌, List, [], ◌∷◌, ◌++◌, map, length, codes, refl, sym, ap, ◌∙◌, append_assoc, append-nil, arith}
use Rattle.std.proofs.lemmas.Bool.Decides.{nat_tests}
use Rattle.std.specs.List.{AllByRecursion}
use Rattle.symbols.specs.Text.{closing}
use Rattle.syntax_tree.specs.declared.rule.Name.{Name}
use Rattle.syntax_tree.specs.declared.term.Op.TheVariants as op
use Rattle.syntax_tree.specs.declared.term.Part.{Part}
use Rattle.syntax_tree.specs.declared.term.Term.{Term}
use Rattle.syntax_tree.specs.declared.term.Term.TheVariants as t
use Rattle.syntax_tree.specs.declared.term_text.Joining.TheVariants as j
use Rattle.syntax_tree.specs.Printed.{Written, each_behind, parted, texts, within, variable_text, nested_text, function_text, parts_text, written, part_written, term_text}
use Rattle.grammar.specs.declared.mark.Mark.TheVariants as m
use Rattle.grammar.specs.Word.{Word}
use Rattle.grammar.specs.Word as word
use Rattle.grammar.specs.WordText.{word_text, words_text}
use Rattle.grammar.specs.Row.{Row, tail_words}
use Rattle.grammar.specs.Term.{Adding, Multiplying, ProductOf, SumOf, TermOf, ArgsOf, AtomOf, UnaryOf, Operand, Room, alone, interval, plain, applied, negated, number, text, variable, anonymous, atom, unit, group, single, tuple, adding_word, multiplying_word, comma_word, product_words, sum_words, term_words, args_words, atom_words, operand_words}
use Rattle.grammar.specs.Tree.{number_of, part_of, adding_op, multiplying_op, product_tree, sum_tree, term_tree, args_trees, atom_tree, unary_tree, operand_tree}
use Rattle.grammar.specs.AllWords.{AllItems, AllTerm, AllArgs, AllAtom, AllUnary, AllOperand}
use Rattle.grammar.specs.Tidied.{lifted, Tidied, operand, product, sum, range, row_of, one, as_operand, tidied_part, product_by, tidied_product, tidied_item, lone_by, whole_by, end_lone_by, end_by, tidied_end, tidied_whole, ungrouped, Below, from_below, bracketed, tidied_term, tidied_args, tidied_atom, tidied_unary, tidied}
use Rattle.grammar.proofs.LiftedLaws.{lifted_words}
use Rattle.grammar.proofs.TidiedTexts.{three_behind, sum_written, product_written, minus_written, interval_written, number_is, string_written, variable_written, anonymous_written, function_written, tuple_written, adding_signed, multiplying_signed, row_text, IsWritten, term_place_text, operand_text, product_text, sum_text, opened_text}

module _ {U V : Type 0} (deeper : V → U) (brackets : TermOf V → U) (words : U → List Word → List Word) (below : V → List Word → List Word)
    (same : (v : V) (rest : List Word) → words (deeper v) rest ≡ below v rest) (inside : (x : TermOf V) (rest : List Word) → words (brackets x) rest ≡ word.mark m.Open ∷ term_words below x (word.mark m.Close ∷ rest))
    (names : List Name) (tree : U → Term) (tidy : U → Tidied U V) (Claim : U → Type 0) (law : (u : U) → Claim u → IsWritten words below (written names (tree u)) (tidy u)) where
  placed : (u : U) → Claim u → (rest : List Word) → within j.Operand (written names (tree u)) ++ words_text rest ≡ words_text (words (as_operand deeper brackets (tidy u)) rest)
  placed u c rest = operand_text deeper brackets words below same inside (written names (tree u)) (tidy u) rest (law u c)

  all_placed : (parts : List (Multiplying × U)) → AllByRecursion (λ (p : Multiplying × U). Claim p.1) parts
      → AllByRecursion (λ (p : Multiplying × U). (rest : List Word) → within j.Operand (written names (tree p.1)) ++ words_text rest ≡ words_text (words (as_operand deeper brackets (tidy p.1)) rest)) parts
  all_placed [] all = tt
  all_placed (part ∷ parts) all = (placed part.1 all.0, all_placed parts all.1)

  product_row : (first : U) (parts : List (Multiplying × U)) (rest : List Word) → Claim first → AllByRecursion (λ (p : Multiplying × U). Claim p.1) parts
      → parts_text j.Operand (map (part_written names) (part_of op.Times (tree first) ∷ map (λ (p : Multiplying × U). part_of (multiplying_op p.0) (tree p.1)) parts)) ++ words_text rest
      ≡ words_text (product_words words (row_of (as_operand deeper brackets (tidy first)) (map (λ (p : Multiplying × U). (p.0, as_operand deeper brackets (tidy p.1))) parts)) rest)
  product_row first parts rest c all =
      row_text names j.Operand tree (λ u. as_operand deeper brackets (tidy u)) words multiplying_op multiplying_word multiplying_signed op.Times first parts rest (placed first c) (all_placed parts all)

  by_text : (first : U) (parts : List (Multiplying × U)) (rest : List Word) → Claim first → AllByRecursion (λ (p : Multiplying × U). Claim p.1) parts
      → within j.Product (written names (product_tree tree (row_of first parts))) ++ words_text rest ≡ words_text (product_words words (product_by deeper brackets tidy first parts) rest)
  by_text first [] rest c all = product_text deeper brackets words below same inside (written names (tree first)) (tidy first) rest (law first c)
  by_text first (part ∷ parts) rest c all =
      ap (λ w. within j.Product w ++ words_text rest) (product_written names (part_of op.Times (tree first) ∷ map (λ (p : Multiplying × U). part_of (multiplying_op p.0) (tree p.1)) (part ∷ parts)))
      ∙ product_row first (part ∷ parts) rest c all

  product_is : (row : ProductOf U) (rest : List Word) → AllItems Claim row
      → within j.Product (written names (product_tree tree row)) ++ words_text rest ≡ words_text (product_words words (tidied_product deeper brackets tidy row) rest)
  product_is row rest all = by_text row.first row.rest rest all.0 all.1

  all_products : (parts : List (Adding × ProductOf U)) → AllByRecursion (λ (p : Adding × ProductOf U). AllItems Claim p.1) parts
      → AllByRecursion (λ (p : Adding × ProductOf U). (rest : List Word) → within j.Product (written names (product_tree tree p.1)) ++ words_text rest ≡ words_text (product_words words (tidied_product deeper brackets tidy p.1) rest)) parts
  all_products [] all = tt
  all_products (part ∷ parts) all = ((λ rest. product_is part.1 rest all.0), all_products parts all.1)

  sum_row : (first : ProductOf U) (parts : List (Adding × ProductOf U)) (rest : List Word) → AllItems Claim first → AllByRecursion (λ (p : Adding × ProductOf U). AllItems Claim p.1) parts
      → parts_text j.Product (map (part_written names) (part_of op.Plus (product_tree tree first) ∷ map (λ (p : Adding × ProductOf U). part_of (adding_op p.0) (product_tree tree p.1)) parts)) ++ words_text rest
      ≡ words_text (sum_words words (row_of (tidied_product deeper brackets tidy first) (map (λ (p : Adding × ProductOf U). (p.0, tidied_product deeper brackets tidy p.1)) parts)) rest)
  sum_row first parts rest c all =
      row_text names j.Product (product_tree tree) (tidied_product deeper brackets tidy) (product_words words) adding_op adding_word adding_signed op.Plus first parts rest (λ more. product_is first more c) (all_products parts all)

  lone : (first : U) (parts : List (Multiplying × U)) → Claim first → AllByRecursion (λ (p : Multiplying × U). Claim p.1) parts
      → IsWritten words words (written names (product_tree tree (row_of first parts))) (lone_by deeper brackets tidy first parts)
  lone first [] c all = opened_text deeper brackets words below same inside (written names (tree first)) (tidy first) (law first c)
  lone first (part ∷ parts) c all =
      let is = product_written names (part_of op.Times (tree first) ∷ map (λ (p : Multiplying × U). part_of (multiplying_op p.0) (tree p.1)) (part ∷ parts)) in
      record { text = λ rest. ap (λ w. w.text ++ words_text rest) is ∙ product_row first (part ∷ parts) rest c all; joining = ap (λ w. w.joining) is }

  whole_row : (first : ProductOf U) (parts : List (Adding × ProductOf U)) → AllItems Claim first → AllByRecursion (λ (p : Adding × ProductOf U). AllItems Claim p.1) parts
      → IsWritten words words (written names (sum_tree tree (row_of first parts))) (whole_by deeper brackets tidy first parts)
  whole_row first [] c all = lone first.first first.rest c.0 c.1
  whole_row first (part ∷ parts) c all =
      let is = sum_written names (part_of op.Plus (product_tree tree first) ∷ map (λ (p : Adding × ProductOf U). part_of (adding_op p.0) (product_tree tree p.1)) (part ∷ parts)) in
      record { text = λ rest. ap (λ w. w.text ++ words_text rest) is ∙ sum_row first (part ∷ parts) rest c all; joining = ap (λ w. w.joining) is }

  end_lone : (first : U) (parts : List (Multiplying × U)) (rest : List Word) → Claim first → AllByRecursion (λ (p : Multiplying × U). Claim p.1) parts
      → within j.Sum (written names (product_tree tree (row_of first parts))) ++ words_text rest ≡ words_text (sum_words words (end_lone_by deeper brackets tidy first parts) rest)
  end_lone first [] rest c all = sum_text deeper brackets words below same inside (written names (tree first)) (tidy first) rest (law first c)
  end_lone first (part ∷ parts) rest c all =
      ap (λ w. within j.Sum w ++ words_text rest) (product_written names (part_of op.Times (tree first) ∷ map (λ (p : Multiplying × U). part_of (multiplying_op p.0) (tree p.1)) (part ∷ parts)))
      ∙ product_row first (part ∷ parts) rest c all

  end_row : (first : ProductOf U) (parts : List (Adding × ProductOf U)) (rest : List Word) → AllItems Claim first → AllByRecursion (λ (p : Adding × ProductOf U). AllItems Claim p.1) parts
      → within j.Sum (written names (sum_tree tree (row_of first parts))) ++ words_text rest ≡ words_text (sum_words words (end_by deeper brackets tidy first parts) rest)
  end_row first [] rest c all = end_lone first.first first.rest rest c.0 c.1
  end_row first (part ∷ parts) rest c all =
      ap (λ w. within j.Sum w ++ words_text rest) (sum_written names (part_of op.Plus (product_tree tree first) ∷ map (λ (p : Adding × ProductOf U). part_of (adding_op p.0) (product_tree tree p.1)) (part ∷ parts)))
      ∙ sum_row first (part ∷ parts) rest c all

  pub whole_text : (x : TermOf U) → AllTerm Claim x → IsWritten words words (written names (term_tree tree x)) (tidied_whole deeper brackets tidy x)
  whole_text (alone s) all = whole_row s.first s.rest all.0 all.1
  whole_text (interval left right) all =
      let is = interval_written names (sum_tree tree left) (sum_tree tree right) in
      record {
        text = λ rest. ap (λ w. w.text ++ words_text rest) is
            ∙ three_behind (within j.Sum (written names (sum_tree tree left))) (codes "..") (within j.Sum (written names (sum_tree tree right))) (words_text rest)
            ∙ ap (λ l. within j.Sum (written names (sum_tree tree left)) ++ (codes ".." ++ l)) (end_row right.first right.rest rest all.1.0 all.1.1)
            ∙ end_row left.first left.rest (word.mark m.Dots ∷ sum_words words (tidied_end deeper brackets tidy right) rest) all.0.0 all.0.1;
        joining = ap (λ w. w.joining) is;
      }

-- ---- level by level
abbrev pub below_words : (n : ℕ) → Below n → List Word → List Word
below_words zero u rest = absurd u
below_words (suc n) u rest = operand_words n u rest

below_same : (n : ℕ) (u : Below n) (rest : List Word) → operand_words n (from_below n u) rest ≡ below_words n u rest
below_same zero u rest = absurd u
below_same (suc n) u rest = lifted_words n u rest

brackets_words : (n : ℕ) (x : TermOf (Below n)) (rest : List Word) → operand_words n (bracketed n x) rest ≡ word.mark m.Open ∷ term_words (below_words n) x (word.mark m.Close ∷ rest)
brackets_words zero (alone s) rest = absurd s.first.first
brackets_words zero (interval left right) rest = absurd left.first.first
brackets_words (suc n) x rest = refl

-- a name has a byte, and a variable is among the names
abbrev pub IsKnown : List Name → Word → Type 0
IsKnown names (word.name bytes) = (length bytes == 0) ≡ false
IsKnown names (word.variable bytes) = variable_text names (number_of names bytes) ≡ bytes
IsKnown names _ = Unit {0}

not_one : (n : ℕ) → (suc (suc n) == 1) ≡ false
not_one n = grind (arith, nat_tests)

named_closing : (name : List ℕ) (places : ℕ) → (length name == 0) ≡ false → closing name places ≡ codes ")"
named_closing name places h = ap (λ b. (if b && (places == 1) then codes ",)" else codes ")")) h

nested_behind : (name args last rest : List ℕ) → (name ++ codes "(" ++ args ++ last) ++ rest ≡ name ++ (40 ∷ (args ++ (last ++ rest)))
nested_behind name args last rest = append_assoc (name ++ codes "(" ++ args) last rest ∙ append_assoc (name ++ codes "(") args (last ++ rest) ∙ append_assoc name (codes "(") (args ++ (last ++ rest))

module _ (names : List Name) where
  module _ (n : ℕ) (law : (u : Operand n) → AllOperand (IsKnown names) n u → IsWritten (operand_words n) (below_words n) (written names (operand_tree names n u)) (tidied n u)) where
    abbrev Inside : Operand n → Type 0
    Inside u = AllOperand (IsKnown names) n u

    pub whole_is : (x : TermOf (Operand n)) → AllTerm (AllOperand (IsKnown names) n) x
        → IsWritten (operand_words n) (operand_words n) (written names (term_tree (operand_tree names n) x)) (tidied_whole (from_below n) (bracketed n) (tidied n) x)
    whole_is = whole_text (from_below n) (bracketed n) (operand_words n) (below_words n) (below_same n) (brackets_words n) names (operand_tree names n) (tidied n) (AllOperand (IsKnown names) n) law

    pub term_is : (x : TermOf (Operand n)) (rest : List Word) → AllTerm (AllOperand (IsKnown names) n) x
        → term_text names (term_tree (operand_tree names n) x) ++ words_text rest ≡ words_text (term_words (operand_words n) (tidied_term n (tidied n) x) rest)
    term_is x rest all =
        (whole_is x all).text rest ∙ ap words_text (sym (term_place_text (operand_words n) (tidied_whole (from_below n) (bracketed n) (tidied n) x) rest))

    -- further arguments, each behind its comma
    behind_is : (parts : List (Unit {0} × TermOf (Operand n))) (rest : List Word) → AllByRecursion (λ (p : Unit {0} × TermOf (Operand n)). AllTerm (AllOperand (IsKnown names) n) p.1) parts
        → each_behind (codes ",") (texts (map (written names) (map (λ (p : Unit {0} × TermOf (Operand n)). term_tree (operand_tree names n) p.1) parts))) ++ words_text rest
        ≡ words_text (tail_words (term_words (operand_words n)) comma_word (map (λ (p : Unit {0} × TermOf (Operand n)). (p.0, tidied_term n (tidied n) p.1)) parts) rest)
    behind_is [] rest all = refl
    behind_is (part ∷ parts) rest all =
        three_behind (codes ",") (term_text names (term_tree (operand_tree names n) part.1))
        (each_behind (codes ",") (texts (map (written names) (map (λ (p : Unit {0} × TermOf (Operand n)). term_tree (operand_tree names n) p.1) parts)))) (words_text rest)
        ∙ ap (λ l. codes "," ++ (term_text names (term_tree (operand_tree names n) part.1) ++ l)) (behind_is parts rest all.1)
        ∙ ap (λ l. codes "," ++ l) (term_is part.1 (tail_words (term_words (operand_words n)) comma_word (map (λ (p : Unit {0} × TermOf (Operand n)). (p.0, tidied_term n (tidied n) p.1)) parts) rest) all.0)

    args_is : (args : ArgsOf (Operand n)) (rest : List Word) → AllArgs (AllOperand (IsKnown names) n) args
        → parted (codes ",") (texts (map (written names) (args_trees (operand_tree names n) args))) ++ words_text rest ≡ words_text (args_words (operand_words n) (tidied_args n (tidied n) args) rest)
    args_is args rest all =
        append_assoc (term_text names (term_tree (operand_tree names n) args.first))
        (each_behind (codes ",") (texts (map (written names) (map (λ (p : Unit {0} × TermOf (Operand n)). term_tree (operand_tree names n) p.1) args.rest)))) (words_text rest)
        ∙ ap (λ l. term_text names (term_tree (operand_tree names n) args.first) ++ l) (behind_is args.rest rest all.1)
        ∙ term_is args.first (tail_words (term_words (operand_words n)) comma_word (map (λ (p : Unit {0} × TermOf (Operand n)). (p.0, tidied_term n (tidied n) p.1)) args.rest) rest) all.0

    pub atom_is : (a : AtomOf (Operand n)) (rest : List Word) → AllAtom (IsKnown names) (AllOperand (IsKnown names) n) a
        → term_text names (atom_tree (operand_tree names n) a) ++ words_text rest ≡ words_text (atom_words (operand_words n) (tidied_atom n (tidied n) a) rest)
    atom_is (plain name) rest all = ap (λ w. w.text ++ words_text rest) (function_written names name [])
    atom_is (applied name args) rest all =
        ap (λ w. w.text ++ words_text rest) (function_written names name (args_trees (operand_tree names n) args))
        ∙ nested_behind name (parted (codes ",") (texts (map (written names) (args_trees (operand_tree names n) args)))) (closing name (length (texts (map (written names) (args_trees (operand_tree names n) args))))) (words_text rest)
        ∙ ap (λ l. name ++ (40 ∷ (parted (codes ",") (texts (map (written names) (args_trees (operand_tree names n) args))) ++ (l ++ words_text rest))))
        (named_closing name (length (texts (map (written names) (args_trees (operand_tree names n) args)))) all.0)
        ∙ ap (λ l. name ++ (40 ∷ l)) (args_is args (word.mark m.Close ∷ rest) all.1)

    pub atom_joining : (a : AtomOf (Operand n)) → (written names (atom_tree (operand_tree names n) a)).joining ≡ j.Operand
    atom_joining (plain name) = ap (λ w. w.joining) (function_written names name [])
    atom_joining (applied name args) = ap (λ w. w.joining) (function_written names name (args_trees (operand_tree names n) args))

    ungrouped_is : (w : Written) (s : Tidied (Operand n) (Operand n)) → IsWritten (operand_words n) (operand_words n) w s → IsWritten (operand_words (suc n)) (operand_words n) w (ungrouped (lifted n) s)
    ungrouped_is w (operand u) h = record { text = λ rest. h.text rest ∙ ap words_text (sym (lifted_words n u rest)); joining = h.joining }
    ungrouped_is w (product first part parts) h = record { text = h.text; joining = h.joining }
    ungrouped_is w (sum first part parts) h = record { text = h.text; joining = h.joining }
    ungrouped_is w (range left right) h = record { text = h.text; joining = h.joining }

    single_is : (x : TermOf (Operand n)) (rest : List Word) → AllTerm (AllOperand (IsKnown names) n) x
        → nested_text [] (texts (map (written names) (term_tree (operand_tree names n) x ∷ []))) ++ words_text rest
        ≡ words_text (word.mark m.Open ∷ term_words (operand_words n) (tidied_term n (tidied n) x) (word.mark m.Comma ∷ word.mark m.Close ∷ rest))
    single_is x rest all =
        nested_behind [] (term_text names (term_tree (operand_tree names n) x) ++ []) (codes ",)") (words_text rest)
        ∙ ap (λ l. 40 ∷ (l ++ (codes ",)" ++ words_text rest))) (append-nil (term_text names (term_tree (operand_tree names n) x)))
        ∙ ap (λ l. 40 ∷ l) (term_is x (word.mark m.Comma ∷ word.mark m.Close ∷ rest) all)

    tuple_is : (x : TermOf (Operand n)) (args : ArgsOf (Operand n)) (rest : List Word) → AllTerm (AllOperand (IsKnown names) n) x → AllArgs (AllOperand (IsKnown names) n) args
        → nested_text [] (texts (map (written names) (term_tree (operand_tree names n) x ∷ args_trees (operand_tree names n) args))) ++ words_text rest
        ≡ words_text (word.mark m.Open ∷ term_words (operand_words n) (tidied_term n (tidied n) x) (word.mark m.Comma ∷ args_words (operand_words n) (tidied_args n (tidied n) args) (word.mark m.Close ∷ rest)))
    tuple_is x args rest all more =
        nested_behind [] (parted (codes ",") (texts (map (written names) (term_tree (operand_tree names n) x ∷ args_trees (operand_tree names n) args))))
        (closing [] (length (texts (map (written names) (term_tree (operand_tree names n) x ∷ args_trees (operand_tree names n) args))))) (words_text rest)
        ∙ ap (λ b. 40 ∷ (parted (codes ",") (texts (map (written names) (term_tree (operand_tree names n) x ∷ args_trees (operand_tree names n) args))) ++ ((if b then codes ",)" else codes ")") ++ words_text rest)))
        (not_one (length (texts (map (written names) (map (λ (p : Unit {0} × TermOf (Operand n)). term_tree (operand_tree names n) p.1) args.rest)))))
        ∙ ap (λ l. 40 ∷ l)
        (append_assoc (term_text names (term_tree (operand_tree names n) x)) (each_behind (codes ",") (texts (map (written names) (args_trees (operand_tree names n) args)))) (words_text (word.mark m.Close ∷ rest))
        ∙ ap (λ l. term_text names (term_tree (operand_tree names n) x) ++ l) (behind_is ((tt, args.first) ∷ args.rest) (word.mark m.Close ∷ rest) (more.0, more.1))
        ∙ term_is x (word.mark m.Comma ∷ args_words (operand_words n) (tidied_args n (tidied n) args) (word.mark m.Close ∷ rest)) all)

    pub unary_is : (u : UnaryOf (Operand n) (Room n)) → AllUnary (IsKnown names) (AllOperand (IsKnown names) n) u
        → IsWritten (operand_words (suc n)) (operand_words n) (written names (unary_tree names (operand_tree names n) u)) (tidied_unary n (tidied n) u)
    unary_is (negated d) all =
        let is = minus_written names (operand_tree names n d) in
        record {
          text = λ rest. ap (λ w. w.text ++ words_text rest) is
              ∙ ap (λ l. 45 ∷ l) (operand_text (from_below n) (bracketed n) (operand_words n) (below_words n) (below_same n) (brackets_words n) (written names (operand_tree names n d)) (tidied n d) rest (law d all));
          joining = ap (λ w. w.joining) is;
        }
    unary_is (number k) all = record { text = λ rest. ap (λ w. w.text ++ words_text rest) (number_is names k); joining = ap (λ w. w.joining) (number_is names k) }
    unary_is (text bytes) all = record { text = λ rest. ap (λ w. w.text ++ words_text rest) (string_written names bytes); joining = ap (λ w. w.joining) (string_written names bytes) }
    unary_is (variable name) all =
        let is = variable_written names (number_of names name) in
        record { text = λ rest. ap (λ w. w.text ++ words_text rest) is ∙ ap (λ l. l ++ words_text rest) all; joining = ap (λ w. w.joining) is }
    unary_is anonymous all = record { text = λ rest. ap (λ w. w.text ++ words_text rest) (anonymous_written names); joining = ap (λ w. w.joining) (anonymous_written names) }
    unary_is (atom a) all = record { text = λ rest. atom_is a rest all; joining = atom_joining a }
    unary_is (unit room) all = record { text = λ rest. ap (λ w. w.text ++ words_text rest) (tuple_written names []); joining = ap (λ w. w.joining) (tuple_written names []) }
    unary_is (group x) all = ungrouped_is (written names (term_tree (operand_tree names n) x)) (tidied_whole (from_below n) (bracketed n) (tidied n) x) (whole_is x all)
    unary_is (single x) all =
        let is = tuple_written names (term_tree (operand_tree names n) x ∷ []) in
        record { text = λ rest. ap (λ w. w.text ++ words_text rest) is ∙ single_is x rest all; joining = ap (λ w. w.joining) is }
    unary_is (tuple x args) all =
        let is = tuple_written names (term_tree (operand_tree names n) x ∷ args_trees (operand_tree names n) args) in
        record { text = λ rest. ap (λ w. w.text ++ words_text rest) is ∙ tuple_is x args rest all.0 all.1; joining = ap (λ w. w.joining) is }

  pub operand_is : (n : ℕ) (u : Operand n) → AllOperand (IsKnown names) n u → IsWritten (operand_words n) (below_words n) (written names (operand_tree names n u)) (tidied n u)
  operand_is zero u all = absurd u
  operand_is (suc n) u all = unary_is n (operand_is n) u all

  -- the printed text of a term is the words of the tidied term
  pub printed_term : (n : ℕ) (x : TermOf (Operand n)) (rest : List Word) → AllTerm (AllOperand (IsKnown names) n) x
      → term_text names (term_tree (operand_tree names n) x) ++ words_text rest ≡ words_text (term_words (operand_words n) (tidied_term n (tidied n) x) rest)
  printed_term n = term_is n (operand_is n)

  -- the printed text of an atom is the words of the tidied atom
  pub printed_atom : (n : ℕ) (a : AtomOf (Operand n)) (rest : List Word) → AllAtom (IsKnown names) (AllOperand (IsKnown names) n) a
      → term_text names (atom_tree (operand_tree names n) a) ++ words_text rest ≡ words_text (atom_words (operand_words n) (tidied_atom n (tidied n) a) rest)
  printed_atom n = atom_is n (operand_is n)
