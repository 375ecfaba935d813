-- In the tree of a term is seen what is seen in its form, and the tree is an interval where the form is one.
use Rattle.std.proofs.Common.{◌≡◌, ℕ, zero, suc, ◌+◌, List, [], ◌∷◌, ◌++◌, map, refl, sym, ◌∙◌, ap, subst, append-nil, pos}
use Rattle.syntax_tree.specs.declared.rule.Name.{Name}
use Rattle.syntax_tree.specs.declared.term.Op.{Op}
use Rattle.syntax_tree.specs.declared.term.Op.TheVariants as op
use Rattle.syntax_tree.specs.declared.term.Part.{Part}
use Rattle.syntax_tree.specs.declared.term.Term.{Term}
use Rattle.syntax_tree.specs.declared.term.Term.TheVariants as t
use Rattle.grammar.specs.declared.shape.Shape.{Shape}
use Rattle.grammar.specs.declared.shape.Shape.TheVariants as shape
use Rattle.grammar.specs.Word.{Word}
use Rattle.grammar.specs.Row.{Row}
use Rattle.grammar.specs.Term.{ProductOf, SumOf, TermOf, ArgsOf, AtomOf, UnaryOf, alone, interval, plain, applied, negated, number, text, variable, anonymous, atom, unit, group, single, tuple, product_words, sum_words, term_words, operand_words}
use Rattle.grammar.specs.Shape.{row_shape_by, product_shape, sum_shape, term_shape, grouped, unary_shape, operand_shape}
use Rattle.grammar.specs.Tree.{adding_op, multiplying_op, part_of, parts_tree, product_tree, sum_tree, term_tree, args_trees, atom_tree, unary_tree, operand_tree, number_of}
use Rattle.grammar.specs.Sight.{Sighting, size, along_tail, along, argument_by, product_sights, sum_sights, term_sights, argument_sights, args_sights, atom_sights, unary_sights, operand_sights}
use Rattle.rewriting.specs.declared.sight.Sight.{Sight as TreeSight}
use Rattle.rewriting.specs.declared.sight.Sight.TheVariants as sight
use Rattle.rewriting.specs.Made.{Made, same, seeing, mapped, both, each}
use Rattle.rewriting.specs.Rewritten.{Ways, ways, ways_in, part_way, alike}
use Rattle.rewriting.proofs.Layers.{ways-Number, ways-Text, ways-Variable, ways-Anonymous, ways-Function, ways-Tuple, ways-Sum, ways-Product, ways-Minus, ways-Interval, ways-Part}
use Rattle.seen_forms.specs.Seen.{AreSeenAs}
use Rattle.seen_forms.proofs.Pieces.{Shows, shows_both, shows_alone, shows_row, map_map}

abbrev argument_way : Term → ℕ → Made Term
argument_way term = (ways term).argument

abbrev pub elsewhere_way : Term → ℕ → Made Term
elsewhere_way term = (ways term).elsewhere

module _ (names : List Name) where
  -- what is seen in a term, and what is as well where it is an argument
  pub record ShowsTerm (w : Ways) (s : Shape) (at : ℕ) (sights : List Sighting) : Type 0 where
    pub elsewhere : Shows names w.elsewhere sights
    pub argument : Shows names w.argument (argument_by s at ++ sights)

  abbrev pub TermsShow : {A : Type 0} → (A → Term) → (A → Shape) → (A → ℕ → List Sighting) → Type 0
  TermsShow {A} tree shapes sights = (x : A) (at : ℕ) → ShowsTerm (ways (tree x)) (shapes x) at (sights x at)

  -- a term that is rewritten in one way, and is no interval
  one_way : (w : Ways) (way : ℕ → Made Term) (s : Shape) (at : ℕ) (sights : List Sighting) → w ≡ alike way → argument_by s at ≡ [] → Shows names way sights → ShowsTerm w s at sights
  one_way w way s at sights is none k =
      subst (λ (v : Ways). ShowsTerm v s at sights) (sym is)
      (record { elsewhere = k; argument = subst (λ (l : List Sighting). Shows names way (l ++ sights)) (sym none) k })

  -- ---- rows of operands
  module _ {I S : Type 0} (item : I → Term) (shapes : I → Shape) (sights : I → ℕ → List Sighting) (long : I → ℕ) (law : TermsShow item shapes sights) where
    module _ (sign : S → Op) where
      part_shows : (o : Op) (x : I) (at : ℕ) → Shows names (part_way (ways_in (part_of o (item x)))) (sights x at)
      part_shows o x at next =
          subst (λ (p : Op × Ways). AreSeenAs names (sights x at) (part_way p next).sights) (sym (ways-Part (part_of o (item x)))) ((law x at).elsewhere next)

      -- each part has its sign and its item
      abbrev part_at : S × I → Part
      part_at p = part_of (sign p.0) (item p.1)

      tail_shows : (rest : List (S × I)) (at : ℕ) → Shows names (each (map part_way (map ways_in (map part_at rest)))) (along_tail sights long rest at)
      tail_shows [] at next = tt
      tail_shows (part ∷ parts) at next =
          shows_both names (λ x xs. x ∷ xs) (part_way (ways_in (part_at part))) (each (map part_way (map ways_in (map part_at parts)))) (sights part.1 (at + 1))
          (along_tail sights long parts (at + 1 + long part.1)) (part_shows (sign part.0) part.1 (at + 1)) (tail_shows parts (at + 1 + long part.1)) next

      parts_show : (o : Op) (x : I) (rest : List (S × I)) (at behind : ℕ)
          → Shows names (each (map part_way (map ways_in (part_of o (item x) ∷ map part_at rest)))) (sights x at ++ along_tail sights long rest behind)
      parts_show o x rest at behind =
          shows_both names (λ y ys. y ∷ ys) (part_way (ways_in (part_of o (item x)))) (each (map part_way (map ways_in (map part_at rest)))) (sights x at) (along_tail sights long rest behind)
          (part_shows o x at) (tail_shows rest behind)

      row_shows : (whole : List Part → Term) → ((parts : List Part) → ways (whole parts) ≡ alike (λ next. mapped whole (each (map part_way (map ways_in parts)) next)))
          → (o : Op) (row : Row I S) (at : ℕ) → ShowsTerm (ways (parts_tree whole o sign item row.first row.rest)) (row_shape_by (shapes row.first) row.rest) at (along sights long row at)
      row_shows whole is o row at = by row.rest (at + long row.first)
        where
          by : (rest : List (S × I)) (behind : ℕ)
              → ShowsTerm (ways (parts_tree whole o sign item row.first rest)) (row_shape_by (shapes row.first) rest) at (sights row.first at ++ along_tail sights long rest behind)
          by [] behind = subst (ShowsTerm (ways (item row.first)) (shapes row.first) at) (sym (append-nil (sights row.first at))) (law row.first at)
          by (part ∷ parts) behind =
              let all = part_of o (item row.first) ∷ map part_at (part ∷ parts) in
              one_way (ways (whole all)) (λ next. mapped whole (each (map part_way (map ways_in all)) next)) shape.Other at (sights row.first at ++ along_tail sights long (part ∷ parts) behind) (is all) refl
              (parts_show o row.first (part ∷ parts) at behind)

  -- ---- terms over operands
  module _ {U : Type 0} (words : U → List Word → List Word) (shapes : U → Shape) (sights : U → ℕ → List Sighting) (tree : U → Term) (law : TermsShow tree shapes sights) where
    product_shows : TermsShow {A = ProductOf U} (product_tree tree) (product_shape shapes) (product_sights words shapes sights)
    product_shows row at = row_shows tree shapes sights (size words) law multiplying_op t.Product ways-Product op.Times row at

    sum_shows : TermsShow {A = SumOf U} (sum_tree tree) (sum_shape shapes) (sum_sights words shapes sights)
    sum_shows row at =
        row_shows (product_tree tree) (product_shape shapes) (product_sights words shapes sights) (size (product_words words)) product_shows adding_op t.Sum ways-Sum op.Plus row at

    interval_shows : (left right : SumOf U) (at behind : ℕ)
        → ShowsTerm (ways (t.Interval (sum_tree tree left) (sum_tree tree right))) shape.Interval at (sum_sights words shapes sights left at ++ sum_sights words shapes sights right behind)
    interval_shows left right at behind =
        subst (λ (v : Ways). ShowsTerm v shape.Interval at (sum_sights words shapes sights left at ++ sum_sights words shapes sights right behind)) (sym (ways-Interval low high))
        (record { elsewhere = inside; argument = λ next. (tt, inside (suc next)) })
      where
        low : Term
        low = sum_tree tree left

        high : Term
        high = sum_tree tree right

        inside : Shows names (both t.Interval (ways low).elsewhere (ways high).elsewhere) (sum_sights words shapes sights left at ++ sum_sights words shapes sights right behind)
        inside =
            shows_both names t.Interval (ways low).elsewhere (ways high).elsewhere (sum_sights words shapes sights left at) (sum_sights words shapes sights right behind)
            (sum_shows left at).elsewhere (sum_shows right behind).elsewhere

    pub term_shows : TermsShow {A = TermOf U} (term_tree tree) (term_shape shapes) (term_sights words shapes sights)
    term_shows (alone s) at = sum_shows s at
    term_shows (interval left right) at = interval_shows left right at (at + size (sum_words words) left + 1)

    argument_shows : (x : TermOf U) (at : ℕ) → Shows names (argument_way (term_tree tree x)) (argument_sights words shapes sights x at)
    argument_shows x at = (term_shows x at).argument

    args_show : (args : ArgsOf U) (at : ℕ) → Shows names (each (map (λ (arg : Ways). arg.argument) (map ways (args_trees tree args)))) (args_sights words shapes sights args at)
    args_show args at =
        subst (λ (l : List (ℕ → Made Term)). Shows names (each l) (args_sights words shapes sights args at)) (sym same_ways)
        (shows_row names (λ (x : TermOf U). argument_way (term_tree tree x)) (argument_sights words shapes sights) (size (term_words words)) argument_shows args at)
      where
        same_ways : map (λ (arg : Ways). arg.argument) (map ways (args_trees tree args)) ≡ argument_way (term_tree tree args.first) ∷ map (λ p. argument_way (term_tree tree p.1)) args.rest
        same_ways =
            ap (λ l. argument_way (term_tree tree args.first) ∷ l)
            (map_map ways (λ (arg : Ways). arg.argument) (map (λ p. term_tree tree p.1) args.rest) ∙ map_map (λ p. term_tree tree p.1) argument_way args.rest)

    function_shows : (name : List ℕ) (terms : List Term) (inside : List Sighting) (s : Shape) (at : ℕ) → argument_by s at ≡ []
        → Shows names (each (map (λ (arg : Ways). arg.argument) (map ways terms))) inside → ShowsTerm (ways (t.Function name terms)) s at inside
    function_shows name terms inside s at none k =
        one_way (ways (t.Function name terms)) (λ next. mapped (t.Function name) (each (map (λ (arg : Ways). arg.argument) (map ways terms)) next)) s at inside (ways-Function name terms) none k

    tuple_shows : (terms : List Term) (inside : List Sighting) (at : ℕ) → Shows names (each (map (λ (arg : Ways). arg.argument) (map ways terms))) inside → ShowsTerm (ways (t.Tuple terms)) shape.Other at inside
    tuple_shows terms inside at k =
        one_way (ways (t.Tuple terms)) (λ next. mapped t.Tuple (each (map (λ (arg : Ways). arg.argument) (map ways terms)) next)) shape.Other at inside (ways-Tuple terms) refl k

    pub atom_shows : (a : AtomOf U) (at : ℕ) → ShowsTerm (ways (atom_tree tree a)) shape.Atom at (atom_sights words shapes sights a at)
    atom_shows (plain name) at = function_shows name [] [] shape.Atom at refl (λ next. tt)
    atom_shows (applied name args) at = function_shows name (args_trees tree args) (args_sights words shapes sights args (at + 2)) shape.Atom at refl (args_show args (at + 2))

    -- parentheses around a term
    group_shows : (x : TermOf U) (at place : ℕ) → ShowsTerm (ways (term_tree tree x)) (grouped (term_shape shapes x)) place (term_sights words shapes sights x at)
    group_shows x at place = by (term_shape shapes x) (term_shows x at)
      where
        by : (s : Shape) → ShowsTerm (ways (term_tree tree x)) s at (term_sights words shapes sights x at) → ShowsTerm (ways (term_tree tree x)) (grouped s) place (term_sights words shapes sights x at)
        by shape.Atom k = record { elsewhere = k.elsewhere; argument = k.argument }
        by shape.Interval k = record { elsewhere = k.elsewhere; argument = again k.argument }
          where
            again : Shows names (ways (term_tree tree x)).argument (argument_by shape.Interval at ++ term_sights words shapes sights x at)
                → Shows names (ways (term_tree tree x)).argument (argument_by shape.Interval place ++ term_sights words shapes sights x at)
            again h next = elsewhere_place ((ways (term_tree tree x)).argument next).sights (h next)
              where
                elsewhere_place : (l : List TreeSight) → AreSeenAs names (argument_by shape.Interval at ++ term_sights words shapes sights x at) l
                    → AreSeenAs names (argument_by shape.Interval place ++ term_sights words shapes sights x at) l
                elsewhere_place [] h = h
                elsewhere_place (s ∷ ss) h = h
        by shape.Other k = record { elsewhere = k.elsewhere; argument = k.argument }

    unary_shows : {R : Type 0} → TermsShow {A = UnaryOf U R} (unary_tree names tree) (unary_shape shapes) (unary_sights words shapes sights)
    unary_shows (negated d) at =
        one_way (ways (t.Minus (tree d))) (λ next. mapped t.Minus ((ways (tree d)).elsewhere next)) shape.Other at (sights d (at + 1)) (ways-Minus (tree d)) refl (law d (at + 1)).elsewhere
    unary_shows (number n) at = one_way (ways (t.Number (pos n))) (same (t.Number (pos n))) shape.Other at [] (ways-Number (pos n)) refl (λ next. tt)
    unary_shows (text bytes) at = one_way (ways (t.Text bytes)) (same (t.Text bytes)) shape.Other at [] (ways-Text bytes) refl (λ next. tt)
    unary_shows (variable name) at =
        let n = number_of names name in
        one_way (ways (t.Variable n)) (λ next. seeing (sight.Variable n) (same (t.Variable n) next)) shape.Other at (unary_sights words shapes sights {R = ⊥} (variable name) at) (ways-Variable n) refl
        (λ next. (refl, tt))
    unary_shows anonymous at =
        one_way (ways t.Anonymous) (λ next. seeing (sight.Anonymous next) (same (t.Variable next) (suc next))) shape.Other at (unary_sights words shapes sights {R = ⊥} anonymous at) ways-Anonymous refl
        (λ next. (tt, tt))
    unary_shows (atom a) at = atom_shows a at
    unary_shows (unit room) at = tuple_shows [] [] at (λ next. tt)
    unary_shows (group x) at = group_shows x (at + 1) at
    unary_shows (single x) at =
        tuple_shows (term_tree tree x ∷ []) (argument_sights words shapes sights x (at + 1)) at
        (shows_alone names (λ y ys. y ∷ ys) (argument_way (term_tree tree x)) (argument_sights words shapes sights x (at + 1)) (argument_shows x (at + 1)))
    unary_shows (tuple x args) at =
        let behind = at + 1 + size (term_words words) x + 1 in
        tuple_shows (term_tree tree x ∷ args_trees tree args) (argument_sights words shapes sights x (at + 1) ++ args_sights words shapes sights args behind) at
        (shows_both names (λ y ys. y ∷ ys) (argument_way (term_tree tree x)) (each (map (λ (arg : Ways). arg.argument) (map ways (args_trees tree args)))) (argument_sights words shapes sights x (at + 1))
        (args_sights words shapes sights args behind) (argument_shows x (at + 1)) (args_show args behind))

  -- ---- level by level
  pub operand_shows : (n : ℕ) → TermsShow (operand_tree names n) (operand_shape n) (operand_sights n)
  operand_shows zero u at = absurd u
  operand_shows (suc n) u at = unary_shows (operand_words n) (operand_shape n) (operand_sights n) (operand_tree names n) (operand_shows n) u at
