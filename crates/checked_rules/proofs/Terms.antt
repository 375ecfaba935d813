-- Terms that are trees stay trees when they are rewritten, and one that is no interval is none then.
use Rattle.std.proofs.Common.{◌≡◌, ℕ, suc, Bool, true, false, ◌&&◌, List, [], ◌∷◌, map, refl, sym, ◌∙◌, ap, subst, None, Some}
use Rattle.std.specs.List.{AllByRecursion, list_all}
use Rattle.symbols.specs.declared.rel.Rel.TheVariants.{Equal}
use Rattle.syntax_tree.specs.declared.term.Op.{Op}
use Rattle.syntax_tree.specs.declared.term.Part.{Part}
use Rattle.syntax_tree.specs.declared.term.Term.{Term}
use Rattle.syntax_tree.specs.declared.term.Term.TheVariants as t
use Rattle.syntax_tree.specs.Tree.{is_name, is_term, is_part, are_parts, begins_sum, adds, begins_product, multiplies}
use Rattle.syntax_tree.proofs.TreeRules.{variable_rules, function_rules, tuple_rules, sum_rules, product_rules, minus_rules, interval_rules, one_part, comparison_rules}
use Rattle.ground_model.proofs.Bools.{and_elim, and_intro}
use Rattle.rewriting.specs.declared.sight.Sight.TheVariants as sight
use Rattle.rewriting.specs.Made.{Made, same, seeing, mapped, both, each}
use Rattle.rewriting.specs.Rewritten.{Ways, ways, ways_in, part_way, for_interval, term_made, atom_made}
use Rattle.rewriting.proofs.Layers.{ways-Number, ways-Text, ways-Variable, ways-Anonymous, ways-Function, ways-Tuple, ways-Sum, ways-Product, ways-Minus, ways-Interval, ways-Part}
use Rattle.program_meaning.specs.Comparison.{ends}
use Rattle.program_meaning.proofs.Layers.{ends-Variable, ends-Function, ends-Tuple, ends-Sum, ends-Product, ends-Minus, ends-Interval}
use Rattle.program_meaning.proofs.Terms.{Passes, every_term}
use Rattle.rewritten_rules.proofs.Reading.{read-Compare}
use Rattle.checked_rules.specs.Checked.{IsLiteralChecked}
use Rattle.checked_rules.proofs.Pieces.{IsKept, Keeps, kept_same, kept_seeing, kept_mapped, keeps_both, AllKeep, NoneKeeps, OneKeeps, keeps_each}

abbrev pub IsTree : Term → Type 0
IsTree term = is_term term ≡ true

abbrev pub KeepsWays : Ways → Type 0
KeepsWays w = Keeps IsTree w.elsewhere × Keeps IsTree w.argument

-- a tree stays a tree, be it an argument or not
abbrev pub KeepsTerm : Term → Type 0
KeepsTerm term = is_term term ≡ true → KeepsWays (ways term)

alike_keeps : (w : Ways) (way : ℕ → Made Term) → w ≡ record { elsewhere = way; argument = way } → Keeps IsTree way → KeepsWays w
alike_keeps w way is k = subst KeepsWays (sym is) (k, k)

-- ---- arguments
pub all_trees : (args : List Term) → list_all (λ arg. arg) (map is_term args) ≡ true → AllByRecursion IsTree args
all_trees [] h = tt
all_trees (arg ∷ args) h = let p = and_elim (is_term arg) (list_all (λ arg. arg) (map is_term args)) h in (p.0, all_trees args p.1)

pub trees_all : (args : List Term) → AllByRecursion IsTree args → list_all (λ arg. arg) (map is_term args) ≡ true
trees_all [] all = refl
trees_all (arg ∷ args) all = and_intro (is_term arg) (list_all (λ arg. arg) (map is_term args)) all.0 (trees_all args all.1)

keep_arguments : (args : List Term) → AllByRecursion KeepsTerm args → AllByRecursion IsTree args → AllKeep IsTree (map (λ arg. arg.argument) (map ways args))
keep_arguments [] all trees = NoneKeeps
keep_arguments (arg ∷ args) all trees = OneKeeps (ways arg).argument (map (λ arg. arg.argument) (map ways args)) (all.0 trees.0).1 (keep_arguments args all.1 trees.1)

-- ---- parts
abbrev IsPartTree : Part → Type 0
IsPartTree part = is_term part.term ≡ true

-- the parts have these signs
abbrev AreSigned : List Op → List Part → Type 0
AreSigned [] [] = Unit {0}
AreSigned (op ∷ ops) (part ∷ parts) = (part.op ≡ op) × (is_term part.term ≡ true) × AreSigned ops parts
AreSigned ops parts = ⊥

abbrev signs : List Part → List Op
signs parts = map (λ (part : Part). part.op) parts

keep_part : (part : Part) → KeepsWays (ways part.term) → Keeps (λ (made : Part). (made.op ≡ part.op) × (is_term made.term ≡ true)) (part_way (ways_in part))
keep_part part k =
    subst (λ (p : Op × Ways). Keeps (λ (made : Part). (made.op ≡ part.op) × (is_term made.term ≡ true)) (part_way p)) (sym (ways-Part part))
    (λ next. kept_mapped IsTree (λ (made : Part). (made.op ≡ part.op) × (is_term made.term ≡ true)) (λ term. record { op = part.op; term = term })
    ((ways part.term).elsewhere next) (λ h. (refl, h)) (k.0 next))

keep_parts : (parts : List Part) → AllByRecursion (λ part. KeepsTerm part.term) parts → AllByRecursion IsPartTree parts
    → Keeps (AreSigned (signs parts)) (each (map part_way (map ways_in parts)))
keep_parts [] all trees next = kept_same (AreSigned []) [] next tt
keep_parts (part ∷ parts) all trees next =
    keeps_both (λ (made : Part). (made.op ≡ part.op) × (is_term made.term ≡ true)) (AreSigned (signs parts)) (AreSigned (signs (part ∷ parts))) (λ x xs. x ∷ xs)
    (part_way (ways_in part)) (each (map part_way (map ways_in parts))) (λ x xs p ps. (p.0, p.1, ps)) (keep_part part (all.0 trees.0))
    (keep_parts parts all.1 trees.1) next

module _ (first further : Op → Bool) where
  abbrev follow : List Part → Bool
  follow parts = list_all (λ (p : Op × Bool). further p.0 && p.1) (map is_part parts)

  follow_trees : (parts : List Part) → follow parts ≡ true → AllByRecursion IsPartTree parts × AllByRecursion (λ op. further op ≡ true) (signs parts)
  follow_trees [] h = (tt, tt)
  follow_trees (part ∷ parts) h =
      let p = and_elim (further part.op && is_term part.term) (follow parts) (sym (ap (λ (x : Op × Bool). (further x.0 && x.1) && follow parts) (one_part part)) ∙ h) in
      let q = and_elim (further part.op) (is_term part.term) p.0 in
      let r = follow_trees parts p.1 in ((q.1, r.0), (q.0, r.1))

  trees_follow : (ops : List Op) (parts : List Part) → AllByRecursion (λ op. further op ≡ true) ops → AreSigned ops parts → follow parts ≡ true
  trees_follow [] [] h s = refl
  trees_follow (op ∷ ops) (part ∷ parts) h s =
      ap (λ (x : Op × Bool). (further x.0 && x.1) && follow parts) (one_part part)
      ∙ and_intro (further part.op && is_term part.term) (follow parts)
      (and_intro (further part.op) (is_term part.term) (ap further s.0 ∙ h.0) s.1) (trees_follow ops parts h.1 s.2)
  trees_follow [] (part ∷ parts) h s = absurd s
  trees_follow (op ∷ ops) [] h s = absurd s

  abbrev begin_and_follow : Part → List Part → Bool
  begin_and_follow part parts = first part.op && is_term part.term && follow parts

  parts_begin : (part : Part) (parts : List Part) → are_parts first further (map is_part (part ∷ parts)) ≡ begin_and_follow part parts
  parts_begin part parts = ap (λ (x : Op × Bool). first x.0 && x.1 && follow parts) (one_part part)

  three : (a b c : Bool) → (a && b && c) ≡ true → (a ≡ true) × (b ≡ true) × (c ≡ true)
  three true true c h = (refl, refl, h)
  three true false c h = absurd cc
  three false b c h = absurd cc

  from_three : (a b c : Bool) → a ≡ true → b ≡ true → c ≡ true → (a && b && c) ≡ true
  from_three true true c p q r = r
  from_three true false c p q r = absurd cc
  from_three false b c p q r = absurd cc

  parts_trees : (parts : List Part) → are_parts first further (map is_part parts) ≡ true → AllByRecursion IsPartTree parts
  parts_trees [] h = tt
  parts_trees (part ∷ parts) h =
      let p = three (first part.op) (is_term part.term) (follow parts) (sym (parts_begin part parts) ∙ h) in (p.1, (follow_trees parts p.2).0)

  parts_stay : (parts made : List Part) → are_parts first further (map is_part parts) ≡ true → AreSigned (signs parts) made → are_parts first further (map is_part made) ≡ true
  parts_stay [] [] h s = h
  parts_stay [] (m ∷ made) h s = absurd s
  parts_stay (part ∷ parts) [] h s = absurd s
  parts_stay (part ∷ parts) (m ∷ made) h s =
      let p = three (first part.op) (is_term part.term) (follow parts) (sym (parts_begin part parts) ∙ h) in
      parts_begin m made
      ∙ from_three (first m.op) (is_term m.term) (follow made) (ap first s.0 ∙ p.0) s.1 (trees_follow (signs parts) made (follow_trees parts p.2).1 s.2)

-- ---- intervals
keep_interval : (low high : Term) → KeepsWays (ways low) → KeepsWays (ways high) → Keeps IsTree (both t.Interval (ways low).elsewhere (ways high).elsewhere)
keep_interval low high k m =
    keeps_both IsTree IsTree IsTree t.Interval (ways low).elsewhere (ways high).elsewhere
    (λ a b p q. interval_rules a b ∙ and_intro (is_term a) (is_term b) p q) k.0 m.0

keep_for_interval : (next : ℕ) (interval : Made Term) → IsKept IsTree interval → IsKept IsTree (for_interval next interval)
keep_for_interval next interval k = record {
  made = variable_rules next;
  added = (
    record {
      tree = comparison_rules (t.Variable next) Equal interval.made ∙ and_intro (is_term (t.Variable next)) (is_term interval.made) (variable_rules next) k.made;
      checked = subst IsLiteralChecked (sym (read-Compare (t.Variable next) Equal interval.made)) (ends-Variable next);
    },
    k.added,
  );
}

keeps_passes : Passes KeepsTerm
keeps_passes = record {
  number = λ n h. alike_keeps (ways (t.Number n)) (same (t.Number n)) (ways-Number n) (λ next. kept_same IsTree (t.Number n) next h);
  text = λ text h. alike_keeps (ways (t.Text text)) (same (t.Text text)) (ways-Text text) (λ next. kept_same IsTree (t.Text text) next h);
  variable = λ n h. alike_keeps (ways (t.Variable n)) (λ next. seeing (sight.Variable n) (same (t.Variable n) next)) (ways-Variable n)
      (λ next. kept_seeing IsTree (sight.Variable n) (same (t.Variable n) next) (kept_same IsTree (t.Variable n) next h));
  anonymous = λ h. alike_keeps (ways t.Anonymous) (λ next. seeing (sight.Anonymous next) (same (t.Variable next) (suc next))) ways-Anonymous
      (λ next. kept_seeing IsTree (sight.Anonymous next) (same (t.Variable next) (suc next)) (kept_same IsTree (t.Variable next) (suc next) (variable_rules next)));
  function = λ name args all h.
      let way = each (map (λ arg. arg.argument) (map ways args)) in
      let p = and_elim (is_name name) (list_all (λ arg. arg) (map is_term args)) (sym (function_rules name args) ∙ h) in
      let k = keeps_each IsTree (map (λ arg. arg.argument) (map ways args)) (keep_arguments args all (all_trees args p.1)) in
      alike_keeps (ways (t.Function name args)) (λ next. mapped (t.Function name) (way next)) (ways-Function name args)
      (λ next. kept_mapped (AllByRecursion IsTree) IsTree (t.Function name) (way next)
      (λ trees. function_rules name (way next).made ∙ and_intro (is_name name) (list_all (λ arg. arg) (map is_term (way next).made)) p.0 (trees_all (way next).made trees)) (k next));
  tuple = λ args all h.
      let way = each (map (λ arg. arg.argument) (map ways args)) in
      let k = keeps_each IsTree (map (λ arg. arg.argument) (map ways args)) (keep_arguments args all (all_trees args (sym (tuple_rules args) ∙ h))) in
      alike_keeps (ways (t.Tuple args)) (λ next. mapped t.Tuple (way next)) (ways-Tuple args)
      (λ next. kept_mapped (AllByRecursion IsTree) IsTree t.Tuple (way next) (λ trees. tuple_rules (way next).made ∙ trees_all (way next).made trees) (k next));
  sum = λ parts all h.
      let way = each (map part_way (map ways_in parts)) in
      let are = sym (sum_rules parts) ∙ h in
      let k = keep_parts parts all (parts_trees begins_sum adds parts are) in
      alike_keeps (ways (t.Sum parts)) (λ next. mapped t.Sum (way next)) (ways-Sum parts)
      (λ next. kept_mapped (AreSigned (signs parts)) IsTree t.Sum (way next) (λ s. sum_rules (way next).made ∙ parts_stay begins_sum adds parts (way next).made are s) (k next));
  product = λ parts all h.
      let way = each (map part_way (map ways_in parts)) in
      let are = sym (product_rules parts) ∙ h in
      let k = keep_parts parts all (parts_trees begins_product multiplies parts are) in
      alike_keeps (ways (t.Product parts)) (λ next. mapped t.Product (way next)) (ways-Product parts)
      (λ next. kept_mapped (AreSigned (signs parts)) IsTree t.Product (way next) (λ s. product_rules (way next).made ∙ parts_stay begins_product multiplies parts (way next).made are s) (k next));
  minus = λ inner k h.
      alike_keeps (ways (t.Minus inner)) (λ next. mapped t.Minus ((ways inner).elsewhere next)) (ways-Minus inner)
      (λ next. kept_mapped IsTree IsTree t.Minus ((ways inner).elsewhere next) (λ p. minus_rules ((ways inner).elsewhere next).made ∙ p) ((k (sym (minus_rules inner) ∙ h)).0 next));
  interval = λ low high k m h.
      let p = and_elim (is_term low) (is_term high) (sym (interval_rules low high) ∙ h) in
      let one = k p.0 in
      let other = m p.1 in
      subst KeepsWays (sym (ways-Interval low high))
      (keep_interval low high one other, λ next. keep_for_interval next (both t.Interval (ways low).elsewhere (ways high).elsewhere (suc next)) (keep_interval low high one other (suc next)));
}

keeps_term : (term : Term) → KeepsTerm term
keeps_term = every_term KeepsTerm keeps_passes

-- a term that is no argument, and one that is an atom
pub keeps_made : (term : Term) → is_term term ≡ true → Keeps IsTree (term_made term)
keeps_made term h = (keeps_term term h).0

pub keeps_atom : (term : Term) → is_term term ≡ true → Keeps IsTree (atom_made term)
keeps_atom term h next = kept_seeing IsTree sight.Atom (term_made term next) (keeps_made term h next)

-- ---- a term that is no interval
abbrev StaysNoInterval : Term → Type 0
StaysNoInterval term = ends term ≡ None → (next : ℕ) → ends ((ways term).elsewhere next).made ≡ None

elsewhere_is : (w : Ways) (way : ℕ → Made Term) → w ≡ record { elsewhere = way; argument = way } → ((next : ℕ) → ends (way next).made ≡ None) → (next : ℕ) → ends (w.elsewhere next).made ≡ None
elsewhere_is w way is none = subst (λ (v : Ways). (next : ℕ) → ends (v.elsewhere next).made ≡ None) (sym is) none

no_interval_passes : Passes StaysNoInterval
no_interval_passes = record {
  number = λ n h. elsewhere_is (ways (t.Number n)) (same (t.Number n)) (ways-Number n) (λ next. h);
  text = λ text h. elsewhere_is (ways (t.Text text)) (same (t.Text text)) (ways-Text text) (λ next. h);
  variable = λ n h. elsewhere_is (ways (t.Variable n)) (λ next. seeing (sight.Variable n) (same (t.Variable n) next)) (ways-Variable n) (λ next. h);
  anonymous = λ h. elsewhere_is (ways t.Anonymous) (λ next. seeing (sight.Anonymous next) (same (t.Variable next) (suc next))) ways-Anonymous (λ next. ends-Variable next);
  function = λ name args all h.
      let way = each (map (λ arg. arg.argument) (map ways args)) in
      elsewhere_is (ways (t.Function name args)) (λ next. mapped (t.Function name) (way next)) (ways-Function name args) (λ next. ends-Function name (way next).made);
  tuple = λ args all h.
      let way = each (map (λ arg. arg.argument) (map ways args)) in
      elsewhere_is (ways (t.Tuple args)) (λ next. mapped t.Tuple (way next)) (ways-Tuple args) (λ next. ends-Tuple (way next).made);
  sum = λ parts all h.
      let way = each (map part_way (map ways_in parts)) in
      elsewhere_is (ways (t.Sum parts)) (λ next. mapped t.Sum (way next)) (ways-Sum parts) (λ next. ends-Sum (way next).made);
  product = λ parts all h.
      let way = each (map part_way (map ways_in parts)) in
      elsewhere_is (ways (t.Product parts)) (λ next. mapped t.Product (way next)) (ways-Product parts) (λ next. ends-Product (way next).made);
  minus = λ inner k h.
      elsewhere_is (ways (t.Minus inner)) (λ next. mapped t.Minus ((ways inner).elsewhere next)) (ways-Minus inner) (λ next. ends-Minus ((ways inner).elsewhere next).made);
  interval = λ low high k m h. absurd (some_none (sym (ends-Interval low high) ∙ h));
}
  where
    some_none : {pair : Term × Term} → Some pair ≡ None → ⊥
    some_none e = cc

pub stays_no_interval : (term : Term) → ends term ≡ None → (next : ℕ) → ends (term_made term next).made ≡ None
stays_no_interval = every_term StaysNoInterval no_interval_passes
