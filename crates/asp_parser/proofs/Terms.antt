-- Terms with their constants replaced, form by form, and the rules on terms.
use Rattle.std.proofs.Common.{◌≡◌, ℕ, zero, suc, ℤ, Bool, true, false, ◌&&◌, IsTrue, List, [], ◌∷◌, ◌++◌, map, fold, length, Option, Some, None, nat_le, if◌then◌else◌, ◌⊎◌, inl, inr, refl, sym, ap, ◌∙◌, subst}
use Rattle.std.specs.List.{list_all, AllByRecursion}
use Rattle.std.specs.Map.{lookup}
use Rattle.std.specs.Str.{bytes_eq}
use Rattle.symbols.specs.Symbol.{Symbol, Number, Identifier, Text, Function, arguments, depth}
use Rattle.syntax_tree.specs.declared.term.Op.{Op}
use Rattle.syntax_tree.specs.declared.term.Part.{Part}
use Rattle.syntax_tree.specs.declared.term.Term.{Term, roll-Term}
use Rattle.syntax_tree.specs.declared.term.Term.TheOpen.{Term-F}
use Rattle.syntax_tree.specs.declared.term.Term.TheFolds.{fold-roll-Term, fold-roll-Part, ind-Term, map-Term}
use Rattle.syntax_tree.specs.declared.term.Term.TheVariants as t
use Rattle.syntax_tree.specs.declared.term.Term.TheViews.{out-Part, roll-out-Part}
use Rattle.syntax_tree.specs.Tree.{is_name, is_term, is_part, are_parts, begins_sum, adds, begins_product, multiplies}
use Rattle.syntax_tree.proofs.TreeRules.{number_rules, text_rules, function_rules, tuple_rules, sum_rules, product_rules, minus_rules, interval_rules, one_part}
use Rattle.asp_parser.specs.Replacement.{Constants, value_at, applied, term_of, terms_of, value_or_name, replaced_name, term_step, part_step, replaced, replaced_part}
use Rattle.asp_parser.specs.Constants.{symbol_of, symbol_in}
use Rattle.asp_parser.specs.ConstantTable.{AreTrees}

-- what each form of a term passes on from its parts
pub record Passes (P : Term → Type 0) : Type 0 where
  pub number : (n : ℤ) → P (t.Number n)
  pub text : (text : List ℕ) → P (t.Text text)
  pub variable : (n : ℕ) → P (t.Variable n)
  pub anonymous : P t.Anonymous
  pub function : (name : List ℕ) (args : List Term) → AllByRecursion P args → P (t.Function name args)
  pub tuple : (args : List Term) → AllByRecursion P args → P (t.Tuple args)
  pub sum : (parts : List Part) → AllByRecursion (λ part. P part.term) parts → P (t.Sum parts)
  pub product : (parts : List Part) → AllByRecursion (λ part. P part.term) parts → P (t.Product parts)
  pub minus : (inner : Term) → P inner → P (t.Minus inner)
  pub interval : (left right : Term) → P left → P right → P (t.Interval left right)

all_mapped : {A X : Type 0} (P : X → Type 0) (f : A → X) → ((a : A) → P (f a)) → (items : List A) → AllByRecursion P (map f items)
all_mapped P f h [] = tt
all_mapped P f h (a ∷ items) = (h a, all_mapped P f h items)

module _ (P : Term → Type 0) (passes : Passes P) where
  layer : {A B : Type 0} (first : A → Term) (second : B → Part) → ((a : A) → P (first a)) → ((b : B) → P (second b).term) → (y : Term-F A B)
      → P (roll-Term (map-Term A B Term Part first second y))
  unfolding roll-Term denote.Hole.Carrier.roll
  layer first second h k (Term-F.Number n) = passes.number n
  layer first second h k (Term-F.Text text) = passes.text text
  layer first second h k (Term-F.Variable n) = passes.variable n
  layer first second h k Term-F.Anonymous = passes.anonymous
  layer first second h k (Term-F.Function name args) = passes.function name (map first args) (all_mapped P first h args)
  layer first second h k (Term-F.Tuple args) = passes.tuple (map first args) (all_mapped P first h args)
  layer first second h k (Term-F.Sum parts) = passes.sum (map second parts) (all_mapped (λ part. P part.term) second k parts)
  layer first second h k (Term-F.Product parts) = passes.product (map second parts) (all_mapped (λ part. P part.term) second k parts)
  layer first second h k (Term-F.Minus inner) = passes.minus (first inner) (h inner)
  layer first second h k (Term-F.Interval left right) = passes.interval (first left) (first right) (h left) (h right)

  -- a property that each form passes on holds of every term
  pub every_term : (term : Term) → P term
  every_term =
      ind-Term P (λ part. P part.term)
      (λ x y is. subst (λ z. P (roll-Term z)) is (layer (λ e. e.0) (λ e. e.0) (λ e. e.1) (λ e. e.1) y))
      (λ x y is. subst (λ z. P z.term) is y.term.1)

-- ONE FORM REPLACED

module _ (constants : Constants) where
  abbrev step : Term-F Term Part → Term
  step = term_step constants

  pub in_number : (n : ℤ) → replaced constants (t.Number n) ≡ t.Number n
  unfolding roll-Term denote.Hole.Carrier.roll
  in_number n = fold-roll-Term Term Part step part_step (Term-F.Number n)

  pub in_text : (text : List ℕ) → replaced constants (t.Text text) ≡ t.Text text
  unfolding roll-Term denote.Hole.Carrier.roll
  in_text text = fold-roll-Term Term Part step part_step (Term-F.Text text)

  pub in_variable : (n : ℕ) → replaced constants (t.Variable n) ≡ t.Variable n
  unfolding roll-Term denote.Hole.Carrier.roll
  in_variable n = fold-roll-Term Term Part step part_step (Term-F.Variable n)

  pub in_anonymous : replaced constants t.Anonymous ≡ t.Anonymous
  unfolding roll-Term denote.Hole.Carrier.roll
  in_anonymous = fold-roll-Term Term Part step part_step Term-F.Anonymous

  pub in_function : (name : List ℕ) (args : List Term) → replaced constants (t.Function name args) ≡ replaced_name constants name (map (replaced constants) args)
  unfolding roll-Term denote.Hole.Carrier.roll
  in_function name args = fold-roll-Term Term Part step part_step (Term-F.Function name args)

  pub in_tuple : (args : List Term) → replaced constants (t.Tuple args) ≡ t.Tuple (map (replaced constants) args)
  unfolding roll-Term denote.Hole.Carrier.roll
  in_tuple args = fold-roll-Term Term Part step part_step (Term-F.Tuple args)

  pub in_sum : (parts : List Part) → replaced constants (t.Sum parts) ≡ t.Sum (map (replaced_part constants) parts)
  unfolding roll-Term denote.Hole.Carrier.roll
  in_sum parts = fold-roll-Term Term Part step part_step (Term-F.Sum parts)

  pub in_product : (parts : List Part) → replaced constants (t.Product parts) ≡ t.Product (map (replaced_part constants) parts)
  unfolding roll-Term denote.Hole.Carrier.roll
  in_product parts = fold-roll-Term Term Part step part_step (Term-F.Product parts)

  pub in_minus : (inner : Term) → replaced constants (t.Minus inner) ≡ t.Minus (replaced constants inner)
  unfolding roll-Term denote.Hole.Carrier.roll
  in_minus inner = fold-roll-Term Term Part step part_step (Term-F.Minus inner)

  pub in_interval : (left right : Term) → replaced constants (t.Interval left right) ≡ t.Interval (replaced constants left) (replaced constants right)
  unfolding roll-Term denote.Hole.Carrier.roll
  in_interval left right = fold-roll-Term Term Part step part_step (Term-F.Interval left right)

  pub in_part : (part : Part) → replaced_part constants part ≡ record { op = part.op; term = replaced constants part.term }
  in_part part = ap (replaced_part constants) (sym (roll-out-Part part)) ∙ fold-roll-Part Term Part step part_step (out-Part part)

-- TREES

abbrev pub truths : List Bool → Bool
truths = list_all (λ truth. truth)

pub both : (a b : Bool) → IsTrue a → IsTrue b → IsTrue (a && b)
both true b h k = k
both false b h k = absurd cc

pub left : (a b : Bool) → IsTrue (a && b) → IsTrue a
left true b h = refl
left false b h = absurd cc

pub right : (a b : Bool) → IsTrue (a && b) → IsTrue b
right true b h = h
right false b h = absurd cc

pub all_stay : {A : Type 0} (is : A → Bool) (f : A → A) (xs : List A) → AllByRecursion (λ x. IsTrue (is x) → IsTrue (is (f x))) xs → IsTrue (truths (map is xs)) → IsTrue (truths (map is (map f xs)))
all_stay is f [] known h = refl
all_stay is f (x ∷ xs) known h = both (is (f x)) _ (known.0 (left (is x) _ h)) (all_stay is f xs known.1 (right (is x) _ h))

abbrev Stays : (Term → Term) → Term → Type 0
Stays f term = IsTrue (is_term term) → IsTrue (is_term (f term))

module _ (constants : Constants) where
  -- a part's sign stays
  part_stays : (part : Part) → is_part (replaced_part constants part) ≡ (part.op, is_term (replaced constants part.term))
  part_stays part = ap is_part (in_part constants part) ∙ one_part (record { op = part.op; term = replaced constants part.term })

  further_stay : (further : Op → Bool) (parts : List Part) → AllByRecursion (λ part. Stays (replaced constants) part.term) parts
      → IsTrue (list_all (λ p. further p.0 && p.1) (map is_part parts)) → IsTrue (list_all (λ p. further p.0 && p.1) (map is_part (map (replaced_part constants) parts)))
  further_stay further [] known h = refl
  further_stay further (x ∷ xs) known h =
      let old : IsTrue (further x.op && is_term x.term) = subst (λ p. IsTrue (further p.0 && p.1)) (one_part x) (left (further (is_part x).0 && (is_part x).1) _ h) in
      both (further (is_part (replaced_part constants x)).0 && (is_part (replaced_part constants x)).1) _
      (subst (λ p. IsTrue (further p.0 && p.1)) (sym (part_stays x)) (both (further x.op) _ (left (further x.op) _ old) (known.0 (right (further x.op) _ old))))
      (further_stay further xs known.1 (right (further (is_part x).0 && (is_part x).1) _ h))

  parts_stay : (first further : Op → Bool) (parts : List Part) → AllByRecursion (λ part. Stays (replaced constants) part.term) parts
      → IsTrue (are_parts first further (map is_part parts)) → IsTrue (are_parts first further (map is_part (map (replaced_part constants) parts)))
  parts_stay first further [] known h = absurd cc
  parts_stay first further (x ∷ xs) known h =
      let old : IsTrue (first x.op && is_term x.term) = subst (λ p. IsTrue (first p.0 && p.1)) (one_part x) (left (first (is_part x).0 && (is_part x).1) _ h) in
      both (first (is_part (replaced_part constants x)).0 && (is_part (replaced_part constants x)).1) _
      (subst (λ p. IsTrue (first p.0 && p.1)) (sym (part_stays x)) (both (first x.op) _ (left (first x.op) _ old) (known.0 (right (first x.op) _ old))))
      (further_stay further xs known.1 (right (first (is_part x).0 && (is_part x).1) _ h))

  found_tree : (entries : Constants) (test : List ℕ → Bool) (symbol : Symbol) → AreTrees entries → lookup test entries ≡ Some symbol → IsTrue (is_term (term_of symbol))
  found_tree [] test symbol trees h = absurd cc
  found_tree (e ∷ es) test symbol trees h = go (test e.0) h (λ k. found_tree es test symbol trees.1 k)
    where
      go : (b : Bool) → (if b then Some e.1 else lookup test es) ≡ Some symbol → (lookup test es ≡ Some symbol → IsTrue (is_term (term_of symbol))) → IsTrue (is_term (term_of symbol))
      go true k rest = let same : e.1 ≡ symbol = cc in subst (λ s. IsTrue (is_term (term_of s))) same trees.0
      go false k rest = rest k

  name_stays : (name : List ℕ) → AreTrees constants → IsTrue (is_name name) → IsTrue (is_term (value_or_name name (value_at constants name)))
  name_stays name trees h = go (value_at constants name) (λ symbol is. found_tree constants (bytes_eq name) symbol trees is)
    where
      go : (o : Option Symbol) → ((symbol : Symbol) → o ≡ Some symbol → IsTrue (is_term (term_of symbol))) → IsTrue (is_term (value_or_name name o))
      go None known = function_rules name [] ∙ both (is_name name) true h refl
      go (Some symbol) known = known symbol refl

  function_stays : (name : List ℕ) (args : List Term) → AreTrees constants → AllByRecursion (Stays (replaced constants)) args
      → IsTrue (is_name name && truths (map is_term args)) → IsTrue (is_term (replaced_name constants name (map (replaced constants) args)))
  function_stays name [] trees known h = name_stays name trees (left (is_name name) _ h)
  function_stays name (x ∷ xs) trees known h =
      function_rules name (replaced constants x ∷ map (replaced constants) xs)
      ∙ both (is_name name) _ (left (is_name name) _ h) (all_stay is_term (replaced constants) (x ∷ xs) known (right (is_name name) _ h))

  abbrev StaysTree : Term → Type 0
  StaysTree = Stays (replaced constants)

  stays : AreTrees constants → Passes StaysTree
  stays trees = record {
    number = λ n h. ap is_term (in_number constants n) ∙ number_rules n;
    text = λ text h. ap is_term (in_text constants text) ∙ h;
    variable = λ n h. ap is_term (in_variable constants n) ∙ h;
    anonymous = λ h. ap is_term (in_anonymous constants) ∙ h;
    function = λ name args known h. ap is_term (in_function constants name args) ∙ function_stays name args trees known (sym (function_rules name args) ∙ h);
    tuple = λ args known h. ap is_term (in_tuple constants args) ∙ tuple_rules (map (replaced constants) args) ∙ all_stay is_term (replaced constants) args known (sym (tuple_rules args) ∙ h);
    sum = λ parts known h. ap is_term (in_sum constants parts) ∙ sum_rules (map (replaced_part constants) parts) ∙ parts_stay begins_sum adds parts known (sym (sum_rules parts) ∙ h);
    product = λ parts known h. ap is_term (in_product constants parts) ∙ product_rules (map (replaced_part constants) parts) ∙ parts_stay begins_product multiplies parts known (sym (product_rules parts) ∙ h);
    minus = λ inner known h. ap is_term (in_minus constants inner) ∙ minus_rules (replaced constants inner) ∙ known (sym (minus_rules inner) ∙ h);
    interval = λ l r known_l known_r h.
        ap is_term (in_interval constants l r) ∙ interval_rules (replaced constants l) (replaced constants r)
        ∙ both (is_term (replaced constants l)) _ (known_l (left (is_term l) _ (sym (interval_rules l r) ∙ h))) (known_r (right (is_term l) _ (sym (interval_rules l r) ∙ h)));
  }

  -- a term whose constants are replaced keeps the rules on terms
  pub replaced_stays : AreTrees constants → (term : Term) → IsTrue (is_term term) → IsTrue (is_term (replaced constants term))
  replaced_stays trees = every_term StaysTree (stays trees)
