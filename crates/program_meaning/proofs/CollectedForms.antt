-- Collected forms are in order, and sound over numbers.
use Rattle.std.proofs.Common.{◌≡◌, ◌≤◌, ◌<◌, inl, inr, ℕ, suc, nat_lt, nat_le, Bool, true, false, not, ◌&&◌, ◌||◌, ℤ, pos, negsuc, ◌-ℤ◌, ◌*ℤ◌, List, [], ◌∷◌, length, map, fold, Option, None, Some, if◌then◌else◌, refl, sym, ◌∙◌, ap, subst, true≢false, arith}
use Rattle.std.specs.List.{AllByRecursion, list_all}
use Rattle.std.specs.Ordering.{is_eq, ordering_reverse}
use Rattle.std.specs.declared.cmp.Ordering.{Ordering}
use Rattle.std.specs.declared.cmp.Ordering.TheVariants.{Less, Equal, Greater}
use Rattle.std.proofs.lemmas.Bool.Decides.{nat_tests}
use Rattle.std.proofs.lemmas.Int.{ints}
use Rattle.symbols.specs.Symbol.{Symbol, Number, Identifier, Text, Function}
use Rattle.symbols.specs.Order.{symbol_cmp}
use Rattle.symbols.proofs.OrderLemmas.{symbol_cmp-level, symbol_cmp-less, symbol_cmp-reverse}
use Rattle.syntax_tree.specs.declared.term.Op.{Op}
use Rattle.syntax_tree.specs.declared.term.Op.TheVariants as op
use Rattle.syntax_tree.specs.declared.term.Part.{Part}
use Rattle.syntax_tree.specs.declared.term.Term.{Term}
use Rattle.syntax_tree.specs.declared.term.Term.TheFolds.{fold-Part}
use Rattle.syntax_tree.specs.declared.term.Term.TheVariants as t
use Rattle.syntax_tree.specs.Arithmetic.{combined}
use Rattle.syntax_tree.specs.Outcome.{Outcome, IsSymbol, IsOver, IsUndefined}
use Rattle.syntax_tree.specs.Value.{operand, plain, joined, some_outcome, from_left, named, nested, negated, variable, value_of, part_value}
use Rattle.ground_model.specs.declared.linear.Linear.{Linear}
use Rattle.ground_model.specs.Members.{IsMember}
use Rattle.ground_model.specs.Rule.{LinearOf}
use Rattle.ground_model.specs.Sound.{is_small, are_sound_pairs, is_sound_linear}
use Rattle.ground_model.proofs.Bools.{and_elim, and_intro}
use Rattle.program_meaning.specs.Ascending.{Ascends}
use Rattle.program_meaning.specs.Canonical.{number_from, number_of, or_zero, variable_number}
use Rattle.program_meaning.specs.Collected.{placed, pair_added, pairs_added, scaled, holds_variable, is_small_form, Collected, collected_step, symbol_collected, worth_collected, form_joined, operation_collected, part_joined, some_collected, parts_collected, minus_collected, collected}
use Rattle.program_meaning.specs.Laws.{FormLaw, OrdinaryLaw, SoundTermLaw}
use Rattle.program_meaning.proofs.CollectedValue.{minus_one}
use Rattle.program_meaning.proofs.Layers
use Rattle.program_meaning.proofs.Numbers.{number_found, number_least, number_most, same_symbol, some_same}
use Rattle.program_meaning.proofs.Terms.{Passes, every_term}

-- ---- forms in order

abbrev pub pair_order : Symbol × ℤ → Symbol × ℤ → Ordering
pair_order a b = symbol_cmp a.0 b.0

abbrev pub InOrder : List (Symbol × ℤ) → Type 0
InOrder ps = Ascends pair_order ps

abbrev Above : Symbol → List (Symbol × ℤ) → Type 0
Above y ps = AllByRecursion (λ p. symbol_cmp y p.0 ≡ Less) ps

reversed : (o : Ordering) → ordering_reverse o ≡ Greater → o ≡ Less
reversed Less e = refl
reversed Equal e = cc
reversed Greater e = cc

turned : (x y : Symbol) → symbol_cmp x y ≡ Greater → symbol_cmp y x ≡ Less
turned x y e = reversed (symbol_cmp y x) (sym (symbol_cmp-reverse x y) ∙ e)

above_more : (y : Symbol) (x : Symbol) → symbol_cmp y x ≡ Less → (ps : List (Symbol × ℤ)) → Above x ps → Above y ps
above_more y x l [] a = tt
above_more y x l (p ∷ ps) a = (symbol_cmp-less y x p.0 l a.0, above_more y x l ps a.1)

above_added : (y x : Symbol) (c : ℤ) (ps : List (Symbol × ℤ)) → symbol_cmp y x ≡ Less → Above y ps → Above y (pair_added x c ps)
above_added y x c [] l a = (l, tt)
above_added y x c (p ∷ ps) l a = go (symbol_cmp x p.0) (above_added y x c ps l a.1)
  where
    go : (o : Ordering) → Above y (pair_added x c ps) → Above y (placed o x c p ps (pair_added x c ps))
    go Less rec = (l, a)
    go Equal rec = (l, a.1)
    go Greater rec = (a.0, rec)

added_in_order : (x : Symbol) (c : ℤ) (ps : List (Symbol × ℤ)) → InOrder ps → InOrder (pair_added x c ps)
added_in_order x c [] i = (tt, tt)
added_in_order x c (p ∷ ps) i = go (symbol_cmp x p.0) refl (added_in_order x c ps i.1)
  where
    go : (o : Ordering) → symbol_cmp x p.0 ≡ o → InOrder (pair_added x c ps) → InOrder (placed o x c p ps (pair_added x c ps))
    go Less e rec = ((e, above_more x p.0 e ps i.0), i)
    go Equal e rec = (subst (λ z. Above z ps) (sym (symbol_cmp-level x p.0 e)) i.0, i.1)
    go Greater e rec = (above_added p.0 x c ps (turned x p.0 e) i.0, rec)

pub sum_in_order : (ps qs : List (Symbol × ℤ)) → InOrder qs → InOrder (pairs_added ps qs)
sum_in_order [] qs i = i
sum_in_order (p ∷ ps) qs i = added_in_order p.0 p.1 (pairs_added ps qs) (sum_in_order ps qs i)

scaled_above : (k : ℤ) (y : Symbol) (ps : List (Symbol × ℤ)) → Above y ps → Above y (map (λ p. (p.0, k *ℤ p.1)) ps)
scaled_above k y [] a = tt
scaled_above k y (p ∷ ps) a = (a.0, scaled_above k y ps a.1)

pub scaled_in_order : (k : ℤ) (ps : List (Symbol × ℤ)) → InOrder ps → InOrder (map (λ p. (p.0, k *ℤ p.1)) ps)
scaled_in_order k [] i = tt
scaled_in_order k (p ∷ ps) i = (scaled_above k p.0 ps i.0, scaled_in_order k ps i.1)

joined_in_order : (o : Op) (a b : LinearOf Symbol) → InOrder a.pairs → InOrder b.pairs → InOrder (form_joined o a b).pairs
joined_in_order op.Plus a b i j = sum_in_order a.pairs b.pairs j
joined_in_order op.Minus a b i j = sum_in_order a.pairs (scaled (negsuc 0) b).pairs (scaled_in_order (negsuc 0) b.pairs j)
joined_in_order op.Times a b i j = go (holds_variable a)
  where
    go : (h : Bool) → InOrder (if h then scaled b.constant a else scaled a.constant b).pairs
    go true = scaled_in_order b.constant a.pairs i
    go false = scaled_in_order a.constant b.pairs j
joined_in_order op.Divide a b i j = tt
joined_in_order op.Remainder a b i j = tt

-- ---- small numbers

small_turned : (z : ℤ) → is_small z ≡ true → is_small (negsuc 0 *ℤ z) ≡ true
small_turned z h = ap is_small (minus_one z) ∙ other z h
  where
    other : (z : ℤ) → is_small z ≡ true → is_small (pos 0 -ℤ z) ≡ true
    other z h = grind (arith, ints)

abbrev all_small : List (Symbol × ℤ) → Bool
all_small ps = list_all (λ p. is_small p.1) ps

all_turned : (ps : List (Symbol × ℤ)) → all_small ps ≡ true → all_small (map (λ p. (p.0, negsuc 0 *ℤ p.1)) ps) ≡ true
all_turned [] h = refl
all_turned (p ∷ ps) h =
    let both = and_elim (is_small p.1) (all_small ps) h in
    and_intro (is_small (negsuc 0 *ℤ p.1)) (all_small (map (λ q. (q.0, negsuc 0 *ℤ q.1)) ps)) (small_turned p.1 both.0) (all_turned ps both.1)

form_turned : (a : LinearOf Symbol) → is_small_form a ≡ true → is_small_form (scaled (negsuc 0) a) ≡ true
form_turned a h =
    let both = and_elim (all_small a.pairs) (is_small a.constant) h in
    and_intro (all_small (scaled (negsuc 0) a).pairs) (is_small (negsuc 0 *ℤ a.constant)) (all_turned a.pairs both.0) (small_turned a.constant both.1)

not_false : (b : Bool) → not b ≡ false → b ≡ true
not_false true e = refl
not_false false e = absurd (true≢false e)

last_false : (a b : Bool) → (a || b) ≡ false → b ≡ false
last_false false b e = e
last_false true b e = absurd (true≢false e)

-- ---- terms

record Formed (c : Collected) : Type 0 where
  order : InOrder c.form.pairs
  small : c.large ≡ false → is_small_form c.form ≡ true

formed_symbol : (s : Symbol) → Formed (symbol_collected s)
formed_symbol (Number n) = record { order = tt; small = λ e. not_false _ e }
formed_symbol (Identifier name) = record { order = (tt, tt); small = λ e. not_false _ e }
formed_symbol (Text text) = record { order = tt; small = λ e. not_false _ e }
formed_symbol (Function [] args) = record { order = tt; small = λ e. not_false _ e }
formed_symbol (Function (byte ∷ name) args) = record { order = (tt, tt); small = λ e. not_false _ e }

formed_worth : (o : Outcome) → Formed (worth_collected o)
formed_worth (IsSymbol s) = formed_symbol s
formed_worth IsOver = record { order = tt; small = λ e. refl }
formed_worth IsUndefined = record { order = tt; small = λ e. refl }

formed_operation : (o : Op) (a b : Collected) → Formed a → Formed b → Formed (operation_collected o a b)
formed_operation o a b f g = record {
  order = joined_in_order o a.form b.form f.order g.order;
  small = λ e. not_false (is_small_form (form_joined o a.form b.form)) (last_false (a.large || b.large) (not (is_small_form (form_joined o a.form b.form))) e);
}

formed_minus : (a : Collected) → Formed a → Formed (minus_collected a)
formed_minus a f = record { order = scaled_in_order (negsuc 0) a.form.pairs f.order; small = λ e. form_turned a.form (f.small e) }

module _ (bound : List Outcome) where
  abbrev FormedTerm : Term → Type 0
  FormedTerm term = Formed (collected bound term)

  abbrev collected_part : Part → Op × Collected
  collected_part = fold-Part Collected (Op × Collected) (collected_step bound) (λ p. (p.op, p.term))

  abbrev FormedSome : Option Collected → Type 0
  FormedSome None = Unit {0}
  FormedSome (Some c) = Formed c

  formed_part : (part : Part) → FormedTerm part.term → Formed (collected_part part).1
  formed_part part f = subst Formed (sym (ap (λ q. q.1) (Layers.collected-Part bound part))) f

  formed_joined : (part : Part) → FormedTerm part.term → (c : Option Collected) → FormedSome c → FormedSome (part_joined c (collected_part part))
  formed_joined part f None g = formed_part part f
  formed_joined part f (Some c) g = formed_operation (collected_part part).0 c (collected_part part).1 g (formed_part part f)

  formed_parts : (parts : List Part) → AllByRecursion (λ part. FormedTerm part.term) parts → (c : Option Collected) → FormedSome c
      → FormedSome (fold part_joined c (map collected_part parts))
  formed_parts [] all c g = g
  formed_parts (part ∷ parts) all c g = formed_parts parts all.1 (part_joined c (collected_part part)) (formed_joined part all.0 c g)

  formed_some : (c : Option Collected) → FormedSome c → Formed (some_collected c)
  formed_some None g = formed_worth IsUndefined
  formed_some (Some c) g = g

  formed_all : (parts : List Part) → AllByRecursion (λ part. FormedTerm part.term) parts → Formed (parts_collected (map collected_part parts))
  formed_all parts all = formed_some (fold part_joined None (map collected_part parts)) (formed_parts parts all None tt)

  to_formed : (term : Term) (c : Collected) → collected bound term ≡ c → Formed c → FormedTerm term
  to_formed term c e f = subst Formed (sym e) f

  formed_passes : Passes FormedTerm
  formed_passes = record {
    number = λ n. to_formed (t.Number n) _ (Layers.collected-Number bound n) (formed_symbol (Number n));
    text = λ text. to_formed (t.Text text) _ (Layers.collected-Text bound text) (formed_symbol (Text text));
    variable = λ n. to_formed (t.Variable n) _ (Layers.collected-Variable bound n) (formed_worth (variable bound n));
    anonymous = to_formed t.Anonymous _ (Layers.collected-Anonymous bound) (formed_worth IsUndefined);
    function = λ name args all. to_formed (t.Function name args) _ (Layers.collected-Function bound name args) (formed_worth _);
    tuple = λ args all. to_formed (t.Tuple args) _ (Layers.collected-Tuple bound args) (formed_worth _);
    sum = λ parts all. to_formed (t.Sum parts) _ (Layers.collected-Sum bound parts) (formed_all parts all);
    product = λ parts all. to_formed (t.Product parts) _ (Layers.collected-Product bound parts) (formed_all parts all);
    minus = λ inner f. to_formed (t.Minus inner) _ (Layers.collected-Minus bound inner) (formed_minus (collected bound inner) f);
    interval = λ left right f g. to_formed (t.Interval left right) _ (Layers.collected-Interval bound left right) (record { order = tt; small = λ e. refl });
  }

  formed_term : (term : Term) → FormedTerm term
  formed_term term = every_term FormedTerm formed_passes term

pub form_law : FormLaw
form_law bound term = ((formed_term bound term).order, (formed_term bound term).small)

-- ---- over numbers

-- symbols of an ascending list have numbers that ascend
pub numbers_ascend : (n : ℕ) (xs : List Symbol) → Ascends symbol_cmp xs → (a b : Symbol) (j k : ℕ) → symbol_cmp a b ≡ Less
    → number_from n xs a ≡ Some j → number_from n xs b ≡ Some k → j < k
numbers_ascend n [] up a b j k l e f = cc
numbers_ascend n (x ∷ xs) up a b j k l e f = go (is_eq (symbol_cmp a x)) (is_eq (symbol_cmp b x)) refl refl e f (numbers_ascend (suc n) xs up.1 a b j k l)
  where
    less_itself : (y : Symbol) → symbol_cmp y y ≡ Less → ⊥
    less_itself y h = both (symbol_cmp y y) (symbol_cmp-reverse y y) h
      where
        both : (o : Ordering) → o ≡ ordering_reverse o → o ≡ Less → ⊥
        both Less e f = cc
        both Equal e f = cc
        both Greater e f = cc

    later : (ys : List Symbol) → AllByRecursion (λ y. symbol_cmp x y ≡ Less) ys → (m i : ℕ) → number_from m ys a ≡ Some i → symbol_cmp x a ≡ Less
    later [] all m i g = cc
    later (y ∷ ys) all m i g = at (is_eq (symbol_cmp a y)) refl g (later ys all.1 (suc m) i)
      where
        at : (t : Bool) → is_eq (symbol_cmp a y) ≡ t → (if t then Some m else number_from (suc m) ys a) ≡ Some i
            → (number_from (suc m) ys a ≡ Some i → symbol_cmp x a ≡ Less) → symbol_cmp x a ≡ Less
        at true h g rec = subst (λ z. symbol_cmp x z ≡ Less) (sym (same_symbol a y h)) all.0
        at false h g rec = rec g

    go : (s t : Bool) → is_eq (symbol_cmp a x) ≡ s → is_eq (symbol_cmp b x) ≡ t
        → (if s then Some n else number_from (suc n) xs a) ≡ Some j → (if t then Some n else number_from (suc n) xs b) ≡ Some k
        → (number_from (suc n) xs a ≡ Some j → number_from (suc n) xs b ≡ Some k → j < k) → j < k
    go true true p q e f rec =
        absurd (less_itself x (subst (λ z. symbol_cmp z x ≡ Less) (same_symbol a x p) (subst (λ z. symbol_cmp a z ≡ Less) (same_symbol b x q) l)))
    go true false p q e f rec = let h = number_least (suc n) xs b k f in let g = some_same n j e in omega (arith, h, g)
    go false true p q e f rec =
        absurd (less_itself x (symbol_cmp-less x a x (later xs up.0 (suc n) j e) (subst (λ z. symbol_cmp a z ≡ Less) (same_symbol b x q) l)))
    go false false p q e f rec = rec e f

module _ (variables : List Symbol) (up : Ascends symbol_cmp variables) where
  abbrev numbered : List (Symbol × ℤ) → List (ℕ × ℤ)
  numbered ps = map (λ pair. (variable_number variables pair.0, pair.1)) ps

  below : (a b : ℕ) → a < b → nat_lt a b ≡ true
  below a b l = grind (arith, nat_tests)

  within : (a b : ℕ) → a ≤ b → nat_le a b ≡ true
  within a b l = grind (arith, nat_tests)

  before_all : (a b : Symbol) (j : ℕ) → symbol_cmp a b ≡ Less → number_of variables a ≡ Some j → IsMember variables b → j < variable_number variables b
  before_all a b j l e m =
      let k = number_found 1 variables b m in
      subst (λ o. j < or_zero o) (sym k.1) (numbers_ascend 1 variables up a b j k.0 l e k.1)

  sound_pairs : (ps : List (Symbol × ℤ)) → InOrder ps → ((p : Symbol × ℤ) → IsMember ps p → IsMember variables p.0) → (before : ℕ)
      → ((p : Symbol × ℤ) → IsMember ps p → before < variable_number variables p.0) → all_small ps ≡ true
      → are_sound_pairs (length variables) before (numbered ps) ≡ true
  sound_pairs [] i known before l small = refl
  sound_pairs (p ∷ ps) i known before l small =
      let k = number_found 1 variables p.0 (known p (inl refl)) in
      let is = ap or_zero k.1 in
      let most = number_most 1 variables p.0 k.0 k.1 in
      let both = and_elim (is_small p.1) (all_small ps) small in
      and_intro ((nat_lt before (variable_number variables p.0) && nat_le (variable_number variables p.0) (length variables)) && is_small p.1)
      (are_sound_pairs (length variables) (variable_number variables p.0) (numbered ps))
      (and_intro (nat_lt before (variable_number variables p.0) && nat_le (variable_number variables p.0) (length variables)) (is_small p.1)
      (and_intro (nat_lt before (variable_number variables p.0)) (nat_le (variable_number variables p.0) (length variables))
      (below before (variable_number variables p.0) (l p (inl refl)))
      (within (variable_number variables p.0) (length variables) (subst (λ m. m ≤ length variables) (sym is) (omega (arith, most))))) both.0)
      (sound_pairs ps i.1 (λ q m. known q (inr m)) (variable_number variables p.0)
      (λ q m. subst (λ n. n < variable_number variables q.0) (sym is) (before_all p.0 q.0 k.0 (less ps i.0 q m) k.1 (known q (inr m)))) both.1)
    where
      less : (qs : List (Symbol × ℤ)) → Above p.0 qs → (q : Symbol × ℤ) → IsMember qs q → symbol_cmp p.0 q.0 ≡ Less
      less [] a q m = absurd m
      less (r ∷ qs) a q (inl e) = subst (λ z. symbol_cmp p.0 z.0 ≡ Less) (sym e) a.0
      less (r ∷ qs) a q (inr m) = less qs a.1 q m

  sound_form : (form : LinearOf Symbol) → InOrder form.pairs → is_small_form form ≡ true → ((p : Symbol × ℤ) → IsMember form.pairs p → IsMember variables p.0)
      → (linear : Linear) → linear.pairs ≡ numbered form.pairs → linear.constant ≡ form.constant → is_sound_linear (length variables) linear ≡ true
  sound_form form i small known linear e f =
      let both = and_elim (all_small form.pairs) (is_small form.constant) small in
      and_intro (are_sound_pairs (length variables) 0 linear.pairs) (is_small linear.constant)
      (subst (λ z. are_sound_pairs (length variables) 0 z ≡ true) (sym e)
      (sound_pairs form.pairs i known 0 (λ p m. above p (known p m)) both.0)) (ap is_small f ∙ both.1)
    where
      above : (p : Symbol × ℤ) → IsMember variables p.0 → 0 < variable_number variables p.0
      above p m =
          let k = number_found 1 variables p.0 m in
          let h = number_least 1 variables p.0 k.0 k.1 in
          subst (λ o. 0 < or_zero o) (sym k.1) (omega (arith, h))

pub sound_term_law : SoundTermLaw
sound_term_law variables up bound term form has known linear e =
    sound_form variables up form (subst (λ f. InOrder f.pairs) has.same (formed_term bound term).order)
    (subst (λ f. is_small_form f ≡ true) has.same ((formed_term bound term).small has.small))
    (λ p m. known p.0 (p.1, m)) linear (ap (λ z. z.pairs) e) (ap (λ z. z.constant) e)

-- ---- values as ordinary terms

symbol_value : (s : Symbol) → (symbol_collected s).value ≡ IsSymbol s
symbol_value (Number n) = refl
symbol_value (Identifier name) = refl
symbol_value (Text text) = refl
symbol_value (Function [] args) = refl
symbol_value (Function (byte ∷ name) args) = refl

worth_value : (o : Outcome) → (worth_collected o).value ≡ o
worth_value (IsSymbol s) = symbol_value s
worth_value IsOver = refl
worth_value IsUndefined = refl

module _ (bound : List Outcome) where
  abbrev SameValue : Term → Type 0
  SameValue term = (collected bound term).value ≡ value_of bound term

  abbrev collected_piece : Part → Op × Collected
  collected_piece = fold-Part Collected (Op × Collected) (collected_step bound) (λ p. (p.op, p.term))

  same_all : (args : List Term) → AllByRecursion SameValue args → map (λ arg. arg.value) (map (collected bound) args) ≡ map (value_of bound) args
  same_all [] all = refl
  same_all (arg ∷ args) all = λ i. all.0 i ∷ same_all args all.1 i

  abbrev SameSome : Option Collected → Option Outcome → Type 0
  SameSome None None = Unit {0}
  SameSome None (Some o) = ⊥
  SameSome (Some c) None = ⊥
  SameSome (Some c) (Some o) = c.value ≡ o

  piece_value : (part : Part) → SameValue part.term → ((collected_piece part).0, (collected_piece part).1.value) ≡ part_value bound part
  piece_value part f =
      ap (λ q. (q.0, q.1.value)) (Layers.collected-Part bound part) ∙ ap (λ o. (part.op, o)) f ∙ sym (Layers.part_value-Part bound part)

  same_joined : (part : Part) → SameValue part.term → (c : Option Collected) (o : Option Outcome) → SameSome c o
      → SameSome (part_joined c (collected_piece part)) (joined o (part_value bound part))
  same_joined part f None None g = ap (λ q. q.1) (piece_value part f)
  same_joined part f None (Some o) g = absurd g
  same_joined part f (Some c) None g = absurd g
  same_joined part f (Some c) (Some o) g =
      let e = piece_value part f in
      (λ i. plain (combined (e i).0 (operand (g i)) (operand (e i).1)))

  same_parts : (parts : List Part) → AllByRecursion (λ part. SameValue part.term) parts → (c : Option Collected) (o : Option Outcome) → SameSome c o
      → SameSome (fold part_joined c (map collected_piece parts)) (fold joined o (map (part_value bound) parts))
  same_parts [] all c o g = g
  same_parts (part ∷ parts) all c o g =
      same_parts parts all.1 (part_joined c (collected_piece part)) (joined o (part_value bound part)) (same_joined part all.0 c o g)

  same_some : (c : Option Collected) (o : Option Outcome) → SameSome c o → (some_collected c).value ≡ some_outcome o
  same_some None None g = refl
  same_some None (Some o) g = absurd g
  same_some (Some c) None g = absurd g
  same_some (Some c) (Some o) g = g

  same_sum : (parts : List Part) → AllByRecursion (λ part. SameValue part.term) parts
      → (parts_collected (map collected_piece parts)).value ≡ from_left (map (part_value bound) parts)
  same_sum parts all = same_some (fold part_joined None (map collected_piece parts)) (fold joined None (map (part_value bound) parts)) (same_parts parts all None None tt)

  same_passes : Passes SameValue
  same_passes = record {
    number = λ n. ap (λ c. c.value) (Layers.collected-Number bound n) ∙ sym (Layers.value_of-Number bound n);
    text = λ text. ap (λ c. c.value) (Layers.collected-Text bound text) ∙ sym (Layers.value_of-Text bound text);
    variable = λ n. ap (λ c. c.value) (Layers.collected-Variable bound n) ∙ worth_value (variable bound n) ∙ sym (Layers.value_of-Variable bound n);
    anonymous = ap (λ c. c.value) (Layers.collected-Anonymous bound) ∙ sym (Layers.value_of-Anonymous bound);
    function = λ name args all.
        ap (λ c. c.value) (Layers.collected-Function bound name args) ∙ worth_value (named name (map (λ arg. arg.value) (map (collected bound) args)))
        ∙ ap (named name) (same_all args all) ∙ sym (Layers.value_of-Function bound name args);
    tuple = λ args all.
        ap (λ c. c.value) (Layers.collected-Tuple bound args) ∙ worth_value (nested [] (map (λ arg. arg.value) (map (collected bound) args)))
        ∙ ap (nested []) (same_all args all) ∙ sym (Layers.value_of-Tuple bound args);
    sum = λ parts all. ap (λ c. c.value) (Layers.collected-Sum bound parts) ∙ same_sum parts all ∙ sym (Layers.value_of-Sum bound parts);
    product = λ parts all. ap (λ c. c.value) (Layers.collected-Product bound parts) ∙ same_sum parts all ∙ sym (Layers.value_of-Product bound parts);
    minus = λ inner f. ap (λ c. c.value) (Layers.collected-Minus bound inner) ∙ ap negated f ∙ sym (Layers.value_of-Minus bound inner);
    interval = λ left right f g. ap (λ c. c.value) (Layers.collected-Interval bound left right) ∙ sym (Layers.value_of-Interval bound left right);
  }

pub ordinary_law : OrdinaryLaw
ordinary_law bound term = every_term (SameValue bound) (same_passes bound) term
