-- What is kept of elements of theory atoms, part by part.
use Rattle.std.proofs.Common.{◌≡◌, ℕ, ℤ, zero, suc, ◌+◌, Bool, true, false, not, ◌&&◌, ◌||◌, List, [], ◌∷◌, ◌++◌, Ok, Err, Option, refl, sym, ◌∙◌, ap, subst, append_assoc, arith}
use Rattle.std.proofs.lemmas.List.{append-nil}
use Rattle.lexer.specs.declared.token.Token.{Token}
use Rattle.syntax_tree.specs.declared.rule.Name.{Name}
use Rattle.syntax_tree.specs.declared.term.Part.{Part}
use Rattle.syntax_tree.specs.declared.term.Term.{Term, roll-Term, out-roll-Term}
use Rattle.syntax_tree.specs.declared.term.Term.TheOpen.{Term-F}
use Rattle.syntax_tree.specs.declared.term.Term.TheVariants as t
use Rattle.syntax_tree.specs.declared.literal.Literal.{Literal}
use Rattle.syntax_tree.specs.declared.literal.TheoryName.{TheoryName}
use Rattle.syntax_tree.specs.declared.literal.TheoryElement.{TheoryElement, roll-TheoryElement}
use Rattle.grammar.specs.declared.shape.Shape.{Shape}
use Rattle.grammar.specs.declared.shape.Shape.TheVariants.{Interval, Other}
use Rattle.grammar.specs.Word.{Word, words_at}
use Rattle.grammar.specs.Row.{Row}
use Rattle.grammar.specs.Sight.{size}
use Rattle.grammar.specs.Term.{Adding, plus, minus, Multiplying, TermOf, TermAt, UnaryOf, Operand, Room, alone, interval, plain, applied, negated, number, text, variable, anonymous, atom, unit, group, single, tuple}
use Rattle.grammar.specs.Theory.{PlacesOf, GivenOf}
use Rattle.grammar.specs.Tree.{adding_op, sum_tree, term_tree, unary_tree, operand_tree}
use Rattle.grammar.specs.Check.{is_diff, is_dom, is_one_minus, alone_by, term_is_difference, unary_is_difference, operand_is_difference, places_where}
use Rattle.grammar.specs.Reading.{Fault, pair_with, term_at, level}
use Rattle.grammar.specs.TheoryReading.{duration_with, places_with, given_with, element_parts, element_of, element_with}
use Rattle.grammar.proofs.Lawful.{bind_by}
use Rattle.grammar.proofs.TermLaws.{term_law, term_text}
use Rattle.grammar.proofs.Pairs.{weak_of}
use Rattle.grammar.proofs.ConditionLaws.{term_on}
use Rattle.grammar.proofs.ElementLaws.{duration_on, duration_law, places_on, places_law}
use Rattle.theory_grammar.specs.declared.seen.Seen.{Seen}
use Rattle.theory_grammar.specs.State.{least, named, seen_places, Extends, Reads}
use Rattle.theory_grammar.specs.TheoryState.{Takes, is_minus, ends_by_minus, difference_by, parts_class, tree_is_difference, whole_class, judged_class, pair_class, first_class, duration_class, places_class, given_class, element_class}
use Rattle.theory_grammar.proofs.StateLemmas.{refused_least}
use Rattle.theory_grammar.proofs.TermReads.{then_fails}
use Rattle.theory_grammar.proofs.PartReads.{taken, behind_form, pair_take, pair_second_fails}

-- ---- differences, in trees as in forms
sum_view : (parts : List Part) → tree_is_difference (t.Sum parts) ≡ ends_by_minus parts
unfolding roll-Term denote.Hole.Carrier.roll
sum_view parts = ap difference_by (out-roll-Term (Term-F.Sum parts))

number_view : (n : ℤ) → tree_is_difference (t.Number n) ≡ false
unfolding roll-Term denote.Hole.Carrier.roll
number_view n = ap difference_by (out-roll-Term (Term-F.Number n))

text_view : (bytes : List ℕ) → tree_is_difference (t.Text bytes) ≡ false
unfolding roll-Term denote.Hole.Carrier.roll
text_view bytes = ap difference_by (out-roll-Term (Term-F.Text bytes))

variable_view : (n : ℕ) → tree_is_difference (t.Variable n) ≡ false
unfolding roll-Term denote.Hole.Carrier.roll
variable_view n = ap difference_by (out-roll-Term (Term-F.Variable n))

anonymous_view : tree_is_difference t.Anonymous ≡ false
unfolding roll-Term denote.Hole.Carrier.roll
anonymous_view = ap difference_by (out-roll-Term Term-F.Anonymous)

function_view : (name : List ℕ) (args : List Term) → tree_is_difference (t.Function name args) ≡ false
unfolding roll-Term denote.Hole.Carrier.roll
function_view name args = ap difference_by (out-roll-Term (Term-F.Function name args))

tuple_view : (args : List Term) → tree_is_difference (t.Tuple args) ≡ false
unfolding roll-Term denote.Hole.Carrier.roll
tuple_view args = ap difference_by (out-roll-Term (Term-F.Tuple args))

product_view : (parts : List Part) → tree_is_difference (t.Product parts) ≡ false
unfolding roll-Term denote.Hole.Carrier.roll
product_view parts = ap difference_by (out-roll-Term (Term-F.Product parts))

minus_view : (inner : Term) → tree_is_difference (t.Minus inner) ≡ false
unfolding roll-Term denote.Hole.Carrier.roll
minus_view inner = ap difference_by (out-roll-Term (Term-F.Minus inner))

interval_view : (left right : Term) → tree_is_difference (t.Interval left right) ≡ false
unfolding roll-Term denote.Hole.Carrier.roll
interval_view left right = ap difference_by (out-roll-Term (Term-F.Interval left right))

signed_minus : (a : Adding) → is_minus (adding_op a) ≡ (elim a [ plus ↦ false | minus ↦ true ] || false)
signed_minus plus = refl
signed_minus minus = refl

module _ {U : Type 0} (operand : U → Term) (test : U → Bool) (same : (u : U) → tree_is_difference (operand u) ≡ test u) where
  sum_difference : (u : U) (ps : List (Multiplying × U)) (qs : List (Adding × Row U Multiplying)) → tree_is_difference (sum_tree operand (record { first = record { first = u; rest = ps }; rest = qs })) ≡ (is_one_minus qs || alone_by (alone_by (test u) ps) qs)
  sum_difference u [] [] = same u
  sum_difference u (p ∷ ps) [] = product_view _
  sum_difference u ps (q ∷ []) = sum_view _ ∙ signed_minus q.0
  sum_difference u ps (q ∷ r ∷ qs) = sum_view _

  term_difference : (t : TermOf U) → tree_is_difference (term_tree operand t) ≡ term_is_difference test t
  term_difference (alone sum) = sum_difference sum.first.first sum.first.rest sum.rest
  term_difference (interval a b) = interval_view _ _

module _ (names : List Name) where
  unary_difference : {D R : Type 0} (inner : D → Term) (test : D → Bool) → ((d : D) → tree_is_difference (inner d) ≡ test d) → (u : UnaryOf D R) → tree_is_difference (unary_tree names inner u) ≡ unary_is_difference test u
  unary_difference inner test same (group t) = term_difference inner test same t
  unary_difference inner test same (negated d) = minus_view _
  unary_difference inner test same (number k) = number_view _
  unary_difference inner test same (text bytes) = text_view _
  unary_difference inner test same (variable name) = variable_view _
  unary_difference inner test same anonymous = anonymous_view
  unary_difference inner test same (atom (plain name)) = function_view _ _
  unary_difference inner test same (atom (applied name args)) = function_view _ _
  unary_difference inner test same (unit room) = tuple_view _
  unary_difference inner test same (single t) = tuple_view _
  unary_difference inner test same (tuple t args) = tuple_view _

  operand_difference : (n : ℕ) (d : Operand n) → tree_is_difference (operand_tree names n d) ≡ operand_is_difference n d
  operand_difference zero d = absurd d
  operand_difference (suc n) d = unary_difference (operand_tree names n) (operand_is_difference n) (operand_difference n) d

  difference_same : (t : TermAt 64) → tree_is_difference (whole_class.tree names t) ≡ term_is_difference (unary_is_difference {R = Room 64} (operand_is_difference 64)) t
  difference_same t = term_difference (unary_tree names (operand_tree names 64)) (unary_is_difference {R = Room 64} (operand_is_difference 64)) (unary_difference (operand_tree names 64) (operand_is_difference 64) (operand_difference 64)) t

-- a bad place that was noted last stands first
noted_first : (lacks : Bool) (bad : Option ℕ) (xs : List ℕ) (at : ℕ) → least (least bad xs) (places_where lacks at) ≡ least bad (places_where lacks at ++ xs)
noted_first true bad xs at = refused_least bad xs Interval at
noted_first false bad xs at = refl

-- four lists, joined from the right and from the left
four : {X : Type 0} (a b c d : List X) → a ++ (b ++ (c ++ d)) ≡ ((a ++ b) ++ c) ++ d
four a b c d = sym (append_assoc a b (c ++ d)) ∙ sym (append_assoc (a ++ b) c d)

module _ (bytes : List ℕ) (tokens : List Token) where
  abbrev here : ℕ → List Word
  here at = words_at bytes tokens at

  abbrev PartsAt : Type 0
  PartsAt = TermAt 64 × (Option (TermAt 64) × (Option (PlacesOf (Operand 64) (Room 64)) × GivenOf (Operand 64) (Room 64)))

  module _ (name : TheoryName) (at : ℕ) (p : PartsAt) where
    abbrev behind : ℕ
    behind = at + size (first_class name).words p.0

    abbrev further_on : ℕ
    further_on = behind + size (duration_class name at).words p.1.0

    abbrev last : ℕ
    last = further_on + size (places_class name).words p.1.1.0

    parts_sights : (parts_class name at).sights p at ≡ (element_class name).sights (element_of (level 64) p) at
    parts_sights = four ((first_class name).sights p.0 at) ((duration_class name at).sights p.1.0 behind) ((places_class name).sights p.1.1.0 further_on) ((given_class (is_diff name)).sights p.1.1.1 last)

    parts_bads : (parts_class name at).bads p at ≡ (element_class name).bads (element_of (level 64) p) at
    parts_bads = four ((first_class name).bads p.0 at) ((duration_class name at).bads p.1.0 behind) ((places_class name).bads p.1.1.0 further_on) ((given_class (is_diff name)).bads p.1.1.1 last)

  pub element_read : (name : TheoryName) (at : ℕ) (old one two three new : Seen) (first : Term) (shape : Shape) (long : Option Term) (rest : List Term) (condition : List Literal) (value : TheoryElement) (i j k next : ℕ)
      → Reads (first_class name) bytes tokens at old one first shape i → Takes (duration_class name at) bytes tokens i one two long j → Takes (places_class name) bytes tokens j two three rest k
      → Takes (given_class (is_diff name)) bytes tokens k three new condition next → value ≡ roll-TheoryElement (record { first = first; duration = long; rest = rest; condition = condition })
      → Reads (element_class name) bytes tokens at old new value Other next
  unfolding pair_take taken
  element_read name at old one two three new first shape long rest condition value i j k next a b c d made =
      let t = taken bytes tokens (first_class name) at old one first shape i a in
      let at_i = behind_form bytes tokens (first_class name) (term_on 64) (weak_of (term_text 64) (term_on 64) (term_at 64) (term_law 64)) at old one first i t in
      let at_j = behind_form bytes tokens (duration_class name at) (duration_on 64) (duration_law 64) i one two long j b in
      let at_k = behind_form bytes tokens (places_class name) (places_on 64) (places_law 64) j two three rest k c in
      let tail = pair_take bytes tokens (places_class name) (given_class (is_diff name)) j two three new rest condition k next c d at_k in
      let behind = pair_take bytes tokens (duration_class name at) (pair_class (places_class name) (given_class (is_diff name))) i one two new long (rest, condition) j next b tail at_j in
      let whole = pair_take bytes tokens (first_class name) (pair_class (duration_class name at) (pair_class (places_class name) (given_class (is_diff name)))) at old one new first (long, (rest, condition)) i next t behind at_i in
      let f = a.forward in let g = behind.forward in
      record {
        form = element_of (level 64) whole.form;
        is = bind_by (element_parts (level 64) (here at)) _ whole.form (here next) whole.is;
        forward = omega (arith, f, g);
        within = whole.within;
        shaped = refl;
        names = whole.names ∙ ap (named old.names) (parts_sights name at whole.form);
        places = whole.places ∙ ap (λ z. old.places ++ seen_places tokens old.names z) (parts_sights name at whole.form);
        bad = whole.bad ∙ ap (least old.bad) (parts_bads name at whole.form);
        tree = λ later h. made ∙ ap (λ p. roll-TheoryElement (record { first = p.0; duration = p.1.0; rest = p.1.1.0; condition = p.1.1.1 })) (whole.tree later h);
      }

  -- ---- the first place
  pub first_read : (name : TheoryName) (at : ℕ) (old mid new : Seen) (value : Term) (shape : Shape) (next : ℕ) (lacks : Bool) → Reads (judged_class (is_dom name)) bytes tokens at old mid value shape next
      → lacks ≡ (is_diff name && not (tree_is_difference value)) → new ≡ record mid { bad = least mid.bad (places_where lacks at) } → Reads (first_class name) bytes tokens at old new value shape next
  first_read name at old mid new value shape next lacks r same e =
      let bads = (judged_class (is_dom name)).bads r.form at in
      let tree : value ≡ whole_class.tree mid.names r.form = r.tree mid.names ([], sym (append-nil mid.names)) in
      let judged : lacks ≡ (is_diff name && not (term_is_difference (unary_is_difference {R = Room 64} (operand_is_difference 64)) r.form)) =
      same ∙ ap (λ t. is_diff name && not (tree_is_difference t)) tree ∙ ap (λ b. is_diff name && not b) (difference_same mid.names r.form) in
      record {
        form = r.form;
        is = r.is;
        forward = r.forward;
        within = r.within;
        shaped = r.shaped;
        names = ap (λ s. s.names) e ∙ r.names;
        places = ap (λ s. s.places) e ∙ r.places;
        bad = ap (λ s. s.bad) e ∙ ap (λ z. least z (places_where lacks at)) r.bad ∙ noted_first lacks old.bad bads at ∙ ap (λ b. least old.bad (places_where b at ++ bads)) judged;
        tree = λ later h. r.tree later (subst (λ z. Extends z later) (ap (λ s. s.names) e) h);
      }

  pub given_fails : (at i j k : ℕ) (first : TermAt 64) (long : Option (TermAt 64)) (rest : Option (PlacesOf (Operand 64) (Room 64))) (f : Fault) → term_at 64 (here at) ≡ Ok (first, here i) → duration_with (level 64) (here i) ≡ Ok (long, here j)
      → places_with (level 64) (here j) ≡ Ok (rest, here k) → given_with (level 64) (here k) ≡ Err f → element_with (level 64) (here at) ≡ Err f
  given_fails at i j k first long rest f a b c h =
      then_fails (element_parts (level 64) (here at)) _ f
      (pair_second_fails bytes tokens (term_at 64) (pair_with (duration_with (level 64)) (pair_with (places_with (level 64)) (given_with (level 64)))) at i first f a
      (pair_second_fails bytes tokens (duration_with (level 64)) (pair_with (places_with (level 64)) (given_with (level 64))) i j long f b
      (pair_second_fails bytes tokens (places_with (level 64)) (given_with (level 64)) j k rest f c h)))
