-- What is kept of operands that open a level, and where they fail.
use Rattle.grammar.specs.declared.words.WordKind.{WordKind}
use Rattle.grammar.specs.declared.words.WordKind.TheVariants as kinds
use Rattle.grammar.specs.Spelled.{word_by}
use Rattle.std.proofs.Common.{◌≡◌, ◌⊎◌, inl, inr, ℕ, suc, ◌+◌, ◌<◌, ◌≤◌, Bool, true, false, if◌then◌else◌, List, [], ◌∷◌, ◌++◌, length, drop, Option, Some, None, Ok, Err, refl, sym, ◌∙◌, ap, subst, arith}
use Rattle.std.proofs.lemmas.List.{append-nil}
use Rattle.lexer.specs.declared.token.Token.{Token}
use Rattle.syntax_tree.specs.declared.rule.Name.{Name}
use Rattle.syntax_tree.specs.declared.term.Term.{Term}
use Rattle.syntax_tree.specs.declared.term.Term.TheVariants as t
use Rattle.grammar.specs.declared.shape.Shape.{Shape}
use Rattle.grammar.specs.declared.shape.Shape.TheVariants.{Atom, Other}
use Rattle.grammar.specs.declared.mark.Mark.{Mark}
use Rattle.grammar.specs.declared.mark.Mark.TheVariants as m
use Rattle.grammar.specs.Word.{Word, words_at, is_next}
use Rattle.grammar.specs.Word as word
use Rattle.grammar.specs.Term.{UnaryAt, TermAt, ArgsAt, plain, applied, negated, atom, unit, group, single, tuple}
use Rattle.grammar.specs.Shape.{grouped}
use Rattle.grammar.specs.Sight.{size}
use Rattle.grammar.specs.Reading.{Fault, Expected, TooDeep, Outcome, and_then, expected, before, tuple_with, group_with, bracket_with, unary_with, unary_at, term_at, args_at}
use Rattle.grammar.proofs.WordLemmas.{the_next}
use Rattle.grammar.proofs.Lawful.{bind_by, bind_ok, ok_parts, err_same}
use Rattle.grammar.proofs.Operands.{opening, minus}
use Rattle.grammar.proofs.TermLaws.{term_law, unary_on}
use Rattle.grammar.specs.Term.{term_goes_on}
use Rattle.theory_grammar.specs.declared.seen.Seen.{Seen}
use Rattle.theory_grammar.specs.State.{least, named, seen_places, Extends, Class, Reads, part_class, argument_class, unary_class, term_class, args_class, rest_class}
use Rattle.theory_grammar.proofs.StateLemmas.{named_append, named_extends, extends_more, places_join, least_append, words_next}
use Rattle.theory_grammar.proofs.Classes.{place_behind}
use Rattle.theory_grammar.proofs.TermReads.{mark_there, two_on, then_fails}

module _ (k : ℕ) (text : List ℕ) (tokens : List Token) where
  abbrev at : ℕ → List Word
  at place = words_at text tokens place

  abbrev here : Class (UnaryAt (suc k)) Term
  here = unary_class (suc k)

  abbrev inside : Class (UnaryAt k) Term
  inside = unary_class k

  -- ---- what is read behind the first begins
  applied_is : (name : List ℕ) (ts : List Word) → unary_at (suc k) (word.name name ∷ opening ∷ ts) ≡ and_then (args_at k ts) (λ args rest. before m.Close (atom (applied name args)) rest)
  unfolding unary_with
  applied_is name ts = refl

  negated_is : (ts : List Word) → unary_at (suc k) (minus ∷ ts) ≡ and_then (unary_at k ts) (λ operand rest. Ok (negated operand, rest))
  unfolding unary_with
  negated_is ts = refl

  bracket_is : (ts : List Word) → unary_at (suc k) (opening ∷ ts) ≡ bracket_with (tt {0}, unary_at k) ts
  unfolding unary_with
  bracket_is ts = refl

  unit_is : (ts : List Word) → is_next m.Close ts ≡ true → bracket_with (tt {0}, unary_at k) ts ≡ Ok (unit tt, drop 1 ts)
  unfolding bracket_with
  unit_is ts h = rw h refl

  inside_is : (ts : List Word) → is_next m.Close ts ≡ false → bracket_with (tt {0}, unary_at k) ts ≡ and_then (term_at k ts) (group_with (tt {0}, unary_at k))
  unfolding bracket_with
  inside_is ts h = rw h refl

  group_is : (f : TermAt k) (ts : List Word) → is_next m.Close ts ≡ true → group_with {R = Unit {0}} (tt {0}, unary_at k) f ts ≡ Ok (group f, drop 1 ts)
  unfolding group_with
  group_is f ts h = rw h refl

  comma_is : (f : TermAt k) (ts : List Word) → is_next m.Close ts ≡ false → is_next m.Comma ts ≡ true → group_with {R = Unit {0}} (tt {0}, unary_at k) f ts ≡ tuple_with (tt {0}, unary_at k) f (drop 1 ts)
  unfolding group_with
  comma_is f ts h g = rw (h, g) refl

  neither_is : (f : TermAt k) (ts : List Word) → is_next m.Close ts ≡ false → is_next m.Comma ts ≡ false → group_with {R = Unit {0}} (tt {0}, unary_at k) f ts ≡ Err (Expected (length ts))
  unfolding group_with
  neither_is f ts h g = rw (h, g) refl

  before_there : {A : Type 0} (mark : Mark) (x : A) (ts : List Word) → is_next mark ts ≡ true → before mark x ts ≡ Ok (x, drop 1 ts)
  before_there mark x ts h = rw h refl

  before_missing : {A : Type 0} (mark : Mark) (x : A) (ts : List Word) → is_next mark ts ≡ false → before mark x ts ≡ Err (Expected (length ts))
  before_missing mark x ts h = rw h refl

  -- ---- a sign
  pub negated_read : (place : ℕ) (old new : Seen) (value : Term) (next : ℕ) → at place ≡ minus ∷ at (place + 1) → Reads (part_class inside) text tokens (place + 1) old new value Other next
      → Reads here text tokens place old new (t.Minus value) Other next
  negated_read place old new value next begins r = record {
    form = negated r.form;
    is = ap (unary_at (suc k)) begins ∙ negated_is (at (place + 1)) ∙ bind_by (unary_at k (at (place + 1))) _ r.form (at next) r.is;
    forward = omega (arith, r.forward);
    within = r.within;
    shaped = refl;
    names = r.names;
    places = r.places;
    bad = r.bad;
    tree = λ later h. ap t.Minus (r.tree later h);
  }

  pub negated_fails : (place : ℕ) (f : Fault) → at place ≡ minus ∷ at (place + 1) → unary_at k (at (place + 1)) ≡ Err f → unary_at (suc k) (at place) ≡ Err f
  negated_fails place f begins h = ap (unary_at (suc k)) begins ∙ negated_is (at (place + 1)) ∙ then_fails (unary_at k (at (place + 1))) _ f h

  -- ---- a name with arguments
  opened_at : (place : ℕ) (name : List ℕ) → at place ≡ word.name name ∷ at (place + 1) → is_next m.Open (at (place + 1)) ≡ true → at place ≡ word.name name ∷ opening ∷ at (place + 2)
  opened_at place name begins open_there = begins ∙ ap (λ z. word.name name ∷ z) (mark_there text tokens m.Open (place + 1) open_there ∙ ap (λ z. opening ∷ z) (two_on text tokens place))

  pub applied_read : (place : ℕ) (old new : Seen) (name held : List ℕ) (args : List Term) (next : ℕ) → at place ≡ word.name name ∷ at (place + 1) → held ≡ name → is_next m.Open (at (place + 1)) ≡ true
      → Reads (args_class inside) text tokens (place + 2) old new args Other next → is_next m.Close (at next) ≡ true → next < length tokens → Reads here text tokens place old new (t.Function held args) Atom (next + 1)
  applied_read place old new name held args next begins same open_there r closed within = record {
    form = atom (applied name r.form);
    is = ap (unary_at (suc k)) (opened_at place name begins open_there) ∙ applied_is name (at (place + 2))
        ∙ bind_by (args_at k (at (place + 2))) _ r.form (at next) r.is ∙ before_there m.Close (atom (applied name r.form)) (at next) closed
        ∙ ap (λ z. Ok (atom (applied name r.form), z)) (words_next text tokens next);
    forward = omega (arith, r.forward);
    within = omega (arith, within);
    shaped = refl;
    names = r.names;
    places = r.places;
    bad = r.bad;
    tree = λ later h. ap (λ z. t.Function z args) same ∙ ap (t.Function name) (r.tree later h);
  }

  pub applied_fails : (place : ℕ) (name : List ℕ) (f : Fault) → at place ≡ word.name name ∷ at (place + 1) → is_next m.Open (at (place + 1)) ≡ true → args_at k (at (place + 2)) ≡ Err f → unary_at (suc k) (at place) ≡ Err f
  applied_fails place name f begins open_there h = ap (unary_at (suc k)) (opened_at place name begins open_there) ∙ applied_is name (at (place + 2)) ∙ then_fails (args_at k (at (place + 2))) _ f h

  pub applied_open : (place : ℕ) (name : List ℕ) (args : ArgsAt k) (next : ℕ) → at place ≡ word.name name ∷ at (place + 1) → is_next m.Open (at (place + 1)) ≡ true → args_at k (at (place + 2)) ≡ Ok (args, at next)
      → is_next m.Close (at next) ≡ false → unary_at (suc k) (at place) ≡ Err (Expected (length (at next)))
  applied_open place name args next begins open_there is open_still =
      ap (unary_at (suc k)) (opened_at place name begins open_there) ∙ applied_is name (at (place + 2)) ∙ bind_by (args_at k (at (place + 2))) _ args (at next) is
      ∙ before_missing m.Close (atom (applied name args)) (at next) open_still

  -- ---- parentheses
  pub unit_read : (place : ℕ) (seen : Seen) → at place ≡ opening ∷ at (place + 1) → is_next m.Close (at (place + 1)) ≡ true → place + 1 < length tokens → Reads here text tokens place seen seen (t.Tuple []) Other (place + 2)
  unit_read place seen begins closed within = record {
    form = unit tt;
    is = ap (unary_at (suc k)) begins ∙ bracket_is (at (place + 1)) ∙ unit_is (at (place + 1)) closed ∙ ap (λ z. Ok (unit tt, z)) (words_next text tokens (place + 1) ∙ two_on text tokens place);
    forward = omega arith;
    within = omega (arith, within);
    shaped = refl;
    names = refl;
    places = sym (append-nil seen.places);
    bad = refl;
    tree = λ later h. refl;
  }

  behind_term : (place : ℕ) (f : TermAt k) (next : ℕ) → at place ≡ opening ∷ at (place + 1) → is_next m.Close (at (place + 1)) ≡ false → term_at k (at (place + 1)) ≡ Ok (f, at next)
      → unary_at (suc k) (at place) ≡ group_with (tt {0}, unary_at k) f (at next)
  behind_term place f next begins open_still is =
      ap (unary_at (suc k)) begins ∙ bracket_is (at (place + 1)) ∙ inside_is (at (place + 1)) open_still ∙ bind_by (term_at k (at (place + 1))) (group_with (tt {0}, unary_at k)) f (at next) is

  pub group_read : (place : ℕ) (old new : Seen) (value : Term) (shape whole : Shape) (next : ℕ) → at place ≡ opening ∷ at (place + 1) → is_next m.Close (at (place + 1)) ≡ false
      → Reads (term_class inside) text tokens (place + 1) old new value shape next → is_next m.Close (at next) ≡ true → next < length tokens → whole ≡ grouped shape → Reads here text tokens place old new value whole (next + 1)
  group_read place old new value shape whole next begins open_still r closed within shaped = record {
    form = group r.form;
    is = behind_term place r.form next begins open_still r.is ∙ group_is r.form (at next) closed ∙ ap (λ z. Ok (group r.form, z)) (words_next text tokens next);
    forward = omega (arith, r.forward);
    within = omega (arith, within);
    shaped = shaped ∙ ap grouped r.shaped;
    names = r.names;
    places = r.places;
    bad = r.bad;
    tree = r.tree;
  }

  pub bracket_fails : (place : ℕ) (f : Fault) → at place ≡ opening ∷ at (place + 1) → is_next m.Close (at (place + 1)) ≡ false → term_at k (at (place + 1)) ≡ Err f → unary_at (suc k) (at place) ≡ Err f
  bracket_fails place f begins open_still h =
      ap (unary_at (suc k)) begins ∙ bracket_is (at (place + 1)) ∙ inside_is (at (place + 1)) open_still ∙ then_fails (term_at k (at (place + 1))) (group_with (tt {0}, unary_at k)) f h

  pub group_open : (place : ℕ) (f : TermAt k) (next : ℕ) → at place ≡ opening ∷ at (place + 1) → is_next m.Close (at (place + 1)) ≡ false → term_at k (at (place + 1)) ≡ Ok (f, at next)
      → is_next m.Close (at next) ≡ false → is_next m.Comma (at next) ≡ false → unary_at (suc k) (at place) ≡ Err (Expected (length (at next)))
  group_open place f next begins open_still is closed comma_there = behind_term place f next begins open_still is ∙ neither_is f (at next) closed comma_there

  -- ---- tuples
  single_is : (f : TermAt k) (ts : List Word) → is_next m.Close ts ≡ true → tuple_with {R = Unit {0}} (tt {0}, unary_at k) f ts ≡ Ok (single f, drop 1 ts)
  unfolding tuple_with
  single_is f ts h = rw h refl

  several_is : (f : TermAt k) (ts : List Word) → is_next m.Close ts ≡ false → tuple_with {R = Unit {0}} (tt {0}, unary_at k) f ts ≡ and_then (args_at k ts) (λ args rest. before m.Close (tuple f args) rest)
  unfolding tuple_with
  several_is f ts h = rw h refl

  abbrev made : UnaryAt (suc k) → List Word → Outcome (UnaryAt (suc k))
  made u rest = Ok (u, rest)

  abbrev held : Option (ArgsAt k) → List Word → Outcome (Option (ArgsAt k))
  held r rest = Ok (r, rest)

  abbrev form_of : TermAt k → Option (ArgsAt k) → UnaryAt (suc k)
  form_of f None = single f
  form_of f (Some args) = tuple f args

  -- the rest of a tuple, read as the tuple
  rest_ok : (f : TermAt k) (ts : List Word) (r : Option (ArgsAt k)) (rest : List Word) → (rest_class inside).read ts ≡ Ok (r, rest) → tuple_with {R = Unit {0}} (tt {0}, unary_at k) f ts ≡ Ok (form_of f r, rest)
  rest_ok f ts r rest h = by (is_next m.Close ts) refl h
    where
      same : (a : Option (ArgsAt k)) (b : List Word) → held a b ≡ held r rest → made (form_of f a) b ≡ made (form_of f r) rest
      same a b e = let p = ok_parts a r b rest e in ap (λ z. Ok (form_of f z, b)) p.0 ∙ ap (λ z. Ok (form_of f r, z)) p.1

      two : (a : ArgsAt k) (after : List Word) → args_at k ts ≡ Ok (a, after) → is_next m.Close ts ≡ false → (d : Bool) → is_next m.Close after ≡ d
          → (if d then Ok (Some a, drop 1 after) else expected after) ≡ Ok (r, rest) → tuple_with {R = Unit {0}} (tt {0}, unary_at k) f ts ≡ Ok (form_of f r, rest)
      two a after is open_still true d e =
          several_is f ts open_still ∙ bind_by (args_at k ts) _ a after is ∙ before_there m.Close (tuple f a) after d ∙ same (Some a) (drop 1 after) e
      two a after is open_still false d e = absurd cc

      by : (b : Bool) → is_next m.Close ts ≡ b → (if b then Ok (None, drop 1 ts) else and_then (args_at k ts) (λ args after. before m.Close (Some args) after)) ≡ Ok (r, rest)
          → tuple_with {R = Unit {0}} (tt {0}, unary_at k) f ts ≡ Ok (form_of f r, rest)
      by true q e = single_is f ts q ∙ same None (drop 1 ts) e
      by false q e = let b = bind_ok (args_at k ts) _ (r, rest) e in two b.0 b.1 b.2 q (is_next m.Close b.1) refl b.3

  rest_err : (f : TermAt k) (ts : List Word) (g : Fault) → (rest_class inside).read ts ≡ Err g → tuple_with {R = Unit {0}} (tt {0}, unary_at k) f ts ≡ Err g
  rest_err f ts g h = by (is_next m.Close ts) refl h
    where
      three : (a : ArgsAt k) (after : List Word) → args_at k ts ≡ Ok (a, after) → is_next m.Close ts ≡ false → (d : Bool) → is_next m.Close after ≡ d
          → (if d then Ok (Some a, drop 1 after) else expected after) ≡ Err g → tuple_with {R = Unit {0}} (tt {0}, unary_at k) f ts ≡ Err g
      three a after is open_still true d e = absurd cc
      three a after is open_still false d e =
          several_is f ts open_still ∙ bind_by (args_at k ts) _ a after is ∙ before_missing m.Close (tuple f a) after d ∙ ap Err (err_same {A = Option (ArgsAt k)} (Expected (length after)) g e)

      two : (r : Outcome (ArgsAt k)) → args_at k ts ≡ r → is_next m.Close ts ≡ false → and_then r (λ args after. before m.Close (Some args) after) ≡ Err g → tuple_with {R = Unit {0}} (tt {0}, unary_at k) f ts ≡ Err g
      two (Ok p) is open_still e = three p.0 p.1 is open_still (is_next m.Close p.1) refl e
      two (Err d) is open_still e = several_is f ts open_still ∙ then_fails (args_at k ts) _ d is ∙ ap Err (err_same {A = Option (ArgsAt k)} d g e)

      by : (b : Bool) → is_next m.Close ts ≡ b → (if b then Ok (None, drop 1 ts) else and_then (args_at k ts) (λ args after. before m.Close (Some args) after)) ≡ Err g
          → tuple_with {R = Unit {0}} (tt {0}, unary_at k) f ts ≡ Err g
      by true q e = absurd cc
      by false q e = two (args_at k ts) refl q e

  behind_comma : (place : ℕ) (f : TermAt k) (middle : ℕ) → at place ≡ opening ∷ at (place + 1) → is_next m.Close (at (place + 1)) ≡ false → term_at k (at (place + 1)) ≡ Ok (f, at middle)
      → is_next m.Close (at middle) ≡ false → is_next m.Comma (at middle) ≡ true → unary_at (suc k) (at place) ≡ tuple_with (tt {0}, unary_at k) f (at (middle + 1))
  behind_comma place f middle begins open_still is closed comma_there =
      behind_term place f middle begins open_still is ∙ comma_is f (at middle) closed comma_there ∙ ap (tuple_with (tt {0}, unary_at k) f) (words_next text tokens middle)

  pub tuple_fails : (place : ℕ) (f : TermAt k) (middle : ℕ) (g : Fault) → at place ≡ opening ∷ at (place + 1) → is_next m.Close (at (place + 1)) ≡ false → term_at k (at (place + 1)) ≡ Ok (f, at middle)
      → is_next m.Close (at middle) ≡ false → is_next m.Comma (at middle) ≡ true → (rest_class inside).read (at (middle + 1)) ≡ Err g → unary_at (suc k) (at place) ≡ Err g
  tuple_fails place f middle g begins open_still is closed comma_there h = behind_comma place f middle begins open_still is closed comma_there ∙ rest_err f (at (middle + 1)) g h

  pub tuple_read : (place : ℕ) (old mid new : Seen) (value : Term) (middle : ℕ) (more : List Term) (next : ℕ) → at place ≡ opening ∷ at (place + 1) → is_next m.Close (at (place + 1)) ≡ false
      → Reads (argument_class (term_class inside)) text tokens (place + 1) old mid value Other middle → is_next m.Close (at middle) ≡ false → is_next m.Comma (at middle) ≡ true
      → Reads (rest_class inside) text tokens (middle + 1) mid new more Other next → Reads here text tokens place old new (t.Tuple (value ∷ more)) Other next
  tuple_read place old mid new value middle more next begins open_still a closed comma_there b =
      let one = (argument_class (term_class inside)).sights a.form (place + 1) in
      let bads = (term_class inside).bads a.form (place + 1) in
      let is = behind_comma place a.form middle begins open_still a.is closed comma_there ∙ rest_ok a.form (at (middle + 1)) b.form (at next) b.is in
      let spot = place_behind (argument_class (term_class inside)) (term_goes_on (unary_on k)) (term_law k) text tokens (place + 1) a.form middle a.is a.forward a.within in
      let from : middle + 1 ≡ place + 1 + size (term_class inside).words a.form + 1 = ap (λ n. n + 1) spot in
      let names = b.names ∙ ap (λ z. named z ((rest_class inside).sights b.form (middle + 1))) a.names ∙ sym (named_append old.names one ((rest_class inside).sights b.form (middle + 1))) in
      let places = places_join tokens old.names mid.names old.places mid.places new.places one ((rest_class inside).sights b.form (middle + 1)) a.names a.places b.places in
      let bad = b.bad ∙ ap (λ z. least z ((rest_class inside).bads b.form (middle + 1))) a.bad ∙ sym (least_append old.bad bads ((rest_class inside).bads b.form (middle + 1))) in
      let tree : (later : List Name) → Extends new.names later → t.Tuple (value ∷ more) ≡ t.Tuple ((term_class inside).tree later a.form ∷ (rest_class inside).tree later b.form) = λ later h.
      (let so : Extends mid.names later = extends_more mid.names new.names later (subst (Extends mid.names) (sym b.names) (named_extends mid.names ((rest_class inside).sights b.form (middle + 1)))) h in
      ap (λ z. t.Tuple (z ∷ more)) (a.tree later so) ∙ ap (λ z. t.Tuple ((term_class inside).tree later a.form ∷ z)) (b.tree later h)) in
      finish b.form is names places bad tree from (omega (arith, a.forward, b.forward)) b.within
    where
      finish : (r : Option (ArgsAt k)) → unary_at (suc k) (at place) ≡ Ok (form_of a.form r, at next)
          → new.names ≡ named old.names ((argument_class (term_class inside)).sights a.form (place + 1) ++ (rest_class inside).sights r (middle + 1))
          → new.places ≡ old.places ++ seen_places tokens old.names ((argument_class (term_class inside)).sights a.form (place + 1) ++ (rest_class inside).sights r (middle + 1))
          → new.bad ≡ least old.bad ((term_class inside).bads a.form (place + 1) ++ (rest_class inside).bads r (middle + 1))
          → ((later : List Name) → Extends new.names later → t.Tuple (value ∷ more) ≡ t.Tuple ((term_class inside).tree later a.form ∷ (rest_class inside).tree later r))
          → middle + 1 ≡ place + 1 + size (term_class inside).words a.form + 1 → place < next → next ≤ length tokens → Reads here text tokens place old new (t.Tuple (value ∷ more)) Other next
      finish None is names places bad tree from forward within = record {
        form = single a.form;
        is = is;
        forward = forward;
        within = within;
        shaped = refl;
        names = names ∙ ap (named old.names) (append-nil ((argument_class (term_class inside)).sights a.form (place + 1)));
        places = places ∙ ap (λ z. old.places ++ seen_places tokens old.names z) (append-nil ((argument_class (term_class inside)).sights a.form (place + 1)));
        bad = bad ∙ ap (least old.bad) (append-nil ((term_class inside).bads a.form (place + 1)));
        tree = tree;
      }
      finish (Some args) is names places bad tree from forward within = record {
        form = tuple a.form args;
        is = is;
        forward = forward;
        within = within;
        shaped = refl;
        names = names ∙ ap (λ n. named old.names ((argument_class (term_class inside)).sights a.form (place + 1) ++ (args_class inside).sights args n)) from;
        places = places ∙ ap (λ n. old.places ++ seen_places tokens old.names ((argument_class (term_class inside)).sights a.form (place + 1) ++ (args_class inside).sights args n)) from;
        bad = bad ∙ ap (λ n. least old.bad ((term_class inside).bads a.form (place + 1) ++ (args_class inside).bads args n)) from;
        tree = tree;
      }

  -- ---- the rest of a tuple
  pub rest_none : (place : ℕ) (seen : Seen) → is_next m.Close (at place) ≡ true → place < length tokens → Reads (rest_class inside) text tokens place seen seen [] Other (place + 1)
  rest_none place seen closed within = record {
    form = None;
    is = (let e : (rest_class inside).read (at place) ≡ Ok (None, drop 1 (at place)) = rw closed refl in e) ∙ ap (λ z. Ok (None, z)) (words_next text tokens place);
    forward = omega arith;
    within = omega (arith, within);
    shaped = refl;
    names = refl;
    places = sym (append-nil seen.places);
    bad = refl;
    tree = λ later h. refl;
  }

  rest_args : (ts : List Word) → is_next m.Close ts ≡ false → (rest_class inside).read ts ≡ and_then (args_at k ts) (λ args after. before m.Close (Some args) after)
  rest_args ts h = rw h refl

  pub rest_some : (place : ℕ) (old new : Seen) (args : List Term) (next : ℕ) → is_next m.Close (at place) ≡ false → Reads (args_class inside) text tokens place old new args Other next
      → is_next m.Close (at next) ≡ true → next < length tokens → Reads (rest_class inside) text tokens place old new args Other (next + 1)
  rest_some place old new args next open_still r closed within = record {
    form = Some r.form;
    is = rest_args (at place) open_still ∙ bind_by (args_at k (at place)) _ r.form (at next) r.is ∙ before_there m.Close (Some r.form) (at next) closed ∙ ap (λ z. Ok (Some r.form, z)) (words_next text tokens next);
    forward = omega (arith, r.forward);
    within = omega (arith, within);
    shaped = refl;
    names = r.names;
    places = r.places;
    bad = r.bad;
    tree = r.tree;
  }

  pub rest_fails : (place : ℕ) (f : Fault) → is_next m.Close (at place) ≡ false → args_at k (at place) ≡ Err f → (rest_class inside).read (at place) ≡ Err f
  rest_fails place f open_still h = rest_args (at place) open_still ∙ then_fails (args_at k (at place)) _ f h

  pub rest_open : (place : ℕ) (args : ArgsAt k) (next : ℕ) → is_next m.Close (at place) ≡ false → args_at k (at place) ≡ Ok (args, at next) → is_next m.Close (at next) ≡ false
      → (rest_class inside).read (at place) ≡ Err (Expected (length (at next)))
  rest_open place args next open_still is closed = rest_args (at place) open_still ∙ bind_by (args_at k (at place)) _ args (at next) is ∙ before_missing m.Close (Some args) (at next) closed

-- ---- at any level
module _ (n : ℕ) (text : List ℕ) (tokens : List Token) where
  plain_is : (name : List ℕ) (ts : List Word) → is_next m.Open ts ≡ false → unary_at n (word.name name ∷ ts) ≡ Ok (atom (plain name), ts)
  unfolding unary_with
  plain_is name ts h = rw h refl

  pub plain_read : (place : ℕ) (seen : Seen) (name held : List ℕ) → words_at text tokens place ≡ word.name name ∷ words_at text tokens (place + 1) → held ≡ name → is_next m.Open (words_at text tokens (place + 1)) ≡ false
      → place < length tokens → Reads (unary_class n) text tokens place seen seen (t.Function held []) Atom (place + 1)
  plain_read place seen name held begins same closed within = record {
    form = atom (plain name);
    is = ap (unary_at n) begins ∙ plain_is name (words_at text tokens (place + 1)) closed;
    forward = omega arith;
    within = omega (arith, within);
    shaped = refl;
    names = refl;
    places = sym (append-nil seen.places);
    bad = refl;
    tree = λ later h. ap (λ z. t.Function z []) same;
  }

-- ---- where nothing may be opened
pub deep_name : (text : List ℕ) (tokens : List Token) (place : ℕ) (name : List ℕ) → words_at text tokens place ≡ word.name name ∷ words_at text tokens (place + 1) → is_next m.Open (words_at text tokens (place + 1)) ≡ true
    → unary_at 0 (words_at text tokens place) ≡ Err (TooDeep (length (words_at text tokens (place + 1))))
unfolding unary_with
deep_name text tokens place name begins open_there =
    let there = the_next m.Open (words_at text tokens (place + 1)) open_there in
    ap (unary_at 0) (begins ∙ ap (λ z. word.name name ∷ z) there) ∙ ap (λ n. Err (TooDeep n)) (let e = ap length there in omega (arith, e))

pub deep_minus : (text : List ℕ) (tokens : List Token) (place : ℕ) → words_at text tokens place ≡ minus ∷ words_at text tokens (place + 1) → unary_at 0 (words_at text tokens place) ≡ Err (TooDeep (length (words_at text tokens place)))
unfolding unary_with
deep_minus text tokens place begins = ap (unary_at 0) begins ∙ ap (λ n. Err (TooDeep n)) (let e = ap length begins in omega (arith, e))

pub deep_open : (text : List ℕ) (tokens : List Token) (place : ℕ) → words_at text tokens place ≡ opening ∷ words_at text tokens (place + 1) → unary_at 0 (words_at text tokens place) ≡ Err (TooDeep (length (words_at text tokens place)))
unfolding unary_with
deep_open text tokens place begins = ap (unary_at 0) begins ∙ ap (λ n. Err (TooDeep n)) (let e = ap length begins in omega (arith, e))

-- ---- words with which no operand begins
pub none_at_end : (n : ℕ) (words : List Word) → words ≡ [] → unary_at n words ≡ Err (Expected (length words))
unfolding unary_with
none_at_end n words h = ap (unary_at n) h ∙ ap (λ z. Err (Expected (length z))) (sym h)

pub no_negation : (n : ℕ) (words rest : List Word) → words ≡ word.negation ∷ rest → unary_at n words ≡ Err (Expected (length words))
unfolding unary_with
no_negation n words rest h = ap (unary_at n) h ∙ ap (λ z. Err (Expected (length z))) (sym h)

pub no_const : (n : ℕ) (words rest : List Word) → words ≡ word.const_word ∷ rest → unary_at n words ≡ Err (Expected (length words))
unfolding unary_with
no_const n words rest h = ap (unary_at n) h ∙ ap (λ z. Err (Expected (length z))) (sym h)

pub no_show : (n : ℕ) (words rest : List Word) → words ≡ word.show_word ∷ rest → unary_at n words ≡ Err (Expected (length words))
unfolding unary_with
no_show n words rest h = ap (unary_at n) h ∙ ap (λ z. Err (Expected (length z))) (sym h)

other_mark : (n : ℕ) (mark : Mark) (rest : List Word) → (mark ≡ m.Minus → ⊥) → (mark ≡ m.Open → ⊥) → unary_at n (word.mark mark ∷ rest) ≡ Err (Expected (length (word.mark mark ∷ rest)))
unfolding unary_with
other_mark n m.Minus rest h g = absurd (h refl)
other_mark n m.Open rest h g = absurd (g refl)
other_mark n _ rest h g = refl

pub no_mark : (n : ℕ) (mark : Mark) (words rest : List Word) → words ≡ word.mark mark ∷ rest → (mark ≡ m.Minus → ⊥) → (mark ≡ m.Open → ⊥) → unary_at n words ≡ Err (Expected (length words))
no_mark n mark words rest e h g = ap (unary_at n) e ∙ other_mark n mark rest h g ∙ ap (λ z. Err (Expected (length z))) (sym e)

pub no_word : (n : ℕ) (kind : WordKind) (bytes : List ℕ) (words rest : List Word) → words ≡ word_by kind bytes ∷ rest → ((kind ≡ kinds.Not) ⊎ ((kind ≡ kinds.Const) ⊎ (kind ≡ kinds.Show))) → unary_at n words ≡ Err (Expected (length words))
no_word n kind bytes words rest h (inl e) = no_negation n words rest (h ∙ ap (λ k. word_by k bytes ∷ rest) e)
no_word n kind bytes words rest h (inr (inl e)) = no_const n words rest (h ∙ ap (λ k. word_by k bytes ∷ rest) e)
no_word n kind bytes words rest h (inr (inr e)) = no_show n words rest (h ∙ ap (λ k. word_by k bytes ∷ rest) e)
