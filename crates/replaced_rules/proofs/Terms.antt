-- Terms with their constants replaced.
use Rattle.std.proofs.Common.{◌≡◌, ℕ, suc, List, [], ◌∷◌, ◌++◌, map, Option, None, Some, refl, sym, ◌∙◌, ap, subst}
use Rattle.std.specs.List.{AllByRecursion}
use Rattle.symbols.specs.Symbol.{Symbol, Symbols, Number, Identifier, Text, Function, NoSymbols, MoreSymbols}
use Rattle.syntax_tree.specs.declared.term.Op.{Op}
use Rattle.syntax_tree.specs.declared.term.Part.{Part}
use Rattle.syntax_tree.specs.declared.term.Term.{Term, roll-Term, out-Term}
use Rattle.syntax_tree.specs.declared.term.Term.TheOpen.{Term-F}
use Rattle.syntax_tree.specs.declared.term.Term.TheVariants as t
use Rattle.syntax_tree.specs.declared.term.Term.TheViews.{roll-out-Term}
use Rattle.asp_parser.specs.Replacement.{Constants, value_at, applied, term_of, terms_of, value_or_name, replaced_name, replaced, replaced_part, atom_step, replaced_atom}
use Rattle.asp_parser.proofs.Terms.{Passes, every_term, in_number, in_text, in_variable, in_anonymous, in_function, in_tuple, in_sum, in_product, in_minus, in_interval, in_part}
use Rattle.rewriting.specs.declared.sight.Sight.TheVariants as sight
use Rattle.rewriting.specs.Made.{Made, same, mapped, both, each}
use Rattle.rewriting.specs.Rewritten.{Ways, ways, ways_in, part_way, for_interval, term_made, atom_made}
use Rattle.rewriting.proofs.Layers.{ways-Number, ways-Text, ways-Function, ways-Tuple, ways-Sum, ways-Product, ways-Minus, ways-Interval, ways-Part}
use Rattle.program_meaning.specs.Comparison.{ends}
use Rattle.program_meaning.proofs.Layers.{ends-Number, ends-Text, ends-Function, ends-Tuple, ends-Sum, ends-Product, ends-Minus, ends-Interval}
use Rattle.replaced_rules.proofs.Alike.{AreAlike, Alike, alike_same, alike_itself, alike_seeing, alike_mapped, alike_both, AllAlike, alike_each}

pub record AlikeWays (one other : Ways) : Type 0 where
  pub elsewhere : Alike one.elsewhere other.elsewhere
  pub argument : Alike one.argument other.argument

-- both terms are rewritten in one way, be they arguments or not
plain_ways : (w v : Ways) (one other : ℕ → Made Term) → w ≡ record { elsewhere = one; argument = one } → v ≡ record { elsewhere = other; argument = other } → Alike one other → AlikeWays w v
plain_ways w v one other e h k =
    subst (λ (x : Ways). AlikeWays x v) (sym e) (subst (AlikeWays (record { elsewhere = one; argument = one })) (sym h) (record { elsewhere = k; argument = k }))

-- ---- the value of a constant
-- nothing is seen in the term
record IsQuiet (w : Ways) : Type 0 where
  elsewhere : Alike w.elsewhere (same (t.Tuple []))
  argument : Alike w.argument (same (t.Tuple []))

quiet_by : (w : Ways) (way : ℕ → Made Term) → w ≡ record { elsewhere = way; argument = way } → Alike way (same (t.Tuple [])) → IsQuiet w
quiet_by w way e k = subst IsQuiet (sym e) (record { elsewhere = k; argument = k })

abbrev AllQuiet : List Term → Type 0
AllQuiet terms = AllByRecursion (λ term. IsQuiet (ways term)) terms

quiet_each : (terms : List Term) → AllQuiet terms → Alike (each (map (λ arg. arg.argument) (map ways terms))) (same (t.Tuple []))
quiet_each [] all next = record { sights = refl; next = refl }
quiet_each (term ∷ terms) all next =
    let here = all.0.argument next in
    let rest = quiet_each terms all.1 ((ways term).argument next).next in record {
      sights = (λ i. here.sights i ++ rest.sights i);
      next = rest.next ∙ here.next;
    }

quiet_function : (name : List ℕ) (args : List Term) → AllQuiet args → IsQuiet (ways (t.Function name args))
quiet_function name args all =
    let way = each (map (λ arg. arg.argument) (map ways args)) in
    quiet_by (ways (t.Function name args)) (λ next. mapped (t.Function name) (way next)) (ways-Function name args)
    (λ next. record { sights = (quiet_each args all next).sights; next = (quiet_each args all next).next })

quiet_tuple : (args : List Term) → AllQuiet args → IsQuiet (ways (t.Tuple args))
quiet_tuple args all =
    let way = each (map (λ arg. arg.argument) (map ways args)) in
    quiet_by (ways (t.Tuple args)) (λ next. mapped t.Tuple (way next)) (ways-Tuple args)
    (λ next. record { sights = (quiet_each args all next).sights; next = (quiet_each args all next).next })

quiet_applied : (name : List ℕ) (args : List Term) → AllQuiet args → IsQuiet (ways (applied name args))
quiet_applied [] args all = quiet_tuple args all
quiet_applied (byte ∷ name) args all = quiet_function (byte ∷ name) args all

mutual
  quiet_symbol : (symbol : Symbol) → IsQuiet (ways (term_of symbol))
  quiet_symbol (Number n) = quiet_by (ways (t.Number n)) (same (t.Number n)) (ways-Number n) (alike_same (t.Number n) (t.Tuple []))
  quiet_symbol (Identifier name) = quiet_function name [] tt
  quiet_symbol (Text text) = quiet_by (ways (t.Text text)) (same (t.Text text)) (ways-Text text) (alike_same (t.Text text) (t.Tuple []))
  quiet_symbol (Function name args) = quiet_applied name (terms_of args) (quiet_symbols args)

  quiet_symbols : (symbols : Symbols) → AllQuiet (terms_of symbols)
  quiet_symbols NoSymbols = tt
  quiet_symbols (MoreSymbols symbol rest) = (quiet_symbol symbol, quiet_symbols rest)

-- two terms in which nothing is seen
both_quiet : (w v : Ways) → IsQuiet w → IsQuiet v → AlikeWays w v
both_quiet w v k l = record {
  elsewhere = λ next. record { sights = (k.elsewhere next).sights ∙ sym (l.elsewhere next).sights; next = (k.elsewhere next).next ∙ sym (l.elsewhere next).next };
  argument = λ next. record { sights = (k.argument next).sights ∙ sym (l.argument next).sights; next = (k.argument next).next ∙ sym (l.argument next).next };
}

-- ---- terms
module _ (constants : Constants) where
  abbrev AlikeTerm : Term → Type 0
  AlikeTerm term = AlikeWays (ways (replaced constants term)) (ways term)

  by_form : (term after : Term) → replaced constants term ≡ after → AlikeWays (ways after) (ways term) → AlikeTerm term
  by_form term after e k = subst (λ (x : Term). AlikeWays (ways x) (ways term)) (sym e) k

  alike_name : (name : List ℕ) (o : Option Symbol) → AlikeWays (ways (value_or_name name o)) (ways (t.Function name []))
  alike_name name None = both_quiet _ _ (quiet_function name [] tt) (quiet_function name [] tt)
  alike_name name (Some symbol) = both_quiet _ _ (quiet_symbol symbol) (quiet_function name [] tt)

  alike_arguments : (args : List Term) → AllByRecursion AlikeTerm args
      → AllAlike (map (λ (arg : Ways). arg.argument) (map ways (map (replaced constants) args))) (map (λ (arg : Ways). arg.argument) (map ways args))
  alike_arguments [] all = tt
  alike_arguments (arg ∷ args) all =
      (all.0.argument, alike_arguments args all.1)

  alike_part : (part : Part) → AlikeTerm part.term → Alike (part_way (ways_in (replaced_part constants part))) (part_way (ways_in part))
  alike_part part k =
      subst (λ (p : Op × Ways). Alike (part_way p) (part_way (ways_in part))) (sym (ap ways_in (in_part constants part) ∙ ways-Part (record { op = part.op; term = replaced constants part.term })))
      (subst (λ (p : Op × Ways). Alike (part_way (part.op, ways (replaced constants part.term))) (part_way p)) (sym (ways-Part part))
      (λ next. alike_mapped (λ (term : Term). record { op = part.op; term = term }) (λ (term : Term). record { op = part.op; term = term })
      ((ways (replaced constants part.term)).elsewhere next) ((ways part.term).elsewhere next) (k.elsewhere next)))

  alike_parts : (parts : List Part) → AllByRecursion (λ part. AlikeTerm part.term) parts
      → AllAlike (map part_way (map ways_in (map (replaced_part constants) parts))) (map part_way (map ways_in parts))
  alike_parts [] all = tt
  alike_parts (part ∷ parts) all =
      (alike_part part all.0, alike_parts parts all.1)

  alike_function : (name : List ℕ) (args : List Term) → AllByRecursion AlikeTerm args → AlikeWays (ways (replaced_name constants name (map (replaced constants) args))) (ways (t.Function name args))
  alike_function name [] all = alike_name name (value_at constants name)
  alike_function name (arg ∷ args) all =
      let old = arg ∷ args in
      let new = map (replaced constants) old in
      plain_ways (ways (t.Function name new)) (ways (t.Function name old)) (λ next. mapped (t.Function name) (each (map (λ (arg : Ways). arg.argument) (map ways new)) next))
      (λ next. mapped (t.Function name) (each (map (λ (arg : Ways). arg.argument) (map ways old)) next)) (ways-Function name new) (ways-Function name old)
      (λ next. alike_mapped (t.Function name) (t.Function name) (each (map (λ (arg : Ways). arg.argument) (map ways new)) next) (each (map (λ (arg : Ways). arg.argument) (map ways old)) next)
      (alike_each (map (λ (arg : Ways). arg.argument) (map ways new)) (map (λ (arg : Ways). arg.argument) (map ways old)) (alike_arguments old all) next))

  -- a function whose name stays
  alike_applied : (name : List ℕ) (args : List Term) → AllByRecursion AlikeTerm args → AlikeWays (ways (t.Function name (map (replaced constants) args))) (ways (t.Function name args))
  alike_applied name args all =
      let new = map (replaced constants) args in
      plain_ways (ways (t.Function name new)) (ways (t.Function name args)) (λ next. mapped (t.Function name) (each (map (λ (arg : Ways). arg.argument) (map ways new)) next))
      (λ next. mapped (t.Function name) (each (map (λ (arg : Ways). arg.argument) (map ways args)) next)) (ways-Function name new) (ways-Function name args)
      (λ next. alike_mapped (t.Function name) (t.Function name) (each (map (λ (arg : Ways). arg.argument) (map ways new)) next) (each (map (λ (arg : Ways). arg.argument) (map ways args)) next)
      (alike_each (map (λ (arg : Ways). arg.argument) (map ways new)) (map (λ (arg : Ways). arg.argument) (map ways args)) (alike_arguments args all) next))

  alike_tuple : (args : List Term) → AllByRecursion AlikeTerm args → AlikeWays (ways (t.Tuple (map (replaced constants) args))) (ways (t.Tuple args))
  alike_tuple args all =
      let new = map (replaced constants) args in
      plain_ways (ways (t.Tuple new)) (ways (t.Tuple args)) (λ next. mapped t.Tuple (each (map (λ (arg : Ways). arg.argument) (map ways new)) next))
      (λ next. mapped t.Tuple (each (map (λ (arg : Ways). arg.argument) (map ways args)) next)) (ways-Tuple new) (ways-Tuple args)
      (λ next. alike_mapped t.Tuple t.Tuple (each (map (λ (arg : Ways). arg.argument) (map ways new)) next) (each (map (λ (arg : Ways). arg.argument) (map ways args)) next)
      (alike_each (map (λ (arg : Ways). arg.argument) (map ways new)) (map (λ (arg : Ways). arg.argument) (map ways args)) (alike_arguments args all) next))

  alike_sum : (parts : List Part) → AllByRecursion (λ part. AlikeTerm part.term) parts → AlikeWays (ways (t.Sum (map (replaced_part constants) parts))) (ways (t.Sum parts))
  alike_sum parts all =
      let new = map (replaced_part constants) parts in
      plain_ways (ways (t.Sum new)) (ways (t.Sum parts)) (λ next. mapped t.Sum (each (map part_way (map ways_in new)) next)) (λ next. mapped t.Sum (each (map part_way (map ways_in parts)) next))
      (ways-Sum new) (ways-Sum parts)
      (λ next. alike_mapped t.Sum t.Sum (each (map part_way (map ways_in new)) next) (each (map part_way (map ways_in parts)) next)
      (alike_each (map part_way (map ways_in new)) (map part_way (map ways_in parts)) (alike_parts parts all) next))

  alike_product : (parts : List Part) → AllByRecursion (λ part. AlikeTerm part.term) parts → AlikeWays (ways (t.Product (map (replaced_part constants) parts))) (ways (t.Product parts))
  alike_product parts all =
      let new = map (replaced_part constants) parts in
      plain_ways (ways (t.Product new)) (ways (t.Product parts)) (λ next. mapped t.Product (each (map part_way (map ways_in new)) next)) (λ next. mapped t.Product (each (map part_way (map ways_in parts)) next))
      (ways-Product new) (ways-Product parts)
      (λ next. alike_mapped t.Product t.Product (each (map part_way (map ways_in new)) next) (each (map part_way (map ways_in parts)) next)
      (alike_each (map part_way (map ways_in new)) (map part_way (map ways_in parts)) (alike_parts parts all) next))

  alike_minus : (inner : Term) → AlikeTerm inner → AlikeWays (ways (t.Minus (replaced constants inner))) (ways (t.Minus inner))
  alike_minus inner k =
      let new = replaced constants inner in
      plain_ways (ways (t.Minus new)) (ways (t.Minus inner)) (λ next. mapped t.Minus ((ways new).elsewhere next)) (λ next. mapped t.Minus ((ways inner).elsewhere next)) (ways-Minus new) (ways-Minus inner)
      (λ next. alike_mapped t.Minus t.Minus ((ways new).elsewhere next) ((ways inner).elsewhere next) (k.elsewhere next))

  alike_for_interval : (n : ℕ) (a b : Made Term) → AreAlike a b → AreAlike (for_interval n a) (for_interval n b)
  alike_for_interval n a b k = record { sights = ap (λ l. sight.Interval n ∷ l) k.sights; next = k.next }

  alike_interval : (low high : Term) → AlikeTerm low → AlikeTerm high → AlikeWays (ways (t.Interval (replaced constants low) (replaced constants high))) (ways (t.Interval low high))
  alike_interval low high k l =
      let one = both t.Interval (ways (replaced constants low)).elsewhere (ways (replaced constants high)).elsewhere in
      let other = both t.Interval (ways low).elsewhere (ways high).elsewhere in
      let inner = alike_both t.Interval t.Interval (ways (replaced constants low)).elsewhere (ways low).elsewhere (ways (replaced constants high)).elsewhere (ways high).elsewhere k.elsewhere l.elsewhere in
      subst (λ (x : Ways). AlikeWays x (ways (t.Interval low high))) (sym (ways-Interval (replaced constants low) (replaced constants high)))
      (subst (λ (x : Ways). AlikeWays (record { elsewhere = one; argument = λ next. for_interval next (one (suc next)) }) x) (sym (ways-Interval low high))
      (record { elsewhere = inner; argument = λ next. alike_for_interval next (one (suc next)) (other (suc next)) (inner (suc next)) }))

  itself : (w : Ways) → AlikeWays w w
  itself w = record { elsewhere = alike_itself w.elsewhere; argument = alike_itself w.argument }

  alike_passes : Passes AlikeTerm
  alike_passes = record {
    number = λ n. by_form (t.Number n) (t.Number n) (in_number constants n) (itself (ways (t.Number n)));
    text = λ text. by_form (t.Text text) (t.Text text) (in_text constants text) (itself (ways (t.Text text)));
    variable = λ n. by_form (t.Variable n) (t.Variable n) (in_variable constants n) (itself (ways (t.Variable n)));
    anonymous = by_form t.Anonymous t.Anonymous (in_anonymous constants) (itself (ways t.Anonymous));
    function = λ name args all. by_form (t.Function name args) (replaced_name constants name (map (replaced constants) args)) (in_function constants name args) (alike_function name args all);
    tuple = λ args all. by_form (t.Tuple args) (t.Tuple (map (replaced constants) args)) (in_tuple constants args) (alike_tuple args all);
    sum = λ parts all. by_form (t.Sum parts) (t.Sum (map (replaced_part constants) parts)) (in_sum constants parts) (alike_sum parts all);
    product = λ parts all. by_form (t.Product parts) (t.Product (map (replaced_part constants) parts)) (in_product constants parts) (alike_product parts all);
    minus = λ inner k. by_form (t.Minus inner) (t.Minus (replaced constants inner)) (in_minus constants inner) (alike_minus inner k);
    interval = λ low high k l. by_form (t.Interval low high) (t.Interval (replaced constants low) (replaced constants high)) (in_interval constants low high) (alike_interval low high k l);
  }

  alike_ways : (term : Term) → AlikeTerm term
  alike_ways = every_term AlikeTerm alike_passes

  -- in a term whose constants are replaced is seen what was seen
  pub alike_term : (term : Term) → Alike (term_made (replaced constants term)) (term_made term)
  alike_term term = (alike_ways term).elsewhere

  all_terms : (terms : List Term) → AllByRecursion AlikeTerm terms
  all_terms [] = tt
  all_terms (x ∷ xs) = (alike_ways x, all_terms xs)

  atom_by : (atom : Term) (layer : Term-F Term Part) → roll-Term layer ≡ atom → Alike (term_made (atom_step constants atom layer)) (term_made atom)
  unfolding roll-Term denote.Hole.Carrier.roll
  atom_by atom (Term-F.Function name args) is =
      subst (λ (x : Term). Alike (term_made (t.Function name (map (replaced constants) args))) (term_made x)) is (alike_applied name args (all_terms args)).elsewhere
  atom_by atom layer is = alike_term atom

  pub alike_atom : (atom : Term) → Alike (atom_made (replaced_atom constants atom)) (atom_made atom)
  alike_atom atom next = alike_seeing sight.Atom (term_made (replaced_atom constants atom) next) (term_made atom next) (atom_by atom (out-Term atom) (roll-out-Term atom) next)

  -- ---- a term that is no interval
  abbrev StaysNoInterval : Term → Type 0
  StaysNoInterval term = ends term ≡ None → ends (replaced constants term) ≡ None

  applied_no_interval : (name : List ℕ) (args : List Term) → ends (applied name args) ≡ None
  applied_no_interval [] args = ends-Tuple args
  applied_no_interval (byte ∷ name) args = ends-Function (byte ∷ name) args

  symbol_no_interval : (symbol : Symbol) → ends (term_of symbol) ≡ None
  symbol_no_interval (Number n) = ends-Number n
  symbol_no_interval (Identifier name) = ends-Function name []
  symbol_no_interval (Text text) = ends-Text text
  symbol_no_interval (Function name args) = applied_no_interval name (terms_of args)

  name_no_interval : (name : List ℕ) (o : Option Symbol) → ends (value_or_name name o) ≡ None
  name_no_interval name None = ends-Function name []
  name_no_interval name (Some symbol) = symbol_no_interval symbol

  function_no_interval : (name : List ℕ) (args : List Term) → ends (replaced_name constants name args) ≡ None
  function_no_interval name [] = name_no_interval name (value_at constants name)
  function_no_interval name (arg ∷ args) = ends-Function name (arg ∷ args)

  no_interval_passes : Passes StaysNoInterval
  no_interval_passes = record {
    number = λ n h. ap ends (in_number constants n) ∙ h;
    text = λ text h. ap ends (in_text constants text) ∙ h;
    variable = λ n h. ap ends (in_variable constants n) ∙ h;
    anonymous = λ h. ap ends (in_anonymous constants) ∙ h;
    function = λ name args all h. ap ends (in_function constants name args) ∙ function_no_interval name (map (replaced constants) args);
    tuple = λ args all h. ap ends (in_tuple constants args) ∙ ends-Tuple (map (replaced constants) args);
    sum = λ parts all h. ap ends (in_sum constants parts) ∙ ends-Sum (map (replaced_part constants) parts);
    product = λ parts all h. ap ends (in_product constants parts) ∙ ends-Product (map (replaced_part constants) parts);
    minus = λ inner k h. ap ends (in_minus constants inner) ∙ ends-Minus (replaced constants inner);
    interval = λ low high k m h. absurd (some_none (sym (ends-Interval low high) ∙ h));
  }
    where
      some_none : {pair : Term × Term} → Some pair ≡ None → ⊥
      some_none e = cc

  pub stays_no_interval : (term : Term) → ends term ≡ None → ends (replaced constants term) ≡ None
  stays_no_interval = every_term StaysNoInterval no_interval_passes
