-- The table of constants as the list that it says.
use Rattle.std.proofs.Common.{◌≡◌, ℕ, suc, ◌+◌, ◌<◌, ◌≤◌, nat_lt, Bool, true, false, not, cond, is_some, All, if◌then◌else◌, arith, List, [], ◌∷◌, ◌++◌, map, take, length, Option, Some, None, refl, sym, ap, ◌∙◌, subst, take_all}
use Rattle.std.specs.List.{AllByRecursion, position, position_or_len}
use Rattle.std.proofs.lemmas.List.Elements.{All-from_recursion}
use Rattle.std.proofs.lemmas.Bool.{ltb-true, ltb-false, lt-ltb, le-ltb}
use Rattle.std.specs.Map.{lookup}
use Rattle.std.specs.Option.{option_map}
use Rattle.std.specs.Str.{bytes_eq}
use Rattle.symbols.specs.Symbol.{Symbol, Function}
use Rattle.symbols.specs.Table.{symbol_at, symbols_at, applied as applied_at, IsFront}
use Rattle.symbols.proofs.TableLemmas.{symbol_at-front}
use Rattle.syntax_tree.proofs.Holding.{longer}
use Rattle.syntax_tree.specs.declared.binding.Value.{Value}
use Rattle.syntax_tree.specs.declared.binding.Value.TheVariants as value
use Rattle.syntax_tree.specs.declared.term.Term.{Term}
use Rattle.syntax_tree.specs.Outcome.{IsSymbol, IsKnown, bound_in}
use Rattle.asp_parser.specs.Replacement.{Constants, value_at, term_of, terms_of, applied}
use Rattle.asp_parser.specs.Constants.{with_constant}
use Rattle.asp_parser.specs.ConstantTable.{constants_in, AreHeld, values_in, IsTable, worth_of, number_in, number_from, number_at}

-- a name's value by its id
pub lookup_in : (symbols : List Symbol) (test : List ℕ → Bool) (entries : List (List ℕ × ℕ))
    → lookup test (constants_in symbols entries) ≡ option_map (symbol_at symbols) (lookup test entries)
lookup_in symbols test [] = refl
lookup_in symbols test (e ∷ es) = go (test e.0) (lookup_in symbols test es)
  where
    go : (b : Bool) → lookup test (constants_in symbols es) ≡ option_map (symbol_at symbols) (lookup test es)
        → cond b (Some (symbol_at symbols e.1)) (lookup test (constants_in symbols es)) ≡ option_map (symbol_at symbols) (cond b (Some e.1) (lookup test es))
    go true h = refl
    go false h = h

pub found_known : (size : ℕ) (test : List ℕ → Bool) (entries : List (List ℕ × ℕ)) (id : ℕ) → AreHeld size entries → lookup test entries ≡ Some id → id < size
found_known size test [] id held h = absurd cc
found_known size test (e ∷ es) id held h = go (test e.0) h (λ k. found_known size test es id held.1 k)
  where
    go : (b : Bool) → cond b (Some e.1) (lookup test es) ≡ Some id → (lookup test es ≡ Some id → id < size) → id < size
    go true k rest = let same : e.1 ≡ id = cc in subst (λ n. n < size) same held.0
    go false k rest = rest k

pub value_found : (constants : Constants) (symbols : List Symbol) (entries : List (List ℕ × ℕ)) (name : List ℕ) (id : ℕ) (term : Term)
    → constants ≡ constants_in symbols entries → lookup (bytes_eq name) entries ≡ Some id → term ≡ term_of (symbol_at symbols id)
    → Some term ≡ option_map term_of (value_at constants name)
value_found constants symbols entries name id term view found is =
    let value : value_at constants name ≡ Some (symbol_at symbols id) =
    ap (λ c. value_at c name) view ∙ lookup_in symbols (bytes_eq name) entries ∙ ap (option_map (symbol_at symbols)) found in
    ap Some is ∙ sym (ap (option_map term_of) value)

pub value_missing : (constants : Constants) (symbols : List Symbol) (entries : List (List ℕ × ℕ)) (name : List ℕ)
    → constants ≡ constants_in symbols entries → lookup (bytes_eq name) entries ≡ None → value_at constants name ≡ None
value_missing constants symbols entries name view found =
    ap (λ c. value_at c name) view ∙ lookup_in symbols (bytes_eq name) entries ∙ ap (option_map (symbol_at symbols)) found

-- the table grows
pub held_front : (old new : List Symbol) (entries : List (List ℕ × ℕ)) → IsFront old new → AreHeld (length old) entries → AreHeld (length new) entries
held_front old new [] front held = tt
held_front old new (e ∷ es) front held = (longer old new e.1 front held.0, held_front old new es front held.1)

constants_front : (old new : List Symbol) (entries : List (List ℕ × ℕ)) → IsFront old new → AreHeld (length old) entries → constants_in new entries ≡ constants_in old entries
constants_front old new [] front held = refl
constants_front old new (e ∷ es) front held =
    let here = symbol_at-front old new e.1 front held.0 in
    let rest = constants_front old new es front held.1 in
    rw (here, rest) refl

held_more : (size : ℕ) (entries : List (List ℕ × ℕ)) (name : List ℕ) (id : ℕ) → id < size → AreHeld size entries → AreHeld size (entries ++ (name, id) ∷ [])
held_more size [] name id within held = (within, tt)
held_more size (e ∷ es) name id within held = (held.0, held_more size es name id within held.1)

pub held_added : (old new : List Symbol) (entries more : List (List ℕ × ℕ)) (name : List ℕ) (id : ℕ) → IsFront old new → id < length new → AreHeld (length old) entries
    → more ≡ entries ++ (name, id) ∷ [] → AreHeld (length new) more
held_added old new entries more name id front within held is =
    subst (AreHeld (length new)) (sym is) (held_more (length new) entries name id within (held_front old new entries front held))

constants_more : (symbols : List Symbol) (entries : List (List ℕ × ℕ)) (name : List ℕ) (id : ℕ)
    → constants_in symbols (entries ++ (name, id) ∷ []) ≡ constants_in symbols entries ++ (name, symbol_at symbols id) ∷ []
constants_more symbols [] name id = refl
constants_more symbols (e ∷ es) name id = let rest = constants_more symbols es name id in rw rest refl

-- one constant more, where its name is none yet
pub with_new : (old new : List Symbol) (constants : Constants) (entries more : List (List ℕ × ℕ)) (name : List ℕ) (id : ℕ) (value : Option Symbol)
    → constants ≡ constants_in old entries → lookup (bytes_eq name) entries ≡ None → IsFront old new → AreHeld (length old) entries
    → more ≡ entries ++ (name, id) ∷ [] → Some (symbol_at new id) ≡ value
    → with_constant constants name (value_at constants name) value ≡ Some (constants_in new more)
with_new old new constants entries more name id value view missing front held is worth =
    let none = value_missing constants old entries name view missing in
    let all : constants_in new more ≡ constants ++ (name, symbol_at new id) ∷ [] =
    ap (constants_in new) is ∙ constants_more new entries name id ∙ ap (λ c. c ++ (name, symbol_at new id) ∷ []) (constants_front old new entries front held ∙ sym view) in
    ap (λ v. with_constant constants name v value) none ∙ ap (λ v. with_constant constants name None v) (sym worth) ∙ ap Some (sym all)

pub with_none : (constants : Constants) (name : List ℕ) (before value : Option Symbol) → None ≡ value → with_constant constants name before value ≡ None
with_none constants name None value h = ap (with_constant constants name None) (sym h)
with_none constants name (Some s) value h = refl

pub with_known : (constants : Constants) (symbols : List Symbol) (entries : List (List ℕ × ℕ)) (name : List ℕ) (value : Option Symbol)
    → constants ≡ constants_in symbols entries → is_some (lookup (bytes_eq name) entries) ≡ true → with_constant constants name (value_at constants name) value ≡ None
with_known constants symbols entries name value view found =
    let there : value_at constants name ≡ option_map (symbol_at symbols) (lookup (bytes_eq name) entries) = ap (λ c. value_at c name) view ∙ lookup_in symbols (bytes_eq name) entries in
    ap (λ v. with_constant constants name v value) there ∙ go (lookup (bytes_eq name) entries) found
  where
    go : (o : Option ℕ) → is_some o ≡ true → with_constant constants name (option_map (symbol_at symbols) o) value ≡ None
    go None h = absurd cc
    go (Some id) h = refl

pub is_missing : (o : Option ℕ) (b : Bool) → b ≡ is_some o → b ≡ false → o ≡ None
is_missing None b h k = refl
is_missing (Some id) b h k = absurd cc

-- a function's term is its name before the terms of its arguments
terms_at : (symbols : List Symbol) (ids : List ℕ) → terms_of (symbols_at symbols ids) ≡ map (λ id. term_of (symbol_at symbols id)) ids
terms_at symbols [] = refl
terms_at symbols (id ∷ ids) = ap (λ rest. term_of (symbol_at symbols id) ∷ rest) (terms_at symbols ids)

pub function_term : (symbols : List Symbol) (symbol : Symbol) (name ids : List ℕ) (terms : List Term) (n : ℕ)
    → symbol ≡ applied_at symbols name ids → terms ≡ map (λ id. term_of (symbol_at symbols id)) (take n ids) → length ids ≤ n → applied name terms ≡ term_of symbol
function_term symbols symbol name ids terms n is so_far all =
    let whole : terms ≡ terms_of (symbols_at symbols ids) =
    so_far ∙ ap (map (λ id. term_of (symbol_at symbols id))) (take_all n ids all) ∙ sym (terms_at symbols ids) in
    ap (applied name) whole ∙ sym (ap term_of is)

pub value_there : (constants : Constants) (symbols : List Symbol) (entries : List (List ℕ × ℕ)) (name : List ℕ)
    → constants ≡ constants_in symbols entries → is_some (lookup (bytes_eq name) entries) ≡ is_some (value_at constants name)
value_there constants symbols entries name view = go (lookup (bytes_eq name) entries) ∙ ap is_some (sym (ap (λ c. value_at c name) view ∙ lookup_in symbols (bytes_eq name) entries))
  where
    go : (o : Option ℕ) → is_some o ≡ is_some (option_map (symbol_at symbols) o)
    go None = refl
    go (Some id) = refl

-- ---- constants as variables
-- the table grows
pub table_front : (old new : List Symbol) (values : List (Option Value)) (entries : List (List ℕ × ℕ)) → IsFront old new → IsTable (length old) values entries → IsTable (length new) values entries
table_front old new values entries front table = record { held = held_front old new entries front table.held; bound = table.bound }

-- the same values and entries are those of the table
pub same_table : (size : ℕ) (values after : List (Option Value)) (entries more : List (List ℕ × ℕ)) → more ≡ entries → after ≡ values → IsTable size values entries → IsTable size after more
same_table size values after entries more same bound table = subst (λ v. IsTable size v more) (sym bound) (subst (λ e. IsTable size values e) (sym same) table)

values_more : (entries : List (List ℕ × ℕ)) (name : List ℕ) (id : ℕ) → values_in (entries ++ (name, id) ∷ []) ≡ values_in entries ++ Some (value.Symbol id) ∷ []
values_more [] name id = refl
values_more (e ∷ es) name id = ap (λ rest. Some (value.Symbol e.1) ∷ rest) (values_more es name id)

-- and has one constant more
pub table_added : (old new : List Symbol) (values after : List (Option Value)) (entries more : List (List ℕ × ℕ)) (name : List ℕ) (id : ℕ) → IsFront old new → id < length new
    → IsTable (length old) values entries → more ≡ entries ++ (name, id) ∷ [] → after ≡ values ++ Some (value.Symbol id) ∷ [] → IsTable (length new) after more
table_added old new values after entries more name id front within table is bound = record {
  held = held_added old new entries more name id front within table.held is;
  bound = bound ∙ ap (λ l. l ++ Some (value.Symbol id) ∷ []) table.bound ∙ sym (values_more entries name id) ∙ sym (ap values_in is);
}

known_in : (size : ℕ) (entries : List (List ℕ × ℕ)) → AreHeld size entries → AllByRecursion (IsKnown size) (values_in entries)
known_in size [] held = tt
known_in size (e ∷ es) held = (held.0, known_in size es held.1)

-- the variables have values of the table
pub values_known : (size : ℕ) (values : List (Option Value)) (entries : List (List ℕ × ℕ)) → IsTable size values entries → All (IsKnown size) values
values_known size values entries table = subst (All (IsKnown size)) (sym table.bound) (All-from_recursion (IsKnown size) (values_in entries) (known_in size entries table.held))

worth_in : (symbols : List Symbol) (entries : List (List ℕ × ℕ)) → bound_in symbols (values_in entries) ≡ worth_of (constants_in symbols entries)
worth_in symbols [] = refl
worth_in symbols (e ∷ es) = ap (λ rest. IsSymbol (symbol_at symbols e.1) ∷ rest) (worth_in symbols es)

-- and they are worth what the constants are
pub values_worth : (constants : Constants) (symbols : List Symbol) (values : List (Option Value)) (entries : List (List ℕ × ℕ))
    → constants ≡ constants_in symbols entries → IsTable (length symbols) values entries → bound_in symbols values ≡ worth_of constants
values_worth constants symbols values entries view table = ap (bound_in symbols) table.bound ∙ worth_in symbols entries ∙ sym (ap worth_of view)

less_more : (a b : ℕ) → nat_lt a b ≡ nat_lt (1 + a) (suc b)
less_more a b = by (nat_lt a b) refl
  where
    by : (p : Bool) → nat_lt a b ≡ p → p ≡ nat_lt (1 + a) (suc b)
    by true e = sym (lt-ltb (1 + a) (suc b) (let l = ltb-true a b e in omega (arith, l)))
    by false e = sym (le-ltb (1 + a) (suc b) (let l = ltb-false a b e in omega (arith, l)))

numbers_in : (symbols : List Symbol) (name : List ℕ) (first : ℕ) (entries : List (List ℕ × ℕ))
    → number_from first (constants_in symbols entries) name ≡ option_map (λ place. first + place) (position (bytes_eq name) (map (λ entry. entry.0) entries))
numbers_in symbols name first [] = refl
numbers_in symbols name first (e ∷ es) = go (bytes_eq name e.0) (numbers_in symbols name (first + 1) es)
  where
    behind : ℕ → ℕ → Option ℕ
    behind place count = cond (nat_lt place count) (Some place) None

    further : (place count : ℕ) → option_map (λ n. first + 1 + n) (behind place count) ≡ option_map (λ n. first + n) (behind (1 + place) (suc count))
    further place count = by (nat_lt place count) (nat_lt (1 + place) (suc count)) (less_more place count)
      where
        by : (a b : Bool) → a ≡ b → option_map (λ n. first + 1 + n) (cond a (Some place) None) ≡ option_map (λ n. first + n) (cond b (Some (1 + place)) None)
        by true true is = ap Some (omega arith)
        by false false is = refl
        by true false is = absurd cc
        by false true is = absurd cc

    names : List (List ℕ)
    names = map (λ entry. entry.0) es

    go : (b : Bool) → number_from (first + 1) (constants_in symbols es) name ≡ option_map (λ n. first + 1 + n) (position (bytes_eq name) names)
        → (if b then Some first else number_from (first + 1) (constants_in symbols es) name)
        ≡ option_map (λ n. first + n) (behind (cond (not b) (1 + position_or_len (bytes_eq name) names) 0) (suc (length names)))
    go true rest =
        let some : first ≡ first + 0 = omega arith in
        let less : nat_lt 0 (suc (length names)) ≡ true = lt-ltb 0 (suc (length names)) (omega arith) in
        ap Some some ∙ sym (ap (λ b. option_map (λ n. first + n) (cond b (Some 0) None)) less)
    go false rest = rest ∙ further (position_or_len (bytes_eq name) names) (length names)

-- a name's number among the entries is that of its constant
pub number_there : (constants : Constants) (symbols : List Symbol) (entries : List (List ℕ × ℕ)) (name : List ℕ)
    → constants ≡ constants_in symbols entries → number_in entries name ≡ number_at constants name
number_there constants symbols entries name view =
    sym (ap (λ c. number_at c name) view ∙ numbers_in symbols name 1 entries ∙ go (position (bytes_eq name) (map (λ entry. entry.0) entries)))
  where
    go : (o : Option ℕ) → option_map (λ place. 1 + place) o ≡ option_map suc o
    go None = refl
    go (Some place) = ap Some (omega arith)
