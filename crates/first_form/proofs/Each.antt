-- One item more of what is gathered while the table grows.
use Rattle.std.proofs.Common.{◌≡◌, ℕ, ◌+◌, ◌<◌, ◌==◌, false, add-one, List, [], ◌∷◌, ◌++◌, map, take, length, Option, Some, slice_index_or, sym, ◌∙◌, ap}
use Rattle.std.proofs.lemmas.List.{map-append}
use Rattle.symbols.specs.Symbol.{Symbol}
use Rattle.symbols.specs.Table.{symbol_at, IsFront}
use Rattle.first_form.specs.declared.statement.DefiniteStatement.{DefiniteStatement}
use Rattle.first_form.specs.Form.{SymbolRule, all_there, rule_in, rules_in, AreKnown, HaveKnown}
use Rattle.first_form.proofs.Tables.{same_symbols, same_rules}
use Rattle.first_form.proofs.There.{there_more}

pub never_empty_list : {X : Type 0} (xs : List X) → false ≡ (length xs == 0) → xs ≡ [] → ⊥
never_empty_list [] h e = absurd cc
never_empty_list (x ∷ xs) h e = absurd cc

pub symbols_more : {X : Type 0} (f : X → Option Symbol) (xs : List X) (i : ℕ) (x : X) (table now : List Symbol) (ids pushed : List ℕ) (id : ℕ)
    → x ≡ slice_index_or xs i x → i < length xs → IsFront table now → AreKnown table ids → all_there (map f (take i xs)) ≡ Some (map (symbol_at table) ids)
    → f x ≡ Some (symbol_at now id) → pushed ≡ ids ++ id ∷ [] → all_there (map f (take (i + 1) xs)) ≡ Some (map (symbol_at now) pushed)
symbols_more f xs i x table now ids pushed id item inside kept known so_far is push =
    let all : map (symbol_at now) pushed ≡ map (symbol_at table) ids ++ symbol_at now id ∷ [] =
    ap (map (symbol_at now)) push ∙ map-append (symbol_at now) ids (id ∷ []) ∙ ap (λ ys. ys ++ symbol_at now id ∷ []) (sym (same_symbols table now ids kept known)) in
    let more : all_there (map f (take (i + 1) xs)) ≡ Some (map (symbol_at table) ids ++ symbol_at now id ∷ []) =
    rw add-one (there_more f xs i x (map (symbol_at table) ids) (symbol_at now id) item inside so_far is) in
    more ∙ ap (λ ys. Some ys) (sym all)

pub rules_more : {X : Type 0} (f : X → Option SymbolRule) (xs : List X) (i : ℕ) (x : X) (table now : List Symbol) (found pushed : List DefiniteStatement) (statement : DefiniteStatement)
    → x ≡ slice_index_or xs i x → i < length xs → IsFront table now → HaveKnown table found → all_there (map f (take i xs)) ≡ Some (rules_in table found)
    → f x ≡ Some (rule_in now statement) → pushed ≡ found ++ statement ∷ [] → all_there (map f (take (i + 1) xs)) ≡ Some (rules_in now pushed)
rules_more f xs i x table now found pushed statement item inside kept known so_far is push =
    let all : rules_in now pushed ≡ rules_in table found ++ rule_in now statement ∷ [] =
    ap (rules_in now) push ∙ map-append (rule_in now) found (statement ∷ []) ∙ ap (λ ys. ys ++ rule_in now statement ∷ []) (sym (same_rules table now found kept known)) in
    let more : all_there (map f (take (i + 1) xs)) ≡ Some (rules_in table found ++ rule_in now statement ∷ []) =
    rw add-one (there_more f xs i x (rules_in table found) (rule_in now statement) item inside so_far is) in
    more ∙ ap (λ ys. Some ys) (sym all)
