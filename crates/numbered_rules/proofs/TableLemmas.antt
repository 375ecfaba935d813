-- Numbers by id are those of the symbols.
use Rattle.std.proofs.Common.{◌≡◌, ◌<◌, ◌==◌, ℕ, zero, suc, Bool, true, false, if◌then◌else◌, List, [], ◌∷◌, All, length, map, Some, refl, sym, ◌∙◌, ap, arith}
use Rattle.std.specs.Prelude.{slice_index}
use Rattle.std.specs.List.{AllByRecursion}
use Rattle.std.specs.Ordering.{is_eq}
use Rattle.std.proofs.lemmas.Bool.Decides.{nat_tests}
use Rattle.symbols.specs.Symbol.{Symbol}
use Rattle.symbols.specs.Order.{symbol_cmp}
use Rattle.symbols.specs.Table.{symbol_at, IsOnce}
use Rattle.symbols.proofs.OrderLemmas.{symbol_cmp-itself}
use Rattle.ground_model.proofs.Bools.{same_test}
use Rattle.program_meaning.specs.Canonical.{number_from, or_zero, variable_number}
use Rattle.program_meaning.proofs.Numbers.{same_symbol}
use Rattle.numbered_rules.specs.Numbers.{or_none, AreNumbers}
use Rattle.numbered_rules.specs.inner.ByNumber.{number_among}

pub zero_none : (n : ℕ) → or_zero (or_none n) ≡ n
zero_none zero = refl
zero_none (suc n) = refl

module _ (symbols : List Symbol) (once : IsOnce symbols) where
  same_tests : (a c : ℕ) → a < length symbols → c < length symbols → (a == c) ≡ is_eq (symbol_cmp (symbol_at symbols c) (symbol_at symbols a))
  same_tests a c l m = same_test (a == c) (is_eq (symbol_cmp (symbol_at symbols c) (symbol_at symbols a))) forth back
    where
      nats : (a == c) ≡ true → a ≡ c
      nats e = grind (arith, nat_tests)

      tested : a ≡ c → (a == c) ≡ true
      tested e = grind (arith, nat_tests)

      forth : (a == c) ≡ true → is_eq (symbol_cmp (symbol_at symbols c) (symbol_at symbols a)) ≡ true
      forth e = ap (λ k. is_eq (symbol_cmp (symbol_at symbols c) (symbol_at symbols k))) (nats e) ∙ ap is_eq (symbol_cmp-itself (symbol_at symbols c))

      back : is_eq (symbol_cmp (symbol_at symbols c) (symbol_at symbols a)) ≡ true → (a == c) ≡ true
      back e = tested (sym (once c a m l (same_symbol (symbol_at symbols c) (symbol_at symbols a) e)))

  number_same : (ids : List ℕ) → AllByRecursion (λ id. id < length symbols) ids → (n id : ℕ) → id < length symbols
      → or_none (number_among (suc n) ids id) ≡ number_from (suc n) (map (symbol_at symbols) ids) (symbol_at symbols id)
  number_same [] known n id l = refl
  number_same (other ∷ ids) known n id l =
      go (other == id) (is_eq (symbol_cmp (symbol_at symbols id) (symbol_at symbols other))) (same_tests other id known.0 l) (number_same ids known.1 (suc n) id l)
    where
      go : (s t : Bool) → s ≡ t → or_none (number_among (suc (suc n)) ids id) ≡ number_from (suc (suc n)) (map (symbol_at symbols) ids) (symbol_at symbols id)
          → or_none (if s then suc n else number_among (suc (suc n)) ids id)
          ≡ (if t then Some (suc n) else number_from (suc (suc n)) (map (symbol_at symbols) ids) (symbol_at symbols id))
      go true true e rec = refl
      go true false e rec = cc
      go false true e rec = cc
      go false false e rec = rec

  pub are_numbers : (ids numbers : List ℕ) → AllByRecursion (λ id. id < length symbols) ids → ((id : ℕ) → slice_index numbers id ≡ number_among 1 ids id)
      → AreNumbers symbols (map (symbol_at symbols) ids) numbers
  are_numbers ids numbers known same id l = ap or_none (same id) ∙ number_same ids known 0 id l

-- so has a variable
pub variable_same : (symbols named : List Symbol) (numbers : List ℕ) → AreNumbers symbols named numbers → (id : ℕ) → id < length symbols
    → slice_index numbers id ≡ variable_number named (symbol_at symbols id)
variable_same symbols named numbers are id l = sym (zero_none (slice_index numbers id)) ∙ ap or_zero (are id l)

pub all_by_index : {X : Type 0} (P : X → Type 0) (xs : List X) → AllByRecursion P xs → All P xs
all_by_index P [] a = λ k d l. absurd (omega (arith, l))
all_by_index P (x ∷ xs) a = go (all_by_index P xs a.1)
  where
    go : All P xs → All P (x ∷ xs)
    go rec zero d l = a.0
    go rec (suc k) d l = rec k d (omega (arith, l))
