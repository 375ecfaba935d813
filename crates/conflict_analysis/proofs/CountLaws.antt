-- How many marks are of a level, and what reading one says.
use Rattle.std.proofs.Common.{◌≡◌, ℕ, zero, suc, ◌+◌, ◌<◌, ◌≤◌, Bool, true, false, cond, List, [], ◌∷◌, length, get_or, set, slice_get, Some, refl, sym, ◌∙◌, ap, subst, arith}
use Rattle.std.specs.Prelude.{nat_eq}
use Rattle.std.proofs.lemmas.Option.{slice_get_within, get_or_from_slice_get}
use Rattle.literals.specs.declared.lit.Lit.{Lit}
use Rattle.trail.specs.declared.entry.Entry.{Entry}
use Rattle.trail.specs.declared.entry.Why.TheVariants.{Decision}
use Rattle.trail.specs.Assignment.{Assignment, IsAssignment, Names, IsOf, since_on}
use Rattle.trail.proofs.EntryLaws.{entry_is}
use Rattle.conflict_analysis.specs.declared.marks.Mark.{Mark}
use Rattle.conflict_analysis.specs.declared.marks.Mark.TheVariants.{Clear, ByEnds, ByEntry}
use Rattle.conflict_analysis.specs.Levels.{level_at, level_on, level_since}
use Rattle.conflict_analysis.specs.Marked.{is_high, high_one, high_count, IsMark}
use Rattle.conflict_analysis.proofs.TrailFacts.{since_entry, level_there}

-- one mark written
pub count-set : (t : Assignment) (high : ℕ) (ms : List Mark) (i : ℕ) (m d : Mark) → i < length ms → high_count t high (set ms i m) + high_one t high (get_or ms i d) ≡ high_count t high ms + high_one t high m
count-set t high [] i m d h = absurd (omega arith)
count-set t high (x ∷ xs) zero m d h = omega arith
count-set t high (x ∷ xs) (suc i) m d h = let rest = count-set t high xs i m d (omega arith) in omega arith

pub count_one : (t : Assignment) (high : ℕ) (ms : List Mark) (i : ℕ) (d : Mark) → i < length ms → high_one t high (get_or ms i d) ≤ high_count t high ms
count_one t high [] i d h = absurd (omega arith)
count_one t high (x ∷ xs) zero d h = omega arith
count_one t high (x ∷ xs) (suc i) d h = let rest = count_one t high xs i d (omega arith) in omega arith

one_most : (t : Assignment) (high : ℕ) (m : Mark) → high_one t high m ≤ 1
one_most t high m = cases (is_high t high m)
  where
    cases : (b : Bool) → cond b 1 0 ≤ 1
    cases true = omega arith
    cases false = omega arith

pub count_most : (t : Assignment) (high : ℕ) (ms : List Mark) → high_count t high ms ≤ length ms
count_most t high [] = omega arith
count_most t high (x ∷ xs) = let here = one_most t high x in let rest = count_most t high xs in omega arith

-- where some are counted, one of them has a place
pub count_some : (t : Assignment) (high : ℕ) (ms : List Mark) (d : Mark) → 1 ≤ high_count t high ms → (i : ℕ) × (i < length ms) × (is_high t high (get_or ms i d) ≡ true)
count_some t high [] d h = absurd (omega arith)
count_some t high (x ∷ xs) d h = cases (is_high t high x) refl h (λ f. count_some t high xs d f)
  where
    cases : (b : Bool) → is_high t high x ≡ b → 1 ≤ cond b 1 0 + high_count t high xs → (1 ≤ high_count t high xs → (i : ℕ) × (i < length xs) × (is_high t high (get_or xs i d) ≡ true)) → (i : ℕ) × (i < suc (length xs)) × (is_high t high (get_or (x ∷ xs) i d) ≡ true)
    cases true e f rest = (0, omega arith, e)
    cases false e f rest = let found = rest (omega arith) in (suc found.0, omega (arith, found.1), found.2)

pub level_read : (es : List Entry) (i : ℕ) (e : Entry) → slice_get es i ≡ Some e → e.level ≡ level_at es i
level_read es i e h = sym (level_there es i e (slice_get_within es i e h) ∙ ap (λ (x : Entry). x.level) (get_or_from_slice_get es i e e h))

pub level_on_read : (t : Assignment) (l : Lit) (i : ℕ) (e : Entry) → Some i ≡ since_on t l → slice_get t.entries i ≡ Some e → e.level ≡ level_on t l
level_on_read t l i e s h = level_read t.entries i e h ∙ ap (level_since t.entries) s

pub since_within : (t : Assignment) (l : Lit) (i : ℕ) → Some i ≡ since_on t l → i < length t.entries
since_within t l i e = (since_entry t l i (record { lit = l; level = 0; why = Decision }) (sym e)).0

pub mark_within : (t : Assignment) (m : Mark) (l : Lit) (i : ℕ) → IsMark t m → m ≡ ByEntry l i → i < length t.entries
mark_within t Clear l i k e = cc
mark_within t (ByEnds x) l i k e = cc
mark_within t (ByEntry x j) l i k e =
    let same : j ≡ i = cc in
    subst (λ n. n < length t.entries) same (since_within t x j (sym k))

pub high_read : (t : Assignment) (high : ℕ) (m : Mark) (l : Lit) (i : ℕ) (e : Entry) → m ≡ ByEntry l i → slice_get t.entries i ≡ Some e → nat_eq e.level high ≡ is_high t high m
high_read t high m l i e f h = ap (λ n. nat_eq n high) (level_read t.entries i e h) ∙ sym (ap (is_high t high) f)

pub entry_of : (t : Assignment) (i : ℕ) (e : Entry) → IsAssignment t → slice_get t.entries i ≡ Some e → IsOf t.shape e.lit
entry_of t i e a h =
    let within : i < length t.entries = slice_get_within t.entries i e h in
    subst (λ (x : Entry). IsOf t.shape x.lit) (get_or_from_slice_get t.entries i e e h) (entry_is t i e a within).names.within

pub entry_named : (t : Assignment) (i : ℕ) (e : Entry) → IsAssignment t → slice_get t.entries i ≡ Some e → Names t.shape e.lit
entry_named t i e a h =
    let within : i < length t.entries = slice_get_within t.entries i e h in
    subst (λ (x : Entry). Names t.shape x.lit) (get_or_from_slice_get t.entries i e e h) (entry_is t i e a within).names
