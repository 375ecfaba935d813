-- Numbers that are read lie in their ranges.
use Rattle.std.proofs.Common.{◌≡◌, ◌&&◌, ◌≤◌, ◌<◌, ◌^◌, ℕ, zero, suc, ℤ, pos, negsuc, neg_ℤ, ◌≤ℤ◌, Bool, true, false, List, [], ◌∷◌, Option, Some, None, refl, ap, cond, length, eqb, arith, option_map, subst, IfSome}
use Rattle.std.specs.Prelude.{nat_le, int_le, option_and_then, codes}
use Rattle.std.specs.Str.Parse.{digits_value}
use Rattle.std.specs.Int.Signed.{le_z_yes}
use Rattle.std.proofs.Math.Dec.{le→leb}
use Rattle.std.proofs.lemmas.Bool.{leb-true}
use Rattle.std.proofs.lemmas.Float.{T_from_true}
use Rattle.command_words.specs.Numbers.{is_decimal, number_within, integer_within}
use Rattle.command_words.specs.Words.{Text, Piece, value_of, files_of, pieces_of}
use Rattle.command_words.specs.Settings.{optional, defaulted, ordered, ordered_if_named, ends_of, named_ends_of, few_files, derivation_first, SolverReading, CheckerReading, solver_options, checker_options, solver_reading, checker_reading, solver_settings_of, checker_settings_of}
use Rattle.command_words.specs.Ranges.{IsEnd, AreWithin, AreNamedWithin}

within : (low high n m : ℕ) (a b c : Bool) → nat_le low n ≡ b → nat_le n high ≡ c → cond (a && (b && c)) (Some n) None ≡ Some m → (low ≤ m) × (m ≤ high)
within low high n m true true true p q e =
    let same : n ≡ m = cc in
    (subst (λ k. low ≤ k) same (leb-true low n p), subst (λ k. k ≤ high) same (leb-true n high q))
within low high n m true true false p q e = cc
within low high n m true false c p q e = cc
within low high n m false b c p q e = cc

number-within : (low high : ℕ) (text : Text) (m : ℕ) → number_within low high text ≡ Some m → (low ≤ m) × (m ≤ high)
number-within low high text m e = within low high (digits_value 10 text) m (is_decimal text) _ _ refl refl e

pos_end : (n : ℕ) → n ≤ 1073741823 → IsEnd (pos n)
pos_end n h = (le_z_yes tt, le_z_yes (le→leb n 1073741823 h))

neg_end : (n : ℕ) → 1 ≤ n → n ≤ 1073741823 → IsEnd (neg_ℤ (pos n))
neg_end zero low h = absurd (omega (arith, low))
neg_end (suc n) low h =
    let few : n ≤ 1073741822 = omega (arith, h) in
    (le_z_yes (le→leb n 1073741822 few), le_z_yes tt)

-- what a mapped option has comes from what it maps
mapped : {X Y : Type 0} (f : X → Y) (o : Option X) (y : Y) → option_map f o ≡ Some y → (x : X) × (o ≡ Some x) × (f x ≡ y)
mapped f None y e = cc
mapped f (Some x) y e = let same : f x ≡ y = cc in (x, refl, same)

chosen_end : (b : Bool) (first : ℕ) (rest : Text) (z : ℤ)
    → cond b (option_map (λ n. neg_ℤ (pos n)) (number_within 1 1073741823 rest)) (option_map (λ n. pos n) (number_within 0 1073741823 (first ∷ rest))) ≡ Some z → IsEnd z
chosen_end true first rest z e =
    let n = mapped (λ n. neg_ℤ (pos n)) (number_within 1 1073741823 rest) z e in
    let r = number-within 1 1073741823 rest n.0 n.1 in
    subst IsEnd n.2 (neg_end n.0 r.0 r.1)
chosen_end false first rest z e =
    let n = mapped (λ n. pos n) (number_within 0 1073741823 (first ∷ rest)) z e in
    let r = number-within 0 1073741823 (first ∷ rest) n.0 n.1 in
    subst IsEnd n.2 (pos_end n.0 r.1)

integer-within : (text : Text) (z : ℤ) → integer_within 1073741823 text ≡ Some z → IsEnd z
integer-within [] z e = cc
integer-within (first ∷ rest) z e = chosen_end (eqb first 45) first rest z e

-- an option, and one with a default
optional-within : {X : Type 0} (P : X → Type 0) (read : Text → Option X) (reads : (text : Text) (x : X) → read text ≡ Some x → P x) (value : Option Text) (x : Option X)
    → optional read value ≡ Some x → IfSome x P
optional-within P read reads None x e = let same : None ≡ x = cc in subst (λ o. IfSome o P) same tt
optional-within P read reads (Some text) x e =
    let y = mapped (λ y. Some y) (read text) x e in
    subst (λ o. IfSome o P) y.2 (reads text y.0 y.1)

defaulted-within : {X : Type 0} (P : X → Type 0) (default : X) (read : Text → Option X) → P default → (reads : (text : Text) (x : X) → read text ≡ Some x → P x) (value : Option Text) (x : X)
    → defaulted default read value ≡ Some x → P x
defaulted-within P default read p reads None x e = let same : default ≡ x = cc in subst P same p
defaulted-within P default read p reads (Some text) x e = reads text x e

-- what a chain of options has comes from its parts
chained : {X Y : Type 0} (f : X → Option Y) (o : Option X) (y : Y) → option_and_then f o ≡ Some y → (x : X) × (o ≡ Some x) × (f x ≡ Some y)
chained f None y e = cc
chained f (Some x) y e = (x, refl, e)

few-within : (b : Bool) (files taken : List Text) → nat_le (length files) 65536 ≡ b → cond b (Some files) None ≡ Some taken → length taken ≤ 65536
few-within true files taken p e = let same : files ≡ taken = cc in subst (λ l. length l ≤ 65536) same (leb-true (length files) 65536 p)
few-within false files taken p e = cc

ordered-within : (b : Bool) (min max : ℤ) (ends : ℤ × ℤ) → int_le min max ≡ b → cond b (Some (min, max)) None ≡ Some ends → (min ≡ ends.0) × (max ≡ ends.1) × (min ≤ℤ max)
ordered-within true min max ends p e =
    let same : (min, max) ≡ ends = cc in
    (ap (λ w. w.0) same, ap (λ w. w.1) same, le_z_yes (T_from_true (int_le min max) p))
ordered-within false min max ends p e = cc

both-ends : (low high : Option ℤ) (ends : ℤ × ℤ) → option_and_then (λ min. option_and_then (λ max. ordered min max) high) low ≡ Some ends
    → (low ≡ Some ends.0) × (high ≡ Some ends.1) × (ends.0 ≤ℤ ends.1)
both-ends None high ends e = cc
both-ends (Some min) None ends e = cc
both-ends (Some min) (Some max) ends e =
    let both = ordered-within (int_le min max) min max ends refl e in
    (ap (λ z. Some z) both.0, ap (λ z. Some z) both.1, subst (λ z. z ≤ℤ ends.1) both.0 (subst (λ z. min ≤ℤ z) both.1 both.2))

ends-within : (pieces : List Piece) (ends : ℤ × ℤ) → ends_of pieces ≡ Some ends → IsEnd ends.0 × IsEnd ends.1 × (ends.0 ≤ℤ ends.1)
ends-within pieces ends e =
    let min = value_of (codes "--min-int") pieces in
    let max = value_of (codes "--max-int") pieces in
    let both = both-ends (defaulted (negsuc 1073741822) (integer_within 1073741823) min) (defaulted (pos 1073741823) (integer_within 1073741823) max) ends e in (
      defaulted-within IsEnd (negsuc 1073741822) (integer_within 1073741823) (le_z_yes tt, le_z_yes tt) integer-within min ends.0 both.0,
      defaulted-within IsEnd (pos 1073741823) (integer_within 1073741823) (le_z_yes tt, le_z_yes tt) integer-within max ends.1 both.1,
      both.2,
    )

named-ordered : (min max : Option ℤ) (ends : Option ℤ × Option ℤ) → ordered_if_named min max ≡ Some ends
    → (min ≡ ends.0) × (max ≡ ends.1) × IfSome min (λ low. IfSome max (λ high. low ≤ℤ high))
named-ordered (Some min) (Some max) ends e = go (int_le min max) refl e
  where
    go : (b : Bool) → int_le min max ≡ b → cond b (Some (Some min, Some max)) None ≡ Some ends → (Some min ≡ ends.0) × (Some max ≡ ends.1) × (min ≤ℤ max)
    go true p e =
        let same : (Some min, Some max) ≡ ends = cc in
        (ap (λ w. w.0) same, ap (λ w. w.1) same, le_z_yes (T_from_true (int_le min max) p))
    go false p e = cc
named-ordered (Some min) None ends e =
    let same : (Some min, None) ≡ ends = cc in
    (ap (λ w. w.0) same, ap (λ w. w.1) same, tt)
named-ordered None max ends e =
    let same : (None, max) ≡ ends = cc in
    (ap (λ w. w.0) same, ap (λ w. w.1) same, tt)

both-named : (low high : Option (Option ℤ)) (ends : Option ℤ × Option ℤ) → option_and_then (λ min. option_and_then (λ max. ordered_if_named min max) high) low ≡ Some ends
    → (low ≡ Some ends.0) × (high ≡ Some ends.1) × IfSome ends.0 (λ low. IfSome ends.1 (λ high. low ≤ℤ high))
both-named None high ends e = cc
both-named (Some min) None ends e = cc
both-named (Some min) (Some max) ends e =
    let both = named-ordered min max ends e in (
      ap (λ z. Some z) both.0,
      ap (λ z. Some z) both.1,
      subst (λ o. IfSome o (λ low. IfSome ends.1 (λ high. low ≤ℤ high))) both.0 (subst (λ o. IfSome min (λ low. IfSome o (λ high. low ≤ℤ high))) both.1 both.2),
    )

named-within : (pieces : List Piece) (ends : Option ℤ × Option ℤ) → named_ends_of pieces ≡ Some ends
    → IfSome ends.0 IsEnd × IfSome ends.1 IsEnd × IfSome ends.0 (λ low. IfSome ends.1 (λ high. low ≤ℤ high))
named-within pieces ends e =
    let min = value_of (codes "--min-int") pieces in
    let max = value_of (codes "--max-int") pieces in
    let both = both-named (optional (integer_within 1073741823) min) (optional (integer_within 1073741823) max) ends e in
    (optional-within IsEnd (integer_within 1073741823) integer-within min ends.0 both.0, optional-within IsEnd (integer_within 1073741823) integer-within max ends.1 both.1, both.2)

-- what the solver's chain has
solver-parts : (answers : Option (Option ℕ)) (conflicts : Option ℕ) (ends : Option (ℤ × ℤ)) (limit : Option ℕ) (files : Option (List Text)) (proof : Option Text) (s : SolverReading)
    → option_and_then (λ answers.
    option_and_then (λ conflicts.
    option_and_then (λ ends.
    option_and_then (λ limit.
    option_map (λ files. record { answers = answers; conflicts = conflicts; min = ends.0; max = ends.1; ground_limit = limit; proof = proof; files = files }) files) limit) ends) conflicts) answers
    ≡ Some s
    → (answers ≡ Some s.answers) × (conflicts ≡ Some s.conflicts) × (ends ≡ Some (s.min, s.max)) × (limit ≡ Some s.ground_limit) × (files ≡ Some s.files)
solver-parts None conflicts ends limit files proof s e = cc
solver-parts (Some a) None ends limit files proof s e = cc
solver-parts (Some a) (Some c) None limit files proof s e = cc
solver-parts (Some a) (Some c) (Some r) None files proof s e = cc
solver-parts (Some a) (Some c) (Some r) (Some l) None proof s e = cc
solver-parts (Some a) (Some c) (Some r) (Some l) (Some f) proof s e =
    let made : SolverReading = record { answers = a; conflicts = c; min = r.0; max = r.1; ground_limit = l; proof = proof; files = f } in
    let same : made ≡ s = cc in (
      ap (λ (z : SolverReading). Some z.answers) same,
      ap (λ (z : SolverReading). Some z.conflicts) same,
      ap (λ (z : SolverReading). Some (z.min, z.max)) same,
      ap (λ (z : SolverReading). Some z.ground_limit) same,
      ap (λ (z : SolverReading). Some z.files) same,
    )

abbrev IsCount : ℕ → ℕ → Type 0
IsCount most n = (1 ≤ n) × (n ≤ most)

solver-within : (pieces : List Piece) (s : SolverReading) → solver_reading pieces ≡ Some s → AreWithin s
solver-within pieces s e =
    let answers = value_of (codes "-n") pieces in
    let conflicts = value_of (codes "--conflicts") pieces in
    let limit = value_of (codes "--ground-limit") pieces in
    let parts = solver-parts (optional (number_within 0 18446744073709551615) answers) (defaulted 18446744073709551615 (number_within 1 18446744073709551615) conflicts)
    (ends_of pieces) (defaulted 1048576 (number_within 1 4194304) limit) (few_files (files_of pieces)) (value_of (codes "--proof") pieces) s e in
    let range = ends-within pieces (s.min, s.max) parts.2 in
    let some = defaulted-within (IsCount 18446744073709551615) 18446744073709551615 (number_within 1 18446744073709551615) (omega arith, omega arith) (number-within 1 18446744073709551615) conflicts s.conflicts parts.1 in
    let instances = defaulted-within (IsCount 4194304) 1048576 (number_within 1 4194304) (omega arith, omega arith) (number-within 1 4194304) limit s.ground_limit parts.3 in
    let reads : (text : Text) (n : ℕ) → number_within 0 18446744073709551615 text ≡ Some n → n < 2 ^ 64 = λ text n is. let r = number-within 0 18446744073709551615 text n is in omega (arith, r.1) in
    record {
      answers = optional-within (λ n. n < 2 ^ 64) (number_within 0 18446744073709551615) reads answers s.answers parts.0;
      some_conflict = some.0;
      conflicts = omega (arith, some.1);
      min = range.0;
      max = range.1;
      ordered = range.2;
      some_instance = instances.0;
      instances = instances.1;
      few = few-within (nat_le (length (files_of pieces)) 65536) (files_of pieces) s.files refl parts.4;
    }

-- what the checker's chain has
checker-parts : (ends : Option (Option ℤ × Option ℤ)) (names : Option (Text × List Text)) (s : CheckerReading)
    → option_and_then (λ ends. option_map (λ names. record { min = ends.0; max = ends.1; proof = names.0; files = names.1 }) names) ends ≡ Some s
    → (ends ≡ Some (s.min, s.max)) × (names ≡ Some (s.proof, s.files))
checker-parts None names s e = cc
checker-parts (Some r) None s e = cc
checker-parts (Some r) (Some n) s e =
    let made : CheckerReading = record { min = r.0; max = r.1; proof = n.0; files = n.1 } in
    let same : made ≡ s = cc in
    (ap (λ (z : CheckerReading). Some (z.min, z.max)) same, ap (λ (z : CheckerReading). Some (z.proof, z.files)) same)

few-behind : (files : List Text) (names : Text × List Text) → derivation_first files ≡ Some names → length names.1 ≤ 65536
few-behind [] names e = cc
few-behind (proof ∷ files) names e =
    let few = mapped (λ few. (proof, few)) (few_files files) names e in
    subst (λ (l : List Text). length l ≤ 65536) (ap (λ (w : Text × List Text). w.1) few.2) (few-within (nat_le (length files) 65536) files few.0 refl few.1)

checker-within : (pieces : List Piece) (s : CheckerReading) → checker_reading pieces ≡ Some s → AreNamedWithin s
checker-within pieces s e =
    let parts = checker-parts (named_ends_of pieces) (derivation_first (files_of pieces)) s e in
    let range = named-within pieces (s.min, s.max) parts.0 in
    record { min = range.0; max = range.1; ordered = range.2; few = few-behind (files_of pieces) (s.proof, s.files) parts.1 }

pub solver_settings-within : (words : List Text) (s : SolverReading) → solver_settings_of words ≡ Some s → AreWithin s
solver_settings-within words s e = let pieces = chained solver_reading (pieces_of solver_options words) s e in solver-within pieces.0 s pieces.2

pub checker_settings-within : (words : List Text) (s : CheckerReading) → checker_settings_of words ≡ Some s → AreNamedWithin s
checker_settings-within words s e = let pieces = chained checker_reading (pieces_of checker_options words) s e in checker-within pieces.0 s pieces.2
