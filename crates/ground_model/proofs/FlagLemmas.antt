-- The numbers of flags ascend, and are those of the flags that are set.
use Rattle.std.proofs.Common.{◌≡◌, ◌<◌, ◌≤◌, ◌+◌, ◌-◌, ◌⊎◌, inl, inr, ℕ, zero, suc, Bool, true, false, ◌==◌, nat_lt, List, [], ◌∷◌, refl, sym, subst, true≢false, eqb-true, arith}
use Rattle.std.proofs.lemmas.Bool.Decides.{nat_tests}
use Rattle.definite_rules.specs.Least.{flag_at, IsLeastModel}
use Rattle.ground_model.specs.declared.program.GroundProgram.{GroundProgram}
use Rattle.ground_model.specs.Answers.{ascend_from, has_atom, IsOnlyAnswer}
use Rattle.ground_model.specs.Definite.{is_definite}
use Rattle.ground_model.specs.Reduct.{reduct}
use Rattle.ground_model.specs.World.{World, flagged_from}
use Rattle.ground_model.proofs.Bools.{and_intro, or_elim, or_left, or_right}
use Rattle.ground_model.proofs.MemberLemmas.{same_nat}
use Rattle.ground_model.proofs.DefiniteLaw.{definite_rules_of, definite_reduct, rules_definite, definite_only}

pub flagged_ascend : (last n : ℕ) (flags : List Bool) → last < n → ascend_from last (flagged_from n flags) ≡ true
flagged_ascend last n [] below = refl
flagged_ascend last n (true ∷ flags) below =
    and_intro (nat_lt last n) (ascend_from n (flagged_from (n + 1) flags)) (grind (arith, nat_tests)) (flagged_ascend n (n + 1) flags (omega arith))
flagged_ascend last n (false ∷ flags) below = flagged_ascend last (n + 1) flags (omega arith)

shift : (n a : ℕ) (flags : List Bool) (first : Bool) → n + 1 ≤ a → flag_at flags (a - (n + 1)) ≡ true → flag_at (first ∷ flags) (a - n) ≡ true
shift n a flags first le e =
    let s : a - n ≡ suc (a - (n + 1)) = omega arith in subst (λ k. flag_at (first ∷ flags) k ≡ true) (sym s) e

pub flag_of_number : (n a : ℕ) (flags : List Bool) → has_atom (flagged_from n flags) a ≡ true → (n ≤ a) × (flag_at flags (a - n) ≡ true)
flag_of_number n a [] m = absurd (true≢false (sym m))
flag_of_number n a (true ∷ flags) m = go (or_elim (n == a) (has_atom (flagged_from (n + 1) flags) a) m) (flag_of_number (n + 1) a flags)
  where
    go : ((n == a) ≡ true) ⊎ (has_atom (flagged_from (n + 1) flags) a ≡ true)
        → (has_atom (flagged_from (n + 1) flags) a ≡ true → (n + 1 ≤ a) × (flag_at flags (a - (n + 1)) ≡ true))
        → (n ≤ a) × (flag_at (true ∷ flags) (a - n) ≡ true)
    go (inl e) rec =
        let s : n ≡ a = eqb-true n a e in
        let z : a - n ≡ 0 = omega arith in
        (omega arith, subst (λ k. flag_at (true ∷ flags) k ≡ true) (sym z) refl)
    go (inr e) rec = let r = rec e in let le = r.0 in (omega arith, shift n a flags true le r.1)
flag_of_number n a (false ∷ flags) m =
    let r = flag_of_number (n + 1) a flags m in let le = r.0 in (omega arith, shift n a flags false le r.1)

pub number_of_flag : (n k : ℕ) (flags : List Bool) → flag_at flags k ≡ true → has_atom (flagged_from n flags) (n + k) ≡ true
number_of_flag n k [] e = absurd (true≢false (sym e))
number_of_flag n zero (true ∷ flags) e = or_left (n == n + zero) (has_atom (flagged_from (n + 1) flags) (n + zero)) (same_nat n (n + zero) (omega arith))
number_of_flag n (suc k) (true ∷ flags) e =
    let s : (n + 1) + k ≡ n + suc k = omega arith in
    or_right (n == n + suc k) (has_atom (flagged_from (n + 1) flags) (n + suc k))
    (subst (λ a. has_atom (flagged_from (n + 1) flags) a ≡ true) s (number_of_flag (n + 1) k flags e))
number_of_flag n zero (false ∷ flags) e = absurd (true≢false (sym e))
number_of_flag n (suc k) (false ∷ flags) e =
    let s : (n + 1) + k ≡ n + suc k = omega arith in
    subst (λ a. has_atom (flagged_from (n + 1) flags) a ≡ true) s (number_of_flag (n + 1) k flags e)

pub flagged_only : (program : GroundProgram) (world : World) (flags : List Bool) → is_definite program ≡ true → IsLeastModel (reduct program.rules world) flags
    → IsOnlyAnswer program (record { atoms = flagged_from 1 flags; values = [] })
flagged_only program world flags given least =
    let is : IsLeastModel (definite_rules_of program.rules) flags =
    subst (λ rules. IsLeastModel rules flags) (definite_reduct program.rules world (rules_definite program given)) least in
    definite_only program given (record { atoms = flagged_from 1 flags; values = [] }) (flagged_ascend 0 1 flags (omega arith)) refl
    (λ a m. is.derived (a - 1) (flag_of_number 1 a flags m).1)
    (λ place rank d.
    let s : 1 + place ≡ suc place = omega arith in
    subst (λ a. has_atom (flagged_from 1 flags) a ≡ true) s (number_of_flag 1 place flags (is.closed place rank d)))
