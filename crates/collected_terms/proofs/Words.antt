-- Small numbers fit 64 bits.
use Rattle.std.proofs.Common.{◌≡◌, ◌∙◌, true, ℤ, int_div, int_rem, negsuc, ◌-ℤ◌, ◌*ℤ◌, pos, FitsSigned, w64, to_z, of_z, ap, sym, rules, arith}
use Rattle.std.proofs.lemmas.Int.{to_z-of_z, rem_is, ints}
use Rattle.ground_model.specs.Sound.{is_small}
use Rattle.program_meaning.proofs.CollectedValue.{minus_one}
use Rattle.syntax_tree.proofs.Checked.{remainder_is}

pub small_fits : (z : ℤ) → is_small z ≡ true → FitsSigned w64 z
small_fits z small = search rules

pub small_same : (z : ℤ) → is_small z ≡ true → to_z w64 (of_z w64 z) ≡ z
small_same z small = let fits = small_fits z small in simp to_z-of_z

pub rest_is : (a b : ℤ) → FitsSigned w64 a → FitsSigned w64 b
    → to_z w64 (of_z w64 (int_rem (to_z w64 (of_z w64 a)) (to_z w64 (of_z w64 b)))) ≡ a -ℤ (b *ℤ int_div a b)
rest_is a b f g = rem_is w64 a b f g ∙ remainder_is a b

pub small_turned : (z : ℤ) → is_small z ≡ true → is_small (negsuc 0 *ℤ z) ≡ true
small_turned z h = ap is_small (minus_one z) ∙ other z h
  where
    other : (z : ℤ) → is_small z ≡ true → is_small (pos 0 -ℤ z) ≡ true
    other z h = grind (arith, ints)

-- what the code's `-z` gives
pub turned_same : (z : ℤ) → is_small z ≡ true → to_z w64 (of_z w64 (pos 0 -ℤ to_z w64 (of_z w64 z))) ≡ negsuc 0 *ℤ z
turned_same z small =
    ap (λ y. to_z w64 (of_z w64 (pos 0 -ℤ y))) (small_same z small)
    ∙ ap (λ y. to_z w64 (of_z w64 y)) (sym (minus_one z)) ∙ small_same (negsuc 0 *ℤ z) (small_turned z small)
