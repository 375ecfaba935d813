-- When a nogood is quiet.
use Rattle.std.proofs.Common.{◌≡◌, ℕ, zero, suc, ◌<◌, ◌⊎◌, inl, inr, Bool, true, false, IsTrue, List, [], ◌∷◌, length, get_or, refl, sym, ◌∙◌, ap, arith}
use Rattle.std.specs.Prelude.{nat_lt}
use Rattle.std.proofs.lemmas.List.Elements.{Contains-get_or}
use Rattle.std.proofs.lemmas.Bool.Decides.{nat_tests}
use Rattle.literals.specs.declared.lit.Lit.{Lit}
use Rattle.literals.specs.declared.lit.Lit.TheVariants.{Atom}
use Rattle.literals.specs.Lits.{complement_of}
use Rattle.literals.specs.Nogoods.{is_before, Rises}
use Rattle.literals.proofs.LitLaws.{complement-complement}
use Rattle.literals.proofs.OrderLaws.{before_not}
use Rattle.trail.specs.Assignment.{Assignment, IsAssignment, is_true_on, lits_of}
use Rattle.trail.specs.Forced.{AllButOpen}
use Rattle.trail.proofs.ImpliedLaws.{open_is}
use Rattle.trail.proofs.AssignmentLaws.{agree_on}
use Rattle.nogood_store.specs.Propagation.{IsQuiet}
use Rattle.nogood_store.specs.inner.Watching.{lit_at, HasFalseOn}
use Rattle.nogood_store.proofs.HeldLaws.{all_at}

clash : {X : Type 0} → true ≡ false → X
clash h = cc

-- a literal whose opposite is true is not true
pub false_untrue : (t : Assignment) (l : Lit) → IsAssignment t → is_true_on t (complement_of l) ≡ true → is_true_on t l ≡ false
false_untrue t l a h = ap (is_true_on t) (sym (complement-complement l)) ∙ agree_on t (complement_of l) a h

-- a nogood with a false literal is quiet
pub false_quiet : (t : Assignment) (n : List Lit) → IsAssignment t → HasFalseOn t n → IsQuiet t n
false_quiet t n a f = record {
  not_met = λ all. clash (sym (all f.0 f.1) ∙ false_untrue t f.0 a f.2);
  not_unit = λ l u. cases l u (u.others f.0 f.1);
}
  where
    cases : (l : Lit) → AllButOpen t n l → (f.0 ≡ l) ⊎ (is_true_on t f.0 ≡ true) → ⊥
    cases l u (inl e) = clash (sym f.2 ∙ ap (λ (m : Lit). is_true_on t (complement_of m)) e ∙ (open_is t.shape.ends (lits_of t.entries) l u.is_open).1)
    cases l u (inr e) = clash (sym e ∙ false_untrue t f.0 a f.2)

apart : (x y : Lit) → is_before x y ≡ true → x ≡ y → ⊥
apart x y b e =
    let own : is_before x x ≡ true = ap (is_before x) e ∙ b in
    clash (sym own ∙ before_not x x own)

rises_apart : (n : List Lit) (i j : ℕ) → Rises n → i < j → j < length n → lit_at n i ≡ lit_at n j → ⊥
rises_apart [] i j r h l e = absurd (omega arith)
rises_apart (x ∷ xs) zero zero r h l e = absurd (omega arith)
rises_apart (x ∷ xs) zero (suc j) r h l e = apart x (get_or xs j (Atom 0 false)) (all_at (λ m. IsTrue (is_before x m)) xs j (Atom 0 false) r.0 (omega arith)) e
rises_apart (x ∷ xs) (suc i) zero r h l e = absurd (omega arith)
rises_apart (x ∷ xs) (suc i) (suc j) r h l e = rises_apart xs i j r.1 (omega arith) (omega arith) e

-- literals at two places of a nogood differ
pub lits_apart : (n : List Lit) (i j : ℕ) → Rises n → i < length n → j < length n → (i ≡ j → ⊥) → lit_at n i ≡ lit_at n j → ⊥
lits_apart n i j r h k ne e = cases (nat_lt i j) refl (nat_lt j i) refl
  where
    cases : (b : Bool) → nat_lt i j ≡ b → (c : Bool) → nat_lt j i ≡ c → ⊥
    cases true f c g = let less : i < j = grind (arith, nat_tests) in rises_apart n i j r less k e
    cases false f true g = let less : j < i = grind (arith, nat_tests) in rises_apart n j i r less h (sym e)
    cases false f false g = let same : i ≡ j = grind (arith, nat_tests) in ne same

-- a nogood with two literals that are not true is quiet
pub two_quiet : (t : Assignment) (n : List Lit) (i j : ℕ) → i < length n → j < length n → (lit_at n i ≡ lit_at n j → ⊥) → is_true_on t (lit_at n i) ≡ false → is_true_on t (lit_at n j) ≡ false → IsQuiet t n
two_quiet t n i j h k ne e f = record {
  not_met = λ all. clash (sym (all (lit_at n i) (Contains-get_or n i (Atom 0 false) h)) ∙ e);
  not_unit = λ l u. cases l (u.others (lit_at n i) (Contains-get_or n i (Atom 0 false) h)) (u.others (lit_at n j) (Contains-get_or n j (Atom 0 false) k));
}
  where
    cases : (l : Lit) → (lit_at n i ≡ l) ⊎ (is_true_on t (lit_at n i) ≡ true) → (lit_at n j ≡ l) ⊎ (is_true_on t (lit_at n j) ≡ true) → ⊥
    cases l (inl a) (inl b) = ne (a ∙ sym b)
    cases l (inl a) (inr b) = clash (sym b ∙ f)
    cases l (inr a) b = clash (sym a ∙ e)
