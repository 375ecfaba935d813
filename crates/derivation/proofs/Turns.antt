-- One turn of a loop over `rows`, where the number of turns that are left is a difference.
use Rattle.std.proofs.Common.{◌≡◌, ℕ, zero, suc, ◌+◌, ◌-◌, ◌<◌, ◌≤◌, List, [], ◌∷◌, ◌++◌, Some, None, sym, ◌∙◌, ap, arith}
use Rattle.derivation.specs.Reading.{Outcome, rows}
use Rattle.derivation.proofs.RowLaws.{row_more, row_none, row_end}

module _ {A : Type 0} (item : List ℕ → Outcome A) (e i : ℕ) (found : List A) (rest : List ℕ) (target : List A × List ℕ) (inv : rows item (e - i) found rest ≡ target) where
  pub row_turn : (x : A) (after : List ℕ) (pushed : List A) → i < e → Some (x, after) ≡ item rest → pushed ≡ found ++ x ∷ [] → rows item (e - (i + 1)) pushed after ≡ target
  row_turn x after pushed within read is_pushed =
      let left : e - i ≡ suc (e - (i + 1)) = omega (arith, within) in
      ap (λ l. rows item (e - (i + 1)) l after) is_pushed ∙ sym (row_more item (e - (i + 1)) found rest x after (sym read))
      ∙ ap (λ n. rows item n found rest) (sym left) ∙ inv

  pub row_stop : None ≡ item rest → (found, rest) ≡ target
  row_stop read = sym (row_none item (e - i) found rest (sym read)) ∙ inv

  pub row_over : e ≤ i → (found, rest) ≡ target
  row_over past =
      let none : e - i ≡ zero = omega (arith, past) in
      sym (row_end item found rest) ∙ ap (λ n. rows item n found rest) (sym none) ∙ inv
