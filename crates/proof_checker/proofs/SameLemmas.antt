-- Lists of the same literals are one list.
use Rattle.std.proofs.Common.{◌≡◌, true, List, length, ap, subst}
use Rattle.std.specs.Cmp.Lexicographic.{pointwise}
use Rattle.literals.specs.declared.lit.Lit.{Lit}
use Rattle.literals.specs.Lits.{same_lit}
use Rattle.literals.proofs.LitLaws.{same_refl, same_lit-equal}
use Rattle.linear_normal.proofs.ContentLemmas.{lists_sound, lists_same}

pub same_lists : (a b : List Lit) → pointwise same_lit a b ≡ true → a ≡ b
same_lists a b e = lists_sound same_lit same_lit-equal a b e

pub equal_lists : (a b : List Lit) → a ≡ b → pointwise same_lit a b ≡ true
equal_lists a b e = subst (λ xs. pointwise same_lit a xs ≡ true) e (lists_same same_lit same_refl a)

pub equal_lengths : (a b : List Lit) → a ≡ b → length a ≡ length b
equal_lengths a b e = ap length e
