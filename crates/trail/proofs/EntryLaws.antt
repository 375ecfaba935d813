-- The entry at a place: it was open when it was set, and it is where its literal became true.
use Rattle.std.proofs.Common.{◌≡◌, ℕ, zero, suc, ◌+◌, ◌<◌, ◌≤◌, ◌||◌, Bool, true, false, List, [], ◌∷◌, ◌++◌, length, take, get_or, None, Some, refl, sym, ◌∙◌, ap, subst, arith, append_assoc}
use Rattle.std.specs.List.{list_any}
use Rattle.std.proofs.lemmas.List.{append-nil}
use Rattle.literals.specs.declared.lit.Lit.{Lit}
use Rattle.literals.specs.Lits.{implies_lit}
use Rattle.literals.proofs.LitLaws.{implies_refl}
use Rattle.trail.specs.declared.shape.Shape.{Shape}
use Rattle.trail.specs.declared.entry.Entry.{Entry}
use Rattle.trail.specs.Implied.{ends_imply, truth_of, first_from}
use Rattle.trail.specs.Assignment.{Assignment, lits_of, Names, Follow, IsAssignment, since_on}
use Rattle.trail.proofs.ImpliedLaws.{open_is}
use Rattle.trail.proofs.KeptLaws.{follow_low}

-- what holds of the entry at a place
pub record IsEntry (s : Shape) (before : List Lit) (level high : ℕ) (e : Entry) : Type 0 where
  pub names : Names s e.lit
  pub open_before : truth_of s.ends before e.lit ≡ None
  pub above : level ≤ e.level
  pub below : e.level ≤ high

follow_at : (s : Shape) (before : List Lit) (level : ℕ) (es : List Entry) (high i : ℕ) (d : Entry) → Follow s before level es high → i < length es → IsEntry s (before ++ take i (lits_of es)) level high (get_or es i d)
follow_at s before level [] high i d h lt = absurd (omega arith)
follow_at s before level (x ∷ xs) high zero d h lt = record {
  names = h.0;
  open_before = subst (λ (ls : List Lit). truth_of s.ends ls x.lit ≡ None) (sym (append-nil before)) h.1;
  above = h.2;
  below = follow_low s (before ++ x.lit ∷ []) x.level xs high h.3;
}
follow_at s before level (x ∷ xs) high (suc i) d h lt =
    let rest = follow_at s (before ++ x.lit ∷ []) x.level xs high i d h.3 (omega arith) in
    record {
      names = rest.names;
      open_before = subst (λ (ls : List Lit). truth_of s.ends ls (get_or xs i d).lit ≡ None) (append_assoc before (x.lit ∷ []) (take i (lits_of xs))) rest.open_before;
      above = omega (arith, h.2, rest.above);
      below = rest.below;
    }

-- the entry at a place of a trail was open on the entries before it, and its level is at most the open one
pub entry_is : (t : Assignment) (i : ℕ) (d : Entry) → IsAssignment t → i < length t.entries → IsEntry t.shape (take i (lits_of t.entries)) 0 t.level (get_or t.entries i d)
entry_is t i d h lt = follow_at t.shape [] 0 t.entries t.level i d h.entries lt

pub lit_at : (es : List Entry) (i : ℕ) (l : Lit) (d : Entry) → i < length es → get_or (lits_of es) i l ≡ (get_or es i d).lit
lit_at [] i l d h = absurd (omega arith)
lit_at (e ∷ es) zero l d h = refl
lit_at (e ∷ es) (suc i) l d h = lit_at es i l d (omega arith)

pub length-lits_of : (es : List Entry) → length (lits_of es) ≡ length es
length-lits_of [] = refl
length-lits_of (e ∷ es) = ap suc (length-lits_of es)

or_parts : (a b : Bool) → (a || b) ≡ false → (a ≡ false) × (b ≡ false)
or_parts true b h = absurd (shut h)
  where
    shut : true ≡ false → ⊥
    shut x = cc
or_parts false b h = (refl, h)

-- the first that implies the literal, where none before it does
first_at : (place : ℕ) (lits : List Lit) (i : ℕ) (l : Lit) → i < length lits → list_any (λ m. implies_lit m l) (take i lits) ≡ false → implies_lit (get_or lits i l) l ≡ true → first_from place lits l ≡ Some (place + i)
first_at place [] i l h e f = absurd (omega arith)
first_at place (m ∷ ms) zero l h e f = let none : place ≡ place + 0 = omega arith in rw f (ap Some none)
first_at place (m ∷ ms) (suc i) l h e f =
    let parts = or_parts (implies_lit m l) (list_any (λ x. implies_lit x l) (take i ms)) e in
    let one : (place + 1) + i ≡ place + suc i = omega arith in
    rw parts.0 (first_at (place + 1) ms i l (omega arith) parts.1 f ∙ ap Some one)

-- an entry is where its own literal became true
pub since-own : (t : Assignment) (i : ℕ) (d : Entry) → IsAssignment t → i < length t.entries → since_on t (get_or t.entries i d).lit ≡ Some i
since-own t i d h lt =
    let e = entry_is t i d h lt in
    let l : Lit = (get_or t.entries i d).lit in
    let parts = or_parts (ends_imply t.shape.ends (get_or t.entries i d).lit) (list_any (λ m. implies_lit m (get_or t.entries i d).lit) (take i (lits_of t.entries))) (open_is t.shape.ends (take i (lits_of t.entries)) (get_or t.entries i d).lit e.open_before).0 in
    let within : i < length (lits_of t.entries) = omega (arith, length-lits_of t.entries) in
    let own : implies_lit (get_or (lits_of t.entries) i (get_or t.entries i d).lit) (get_or t.entries i d).lit ≡ true =
    ap (λ m. implies_lit m (get_or t.entries i d).lit) (lit_at t.entries i (get_or t.entries i d).lit d lt) ∙ implies_refl (get_or t.entries i d).lit
    in
    let none : 0 + i ≡ i = omega arith in
    rw parts.0 (first_at 0 (lits_of t.entries) i (get_or t.entries i d).lit within parts.1 own ∙ ap Some none)
