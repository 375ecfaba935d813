-- Rows of texts, as loops write them.
use Rattle.std.proofs.Common.{OnOk, Result, Ok, Err, nat_le, true, false, arith, ◌≡◌, ℕ, zero, suc, ◌+◌, ◌<◌, ◌≤◌, ◌==◌, if◌then◌else◌, List, [], ◌∷◌, ◌++◌, map, length, drop, slice_index_or, codes, refl, sym, ap, ◌∙◌, append_assoc, append-nil, add-one, drop-cons}
use Rattle.std.proofs.Math.Dec.{eqb-suc-zero}
use Rattle.std.proofs.lemmas.List.{drop_all}
use Rattle.std.proofs.lemmas.Bool.Decides.{nat_tests}
use Rattle.syntax_tree.specs.declared.term.Op.{Op}
use Rattle.syntax_tree.specs.declared.term.Term.{Term, roll-Term}
use Rattle.syntax_tree.specs.declared.term.Term.TheOpen.{Term-F}
use Rattle.syntax_tree.specs.declared.term.Term.TheVariants as t
use Rattle.syntax_tree.specs.declared.term.Term.TheFolds.{fold-roll-Term, fold-roll-Part}
use Rattle.syntax_tree.specs.declared.term.Term.TheViews.{out-Part, roll-out-Part}
use Rattle.syntax_tree.specs.declared.term.Part.{Part}
use Rattle.syntax_tree.specs.declared.rule.Name.{Name}
use Rattle.syntax_tree.specs.declared.term_text.Joining.{Joining}
use Rattle.syntax_tree.specs.declared.term_text.Joining.TheVariants.{Sum}
use Rattle.syntax_tree.specs.Printed.{Written, looseness, each_behind, parted, texts, within, op_text, further_text, parts_text, term_step, part_step, written, part_written, term_text}

-- the items of a row from a place on: nothing stands before the first, and its mark before a further one
abbrev pub row_from : {A : Type 0} → (A → List ℕ) → (A → List ℕ) → ℕ → List A → List ℕ
row_from mark text index [] = []
row_from mark text index (x ∷ xs) = (if index == 0 then [] else mark x) ++ text x ++ row_from mark text (suc index) xs

-- an item is written
pub row_step : {A : Type 0} (mark text : A → List ℕ) (xs : List A) (index : ℕ) (item : A) (out marked new whole : List ℕ) → index < length xs → item ≡ slice_index_or xs index item
    → marked ≡ out ++ (if index == 0 then [] else mark item) → new ≡ marked ++ text item → out ++ row_from mark text index (drop index xs) ≡ whole
    → new ++ row_from mark text (index + 1) (drop (index + 1) xs) ≡ whole
row_step mark text xs index item out marked new whole inside is before write kept =
    let rest = row_from mark text (suc index) (drop (suc index) xs) in
    let cut : drop index xs ≡ item ∷ drop (suc index) xs = drop-cons xs index item inside ∙ ap (λ x. x ∷ drop (suc index) xs) (sym is) in
    let more : row_from mark text index (drop index xs) ≡ (if index == 0 then [] else mark item) ++ text item ++ rest = ap (row_from mark text index) cut in
    let joined : new ≡ (out ++ (if index == 0 then [] else mark item)) ++ text item = write ∙ ap (λ l. l ++ text item) before in
    ap (λ k. new ++ row_from mark text k (drop k xs)) (add-one index)
    ∙ ap (λ l. l ++ rest) (joined ∙ append_assoc out (if index == 0 then [] else mark item) (text item))
    ∙ append_assoc out ((if index == 0 then [] else mark item) ++ text item) rest
    ∙ ap (λ l. out ++ l) (sym more) ∙ kept

-- all items are written
pub row_end : {A : Type 0} (mark text : A → List ℕ) (xs : List A) (index : ℕ) (out whole : List ℕ) → length xs ≤ index → out ++ row_from mark text index (drop index xs) ≡ whole → out ≡ whole
row_end mark text xs index out whole done kept =
    sym (append-nil out) ∙ ap (λ l. out ++ row_from mark text index l) (sym (drop_all index xs done)) ∙ kept

-- ---- the rows that are written
behind_row : {A : Type 0} (mark : List ℕ) (text : A → List ℕ) (index : ℕ) (xs : List A) → row_from (λ x. mark) text (suc index) xs ≡ each_behind mark (map text xs)
behind_row mark text index [] = refl
behind_row mark text index (x ∷ xs) =
    ap (λ b. (if b then [] else mark) ++ text x ++ row_from (λ y. mark) text (suc (suc index)) xs) (eqb-suc-zero index)
    ∙ ap (λ l. mark ++ text x ++ l) (behind_row mark text (suc index) xs)

pub parted_row : {A : Type 0} (mark : List ℕ) (text : A → List ℕ) (xs : List A) → row_from (λ x. mark) text 0 xs ≡ parted mark (map text xs)
parted_row mark text [] = refl
parted_row mark text (x ∷ xs) = ap (λ l. text x ++ l) (behind_row mark text 0 xs)

texts_of : (names : List Name) (terms : List Term) → map (term_text names) terms ≡ texts (map (written names) terms)
texts_of names [] = refl
texts_of names (x ∷ xs) = ap (λ l. term_text names x ∷ l) (texts_of names xs)

pub terms_row : (names : List Name) (terms : List Term) → row_from (λ x. codes ",") (term_text names) 0 terms ≡ parted (codes ",") (texts (map (written names) terms))
terms_row names terms = parted_row (codes ",") (term_text names) terms ∙ ap (parted (codes ",")) (texts_of names terms)

pub at_part : (names : List Name) (x : Part) → part_written names x ≡ (x.op, written names x.term)
at_part names x = ap (part_written names) (sym (roll-out-Part x)) ∙ fold-roll-Part Written (Op × Written) (term_step names) part_step (out-Part x)

further_row : (names : List Name) (limit : Joining) (index : ℕ) (xs : List Part)
    → row_from (λ x. op_text x.op) (λ x. within limit (written names x.term)) (suc index) xs ≡ further_text limit (map (part_written names) xs)
further_row names limit index [] = refl
further_row names limit index (x ∷ xs) =
    ap (λ b. (if b then [] else op_text x.op) ++ within limit (written names x.term) ++ row_from (λ y. op_text y.op) (λ y. within limit (written names y.term)) (suc (suc index)) xs) (eqb-suc-zero index)
    ∙ ap (λ l. op_text x.op ++ within limit (written names x.term) ++ l) (further_row names limit (suc index) xs)
    ∙ ap (λ p. op_text p.0 ++ within limit p.1 ++ further_text limit (map (part_written names) xs)) (sym (at_part names x))

pub parts_row : (names : List Name) (limit : Joining) (xs : List Part)
    → row_from (λ x. op_text x.op) (λ x. within limit (written names x.term)) 0 xs ≡ parts_text limit (map (part_written names) xs)
parts_row names limit [] = refl
parts_row names limit (x ∷ xs) =
    ap (λ l. within limit (written names x.term) ++ l) (further_row names limit 0 xs)
    ∙ ap (λ p. within limit p.1 ++ further_text limit (map (part_written names) xs)) (sym (at_part names x))

-- ---- a term in its place
pub on_ok : {A E P Q : Type 0} (r : Result A E) → OnOk r P → (P → Q) → OnOk r Q
on_ok (Ok x) h f = f h
on_ok (Err e) h f = tt

bare : (a b : ℕ) → a ≤ b → nat_le a b ≡ true
bare a b h = grind (arith, nat_tests)

loose : (a b : ℕ) → b < a → nat_le a b ≡ false
loose a b h = grind (arith, nat_tests)

pub within_bare : (limit : Joining) (term : Written) → looseness term.joining ≤ looseness limit → within limit term ≡ term.text
within_bare limit term h = ap (λ b. (if b then term.text else codes "(" ++ term.text ++ codes ")")) (bare _ _ h)

pub within_brackets : (limit : Joining) (term : Written) → looseness limit < looseness term.joining → within limit term ≡ codes "(" ++ term.text ++ codes ")"
within_brackets limit term h = ap (λ b. (if b then term.text else codes "(" ++ term.text ++ codes ")")) (loose _ _ h)

-- three texts, one behind the other
pub three_written : (before first second third a b c : List ℕ) → first ≡ before ++ a → second ≡ first ++ b → third ≡ second ++ c → third ≡ before ++ (a ++ b ++ c)
three_written before first second third a b c f s th =
    th ∙ ap (λ l. l ++ c) (s ∙ ap (λ l. l ++ b) f ∙ append_assoc before a b) ∙ append_assoc before (a ++ b) c

pub interval_text : (names : List Name) (term left right : Term) → term ≡ t.Interval left right
    → term_text names term ≡ within Sum (written names left) ++ codes ".." ++ within Sum (written names right)
unfolding roll-Term denote.Hole.Carrier.roll
interval_text names term left right is =
    ap (term_text names) is ∙ ap (λ w. w.text) (fold-roll-Term Written (Op × Written) (term_step names) part_step (Term-F.Interval left right))
