-- The causes of the statuses of the top call exclude each other, and a refusal has one line.
use Rattle.std.proofs.Common.{◌≡◌, ◌⊎◌, ℕ, List, Bool, true, false, IsSome, sym, ◌∙◌, ap, subst, inl, inr, arith}
use Rattle.std.specs.Prelude.{String}
use Rattle.std.specs.Global.{Global}
use Rattle.std.specs.List.{AllByRecursion}
use Rattle.outside_io.specs.Outputs.{Input}
use Rattle.syntax_tree.specs.declared.statement.Program.{Program}
use Rattle.first_form.specs.Form.{States}
use Rattle.clingcon_app.specs.Words.{are_files, names_of}
use Rattle.clingcon_app.specs.Texts.{AreTexts, IsTooLarge, IsProgram, AreRefused, too_large_line}
use Rattle.clingcon_app.specs.Printed.{PrintTexts, AreOther, not_built}
use Rattle.clingcon_app.specs.Outcome.{IsRefusing, Answers, IsUnbuilt, IsOf, IsPrinted}
use Rattle.clingcon_app.proofs.OneTexts.{one_texts, none_too_large, one_too_large}
use Rattle.clingcon_app.proofs.OneProgram.{one_program, none_refused, one_line}

-- two statuses with what is printed at them agree: they are one, and a refusal has one line
record Agree (s t : ℕ) (p q : List ℕ) : Type 0 where
  pub status : s ≡ t
  pub line : IsRefusing s → p ≡ q

agree_from : (n s t : ℕ) (p q : List ℕ) → s ≡ n → t ≡ n → p ≡ q → Agree s t p q
agree_from n s t p q is is_too same = record { status = is ∙ sym is_too; line = λ refusing. same }

-- an answer is no refusal
no_refusal : (s : ℕ) → s ≡ 10 → IsRefusing s → ⊥
no_refusal s is (inl data_fault) = omega (arith, is, data_fault)
no_refusal s is (inr (inl large)) = omega (arith, is, large)
no_refusal s is (inr (inr unbuilt)) = omega (arith, is, unbuilt)

agree_answers : (s t : ℕ) (p q : List ℕ) → s ≡ 10 → t ≡ 10 → Agree s t p q
agree_answers s t p q is is_too = record { status = is ∙ sym is_too; line = λ refusing. absurd (no_refusal s is refusing) }

not_both : (b : Bool) → b ≡ true → b ≡ false → ⊥
not_both b is is_too = let wrong : true ≡ false = sym is ∙ is_too in cc

-- ---- what is printed for texts
-- what is printed for texts, with its status
abbrev Fate : List (List ℕ) → List (List ℕ) → ℕ → List ℕ → Type 0
Fate names texts s p = ((s ≡ 10) × Answers names texts p) ⊎ ((s ≡ 65) × AreRefused names texts p) ⊎ ((s ≡ 71) × IsUnbuilt names texts p)

-- a program of the first form is not of another form
not_other : (texts : List (List ℕ)) (printed : List ℕ) → PrintTexts texts printed → AreOther texts → ⊥
not_other texts printed prints other =
    let same : prints.program ≡ other.program = one_program texts prints.program other.program prints.has other.has in
    other.other prints.stated (subst (λ (program : Program). States program.statements prints.stated) same prints.states)

not_refused : (names texts : List (List ℕ)) (line : List ℕ) (program : Program) → AreRefused names texts line → IsProgram texts program → ⊥
not_refused names texts line program refused is = none_refused names texts line program refused is

one_fate : (names texts : List (List ℕ)) (s t : ℕ) (p q : List ℕ) → Fate names texts s p → Fate names texts t q → Agree s t p q
one_fate names texts s t p q (inl a) (inl b) = agree_answers s t p q a.0 b.0
one_fate names texts s t p q (inl a) (inr (inl b)) = absurd (not_refused names texts q a.1.program b.1 a.1.has)
one_fate names texts s t p q (inl a) (inr (inr b)) = absurd (not_other texts p a.1 b.1.0)
one_fate names texts s t p q (inr (inl a)) (inl b) = absurd (not_refused names texts p b.1.program a.1 b.1.has)
one_fate names texts s t p q (inr (inl a)) (inr (inl b)) =
    agree_from 65 s t p q a.0 b.0 (one_line names texts p q a.1 b.1)
one_fate names texts s t p q (inr (inl a)) (inr (inr b)) = absurd (not_refused names texts p b.1.0.program a.1 b.1.0.has)
one_fate names texts s t p q (inr (inr a)) (inl b) = absurd (not_other texts q b.1 a.1.0)
one_fate names texts s t p q (inr (inr a)) (inr (inl b)) = absurd (not_refused names texts q a.1.0.program b.1 a.1.0.has)
one_fate names texts s t p q (inr (inr a)) (inr (inr b)) = agree_from 71 s t p q a.0 b.0 (a.1.1 ∙ sym b.1.1)

-- ---- what is printed for words
-- the texts of words that name inputs, and what is printed for them
record HasTexts (files : Input) (names : List (List ℕ)) (s : ℕ) (p : List ℕ) : Type 0 where
  pub texts : List (List ℕ)
  pub are : AreTexts files names texts
  pub fate : Fate names texts s p

-- the first text that is too large, and its line
record HasLarge (files : Input) (names : List (List ℕ)) (s : ℕ) (p : List ℕ) : Type 0 where
  pub status : s ≡ 70
  pub name : List ℕ
  pub taken : ℕ
  pub large : IsTooLarge files names taken name
  pub line : p ≡ too_large_line name

-- words name inputs, whose texts have permitted sizes or not, or they do not name inputs
abbrev Course : Input → List (String Global) → ℕ → List ℕ → Type 0
Course files words s p =
    ((are_files words ≡ true) × (HasTexts files (names_of words) s p ⊎ HasLarge files (names_of words) s p))
    ⊎ ((are_files words ≡ false) × (s ≡ 71) × (p ≡ not_built))

unbuilt_course : (s : ℕ) (files : Input) (words : List (String Global)) (p : List ℕ) → s ≡ 71
    → IsOf IsUnbuilt files words p ⊎ ((are_files words ≡ false) × (p ≡ not_built)) → Course files words s p
unbuilt_course s files words p is (inl a) = inl (a.named, inl (record { texts = a.texts; are = a.are; fate = inr (inr (is, a.says)) }))
unbuilt_course s files words p is (inr a) = inr (a.0, is, a.1)

course_of : (s n : ℕ) (files : Input) (words : List (String Global)) (p : List ℕ) → IsPrinted s files n words p → Course files words s p
course_of s n files words p (inl a) = inl (a.1.named, inl (record { texts = a.1.texts; are = a.1.are; fate = inl (a.0, a.1.says) }))
course_of s n files words p (inr (inl a)) = inl (a.1.named, inl (record { texts = a.1.texts; are = a.1.are; fate = inr (inl (a.0, a.1.says)) }))
course_of s n files words p (inr (inr (inl a))) = inl (a.1.named, inr (record { status = a.0; name = a.1.name; taken = n; large = a.1.large; line = a.1.line }))
course_of s n files words p (inr (inr (inr a))) = unbuilt_course s files words p a.0 a.1

same_texts : (files : Input) (names : List (List ℕ)) (s t : ℕ) (p q : List ℕ) → AllByRecursion (λ name. IsSome (files.text name)) names
    → HasTexts files names s p → HasTexts files names t q → Agree s t p q
same_texts files names s t p q all a b =
    let same : a.texts ≡ b.texts = one_texts files names a.texts b.texts all a.are b.are in
    one_fate names b.texts s t p q (subst (λ (texts : List (List ℕ)). Fate names texts s p) same a.fate) b.fate

same_large : (files : Input) (names : List (List ℕ)) (s t : ℕ) (p q : List ℕ) → AllByRecursion (λ name. IsSome (files.text name)) names
    → HasLarge files names s p → HasLarge files names t q → Agree s t p q
same_large files names s t p q all a b =
    let same : a.name ≡ b.name = one_too_large files names a.taken b.taken a.name b.name all a.large b.large in
    agree_from 70 s t p q a.status b.status (a.line ∙ ap too_large_line same ∙ sym b.line)

one_sized : (files : Input) (names : List (List ℕ)) (s t : ℕ) (p q : List ℕ) → AllByRecursion (λ name. IsSome (files.text name)) names
    → HasTexts files names s p ⊎ HasLarge files names s p → HasTexts files names t q ⊎ HasLarge files names t q → Agree s t p q
one_sized files names s t p q all (inl a) (inl b) = same_texts files names s t p q all a b
one_sized files names s t p q all (inl a) (inr b) = absurd (none_too_large files names a.texts b.taken b.name all a.are b.large)
one_sized files names s t p q all (inr a) (inl b) = absurd (none_too_large files names b.texts a.taken a.name all b.are a.large)
one_sized files names s t p q all (inr a) (inr b) = same_large files names s t p q all a b

one_course : (files : Input) (words : List (String Global)) (s t : ℕ) (p q : List ℕ) → AllByRecursion (λ name. IsSome (files.text name)) (names_of words)
    → Course files words s p → Course files words t q → Agree s t p q
one_course files words s t p q all (inl a) (inl b) = one_sized files (names_of words) s t p q all a.1 b.1
one_course files words s t p q all (inl a) (inr b) = absurd (not_both (are_files words) a.0 b.0)
one_course files words s t p q all (inr a) (inl b) = absurd (not_both (are_files words) b.0 a.0)
one_course files words s t p q all (inr a) (inr b) = agree_from 71 s t p q a.1 b.1 (a.2 ∙ sym b.2)

agree : (files : Input) (words : List (String Global)) → AllByRecursion (λ name. IsSome (files.text name)) (names_of words)
    → (s t m n : ℕ) (p q : List ℕ) → IsPrinted s files m words p → IsPrinted t files n words q → Agree s t p q
agree files words all s t m n p q a b = one_course files words s t p q all (course_of s m files words p a) (course_of t n files words q b)

-- where the texts of all inputs are told, the status of a run is one
pub one_status : (files : Input) (words : List (String Global)) → AllByRecursion (λ name. IsSome (files.text name)) (names_of words)
    → (s t m n : ℕ) (p q : List ℕ) → IsPrinted s files m words p → IsPrinted t files n words q → s ≡ t
one_status files words all s t m n p q a b = (agree files words all s t m n p q a b).status

-- and so is the line of a refusal
pub one_refusal : (files : Input) (words : List (String Global)) → AllByRecursion (λ name. IsSome (files.text name)) (names_of words)
    → (s t m n : ℕ) (p q : List ℕ) → IsPrinted s files m words p → IsPrinted t files n words q → IsRefusing s → p ≡ q
one_refusal files words all s t m n p q a b refusing = (agree files words all s t m n p q a b).line refusing
