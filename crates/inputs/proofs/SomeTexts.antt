-- Texts have permitted sizes or one is too large; and they have a program, or are refused with a line.
use Rattle.std.proofs.Common.{◌≡◌, ◌⊎◌, ℕ, zero, suc, ◌+◌, ◌<◌, ◌≤◌, ◌^◌, List, [], ◌∷◌, ◌++◌, length, map, fold, take, get_or, slice_get, replicate, Option, Some, None, IfSome, refl, sym, ◌∙◌, ap, subst, inl, inr, arith, append_assoc, length-append}
use Rattle.std.specs.List.{AllByRecursion}
use Rattle.std.proofs.lemmas.List.{append-nil, length-replicate, take_all}
use Rattle.outside_io.specs.Outputs.{Input}
use Rattle.syntax_tree.specs.declared.statement.Statement.{Statement}
use Rattle.syntax_tree.specs.declared.statement.Statement.TheVariants as statement
use Rattle.syntax_tree.specs.declared.statement.Program.{Program}
use Rattle.asp_parser.specs.declared.fault.TextFault.{TextFault}
use Rattle.asp_parser.specs.Replacement.{Constants, value_at, replaced_statement}
use Rattle.asp_parser.specs.Constants.{symbol_of, with_statement, and_statement, constants_of, DefinesBad, IsFirstBad}
use Rattle.asp_parser.proofs.Values.{with_bad}
use Rattle.text_laws.specs.Answered.{HasAnswer}
use Rattle.inputs.specs.Sizes.{size_of, AreTold, AreTexts, IsTooLarge}
use Rattle.inputs.specs.Texts.{AreStatements, joined, numbers_from, IsWritten, IsProgram, HasFirstFault, AreRefused, line_at, cause_text, constant_line}
use Rattle.inputs.proofs.TextLemmas.{size-push, small-push, told-more, length-told}
use Rattle.inputs.proofs.RefusalLemmas.{file-below}

pub order : (a b : ℕ) → (a < b) ⊎ (b ≤ a)
order a zero = inr (omega arith)
order zero (suc b) = inl (omega arith)
order (suc a) (suc b) = go (order a b)
  where
    go : (a < b) ⊎ (b ≤ a) → (suc a < suc b) ⊎ (suc b ≤ suc a)
    go (inl less) = inl (omega (arith, less))
    go (inr most) = inr (omega (arith, most))

item_at : {X : Type 0} (xs : List X) (k : ℕ) → k < length xs → (x : X) × (slice_get xs k ≡ Some x)
item_at [] k within = absurd (omega (arith, within))
item_at (x ∷ xs) zero within = (x, refl)
item_at (x ∷ xs) (suc k) within = item_at xs k (omega (arith, within))

place_within : {X : Type 0} (xs : List X) (k : ℕ) (x : X) → slice_get xs k ≡ Some x → k < length xs
place_within [] k x here = absurd cc
place_within (y ∷ xs) zero x here = omega arith
place_within (y ∷ xs) (suc k) x here = let within = place_within xs k x here in omega (arith, within)

-- what holds of the first items and of the next one holds of one item more
pub all_more : {X : Type 0} (P : X → Type 0) (xs : List X) (k : ℕ) (d : X) → k < length xs → AllByRecursion P (take k xs) → P (get_or xs k d) → AllByRecursion P (take (k + 1) xs)
all_more P [] k d within all p = absurd (omega (arith, within))
all_more P (x ∷ xs) zero d within all p = (p, tt)
all_more P (x ∷ xs) (suc k) d within all p =
    let next : suc k + 1 ≡ suc (k + 1) = omega arith in
    subst (λ m. AllByRecursion P (take m (x ∷ xs))) (sym next) (all.0, all_more P xs k d (omega (arith, within)) all.1 p)

-- ---- sizes
if_along : (o : Option (List ℕ)) (P Q : List ℕ → Type 0) → ((text : List ℕ) → P text → Q text) → IfSome o P → IfSome o Q
if_along None P Q step h = tt
if_along (Some text) P Q step h = step text h

told_at : (files : Input) (names before rest : List (List ℕ)) (text name : List ℕ) → AreTold files names (before ++ text ∷ rest) → slice_get names (length before) ≡ Some name
    → IfSome (files.text name) (λ told. text ≡ told)
told_at files [] [] rest text name told here = absurd told
told_at files (n ∷ names) [] rest text name told here = let same : n ≡ name = cc in subst (λ (l : List ℕ). IfSome (files.text l) (λ told. text ≡ told)) same told.0
told_at files [] (b ∷ before) rest text name told here = absurd told
told_at files (n ∷ names) (b ∷ before) rest text name told here = told_at files names before rest text name told.1 here

one_more : (texts : List (List ℕ)) (text : List ℕ) → length (texts ++ text ∷ []) ≡ length texts + 1
one_more texts text = length-append texts (text ∷ [])

-- the texts have permitted sizes, or one is the first that is too large
abbrev pub Sized : Input → List (List ℕ) → List (List ℕ) → Type 0
Sized files names texts = AreTexts files names texts ⊎ ((taken : ℕ) × (name : List ℕ) × IsTooLarge files names taken name)

module _ (files : Input) (names texts : List (List ℕ)) (told : AreTold files names texts) where
  sized : (before rest : List (List ℕ)) → texts ≡ before ++ rest → AreTexts files (take (length before) names) before → Sized files names texts
  sized before [] whole so_far =
      let all : texts ≡ before = whole ∙ append-nil before in
      let long : length names ≤ length before = let l = length-told files names texts told in let m = ap length all in omega (arith, l, m) in
      inl (subst (λ (l : List (List ℕ)). AreTexts files names l) (sym all) (subst (λ (l : List (List ℕ)). AreTexts files l before) (take_all (length before) names long) so_far))
  sized before (text ∷ rest) whole so_far = by (order (2 ^ 24) (length text)) (order (2 ^ 26) (size_of before + length text)) (sized (before ++ text ∷ []) rest (whole ∙ sym (append_assoc before (text ∷ []) rest)))
    where
      within : length before < length names
      within = let l = length-told files names texts told in let m = ap length whole in let n = length-append before (text ∷ rest) in omega (arith, l, m, n)

      name : List ℕ
      name = (item_at names (length before) within).0

      here : slice_get names (length before) ≡ Some name
      here = (item_at names (length before) within).1

      is : IfSome (files.text name) (λ held. text ≡ held)
      is = told_at files names before rest text name (subst (λ (l : List (List ℕ)). AreTold files names l) whole told) here

      too_large : (2 ^ 24 < length text) ⊎ (2 ^ 26 < size_of before + length text) → Sized files names texts
      too_large large = inr (
        length text,
        name,
        record {
          before = before;
          here = here;
          texts = so_far;
          large = large;
          told = if_along (files.text name) (λ held. text ≡ held) (λ held. length text ≤ length held) (λ held same. let l = ap length same in omega (arith, l)) is;
        },
      )

      further : length text ≤ 2 ^ 24 → size_of before + length text ≤ 2 ^ 26 → AreTexts files (take (length (before ++ text ∷ [])) names) (before ++ text ∷ [])
      further small few = record {
        told = subst (λ (k : ℕ). AreTold files (take k names) (before ++ text ∷ [])) (sym (one_more before text))
            (told-more files names before (before ++ text ∷ []) name text (length before) so_far.told here is refl);
        small = small-push before text so_far.small small;
        few = let s = size-push before text in omega (arith, s, few);
      }

      by : (2 ^ 24 < length text) ⊎ (length text ≤ 2 ^ 24) → (2 ^ 26 < size_of before + length text) ⊎ (size_of before + length text ≤ 2 ^ 26)
          → (AreTexts files (take (length (before ++ text ∷ [])) names) (before ++ text ∷ []) → Sized files names texts) → Sized files names texts
      by (inl large) total next = too_large (inl large)
      by (inr small) (inl large) next = too_large (inr large)
      by (inr small) (inr few) next = next (further small few)

  pub all_sized : Sized files names texts
  all_sized = sized [] texts refl (record { told = tt; small = tt; few = omega arith })

-- ---- statements
parsed_or : (texts : List (List ℕ)) → AllByRecursion HasAnswer texts
    → ((parsed : List (List Statement)) × AreStatements texts parsed) ⊎ ((at : ℕ) × (fault : TextFault) × HasFirstFault texts at fault)
parsed_or [] all = inl ([], tt)
parsed_or (text ∷ texts) all = by all.0 (parsed_or texts all.1)
  where
    by : HasAnswer text → ((parsed : List (List Statement)) × AreStatements texts parsed) ⊎ ((at : ℕ) × (fault : TextFault) × HasFirstFault texts at fault)
        → ((parsed : List (List Statement)) × AreStatements (text ∷ texts) parsed) ⊎ ((at : ℕ) × (fault : TextFault) × HasFirstFault (text ∷ texts) at fault)
    by (inl found) (inl rest) = inl (found.0 ∷ rest.0, (found.1, rest.1))
    by (inl found) (inr stop) =
        inr (suc stop.0, stop.1, record { before = found.0 ∷ stop.2.before; text = stop.2.text; fine = (found.1, stop.2.fine); here = stop.2.here; first = stop.2.first })
    by (inr stop) rest = inr (0, stop.0, record { before = []; text = text; fine = tt; here = refl; first = stop.1 })

-- ---- constants
bad_here : (constants : Constants) (next : Statement) → with_statement constants next ≡ None → (place : ℕ) × DefinesBad constants next place
bad_here constants (statement.Rule rule) none = absurd cc
bad_here constants (statement.Constant name term place) none =
    (place, record { name = name; term = term; is = refl; bad = with_bad constants name (value_at constants name) (symbol_of constants term) none })
bad_here constants statement.ShowNothing none = absurd cc
bad_here constants (statement.Show name arity) none = absurd cc

-- the first constant that may not be, behind others
record IsBadBehind (so_far : Constants) (statements : List Statement) (files : List ℕ) : Type 0 where
  pub before : ℕ
  pub constants : Constants
  pub next : Statement
  pub file : ℕ
  pub place : ℕ
  pub defined : fold and_statement (Some so_far) (take before statements) ≡ Some constants
  pub here : slice_get statements before ≡ Some next
  pub text : slice_get files before ≡ Some file
  pub bad : DefinesBad constants next place

constants_or : (so_far : Constants) (statements : List Statement) (files : List ℕ) → length files ≡ length statements
    → ((constants : Constants) × (fold and_statement (Some so_far) statements ≡ Some constants)) ⊎ IsBadBehind so_far statements files
constants_or so_far [] files same = inl (so_far, refl)
constants_or so_far (next ∷ statements) [] same = absurd (omega (arith, same))
constants_or so_far (next ∷ statements) (file ∷ files) same =
    by (with_statement so_far next) refl (λ constants. constants_or constants statements files (omega (arith, same)))
  where
    by : (o : Option Constants) → with_statement so_far next ≡ o
        → ((constants : Constants) → ((all : Constants) × (fold and_statement (Some constants) statements ≡ Some all)) ⊎ IsBadBehind constants statements files)
        → ((all : Constants) × (fold and_statement (with_statement so_far next) statements ≡ Some all)) ⊎ IsBadBehind so_far (next ∷ statements) (file ∷ files)
    by None is rest =
        let bad = bad_here so_far next is in
        inr (record { before = 0; constants = so_far; next = next; file = file; place = bad.0; defined = refl; here = refl; text = refl; bad = bad.1 })
    by (Some constants) is rest = go (rest constants)
      where
        go : ((all : Constants) × (fold and_statement (Some constants) statements ≡ Some all)) ⊎ IsBadBehind constants statements files
            → ((all : Constants) × (fold and_statement (with_statement so_far next) statements ≡ Some all)) ⊎ IsBadBehind so_far (next ∷ statements) (file ∷ files)
        go (inl all) = inl (all.0, ap (λ o. fold and_statement o statements) is ∙ all.1)
        go (inr b) = inr (record {
          before = suc b.before;
          constants = b.constants;
          next = b.next;
          file = b.file;
          place = b.place;
          defined = ap (λ o. fold and_statement o (take b.before statements)) is ∙ b.defined;
          here = b.here;
          text = b.text;
          bad = b.bad;
        })

numbers_long : (n : ℕ) (parsed : List (List Statement)) → length (numbers_from n parsed) ≡ length (joined parsed)
numbers_long n [] = refl
numbers_long n (one ∷ parsed) =
    length-append (replicate (length one) n) (numbers_from (n + 1) parsed)
    ∙ (let first = length-replicate (length one) n in let rest = numbers_long (n + 1) parsed in let both = length-append one (joined parsed) in omega (arith, first, rest, both))

-- ---- texts under names
module _ (names texts : List (List ℕ)) (same : length texts ≡ length names) where
  -- texts have a program, or are refused with a line
  pub program_or : AllByRecursion HasAnswer texts → ((program : Program) × IsProgram texts program) ⊎ ((line : List ℕ) × AreRefused names texts line)
  program_or all = by (parsed_or texts all)
    where
      with_constants : (written : Program) → IsWritten texts written → ((constants : Constants) × (constants_of written.statements ≡ Some constants)) ⊎ IsBadBehind [] written.statements written.files
          → ((program : Program) × IsProgram texts program) ⊎ ((line : List ℕ) × AreRefused names texts line)
      with_constants written is (inl all) = inl (
        record { statements = map (replaced_statement all.0) written.statements; files = written.files },
        record {
          written = written;
          has = is;
          replaced = record { constants = all.0; defined = all.1; statements = refl; files = refl };
        },
      )
      with_constants written is (inr b) =
          let first : IsFirstBad written.statements written.files b.file b.place = record {
            before = b.before;
            constants = b.constants;
            next = b.next;
            defined = b.defined;
            here = b.here;
            text = b.text;
            bad = b.bad;
          } in
          let within = file-below texts written b.file b.place is first in
          let name = item_at names b.file (omega (arith, within, same)) in
          let text = item_at texts b.file within in
          inr (
            constant_line name.0 text.0 b.place,
            inr (record {
              written = written;
              has = is;
              file = b.file;
              place = b.place;
              bad = first;
              name = name.0;
              text = text.0;
              named = name.1;
              here = text.1;
              line = refl;
            }),
          )

      by : ((parsed : List (List Statement)) × AreStatements texts parsed) ⊎ ((at : ℕ) × (fault : TextFault) × HasFirstFault texts at fault)
          → ((program : Program) × IsProgram texts program) ⊎ ((line : List ℕ) × AreRefused names texts line)
      by (inl found) =
          with_constants (record { statements = joined found.0; files = numbers_from 0 found.0 }) (record { parsed = found.0; are = found.1; statements = refl; files = refl })
          (constants_or [] (joined found.0) (numbers_from 0 found.0) (numbers_long 0 found.0))
      by (inr stop) =
          let within = place_within texts stop.0 stop.2.text stop.2.here in
          let name = item_at names stop.0 (omega (arith, within, same)) in
          inr (line_at name.0 stop.1.line stop.1.column (cause_text stop.1.cause), inl (record { at = stop.0; fault = stop.1; has = stop.2; name = name.0; named = name.1; line = refl }))
