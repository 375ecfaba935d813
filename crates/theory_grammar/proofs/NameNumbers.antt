-- Numbers of names by hash.
use Rattle.std.proofs.Common.{◌≡◌, ℕ, zero, suc, ◌+◌, ◌<◌, ◌≤◌, ◌==◌, Bool, true, false, cond, if◌then◌else◌, is_some, List, [], ◌∷◌, ◌++◌, length, take, Option, Some, None, refl, sym, ◌∙◌, ap, subst, arith, slice_index_or}
use Rattle.std.specs.Map.{lookup}
use Rattle.std.specs.Str.{bytes_eq}
use Rattle.std.specs.Cmp.Lexicographic.{bytes_decides}
use Rattle.std.proofs.lemmas.List.{take_all, length-take-le}
use Rattle.std.proofs.lemmas.Bool.{ne_eqb}
use Rattle.syntax_tree.specs.declared.rule.Name.{Name}
use Rattle.grammar.specs.Tree.{number_of, number_behind}
use Rattle.theory_grammar.specs.inner.Names.{some_number, numbered, IsFiled, with_number}

pub numbered_some : (n : ℕ) → numbered (some_number n) ≡ n
numbered_some zero = refl
numbered_some (suc n) = refl

pub not_there : (o : Option ℕ) → is_some o ≡ false → o ≡ None
not_there None e = refl
not_there (Some n) e = absurd cc

-- ---- one name more
behind_last : (k : ℕ) (names : List Name) (x : Name) (name : List ℕ)
    → number_behind k (names ++ x ∷ []) name ≡ (if number_behind k names name == 0 then (if bytes_eq x.text name then k + length names + 1 else 0) else number_behind k names name)
behind_last k [] x name = by (bytes_eq x.text name)
  where
    by : (b : Bool) → (if b then k + 1 else 0) ≡ (if b then k + 0 + 1 else 0)
    by true = omega arith
    by false = refl
behind_last k (other ∷ names) x name = by (bytes_eq other.text name) (behind_last (k + 1) names x name)
  where
    long : k + 1 + length names + 1 ≡ k + length (other ∷ names) + 1
    long = omega arith

    not_zero : (n : ℕ) → ((n + 1) == 0) ≡ false
    not_zero n = ne_eqb (n + 1) 0 (λ e. omega (arith, e))

    by : (b : Bool)
        → number_behind (k + 1) (names ++ x ∷ []) name
        ≡ (if number_behind (k + 1) names name == 0 then (if bytes_eq x.text name then k + 1 + length names + 1 else 0) else number_behind (k + 1) names name)
        → (if b then k + 1 else number_behind (k + 1) (names ++ x ∷ []) name)
        ≡ (if (if b then k + 1 else number_behind (k + 1) names name) == 0
        then (if bytes_eq x.text name then k + length (other ∷ names) + 1 else 0)
        else (if b then k + 1 else number_behind (k + 1) names name))
    by true rest = sym (ap (λ z. if z then (if bytes_eq x.text name then k + length (other ∷ names) + 1 else 0) else k + 1) (not_zero k))
    by false rest = rest ∙ ap (λ n. if number_behind (k + 1) names name == 0 then (if bytes_eq x.text name then n else 0) else number_behind (k + 1) names name) long

number_last_of : (names : List Name) (x : Name) (name : List ℕ)
    → number_of (names ++ x ∷ []) name ≡ (if number_of names name == 0 then (if bytes_eq x.text name then length names + 1 else 0) else number_of names name)
number_last_of names x name =
    behind_last 0 names x name
    ∙ ap (λ n. if number_of names name == 0 then (if bytes_eq x.text name then n else 0) else number_of names name) (omega arith)

-- ---- one entry more
lookup_last : (test : List ℕ → Bool) (entries : List (List ℕ × ℕ)) (entry : List ℕ × ℕ) (o : Option ℕ) → lookup test entries ≡ o
    → lookup test (entries ++ entry ∷ []) ≡ (if is_some o then o else (if test entry.0 then Some entry.1 else None))
lookup_last test [] entry o is = by (test entry.0) o is
  where
    by : (b : Bool) (o : Option ℕ) → None ≡ o → cond b (Some entry.1) None ≡ (if is_some o then o else (if b then Some entry.1 else None))
    by true None is = refl
    by false None is = refl
    by b (Some n) is = absurd cc
lookup_last test (e ∷ es) entry o is = by (test e.0) o is (λ rest. lookup_last test es entry o rest)
  where
    by : (b : Bool) (o : Option ℕ) → cond b (Some e.1) (lookup test es) ≡ o
        → (lookup test es ≡ o → lookup test (es ++ entry ∷ []) ≡ (if is_some o then o else (if test entry.0 then Some entry.1 else None)))
        → cond b (Some e.1) (lookup test (es ++ entry ∷ [])) ≡ (if is_some o then o else (if test entry.0 then Some entry.1 else None))
    by true (Some n) is rest = is
    by true None is rest = absurd cc
    by false o is rest = rest is

take_next : (names : List Name) (k : ℕ) (x : Name) → k < length names → x ≡ slice_index_or names k x → take (k + 1) names ≡ take k names ++ x ∷ []
take_next [] k x within is = absurd (omega (arith, within))
take_next (n ∷ names) zero x within is = ap (λ y. y ∷ []) (sym is)
take_next (n ∷ names) (suc k) x within is =
    let next : suc k + 1 ≡ suc (k + 1) = omega arith in
    ap (λ j. take j (n ∷ names)) next ∙ ap (λ l. n ∷ l) (take_next names k x (omega (arith, within)) is)

suc_not : (n : ℕ) → (suc n == 0) ≡ false
suc_not n = ne_eqb (suc n) 0 (λ e. omega (arith, e))

is_some_number : (n : ℕ) → is_some (some_number n) ≡ true → (n == 0) ≡ false
is_some_number zero h = absurd cc
is_some_number (suc n) h = suc_not n

no_number : (n : ℕ) → is_some (some_number n) ≡ false → n ≡ 0
no_number zero h = refl
no_number (suc n) h = absurd cc

-- the number of the next name is filed, unless it has one
pub filed_next : (names : List Name) (filed : ℕ) (entries more : List (List ℕ × ℕ)) (x : Name) → filed < length names → x ≡ slice_index_or names filed x
    → IsFiled names filed entries → more ≡ with_number entries x.text (filed + 1) → IsFiled names (filed + 1) more
filed_next names filed entries more x within is old made = record {
  within = omega (arith, within);
  numbers = λ name. ap (lookup (bytes_eq name)) made ∙ by name (is_some (lookup (bytes_eq x.text) entries)) refl ∙ ap some_number (sym (here name));
}
  where
    front : List Name
    front = take filed names

    long : length front ≡ filed
    long = length-take-le filed names (omega (arith, within))

    here : (name : List ℕ) → number_of (take (filed + 1) names) name ≡ (if number_of front name == 0 then (if bytes_eq x.text name then filed + 1 else 0) else number_of front name)
    here name =
        ap (λ l. number_of l name) (take_next names filed x within is) ∙ number_last_of front x name
        ∙ ap (λ n. if number_of front name == 0 then (if bytes_eq x.text name then n + 1 else 0) else number_of front name) long

    turned : (a b : List ℕ) → bytes_eq a b ≡ bytes_eq b a
    turned a b = go (bytes_eq a b) refl (bytes_eq b a) refl
      where
        go : (p : Bool) → bytes_eq a b ≡ p → (q : Bool) → bytes_eq b a ≡ q → p ≡ q
        go true e true d = refl
        go false e false d = refl
        go true e false d = sym ((bytes_decides b a).1 (sym ((bytes_decides a b).0 e))) ∙ d
        go false e true d = sym e ∙ (bytes_decides a b).1 (sym ((bytes_decides b a).0 d))

    -- a name that has a number keeps all numbers
    kept : (name : List ℕ) → (number_of front x.text == 0) ≡ false → (n : ℕ) → number_of front name ≡ n → (b : Bool) → bytes_eq x.text name ≡ b
        → some_number n ≡ some_number (if n == 0 then (if b then filed + 1 else 0) else n)
    kept name some zero is_zero true same =
        let wrong : (number_of front x.text == 0) ≡ true = ap (λ z. number_of front z == 0) ((bytes_decides x.text name).0 same) ∙ ap (λ z. z == 0) is_zero in
        absurd (let no : true ≡ false = sym wrong ∙ some in cc)
    kept name some zero is_zero false same = refl
    kept name some (suc n) is_some b same = sym (ap (λ z. some_number (if z then (if b then filed + 1 else 0) else suc n)) (suc_not n))

    added : (n : ℕ) (b : Bool) → (if is_some (some_number n) then some_number n else (if b then Some (filed + 1) else None)) ≡ some_number (if n == 0 then (if b then filed + 1 else 0) else n)
    added zero true = let e : filed + 1 ≡ suc filed = omega arith in ap Some e ∙ ap some_number (sym e)
    added zero false = refl
    added (suc n) b = sym (ap (λ z. some_number (if z then (if b then filed + 1 else 0) else suc n)) (suc_not n))

    by : (name : List ℕ) (b : Bool) → is_some (lookup (bytes_eq x.text) entries) ≡ b
        → lookup (bytes_eq name) (if b then entries else entries ++ (x.text, filed + 1) ∷ [])
        ≡ some_number (if number_of front name == 0 then (if bytes_eq x.text name then filed + 1 else 0) else number_of front name)
    by name true e =
        old.numbers name
        ∙ kept name (is_some_number (number_of front x.text) (ap is_some (sym (old.numbers x.text)) ∙ e)) (number_of front name) refl (bytes_eq x.text name) refl
    by name false e =
        lookup_last (bytes_eq name) entries (x.text, filed + 1) (some_number (number_of front name)) (old.numbers name)
        ∙ ap (λ b. if is_some (some_number (number_of front name)) then some_number (number_of front name) else (if b then Some (filed + 1) else None)) (turned name x.text)
        ∙ added (number_of front name) (bytes_eq x.text name)

-- where all are filed, the number that is found is the name's
pub filed_all : (names : List Name) (filed : ℕ) (entries : List (List ℕ × ℕ)) (name : List ℕ) (number : ℕ) → IsFiled names filed entries → filed ≡ length names
    → number ≡ numbered (lookup (bytes_eq name) entries) → number ≡ number_of names name
filed_all names filed entries name number old all is =
    is ∙ ap numbered (old.numbers name) ∙ numbered_some (number_of (take filed names) name)
    ∙ ap (λ l. number_of l name) (take_all filed names (omega (arith, all)))

-- none are filed at first
pub filed_none : (names : List Name) → IsFiled names 0 []
filed_none names = record { within = omega arith; numbers = λ name. refl }

take_front : (names : List Name) (k : ℕ) (x : Name) → k ≤ length names → take k (names ++ x ∷ []) ≡ take k names
take_front names zero x within = refl
take_front [] (suc k) x within = absurd (omega (arith, within))
take_front (n ∷ names) (suc k) x within = ap (λ l. n ∷ l) (take_front names k x (omega (arith, within)))

longer : (names : List Name) (x : Name) → length (names ++ x ∷ []) ≡ length names + 1
longer [] x = refl
longer (n ∷ names) x = let e = longer names x in omega (arith, e)

-- and stay filed when a name is added
pub filed_push : (names more : List Name) (x : Name) (filed : ℕ) (entries : List (List ℕ × ℕ)) → IsFiled names filed entries → more ≡ names ++ x ∷ [] → IsFiled more filed entries
filed_push names more x filed entries old made = subst (λ l. IsFiled l filed entries) (sym made) (record {
  within = let w = old.within in let l = longer names x in omega (arith, w, l);
  numbers = λ name. old.numbers name ∙ ap (λ l. some_number (number_of l name)) (sym (take_front names filed x old.within));
})
