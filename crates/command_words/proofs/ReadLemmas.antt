-- The matches and the refusals of the one simple command, by the pieces of its words.
use Rattle.std.proofs.Common.{◌≡◌, ◌∙◌, ◌&&◌, ◌||◌, Bool, true, false, not, List, [], ◌∷◌, Some, None, Option, refl, sym, ap, ap₂, codes, cond, map, slice_get, unwrap_or, is_some}
use Rattle.std.specs.List.{list_any}
use Rattle.std.specs.Prelude.{fold, option_and_then}
use Rattle.clap.specs.Walk.{Row, Text, Walk, finished, first_of, all_of, has_row, nothing_held, settled, settled_rows, walk, with_default}
use Rattle.clap.specs.Simple.{built, entered, matches_of}
use Rattle.clap.specs.Faults.{check_fault, defaults_fault, entered_fault, fault_of, settle_fault, walk_fault}
use Rattle.clap.specs.Kinds.{Kinds, or_else}
use Rattle.clap.proofs.OnLiterals.{clap_on_literals}
use Rattle.command_words.specs.Words.{Piece, is_option, pieces_from, pieces_of, once_each, all_different, options_given}
use Rattle.command_words.specs.Settings.{solver_options}
use Rattle.command_words.specs.Forms.{options_of}
use Rattle.command_words.specs.declared.program.Program.{Program}
use Rattle.command_words.specs.declared.program.Program.TheVariants.{Solver, Checker}
use Rattle.command_words.specs.Matches.{simple_command, HoldsPieces, IsReadAs}
use Rattle.command_words.proofs.StepLemmas.{shape, rules, at, resting, or_else-nil, checker_option}
use Rattle.command_words.proofs.WalkLemmas.{use_of, rows_with, uses_fault, end_of, KnownPieces, MakesFrom, makes_from}
use Rattle.command_words.proofs.UseLemmas.{uses_fault-none, texts_after, is_none, first_of-texts, all_of-texts, first_value_at, files_at, option_is_no_file}

same_if : (b : Bool) (rows : List Row) → cond b rows rows ≡ rows
same_if true rows = refl
same_if false rows = refl

or_true : (b : Bool) → (b || true) ≡ true
or_true true = refl
or_true false = refl

-- no argument has a default
no_defaults : (rows : List Row) → fold with_default rows rules ≡ rows
no_defaults rows = simp same_if

-- what the words are matched to, where the walk settles these rows
matched : (words : List Text) (rows : List Row) → settled_rows rules (end_of (at [] None (resting true) false) words).pending (end_of (at [] None (resting true) false) words).rows ≡ rows
    → matches_of simple_command words ≡ rows
matched words rows e = no_defaults _ ∙ e

-- ---- what the words are refused for

no_entry : (stop : Option (Text × List Text)) → entered (built simple_command) stop ≡ None
no_entry None = refl
no_entry (Some p) = refl

no_entry_fault : (stop : Option (Text × List Text)) → entered_fault (built simple_command) stop ≡ []
no_entry_fault None = refl
no_entry_fault (Some p) = refl

no_default_fault : (rows : List Row) → defaults_fault rows rules ≡ []
unfolding clap_on_literals
no_default_fault rows = simp (or_true, same_if)

no_check_fault : (rows : List Row) → check_fault shape rows false ≡ []
no_check_fault rows = refl

abbrev start : Walk
start = at [] None (resting true) false

faulted : (words : List Text) → fault_of simple_command words ≡ or_else (walk_fault shape [] start words) (settle_fault rules false (end_of start words))
faulted words =
    let stop = (walk rules [] nothing_held words).stopped in
    let end = end_of start words in
    let rest : or_else (defaults_fault (settled rules end).rows rules) (check_fault shape (finished rules end) false) ≡ [] =
    ap₂ or_else (no_default_fault (settled rules end).rows) (no_check_fault (finished rules end)) in
    ap₂ (λ (below : Kinds) (entry : Option (Text × List Row)). or_else (walk_fault shape [] start words) (or_else below
    (or_else (settle_fault rules false end) (or_else (defaults_fault (settled rules end).rows rules) (check_fault shape (finished rules end) (is_some entry))))))
    (no_entry_fault stop) (no_entry stop)
    ∙ ap (λ (ks : Kinds). or_else (walk_fault shape [] start words) (or_else (settle_fault rules false end) ks)) rest
    ∙ ap (or_else (walk_fault shape [] start words)) (or_else-nil (settle_fault rules false end))

-- ---- both, by the pieces

-- what is known of the words of which these are the pieces
pub record ReadsAs (words : List Text) (ps : List Piece) : Type 0 where
  pub rows : matches_of simple_command words ≡ rows_with [] (map use_of ps)
  pub fault : fault_of simple_command words ≡ uses_fault [] (map use_of ps)
  pub known : KnownPieces ps

abbrev ReadIf : List Text → Option (List Piece) → Type 0
ReadIf words None = Unit {0}
ReadIf words (Some ps) = ReadsAs words ps

read_if : (words : List Text) (found : Option (List Piece)) → MakesFrom None words found → ReadIf words found
read_if words None made = tt
read_if words (Some ps) made =
    let whole = made.0 [] None true in
    record {
      rows = matched words (rows_with [] (map use_of ps)) whole.rows_end;
      fault = faulted words ∙ whole.fault_end;
      known = made.1;
    }

module _ (options : List Text) (sub : (o : Text) → is_option options o ≡ true → is_option solver_options o ≡ true) (words : List Text) where
  reads : ReadIf words (pieces_from options None words)
  reads = read_if words (pieces_from options None words) (makes_from options sub words None (λ o e. cc))

  empty_none : (ks : Kinds) → ks ≡ [] → is_none ks ≡ true
  empty_none ks e = rw e refl

  not_empty : (ks : Kinds) → ¬ (ks ≡ []) → is_none ks ≡ false
  not_empty [] h = absurd (h refl)
  not_empty (k ∷ ks) h = refl

  different : (ps : List Piece) → ReadsAs words ps → is_none (fault_of simple_command words) ≡ all_different (options_given ps)
  different ps read = ap is_none read.fault ∙ uses_fault-none ps read.known [] ∙ no_rows (options_given ps) (all_different (options_given ps))
    where
      none_of : (xs : List Text) → list_any (λ x. has_row x []) xs ≡ false
      none_of [] = refl
      none_of (x ∷ xs) = none_of xs

      no_rows : (xs : List Text) (b : Bool) → (not (list_any (λ x. has_row x []) xs) && b) ≡ b
      no_rows xs b = rw (none_of xs) refl

  held : (ps : List Piece) → ReadsAs words ps → is_none (fault_of simple_command words) ≡ true → HoldsPieces ps (matches_of simple_command words)
  held ps read free =
      let unused : is_none (uses_fault [] (map use_of ps)) ≡ true = sym (ap is_none read.fault) ∙ free in
      record {
        options = λ o known. ap (first_of o) read.rows ∙ first_of-texts o (rows_with [] (map use_of ps))
            ∙ ap (λ (xs : List Text). slice_get xs 0) (texts_after ps read.known o [] unused)
            ∙ first_value_at ps read.known o (option_is_no_file o known);
        files = ap (λ (rows : List Row). unwrap_or (all_of (codes "FILE") rows) []) read.rows ∙ all_of-texts (codes "FILE") (rows_with [] (map use_of ps))
            ∙ texts_after ps read.known (codes "FILE") [] unused
            ∙ files_at ps read.known;
      }

  -- words that have the form and are taken hold their pieces
  pub taken : is_some (pieces_from options None words) ≡ true → fault_of simple_command words ≡ []
      → IsReadAs (pieces_of options words) (matches_of simple_command words)
  taken formed none' = go (pieces_from options None words) reads formed
    where
      once : (ps : List Piece) (b : Bool) → b ≡ true → HoldsPieces ps (matches_of simple_command words) → IsReadAs (cond b (Some ps) None) (matches_of simple_command words)
      once ps true e holds = holds
      once ps false e holds = cc

      go : (found : Option (List Piece)) → ReadIf words found → is_some found ≡ true → IsReadAs (option_and_then once_each found) (matches_of simple_command words)
      go None read e = cc
      go (Some ps) read e =
          let free = empty_none (fault_of simple_command words) none' in
          once ps (all_different (options_given ps)) (sym (different ps read) ∙ free) (held ps read free)

  -- words that have the form and are refused are not the command's
  pub not_taken : ¬ (fault_of simple_command words ≡ []) → pieces_of options words ≡ None
  not_taken some' = go (pieces_from options None words) reads
    where
      once : (ps : List Piece) (b : Bool) → b ≡ false → cond b (Some ps) None ≡ None
      once ps true e = cc
      once ps false e = refl

      go : (found : Option (List Piece)) → ReadIf words found → option_and_then once_each found ≡ None
      go None read = refl
      go (Some ps) read = once ps (all_different (options_given ps)) (sym (different ps read) ∙ not_empty (fault_of simple_command words) some')

  -- nor are words without the form
  pub not_formed : is_some (pieces_from options None words) ≡ false → pieces_of options words ≡ None
  not_formed formless = go (pieces_from options None words) formless
    where
      go : (found : Option (List Piece)) → is_some found ≡ false → option_and_then once_each found ≡ None
      go None e = refl
      go (Some ps) e = cc

-- the options of each program are options of the one command
pub options_sub : (program : Program) (o : Text) → is_option (options_of program) o ≡ true → is_option solver_options o ≡ true
options_sub Solver o h = h
options_sub Checker o h = checker_option o h
