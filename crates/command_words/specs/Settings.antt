-- The settings that the words of each program give.
use Rattle.std.specs.Prelude.{ℕ, ℤ, pos, negsuc, List, [], ◌∷◌, nat_le, int_le, length, map, codes, Option, Some, None, option_map, option_and_then, if◌then◌else◌}
use Rattle.command_words.specs.Numbers.{number_within, integer_within}
use Rattle.command_words.specs.Words.{Text, Piece, pieces_of, value_of, files_of}
use Rattle.command_words.specs.declared.settings.SolverSettings.{SolverSettings}
use Rattle.command_words.specs.declared.settings.CheckerSettings.{CheckerSettings}

-- nothing for an option that is not given, and what its text reads as where it is
abbrev pub optional : {X : Type 0} → (Text → Option X) → Option Text → Option (Option X)
optional read None = Some None
optional read (Some text) = option_map (λ x. Some x) (read text)

-- the same with a default
abbrev pub defaulted : {X : Type 0} → X → (Text → Option X) → Option Text → Option X
defaulted default read None = Some default
defaulted default read (Some text) = read text

-- at most 65,536 FILEs
abbrev pub few_files : List Text → Option (List Text)
few_files files = if nat_le (length files) 65536 then Some files else None

-- ---- the solver

abbrev pub solver_options : List Text
solver_options = codes "-n" ∷ codes "--conflicts" ∷ codes "--min-int" ∷ codes "--max-int" ∷ codes "--ground-limit" ∷ codes "--proof" ∷ []

-- what the words of `clingcon` set; `answers` is nothing where `-n` is not given
pub record SolverReading : Type 0 where
  pub answers : Option ℕ
  pub conflicts : ℕ
  pub min : ℤ
  pub max : ℤ
  pub ground_limit : ℕ
  pub proof : Option Text
  pub files : List Text

-- the two ends, where the least is at most the greatest
abbrev pub ordered : ℤ → ℤ → Option (ℤ × ℤ)
ordered min max = if int_le min max then Some (min, max) else None

-- the ends of the integer variables, by default the widest
abbrev pub ends_of : List Piece → Option (ℤ × ℤ)
ends_of pieces =
    option_and_then (λ min. option_and_then (λ max. ordered min max)
    (defaulted (pos 1073741823) (integer_within 1073741823) (value_of (codes "--max-int") pieces)))
    (defaulted (negsuc 1073741822) (integer_within 1073741823) (value_of (codes "--min-int") pieces))

abbrev pub solver_reading : List Piece → Option SolverReading
solver_reading pieces =
    option_and_then (λ answers.
    option_and_then (λ conflicts.
    option_and_then (λ ends.
    option_and_then (λ ground_limit.
    option_map (λ files. record {
      answers = answers;
      conflicts = conflicts;
      min = ends.0;
      max = ends.1;
      ground_limit = ground_limit;
      proof = value_of (codes "--proof") pieces;
      files = files;
    })
    (few_files (files_of pieces)))
    (defaulted 1048576 (number_within 1 4194304) (value_of (codes "--ground-limit") pieces)))
    (ends_of pieces))
    (defaulted 18446744073709551615 (number_within 1 18446744073709551615) (value_of (codes "--conflicts") pieces)))
    (optional (number_within 0 18446744073709551615) (value_of (codes "-n") pieces))

-- the settings of `clingcon`, where its words have some
abbrev pub solver_settings_of : List Text → Option SolverReading
solver_settings_of words = option_and_then solver_reading (pieces_of solver_options words)

abbrev pub solver_reading_of : SolverSettings → SolverReading
solver_reading_of s = record {
  answers = s.answers;
  conflicts = s.conflicts;
  min = s.ends.min;
  max = s.ends.max;
  ground_limit = s.ground_limit;
  proof = option_map (λ name. name.now) s.proof;
  files = map (λ name. name.now) s.files;
}

-- ---- the checker

abbrev pub checker_options : List Text
checker_options = codes "--min-int" ∷ codes "--max-int" ∷ []

-- what the words of `clingcheck` set: the ends that they name, the derivation and the texts
pub record CheckerReading : Type 0 where
  pub min : Option ℤ
  pub max : Option ℤ
  pub proof : Text
  pub files : List Text

-- both ends, where the least is at most the greatest if both are named
abbrev pub ordered_if_named : Option ℤ → Option ℤ → Option (Option ℤ × Option ℤ)
ordered_if_named (Some min) (Some max) = if int_le min max then Some (Some min, Some max) else None
ordered_if_named (Some min) None = Some (Some min, None)
ordered_if_named None max = Some (None, max)

abbrev pub named_ends_of : List Piece → Option (Option ℤ × Option ℤ)
named_ends_of pieces =
    option_and_then (λ min. option_and_then (λ max. ordered_if_named min max)
    (optional (integer_within 1073741823) (value_of (codes "--max-int") pieces)))
    (optional (integer_within 1073741823) (value_of (codes "--min-int") pieces))

-- the derivation is the first FILE, and the texts are the others
abbrev pub derivation_first : List Text → Option (Text × List Text)
derivation_first [] = None
derivation_first (proof ∷ files) = option_map (λ few. (proof, few)) (few_files files)

abbrev pub checker_reading : List Piece → Option CheckerReading
checker_reading pieces =
    option_and_then (λ ends.
    option_map (λ names. record {
      min = ends.0;
      max = ends.1;
      proof = names.0;
      files = names.1;
    })
    (derivation_first (files_of pieces)))
    (named_ends_of pieces)

-- the settings of `clingcheck`, where its words have some
abbrev pub checker_settings_of : List Text → Option CheckerReading
checker_settings_of words = option_and_then checker_reading (pieces_of checker_options words)

abbrev pub checker_reading_of : CheckerSettings → CheckerReading
checker_reading_of s = record {
  min = s.min;
  max = s.max;
  proof = s.proof.now;
  files = map (λ name. name.now) s.files;
}
