-- What the top call's outcomes rest on.
use Rattle.std.proofs.Common.{◌≡◌, ℕ, ◌+◌, ◌⊎◌, ◌==◌, ◌&&◌, nat_le, if◌then◌else◌, List, length, true, false, IfOk, refl, sym, ◌∙◌, ap, subst, inl, inr, arith}
use Rattle.std.specs.Prelude.{String}
use Rattle.std.specs.Global.{Global}
use Rattle.outside_io.specs.Outputs.{Input, Output}
use Rattle.outside_io.specs.Told.{AppendsSome}
use Rattle.std.specs.declared.result.Result.{Result}
use Rattle.std.specs.declared.result.Result.TheVariants.{Ok, Err}
use Rattle.std.specs.Io.KnownBytes.{Appends}
use Rattle.syntax_tree.specs.declared.statement.Program.{Program}
use Rattle.clingcon_app.specs.declared.answering.Verdict.{Verdict}
use Rattle.clingcon_app.specs.declared.answering.Verdict.TheVariants.{Answer, Refused, NotBuilt}
use Rattle.clingcon_app.specs.Words.{are_files, names_of}
use Rattle.clingcon_app.specs.Texts.{AreTexts, AreRefused, IsTooLarge, IsProgram, too_large_line}
use Rattle.clingcon_app.specs.Printed.{PrintTexts, AreOther, not_built, satisfiable}
use Rattle.clingcon_app.specs.Stops.{IsJudged, IsVerdict, PrintsFront}
use Rattle.clingcon_app.specs.Outcome.{IsEnding, IsPrinted, IsEnded, IsCutOff, IsUnprinted}

-- what is printed for the program of texts is printed for them
pub verdict-from : (names texts : List (List ℕ)) (program : Program) (v : Verdict) → IsProgram texts program → IsJudged program v → IsVerdict names texts v
verdict-from names texts program (Answer block) has is = record { program = program; has = has; stated = is.0; states = is.1; prints = is.2 }
verdict-from names texts program (Refused line) has is = absurd is
verdict-from names texts program NotBuilt has is = record { program = program; has = has; other = is }

pub verdict-of : {E : Type 0} (names texts : List (List ℕ)) (program : Program) (r : Result Verdict E) → IsProgram texts program → IfOk r (IsJudged program)
    → IfOk r (IsVerdict names texts)
verdict-of names texts program (Ok v) has is = verdict-from names texts program v has is
verdict-of names texts program (Err e) has is = tt

-- an ending is neither want of memory nor a failed output
only-want : (status want : ℕ) → (status ≡ want) ⊎ (status ≡ 33) ⊎ (status ≡ 67) → IsEnding status → status ≡ want
only-want status want (inl same) ends = same
only-want status want (inr (inl is)) (inl ten) = absurd (omega (arith, is, ten))
only-want status want (inr (inl is)) (inr (inl data_fault)) = absurd (omega (arith, is, data_fault))
only-want status want (inr (inl is)) (inr (inr (inl large))) = absurd (omega (arith, is, large))
only-want status want (inr (inl is)) (inr (inr (inr unbuilt))) = absurd (omega (arith, is, unbuilt))
only-want status want (inr (inr is)) (inl ten) = absurd (omega (arith, is, ten))
only-want status want (inr (inr is)) (inr (inl data_fault)) = absurd (omega (arith, is, data_fault))
only-want status want (inr (inr is)) (inr (inr (inl large))) = absurd (omega (arith, is, large))
only-want status want (inr (inr is)) (inr (inr (inr unbuilt))) = absurd (omega (arith, is, unbuilt))

pub printed-unnamed : (files : Input) (taken : ℕ) (words : List (String Global)) (line : List ℕ) → are_files words ≡ false → line ≡ not_built
    → IsPrinted 71 files taken words line
printed-unnamed files taken words line unnamed is = inr (inr (inr (refl, inr (unnamed, is))))

pub printed-unbuilt : (files : Input) (taken : ℕ) (words : List (String Global)) (texts : List (List ℕ)) (line : List ℕ) → are_files words ≡ true
    → AreTexts files (names_of words) texts → AreOther texts → line ≡ not_built → IsPrinted 71 files taken words line
printed-unbuilt files taken words texts line named are other is =
    inr (inr (inr (refl, inl (record { named = named; texts = texts; are = are; says = (other, is) }))))

pub printed-answer : (files : Input) (taken : ℕ) (words : List (String Global)) (texts : List (List ℕ)) (line : List ℕ) → are_files words ≡ true
    → AreTexts files (names_of words) texts → PrintTexts texts line → IsPrinted 10 files taken words line
printed-answer files taken words texts line named are prints = inl (refl, record { named = named; texts = texts; are = are; says = prints })

pub printed-refused : (files : Input) (taken : ℕ) (words : List (String Global)) (texts : List (List ℕ)) (line : List ℕ) → are_files words ≡ true
    → AreTexts files (names_of words) texts → AreRefused (names_of words) texts line → IsPrinted 65 files taken words line
printed-refused files taken words texts line named are refused = inr (inl (refl, record { named = named; texts = texts; are = are; says = refused }))

pub printed-large : (files : Input) (taken : ℕ) (words : List (String Global)) (name : List ℕ) → are_files words ≡ true
    → IsTooLarge files (names_of words) taken name → IsPrinted 70 files taken words (too_large_line name)
printed-large files taken words name named large = inr (inr (inl (refl, record { named = named; name = name; large = large; line = refl })))

pub ended-by : (status want : ℕ) (files : Input) (taken : ℕ) (words : List (String Global)) (before after : Output) (line : List ℕ)
    → IsPrinted want files taken words line → (status ≡ want) ⊎ (status ≡ 33) ⊎ (status ≡ 67)
    → (status ≡ want → Appends before.written after.written line) → IsEnding status → IsEnded status files taken words before after
ended-by status want files taken words before after line right which grew ends =
    let same : status ≡ want = only-want status want which ends in
    record { printed = line; right = subst (λ (s : ℕ). IsPrinted s files taken words line) (sym same) right; appended = grew same }

-- a front of what is printed was written, and no block is counted where none is printed
pub cut-by : (want : ℕ) (files : Input) (taken : ℕ) (words : List (String Global)) (before after : Output) (line : List ℕ) (answers : ℕ)
    → IsPrinted want files taken words line → (want == 10) ≡ false → AppendsSome before.written after.written line → answers ≡ 0
    → IsUnprinted before after answers ⊎ IsCutOff files taken words before after answers
cut-by want files taken words before after line answers right other grew none = inr (record {
  status = want;
  printed = line;
  right = right;
  count = grew.0;
  front = grew.1;
  blocks = none ∙ sym (ap (λ b. if b && nat_le (length line) (grew.0 + length satisfiable) then 1 else 0) other);
})

pub cut-maybe : (want : ℕ) (files : Input) (taken : ℕ) (words : List (String Global)) (before after : Output) (line : List ℕ) (answers : ℕ)
    → IsPrinted want files taken words line → (want == 10) ≡ false → (after.written ≡ before.written) ⊎ AppendsSome before.written after.written line → answers ≡ 0
    → IsUnprinted before after answers ⊎ IsCutOff files taken words before after answers
cut-maybe want files taken words before after line answers right other (inl same) none = inl (record { written = same; none = none })
cut-maybe want files taken words before after line answers right other (inr grew) none =
    cut-by want files taken words before after line answers right other grew none

-- a front of the one answer was written, with its block or a part of it
pub cut-answer : (files : Input) (taken : ℕ) (words : List (String Global)) (before after : Output) (line : List ℕ) (answers : ℕ)
    → IsPrinted 10 files taken words line → PrintsFront before.written after.written line answers
    → IsUnprinted before after answers ⊎ IsCutOff files taken words before after answers
cut-answer files taken words before after line answers right grew =
    inr (record { status = 10; printed = line; right = right; count = grew.count; front = grew.front; blocks = grew.blocks })
