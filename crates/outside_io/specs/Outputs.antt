-- What inputs and outputs tell, as plain data, so that laws about a whole run compare data before it with data after it and name no trait.
use Rattle.std.specs.Prelude.{◌≡◌, ◌≤◌, ◌<◌, ◌⊎◌, ℕ, List, ⊤, None, Some}
use Rattle.std.specs.declared.option.Option.{Option}
use Rattle.std.specs.Io.KnownBytes.{Appends}
use Rattle.outside_io.specs.Faults.{Rose}
use Rattle.outside_io.specs.Told.{AddsName}

-- the bytes held under each name and those left of the open input, where they are told; how many were read of it; how many calls have failed
pub record Input : Type 0 where
  pub text : List ℕ → Option (List ℕ)
  pub left : Option (List ℕ)
  pub taken : ℕ
  pub faults : ℕ

-- the bytes written since the last opening, how many of them were flushed, and the names of the openings, where they are told; how many calls have failed
pub record Output : Type 0 where
  pub written : Option (List ℕ)
  pub flushed : Option ℕ
  pub opened : Option (List (Option (List ℕ)))
  pub faults : ℕ

-- the two outputs of a run: what is printed, and the derivation
pub record Outputs : Type 0 where
  pub out : Output
  pub proof : Output

abbrev pub both : Output → Output → Outputs
both out proof = record { out = out; proof = proof }

-- nothing more was read
pub record IsUnread (before now : Input) : Type 0 where
  pub left : now.left ≡ before.left
  pub taken : now.taken ≡ before.taken

-- nothing was written, flushed or opened
pub record IsUntouched (before now : Output) : Type 0 where
  pub written : now.written ≡ before.written
  pub flushed : now.flushed ≡ before.flushed
  pub opened : now.opened ≡ before.opened

-- an output that tells what was written has exactly these bytes
abbrev pub Has : (before now : Option (List ℕ)) → List ℕ → Type 0
Has None now bytes = ⊤
Has (Some before) now bytes = now ≡ Some bytes

-- it was opened once, under this name or none, and has these bytes
pub record OpensWith (name : Option (List ℕ)) (bytes : List ℕ) (before now : Output) : Type 0 where
  pub named : AddsName before.opened now.opened name
  pub has : Has before.written now.written bytes

-- these bytes were printed and these were written to the derivation
pub record Adds (printed derived : List ℕ) (before now : Outputs) : Type 0 where
  pub out : Appends before.out.written now.out.written printed
  pub proof : Appends before.proof.written now.proof.written derived

-- no output was opened, and nothing was flushed
pub record WritesAlone (before now : Outputs) : Type 0 where
  pub out_opened : now.out.opened ≡ before.out.opened
  pub out_flushed : now.out.flushed ≡ before.out.flushed
  pub proof_opened : now.proof.opened ≡ before.proof.opened
  pub proof_flushed : now.proof.flushed ≡ before.proof.flushed

-- neither count of faults falls, one rose where the call failed, and none rises in any other call
pub record OneRisesWhere (failed : Type 0) (before now : Outputs) : Type 0 where
  pub out_later : before.out.faults ≤ now.out.faults
  pub proof_later : before.proof.faults ≤ now.proof.faults
  pub rose : failed → Rose before.out.faults now.out.faults ⊎ Rose before.proof.faults now.proof.faults
  pub only : (before.out.faults < now.out.faults) ⊎ (before.proof.faults < now.proof.faults) → failed
