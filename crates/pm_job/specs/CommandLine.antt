-- The job that a list of words means.
use Rattle.std.specs.Prelude.{◌==◌, ◌&&◌, not, List, [], ◌∷◌, ℕ, Bool, false, Option, None, Some, codes, if◌then◌else◌}
use Rattle.std.specs.Str.{bytes_eq}
use Rattle.pm_job.specs.declared.command_line.Target.{Target as Found}

-- the design file to simulate, and the class of its top component
pub record Target : Type 0 where
  pub file : List ℕ
  pub class : List ℕ

-- a word can be an operand: it isn't empty and doesn't begin with `-`
abbrev pub is_operand : List ℕ → Bool
is_operand [] = false
is_operand (first ∷ rest) = not (first == 45)

-- `sim FILE TOP` is the only job
abbrev pub job_of : List (List ℕ) → Option Target
job_of (action ∷ file ∷ class ∷ []) =
    if bytes_eq action (codes "sim") && is_operand file && is_operand class
    then Some (record { file = file; class = class }) else None
job_of words = None

-- the target that a value of the code means
abbrev pub target_now : Found → Target
target_now found = record { file = found.file.now; class = found.class.now }
