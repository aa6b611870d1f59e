-- The start of a program.
use Rattle.std.specs.Prelude.{ℕ, ◌∷◌, ◌++◌}
use Rattle.rules.specs.declared.answers.Group.{Group}
use Rattle.rules.specs.Answers.{group_number}
use Rattle.rules.specs.ProgramFormat.{mark, START}
use Rattle.rules.specs.Bytes.{Bytes, be2, be4}

-- 01: 'Start: mark, FE, group (0 install, 1 boot), sequence number 4, component count 1, command record count 2.'
unfoldable pub start_bytes : Group → ℕ → ℕ → ℕ → Bytes
start_bytes group number components records = mark ++ (START ∷ group_number group ∷ be4 number) ++ (components ∷ be2 records)
