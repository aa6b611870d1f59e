use Prim.Native.Nat.{ℕ}
use mathlib.Core.Path.{◌≡◌, refl, ◌∙◌}
use mathlib.Core.List.{[], ◌∷◌, ◌++◌}
use native.Mathlib.Omega.{arith}
use lib.ListN.{length, set, length-set}
use Rattle.rules.specs.declared.answers.Group.{Group}
use Rattle.rules.specs.Answers.{group_number}
use Rattle.rules.specs.Bytes.{Bytes, put, be2, be4}
use Rattle.rules.specs.ProgramFormat.{mark, START, code_from, group_from, number_from, components_from, records_from}
use Rattle.byte_buffer.proofs.PutLaws.{in_a_row}
use Rattle.translate_argument.proofs.FillLaws.{put_then, put-length}
use Rattle.translate_start.specs.Start.{start_bytes}
use Rattle.translate_start.proofs.start.put_start.Goals as goal

-- the room after the sequence number, and after the counts
module _ (room : Bytes) (g number components records : ℕ) (room₁ : Bytes)
    (e : room₁ ≡ put (set (set (set (set room 0 0x53) 1 0x50) code_from START) group_from g) number_from (be4 number)) where
  numbered : room₁ ≡ put room 0 (mark ++ (START ∷ g ∷ be4 number))
  numbered = e ∙ in_a_row room 0 (0x53 ∷ []) ((0x50 ∷ []) ∷ (START ∷ []) ∷ (g ∷ []) ∷ be4 number ∷ [])

  numbered-length : length room₁ ≡ length room
  numbered-length = put-length room 0 (mark ++ (START ∷ g ∷ be4 number)) room₁ numbered

  counted : set room₁ components_from components ≡ put room 0 (mark ++ (START ∷ g ∷ be4 number) ++ (components ∷ []))
  counted = put_then room 0 (mark ++ (START ∷ g ∷ be4 number)) (components ∷ []) room₁ (set room₁ components_from components) numbered refl

  module _ (room₂ : Bytes) (f : room₂ ≡ put (set room₁ components_from components) records_from (be2 records)) where
    whole : room₂ ≡ put room 0 (mark ++ (START ∷ g ∷ be4 number) ++ (components ∷ []) ++ be2 records)
    whole =
        put_then room 0 (mark ++ (START ∷ g ∷ be4 number) ++ (components ∷ [])) (be2 records) (set room₁ components_from components) room₂ counted f

    whole_length : length room₂ ≡ length room
    whole_length = put-length room 0 (mark ++ (START ∷ g ∷ be4 number) ++ (components ∷ []) ++ be2 records) room₂ whole

    started : (group : Group) → g ≡ group_number group → room₂ ≡ put room 0 (start_bytes group number components records)
    unfolding start_bytes
    started group q = rw (← q) whole

pub bounds-room-1 : goal.bounds-room-1
bounds-room-1 c = simp length-set (omega arith)

pub bounds-room-2 : goal.bounds-room-2
bounds-room-2 c = simp length-set (omega arith)

pub bounds-room-3 : goal.bounds-room-3
bounds-room-3 c = simp length-set (omega arith)

pub put_u32-requires : goal.put_u32-requires
put_u32-requires c = simp length-set (omega arith)

pub bounds-room-8 : goal.bounds-room-8
bounds-room-8 c =
    omega (arith, numbered-length c.args.room.now _ c.args.number 0 0 _ c.put_u32.ensures)

pub put_u16-requires : goal.put_u16-requires
put_u16-requires c =
    simp length-set (omega (arith, numbered-length c.args.room.now _ c.args.number 0 0 _ c.put_u32.ensures))

pub shape_of-room : goal.shape_of-room
shape_of-room c =
    whole_length c.args.room.now _ c.args.number c.args.components c.args.records _ c.put_u32.ensures _ c.put_u16.ensures

pub returns : goal.returns
returns c =
    started c.args.room.now _ c.args.number c.args.components c.args.records _ c.put_u32.ensures _ c.put_u16.ensures c.args.group
    c.number.ensures
