use Prim.Native.Nat.{ℕ, ◌+◌}
use mathlib.Core.Path.{◌≡◌, ◌∙◌}
use mathlib.Core.List.{[], ◌∷◌, ◌++◌}
use native.Mathlib.Omega.{arith}
use lib.ListN.{length, set, length-set}
use Rattle.rules.specs.Bytes.{Bytes, put, be2}
use Rattle.rules.specs.ProgramFormat.{mark, code_from, component_from, place_from, target_from, argument_from}
use Rattle.byte_buffer.proofs.PutLaws.{in_a_row}
use Rattle.translate_record.specs.Record.{head_bytes}
use Rattle.translate_argument.proofs.FillLaws.{put_then, put-length}
use Rattle.translate_record.proofs.record.put_head.Goals as goal

-- the room after each number that is put
module _ (room : Bytes) (to code component place target size : ℕ) (room₁ : Bytes)
    (e : room₁ ≡ put (set (set (set (set room to 0x53) (to + 1) 0x50) (to + code_from) code) (to + component_from) component) (to + place_from) (be2 place)) where
  placed : room₁ ≡ put room to (mark ++ (code ∷ component ∷ be2 place))
  placed = e ∙ in_a_row room to (0x53 ∷ []) ((0x50 ∷ []) ∷ (code ∷ []) ∷ (component ∷ []) ∷ be2 place ∷ [])

  placed-length : length room₁ ≡ length room
  placed-length = put-length room to (mark ++ (code ∷ component ∷ be2 place)) room₁ placed

  module _ (room₂ : Bytes) (f : room₂ ≡ put room₁ (to + target_from) (be2 target)) where
    aimed : room₂ ≡ put room to (mark ++ (code ∷ component ∷ be2 place) ++ be2 target)
    aimed = put_then room to (mark ++ (code ∷ component ∷ be2 place)) (be2 target) room₁ room₂ placed f

    aimed-length : length room₂ ≡ length room
    aimed-length = put-length room to (mark ++ (code ∷ component ∷ be2 place) ++ be2 target) room₂ aimed

    module _ (room₃ : Bytes) (g : room₃ ≡ put room₂ (to + argument_from) (be2 size)) where
      whole : room₃ ≡ put room to (head_bytes code component place target size)
      unfolding head_bytes
      whole = put_then room to (mark ++ (code ∷ component ∷ be2 place) ++ be2 target) (be2 size) room₂ room₃ aimed g

      whole_length : length room₃ ≡ length room
      whole_length = put-length room to (head_bytes code component place target size) room₃ whole

pub bounds-room-to-2 : goal.bounds-room-to-2
bounds-room-to-2 c = simp length-set (omega arith)

pub bounds-room-to-3 : goal.bounds-room-to-3
bounds-room-to-3 c = simp length-set (omega arith)

pub bounds-room-to-4 : goal.bounds-room-to-4
bounds-room-to-4 c = simp length-set (omega arith)

pub put_u16-requires : goal.put_u16-requires
put_u16-requires c = simp length-set (omega arith)

pub put_u16-requires-2 : goal.put_u16-requires-2
put_u16-requires-2 c =
    omega (arith, placed-length c.args.room.now c.args.to c.args.code c.args.component c.args.place 0 0 _ c.put_u16.ensures)

pub put_u16-requires-3 : goal.put_u16-requires-3
put_u16-requires-3 c =
    omega (arith, aimed-length c.args.room.now c.args.to c.args.code c.args.component c.args.place c.args.target 0 _ c.put_u16.ensures _ c.put_u16-2.ensures)

pub shape_of-room : goal.shape_of-room
shape_of-room c =
    whole_length c.args.room.now c.args.to c.args.code c.args.component c.args.place c.args.target c.args.size _ c.put_u16.ensures _ c.put_u16-2.ensures _
    c.put_u16-3.ensures

pub returns : goal.returns
returns c =
    whole c.args.room.now c.args.to c.args.code c.args.component c.args.place c.args.target c.args.size _ c.put_u16.ensures _ c.put_u16-2.ensures _ c.put_u16-3.ensures
