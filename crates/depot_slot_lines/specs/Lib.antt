pub mod SlotLines
