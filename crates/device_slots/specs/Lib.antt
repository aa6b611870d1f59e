pub mod SlotText
