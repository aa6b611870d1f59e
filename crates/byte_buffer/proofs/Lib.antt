pub mod ByteLoops
pub mod PutLaws
