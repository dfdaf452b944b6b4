pub mod Draw
pub mod DrawLaws
pub mod LaidLaws
