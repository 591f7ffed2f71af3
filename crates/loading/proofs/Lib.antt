pub mod Early
pub mod Outcomes
pub mod Programs
pub mod Facing
pub mod Reading
pub mod LoadedPrograms
pub mod Weights
pub mod Late
