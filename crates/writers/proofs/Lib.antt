pub mod BitWriter
pub mod Parts
pub mod Lengths
pub mod Letters
pub mod TableForms
