pub mod Fields
pub mod Forms
pub mod BitReader
pub mod Programs
pub mod Tables
pub mod Chains
pub mod Widths
