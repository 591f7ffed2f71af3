pub mod BitWriter
pub mod Forms
pub mod Held
pub mod Filling
pub mod Programs
