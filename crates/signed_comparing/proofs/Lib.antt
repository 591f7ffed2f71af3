pub mod Weighing
pub mod Loading
pub mod Prepared
pub mod Fractions
pub mod Service
pub mod LargeCases
