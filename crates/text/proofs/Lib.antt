pub mod Putting
pub mod Reports
pub mod Rendering
pub mod Decimal
pub mod Cases
