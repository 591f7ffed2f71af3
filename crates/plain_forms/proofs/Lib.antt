pub mod Agreeing
pub mod Programs
pub mod PlainTrip
