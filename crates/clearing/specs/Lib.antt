pub mod BothChecks
pub mod Clearing
pub mod Clear
pub mod MirrorClear
