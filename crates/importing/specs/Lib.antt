pub mod Reading
pub mod Laying
pub mod Import
