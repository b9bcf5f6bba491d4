pub mod Telling
pub mod Laying
