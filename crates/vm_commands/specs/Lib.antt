pub mod Numbers
pub mod Words
pub mod Commands
pub mod Reading
pub mod Lines
pub mod Printing
