pub mod Parts
pub mod Known
pub mod Progress
pub mod OneText
pub mod SomeText
