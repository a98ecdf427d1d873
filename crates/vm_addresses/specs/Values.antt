pub mod AllocatorValues
