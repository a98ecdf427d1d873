pub mod IdValues
