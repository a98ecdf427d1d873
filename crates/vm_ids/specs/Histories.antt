pub mod IdHistories
