pub mod Items
pub mod Orders
pub mod StateOrders
