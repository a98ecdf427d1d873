pub mod AddressHistories
