pub mod AddressProofs
pub mod IdProofs
pub mod ValueProofs
pub mod Callers
