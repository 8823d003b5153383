pub mod Roles
pub mod Column
pub mod Deeds
pub mod Promise
pub mod Secrecy
pub mod History
