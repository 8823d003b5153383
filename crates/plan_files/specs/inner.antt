pub mod StoredCase
