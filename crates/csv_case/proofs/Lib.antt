pub mod RecordShares
pub mod TariffCase
pub mod CaseLengths
pub mod EntriesAlone
