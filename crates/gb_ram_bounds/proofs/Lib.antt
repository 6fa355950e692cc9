pub mod AddressLaws
pub mod CoveringLaws
pub mod FactLaws
pub mod JoinedLaws
pub mod FillLaws
pub mod ReturnedLaws
pub mod ThroughoutLaws
pub mod ReachedLaws
