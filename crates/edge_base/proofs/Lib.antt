pub mod AddressLemmas
pub mod BlockLemmas
pub mod DigitLemmas
pub mod EscapedLemmas
pub mod FoundLemmas
pub mod FrontLemmas
