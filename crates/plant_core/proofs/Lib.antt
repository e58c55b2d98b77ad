pub mod AddressLengths
pub mod MemberLemmas
pub mod GroupLemmas
