pub mod RowLemmas
pub mod KeyLemmas
pub mod LongestLemmas
pub mod OrderLemmas
pub mod KeptLemmas
pub mod PrefixLemmas
pub mod UptoLemmas
pub mod TableLemmas
