pub mod BesideLemmas
pub mod EndLemmas
pub mod FaultLemmas
pub mod FormLemmas
pub mod StartLemmas
